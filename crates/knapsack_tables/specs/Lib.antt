pub mod FallingLaws
pub mod FilledTables
pub mod ListReads
pub mod Branches
pub mod BranchLaws
pub mod ListedBranches
pub mod TabledKnapsacks
