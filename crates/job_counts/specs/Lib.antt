pub mod JobCounts
