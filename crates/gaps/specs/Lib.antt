pub mod Gaps
pub mod Sleeping
pub mod GapLaws
pub mod GapSumLaws
pub mod SleepLaws
pub mod Walks
