pub mod Sources
pub mod Written
pub mod Summaries
