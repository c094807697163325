pub mod Transcript
pub mod Runs
pub mod Causes
pub mod Prompt
pub mod Laws
pub mod Counts
pub mod OwnRuns
