mod Indexes
mod Names
pub mod Room
