pub mod Seen
pub mod Conditions
pub mod Takers
pub mod Stages
pub mod Sweeps
