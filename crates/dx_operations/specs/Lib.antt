pub mod Faults
pub mod Refusals
pub mod Midway
pub mod Stages
