pub mod Outputs
pub mod Newlines
pub mod Near
