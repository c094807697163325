pub mod Quotes
mod Strides
pub mod Starting
