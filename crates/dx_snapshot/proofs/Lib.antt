pub mod Balancing
pub mod StateBytes
pub mod Taking
pub mod Reading
pub mod Sealing
pub mod Leaving
