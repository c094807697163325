pub mod Lists
pub mod Reaching
pub mod Scales
pub mod Rereading
