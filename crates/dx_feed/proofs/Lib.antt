mod Names
pub mod Lists
pub mod Following
mod Places
