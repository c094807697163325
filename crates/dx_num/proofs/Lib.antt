pub mod Quotients
pub mod Products
pub mod Integers
pub mod Sums
pub mod Exact
pub mod Growing
