pub mod Reading
pub mod Bytewise
pub mod Rising
pub mod Growing
pub mod Counting
pub mod Climbing
pub mod Chained
pub mod Starting
