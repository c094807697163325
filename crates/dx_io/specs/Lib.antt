pub mod Causes
pub mod Streams
pub mod Plans
pub mod RowKeys
pub mod Rows
pub mod States
