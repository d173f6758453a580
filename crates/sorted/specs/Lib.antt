pub mod Limits
pub mod Rows
pub mod Numbers
pub mod Opening
