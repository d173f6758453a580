pub mod Bits
pub mod Search
pub mod Marked
