mod Cuts
mod Digits
pub mod Feeds
mod Numerals
