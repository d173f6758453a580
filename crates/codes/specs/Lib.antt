pub mod Codes
pub mod Alphabets
pub mod Fits
pub mod Texts
