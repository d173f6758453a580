pub mod Numbers
pub mod Decimals
pub mod Words
pub mod Parts
pub mod Commands
pub mod Lines
pub mod Buffers
pub mod Laws
