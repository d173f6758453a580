pub mod Fnv
pub mod Crc
pub mod Ends
pub mod Laws
pub mod Tails
