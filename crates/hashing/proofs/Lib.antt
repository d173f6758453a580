pub mod Registers
pub mod Products
pub mod Lawful
