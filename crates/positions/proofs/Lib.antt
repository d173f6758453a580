mod Exits
pub mod Runs
pub mod Lawful
