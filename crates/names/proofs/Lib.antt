pub mod Spellings
pub mod Lawful
