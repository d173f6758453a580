mod Spells
mod Gathers
mod Listed
mod Plains
mod Sessions
