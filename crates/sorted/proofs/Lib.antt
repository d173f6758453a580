mod Searches
mod Shifts
mod Spots
