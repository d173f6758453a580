pub mod Numbers
pub mod Posting
pub mod Listing
pub mod Laws
