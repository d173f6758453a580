pub mod Order
pub mod Keys
pub mod Numbers
pub mod Pairs
pub mod Replies
pub mod Laws
