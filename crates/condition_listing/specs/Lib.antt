pub mod Words
pub mod Listings
pub mod Judgements
