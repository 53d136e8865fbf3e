pub mod Listings
pub mod Falses
