mod Depths
mod Line
pub mod Listed
