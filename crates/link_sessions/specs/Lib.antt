pub mod Links
pub mod Said
pub mod Pieces
