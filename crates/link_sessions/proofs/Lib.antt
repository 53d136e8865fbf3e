pub mod Telling
pub mod Cuts
pub mod Piece
pub mod Named
pub mod Over
pub mod Turns
