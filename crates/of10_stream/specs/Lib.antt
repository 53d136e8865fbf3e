pub mod Streams
pub mod Fronts
pub mod Framings
pub mod Cuttings
