pub mod SameAsks
pub mod Servable
