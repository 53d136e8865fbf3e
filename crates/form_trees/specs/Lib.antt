pub mod Shapes
pub mod Plain
pub mod Numbered
pub mod Trees
