pub mod Shapes
pub mod TreeSteps
pub mod BuiltSteps
pub mod NumberedLaws
