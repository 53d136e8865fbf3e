pub mod Preconditions
pub mod EventPreconditions
pub mod Makes
pub mod After
