pub mod Said
pub mod Accepted
