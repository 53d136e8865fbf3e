pub mod Widen
pub mod Fewer
pub mod Tokens
pub mod Placed
pub mod Fine
pub mod Facts
