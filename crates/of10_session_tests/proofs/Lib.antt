pub mod Ones
pub mod OneByte
pub mod OneByOne
