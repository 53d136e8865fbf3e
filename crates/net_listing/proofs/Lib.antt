pub mod Turns
mod FirstFalse
