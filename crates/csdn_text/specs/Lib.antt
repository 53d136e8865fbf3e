pub mod Symbols
pub mod Grammar
pub mod Derives
pub mod Machine
pub mod Reading
pub mod Answers
