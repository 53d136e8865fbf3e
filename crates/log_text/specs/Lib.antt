pub mod Words
pub mod LogText
