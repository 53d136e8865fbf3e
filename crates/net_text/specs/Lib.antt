pub mod Lines
pub mod NetText
