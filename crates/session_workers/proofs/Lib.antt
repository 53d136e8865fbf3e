pub mod Numbers
pub mod Members
pub mod Spans
pub mod SeatWork
pub mod Rows
pub mod Given
pub mod Crossing
