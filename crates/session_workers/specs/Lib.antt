pub mod Told
pub mod Courses
pub mod Endings
pub mod Teams
