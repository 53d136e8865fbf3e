pub mod Least
pub mod Courses
pub mod CourseSteps
pub mod Drafts
pub mod Answers
pub mod Starting
pub mod OfNetwork
