pub mod Counts
pub mod Told
pub mod FileAnswers
pub mod Written
pub mod FaultPlan
pub mod MemFiles
