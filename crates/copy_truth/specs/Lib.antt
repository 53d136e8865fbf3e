pub mod Said
pub mod Judged
pub mod Matrix
pub mod Candidates
pub mod Early
pub mod Breaking
pub mod Outlook
pub mod Goals
