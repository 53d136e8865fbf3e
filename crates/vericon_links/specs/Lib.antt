pub mod Faults
pub mod Links
pub mod Listeners
pub mod MemLinks
pub mod MemListeners
