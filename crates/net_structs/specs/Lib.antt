pub mod Rows
pub mod Flows
pub mod StateTuples
pub mod Networks
pub mod Refusals
pub mod Binds
pub mod Views
