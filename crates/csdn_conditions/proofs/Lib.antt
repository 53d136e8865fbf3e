mod Places
mod KindLaws
mod Joined
mod Growth
mod StartMade
mod ClassLaws
mod StartTruth
mod Rooms
mod Conditioned
mod ClosedParts
pub mod ClosedConditions
pub mod Inductive
pub mod Complete
pub mod Cases
pub mod Shared
mod Examples
