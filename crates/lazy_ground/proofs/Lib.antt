mod FindLaws
mod FreeLaws
mod LookSteps
mod PassSteps
mod NamedLaws
pub mod Agree
mod NumberedTree
mod EqualityAtoms
mod OnceLaws
mod TwinLaws
mod WholeFound
mod OpenSteps
mod TupleLaws
mod JoinLaws
mod ReadLaws
mod OpenWhole
mod AddLaws
mod PickLaws
