pub mod Cases
pub mod Judgements
pub mod Numberings
pub mod Made
