pub mod FactSteps
pub mod FactLaws
pub mod Scopes
pub mod Steps
pub mod Turns
pub mod Wholes
pub mod WholeClauses
pub mod NamesLemmas
