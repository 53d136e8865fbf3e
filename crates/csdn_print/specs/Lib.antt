pub mod Words
pub mod Formulas
pub mod Commands
pub mod Programs
pub mod Placeless
pub mod Steps
pub mod Again
