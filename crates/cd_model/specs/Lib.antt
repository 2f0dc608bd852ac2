pub mod Canonical
pub mod Exactness
pub mod Meaning
pub mod Saturated
pub mod Soundness
pub mod TrueAnswers
