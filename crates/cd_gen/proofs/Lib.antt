pub mod GeneratedAxioms
pub mod GeneratedDocument
pub mod GeneratedNames
pub mod Levels
