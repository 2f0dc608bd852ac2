pub mod Covering
pub mod Derivations
pub mod Dictionary
pub mod Elements
pub mod Merged
pub mod Numbers
pub mod Rules
