pub mod Coverings
pub mod Filing
pub mod LookUps
pub mod Sift
pub mod Store
