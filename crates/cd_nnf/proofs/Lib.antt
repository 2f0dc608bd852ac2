pub mod ListTests
pub mod Members
pub mod Complements
pub mod Shapes
pub mod Parts
