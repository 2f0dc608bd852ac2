pub mod Covered
pub mod Groups
pub mod Lines
pub mod ReadBack
pub mod Relation
pub mod Steps
pub mod Summary
