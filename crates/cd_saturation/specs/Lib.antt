pub mod Answerable
pub mod Answers
pub mod Decided
pub mod Groups
pub mod Limit
pub mod Saturation
