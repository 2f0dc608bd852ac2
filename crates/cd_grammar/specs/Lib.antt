pub mod Causes
pub mod Machine
pub mod Reading
pub mod Taking
