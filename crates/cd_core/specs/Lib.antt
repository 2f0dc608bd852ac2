pub mod State
pub mod Begin
pub mod Steps
pub mod Ends
pub mod Runs
