pub mod Form
pub mod Reading
pub mod Heard
pub mod CommandLine
