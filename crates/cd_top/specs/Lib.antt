pub mod Headline
pub mod Promises
pub mod Restated
pub mod Status
pub mod Stops
pub mod Trial
