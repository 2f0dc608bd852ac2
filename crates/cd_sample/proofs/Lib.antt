pub mod CoreRuns
pub mod WorkedDerivations
pub mod NumberCells
