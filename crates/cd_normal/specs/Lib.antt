pub mod Codes
pub mod Made
pub mod NormalForm
pub mod Operands
pub mod Represents
