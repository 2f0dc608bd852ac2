pub mod Nnf
pub mod NnfTable
