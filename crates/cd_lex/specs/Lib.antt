pub mod Lexing
pub mod Machine
pub mod Showing
pub mod Tokens
pub mod WorkedTokens
