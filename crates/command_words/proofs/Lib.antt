pub mod Limits
pub mod Numbers
pub mod Among
pub mod Blocks
mod DigitCases
pub mod Walks
pub mod Found
pub mod Asked
pub mod Lines
pub mod Parsed
