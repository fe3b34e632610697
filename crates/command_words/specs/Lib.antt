pub mod Words
pub mod Options
pub mod Table
pub mod Kinds
pub mod Blocks
pub mod Tests
pub mod Parser
