pub mod Entries
pub mod Keys
pub mod Models
pub mod Prefixes
pub mod Rule
pub mod Steps
pub mod Views
