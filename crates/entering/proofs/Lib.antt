pub mod Places
pub mod Entrances
pub mod Stopping
pub mod Marked
