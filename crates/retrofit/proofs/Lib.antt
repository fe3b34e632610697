pub mod Helps
pub mod Tells
pub mod Extends
pub mod Joins
