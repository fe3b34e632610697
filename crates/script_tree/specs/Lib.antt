pub mod Tree
pub mod TreeCode
pub mod Eval
pub mod Names
pub mod Scripts
pub mod Printed
pub mod PickPlaces
pub mod Bits
