pub mod Json
pub mod Pieces
pub mod Printed
pub mod Reading
pub mod Report
pub mod Runs
