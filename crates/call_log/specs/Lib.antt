pub mod Record
pub mod Made
pub mod LeftOut
pub mod Merge
