mod OneCall
mod Making
mod Owning
mod Following
mod Serial
pub mod Naming
pub mod Declaring
pub mod Accepting
mod Calling
pub mod Keeping
