pub mod Begins
pub mod Closing
pub mod LastReply
pub mod Meets
pub mod Passes
