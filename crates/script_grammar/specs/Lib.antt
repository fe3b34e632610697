pub mod Grammar
pub mod Reading
pub mod Canonical
pub mod Nesting
pub mod Stacks
pub mod Refusals
pub mod Words
