pub mod EntryLaws
pub mod KeyLaws
pub mod Moves
pub mod PrefixLaws
