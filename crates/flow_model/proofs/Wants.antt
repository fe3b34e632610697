-- What calls want.
pub mod EarlierNodes
pub mod FramedWith
pub mod WantsAreFree
pub mod WantsAreCovered
