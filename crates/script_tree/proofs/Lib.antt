pub mod Truths
pub mod Numbers
pub mod Lists
pub mod Texts
pub mod BitLemmas
pub mod PickItems
pub mod NameText
pub mod NamePlaces
