-- The book and the listings.
pub mod StepsChangeBooks
pub mod StepsChangeOneListing
pub mod BooksAllow
pub mod StatesAreBooks
pub mod BooksTellNext
