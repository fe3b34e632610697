-- Who believes Machine, and of Follows the words that the laws of src/laws.rt use, need believe no other definition for them: the
-- opening state is lawful and each move keeps that, whatever Kept says. Kept is what the induction needs, and what laws on single
-- states start from. Parts says the machine once more, by a book, listings and slots, for code that stores it so.
pub mod Machine
pub mod Kept
pub mod Follows
pub mod Parts
