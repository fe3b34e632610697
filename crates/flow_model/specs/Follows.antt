-- Words in which the laws say what follows: bounds of states and histories, what others leave of a call, and what each caller has
-- made. They have to be believed where a law uses them.
pub mod Bounds
pub mod Lengths
pub mod Others
pub mod Callers
