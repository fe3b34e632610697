-- The machine as code stores it, for the layers above: a book and a listing for each node, slots in place of versions, and what each
-- step reads and changes of them. Laws of src/stored_laws.rt say that it is the same machine.
pub mod SlotPairs
pub mod Books
pub mod BookNext
pub mod Operations
