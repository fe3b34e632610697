-- What contracts see of a writer and of a note.
use Rattle.std.specs.Prelude.{ℕ, List}
use Rattle.atomic_table.specs.Seated.{TableId}
use Rattle.chronicle.specs.declared.entry.Entry.{Entry}

-- a writer: which history it writes, that history, and the keys that are out
pub record WriterModel (E : Type 0) : Type 0 where
  pub table : TableId
  pub list : List (Entry E)
  pub out : List ℕ

-- a note: which history it is of, its key, and that history as it was when the note was made
pub record NoteModel (E : Type 0) : Type 0 where
  pub table : TableId
  pub key : ℕ
  pub list : List (Entry E)
