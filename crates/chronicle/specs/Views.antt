-- The parts of a view: of the writer's, of a note's, and of one that is spent.
use Rattle.std.specs.Prelude.{ℕ, List, []}
use Rattle.chronicle.specs.declared.entry.Entry.{Entry}
use Rattle.chronicle.specs.declared.view.Seen.{Seen}
use Rattle.chronicle.specs.declared.view.View.{View}
use Rattle.chronicle.specs.declared.view.View.TheVariants.{Writing, Noted, Spent}

module _ {E : Type 0} where
  -- the list, of the writer or of the note
  abbrev pub list_of : View E → List (Entry E)
  list_of (Writing list out seen) = list
  list_of (Noted key list) = list
  list_of Spent = []

  -- the keys that are out, of the writer
  abbrev pub out_of : View E → List ℕ
  out_of (Writing list out seen) = out
  out_of (Noted key list) = []
  out_of Spent = []

  -- the notes seen since the last append, of the writer
  abbrev pub seen_of : View E → List (Seen E)
  seen_of (Writing list out seen) = seen
  seen_of (Noted key list) = []
  seen_of Spent = []

  -- the key, of a note
  abbrev pub key_of : View E → ℕ
  key_of (Writing list out seen) = 0
  key_of (Noted key list) = key
  key_of Spent = 0
