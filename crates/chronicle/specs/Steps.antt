-- The six kinds of atomic step: make, append, split, join, load and retire. Each is a step of the writer's seat; split has a new seat
-- besides, and join and retire a note's. Retire is a join that no split of the same key follows.
use Rattle.std.specs.Prelude.{◌≡◌, ℕ, List, [], ◌∷◌, ◌++◌}
use Rattle.std.specs.List.{AllByRecursion}
use Rattle.atomic_table.specs.Table.{Me, Step}
use Rattle.chronicle.specs.declared.entry.Entry.{Entry}
use Rattle.chronicle.specs.declared.view.View.{View}
use Rattle.chronicle.specs.declared.view.View.TheVariants.{Writing, Noted, Spent}
use Rattle.chronicle.specs.Keys.{out_with, out_without}
use Rattle.chronicle.specs.Rule.{WasNoteOf}
use Rattle.chronicle.specs.Views.{list_of, key_of}

module _ {E : Type 0} where
  -- Make: the word is 0. The writer's view has the empty list, no key is out, and no note is seen
  abbrev pub made : View E
  made = Writing [] [] []

  -- Append: the word is one more. The entry is at the end of the writer's list, and the notes seen are forgotten
  abbrev pub appended : List (Entry E) → View E → View E
  appended more (Writing list out seen) = Writing (list ++ more) out []
  appended more (Noted key list) = Noted key list
  appended more Spent = Spent

  -- what an append says of the writer's seat before and after
  abbrev pub Appends : List (Entry E) → Step (Unit {0}) → Me (Unit {0}) (View E) → ℕ → Me (Unit {0}) (View E) → Type 0
  Appends more step before number after = (after.0 ≡ appended more before.0) × (after.1 ≡ before.1)

  -- Split, for the new seat: it has the key and a copy of the writer's list
  abbrev pub note_made : ℕ → View E → View E
  note_made k v = Noted k (list_of v)

  -- Split, for the writer: a key above 0 is out
  abbrev pub note_out : ℕ → View E → View E
  note_out k (Writing list out seen) = Writing list (out_with k out) seen
  note_out k (Noted key list) = Noted key list
  note_out k Spent = Spent

  -- Join and retire: the writer has the note among those seen, and its key is out no more. The note's seat is spent
  abbrev pub note_back : View E → View E → View E
  note_back (Writing list out seen) note =
      Writing list (out_without (key_of note) out) (record { key = key_of note; list = list_of note; out = out } ∷ seen)
  note_back (Noted key list) note = Noted key list
  note_back Spent note = Spent

  -- Load: nothing changes. It tells of each note seen that it is a prefix of the writer's list with all entries of its key, and that a key
  -- above 0 was out
  abbrev pub SeenAreTrue : View E → Type 0
  SeenAreTrue (Writing list out seen) = AllByRecursion (WasNoteOf list) seen
  SeenAreTrue (Noted key list) = Unit {0}
  SeenAreTrue Spent = Unit {0}

  -- what a load says of the writer's seat before and after
  abbrev pub Loads : Step (Unit {0}) → Me (Unit {0}) (View E) → ℕ → Me (Unit {0}) (View E) → Type 0
  Loads step before number after = (after.0 ≡ before.0) × (after.1 ≡ before.1) × SeenAreTrue before.0
