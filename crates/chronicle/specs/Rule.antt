-- The rule that holds between any two atomic steps.
use Rattle.std.specs.Prelude.{◌≡◌, ℕ, ◌<◌, true, List, [], ◌∷◌, length}
use Rattle.std.specs.List.{AllByRecursion}
use mathlib.Core.Option.{some}
use lib.ListN.{get_elem?}
use Rattle.atomic_table.specs.Table.{State}
use Rattle.chronicle.specs.declared.entry.Entry.{Entry}
use Rattle.chronicle.specs.declared.view.Seen.{Seen}
use Rattle.chronicle.specs.declared.view.View.{View}
use Rattle.chronicle.specs.declared.view.View.TheVariants.{Writing, Noted, Spent}
use Rattle.chronicle.specs.Entries.{IsPrefixWithAll}
use Rattle.chronicle.specs.Keys.{is_out, AreDifferent}

module _ {E : Type 0} where
  -- The note was a prefix of the list with all entries of its key, and a key above 0 was out
  pub record WasNoteOf (list : List (Entry E)) (n : Seen E) : Type 0 where
    pub prefix : IsPrefixWithAll n.key n.list list
    pub was_out : 0 < n.key → is_out n.key n.out ≡ true

  -- Where the history is `log`, the keys `out` are out, the writer has the seat `writer`, and each key that is out is with the seat that
  -- `owner` names, this is what the view of the seat `seat` says:
  -- the writer's has the history, the keys that are out, and the notes seen since the last append
  -- a note's has a key and a prefix of the history with all entries of that key. A key above 0 is out, and no other unspent seat has it
  -- a spent one says nothing
  abbrev pub IsTrueView : List (Entry E) → List ℕ → ℕ → (ℕ → ℕ) → ℕ → View E → Type 0
  IsTrueView log out writer owner seat (Writing list keys seen) = (seat ≡ writer) × (list ≡ log) × (keys ≡ out)
      × AllByRecursion (WasNoteOf log) seen
  IsTrueView log out writer owner seat (Noted key list) = (0 < key → (owner key ≡ seat) × (is_out key out ≡ true))
      × IsPrefixWithAll key list log
  IsTrueView log out writer owner seat Spent = Unit {0}

  -- The word is the length of the history, no key is out twice, and what each view says is true
  pub record IsKept (s : State (Unit {0}) (View E)) : Type 0 where
    pub log : List (Entry E)
    pub out : List ℕ
    pub writer : ℕ
    pub owner : ℕ → ℕ
    pub word : s.words ≡ length log ∷ []
    pub different : AreDifferent out
    pub views : (seat : ℕ) (v : View E) → get_elem? s.views seat ≡ some v → IsTrueView log out writer owner seat v
