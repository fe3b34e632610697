-- A node's list as the rounds of calls keep it.
use Rattle.std.specs.Prelude.{◌≡◌, ℕ, List, [], ◌∷◌, IsTrue}
use Rattle.node_versions.specs.declared.entry.Entry.{Entry}
use Rattle.node_versions.specs.Entries.{Versions, is_done}

-- The first entry is a Done.
abbrev pub OpensWithDone : List Entry → Type 0
OpensWithDone [] = ⊥
OpensWithDone (e ∷ es) = IsTrue (is_done e.state)

-- There is room for so many entries, and the first one is a Done.
pub record IsOpened (size : ℕ) (list : Versions) : Type 0 where
  pub room : list.room ≡ size
  pub opens : OpensWithDone list.entries
