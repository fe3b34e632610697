-- Lists of entries, and what such a list has of a key.
use Rattle.std.specs.Prelude.{◌≡◌, ℕ, zero, suc, ◌==◌, ◌||◌, Bool, false, List, ◌++◌, map}
use Rattle.std.specs.List.{AllByRecursion, filter}
use Rattle.chronicle.specs.declared.entry.Entry.{Entry}

module _ {E : Type 0} where
  -- what happened, without the keys
  abbrev pub events : List (Entry E) → List E
  events entries = map (λ e. e.event) entries

  -- whether the entry is one of the key k. The key 0 belongs to no entry
  abbrev pub has_key : ℕ → Entry E → Bool
  has_key zero e = false
  has_key (suc k) e = (suc k == e.first_key) || (suc k == e.second_key)

  -- the entries of the key k, in their order
  abbrev pub entries_of : ℕ → List (Entry E) → List (Entry E)
  entries_of k entries = filter (has_key k) entries

  -- none of the entries is one of the key k
  abbrev pub WithoutKey : ℕ → List (Entry E) → Type 0
  WithoutKey k entries = AllByRecursion (λ e. has_key k e ≡ false) entries

  -- the longer list is the shorter one followed by the rest, and the rest has no entry of the key k
  pub record IsPrefixWithAll (k : ℕ) (shorter longer : List (Entry E)) : Type 0 where
    pub rest : List (Entry E)
    pub joined : shorter ++ rest ≡ longer
    pub none_left : WithoutKey k rest
