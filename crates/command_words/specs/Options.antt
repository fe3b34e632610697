-- Options by their kinds: the block of each, and lists of options, none twice.
use Rattle.std.specs.Prelude.{◌≡◌, ◌≢◌, ℕ, Bool, true, false, IsTrue, ◌⊎◌, List, [], ◌∷◌, ◌++◌, codes, map}
use Rattle.std.specs.List.{AllByRecursion, AllPairs}
use Rattle.std.specs.Str.Parse.{digits_value}
use Rattle.script_tree.specs.declared.limits.TheConstants.{VERSIONS}
use Rattle.command_words.specs.declared.kinds.Kind.{Kind}
use Rattle.command_words.specs.declared.kinds.Kind.TheVariants as kind
use Rattle.command_words.specs.declared.kinds.Kinds.{Kinds}
use Rattle.command_words.specs.Words.{IsLimit}

-- an option as it is given, with its value as it is written
pub data Given : Type 0 where
  Json : Given
  Versions : List ℕ → Given

abbrev pub kind_of : Given → Kind
kind_of Json = kind.Json
kind_of (Versions text) = kind.Versions

-- the block of an option: its words, with a value behind them or, by `=`, in the same word
abbrev pub IsBlock : Given → List (List ℕ) → Type 0
IsBlock Json words = words ≡ codes "--json" ∷ []
IsBlock (Versions text) words = IsLimit text × ((words ≡ codes "--versions" ∷ text ∷ []) ⊎ (words ≡ (codes "--versions=" ++ text) ∷ []))

-- words are the blocks of options, one behind the other
abbrev pub AreBlocks : List Given → List (List ℕ) → Type 0
AreBlocks [] words = words ≡ []
AreBlocks (option ∷ given) words = (block : List (List ℕ)) × (rest : List (List ℕ)) × (words ≡ block ++ rest) × IsBlock option block
    × AreBlocks given rest

-- a kind is one of these
abbrev pub has : Kinds → Kind → Bool
has kinds kind.Json = kinds.json
has kinds kind.Versions = kinds.versions

-- words are these options: each of a kind that may be given, and no kind twice
pub record AreOptions (kinds : Kinds) (given : List Given) (words : List (List ℕ)) : Type 0 where
  pub blocks : AreBlocks given words
  pub may : AllByRecursion (λ kind. IsTrue (has kinds kind)) (map kind_of given)
  pub once : AllPairs (λ a b. a ≢ b) (map kind_of given)

-- words that are no options
pub record AreNoOptions (kinds : Kinds) (words : List (List ℕ)) : Type 0 where
  pub none : (given : List Given) → AreOptions kinds given words → ⊥

-- the limit of versions that is given, else the greatest one
abbrev pub versions_in : List Given → ℕ
versions_in [] = VERSIONS
versions_in (Json ∷ given) = versions_in given
versions_in (Versions text ∷ given) = digits_value 10 text

-- JSON is asked for
abbrev pub json_in : List Given → Bool
json_in [] = false
json_in (Json ∷ given) = true
json_in (Versions text ∷ given) = json_in given
