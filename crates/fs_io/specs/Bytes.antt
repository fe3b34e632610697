-- What calls do to the bytes that a source has left and a sink holds, where those are told.
use Rattle.std.specs.Prelude.{◌≡◌, ℕ, ◌≤◌, List, [], ◌++◌, length, take, drop, ⊤, Option, None, Some}
use Rattle.std.specs.Io.KnownBytes.{Consumes}

-- told bytes lost some bytes in front, and are still told
abbrev pub LosesFront : Option (List ℕ) → Option (List ℕ) → Type 0
LosesFront None after = ⊤
LosesFront (Some old) None = ⊥
LosesFront (Some old) (Some new) = (front : List ℕ) × (old ≡ front ++ new)

-- of told bytes the first n were given, the others are still told
abbrev pub GivesFirst : ℕ → Option (List ℕ) → Option (List ℕ) → List ℕ → Type 0
GivesFirst n None after given = ⊤
GivesFirst n (Some old) None given = ⊥
GivesFirst n (Some old) (Some new) given = (given ≡ take n old) × (new ≡ drop n old)

-- of told bytes none is left, which is still told
abbrev pub Ends : Option (List ℕ) → Option (List ℕ) → Type 0
Ends None after = ⊤
Ends (Some old) None = ⊥
Ends (Some old) (Some new) = new ≡ []

-- bytes that are told after a call were told before it, and grew by these
abbrev pub Adds : Option (List ℕ) → Option (List ℕ) → List ℕ → Type 0
Adds before None more = ⊤
Adds None (Some new) more = ⊥
Adds (Some old) (Some new) more = new ≡ old ++ more

-- bytes that are told after a call were told before it, and stayed
abbrev pub Stays : Option (List ℕ) → Option (List ℕ) → Type 0
Stays before None = ⊤
Stays None (Some new) = ⊥
Stays (Some old) (Some new) = new ≡ old

-- bytes that are told after a call were told before it, and grew by the first few of these, or by all of them
abbrev pub AddsFirst : Option (List ℕ) → Option (List ℕ) → List ℕ → Type 0
AddsFirst before None more = ⊤
AddsFirst None (Some new) more = ⊥
AddsFirst (Some old) (Some new) more = (n : ℕ) × (n ≤ length more) × (new ≡ old ++ take n more)

-- n bytes came: told bytes lost them in front, and are still told, and a text grew by them
abbrev pub Moves : Option (List ℕ) → Option (List ℕ) → List ℕ → List ℕ → ℕ → Type 0
Moves before after old new n = (came : List ℕ) × Consumes before after came × (new ≡ old ++ came) × (length came ≡ n)
