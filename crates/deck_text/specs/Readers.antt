-- What the reader of a deck keeps.
use Rattle.std.specs.Prelude.{◌≡◌, ◌<◌, ℕ, Bool, true, false, List, [], ◌∷◌, ◌++◌, length}
use Rattle.std.specs.List.{All}
use Rattle.script_tree.specs.declared.limits.TheConstants.{THREADS}
use Rattle.deck_text.specs.declared.reader.Reader.{Reader}
use Rattle.deck_lines.specs.Kept.{IsCall}
use Rattle.signal_graph.specs.declared.call.Call.{Call}
use Rattle.deck_text.specs.Calls.{IsThread}
use Rattle.deck_text.specs.Decks.{Decked}
use Rattle.deck_text.specs.Spelled.{Lead, nothing_yet}

-- the calls of all threads that are begun
abbrev pub scripts_so_far : Bool → List (List Call) → List Call → List (List Call)
scripts_so_far false threads calls = []
scripts_so_far true threads calls = threads ++ calls ∷ []

-- the deck so far
abbrev pub deck_of : Reader → Decked
deck_of reader = record { graph = reader.builder; scripts = scripts_so_far reader.begun reader.threads.items reader.calls.items }

-- the threads and calls so far are those of a deck, and the newest thread is one of at most so many
pub record Reads (reader : Reader) : Type 0 where
  pub threads : All IsThread reader.threads.items
  pub few : length reader.threads.items < THREADS
  pub calls : All IsCall reader.calls.items
  pub fresh : reader.begun ≡ false → (reader.threads.items ≡ []) × (reader.calls.items ≡ [])

-- some lines lead to the deck so far
pub record IsLed (deck : Decked) : Type 0 where
  pub text : List (List ℕ)
  pub lead : Lead text nothing_yet deck
