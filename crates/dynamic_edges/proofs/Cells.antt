-- What is left as it was where a call has its Mark.
use Rattle.std.proofs.Common.{◌≡◌, ℕ, ◌<◌, Bool, true, false, length, refl, ap}
use Rattle.node_versions.specs.declared.entry.State.TheVariants as modes
use Rattle.node_versions.specs.Entries.{has}
use Rattle.flow_model.specs.Machine.State.{Core, Cell, entries, outs}
use Rattle.flow_model.specs.Machine.Changes.{ensure_mark, enter, place_entry}
use Rattle.flow_state.proofs.OneCell.{cell-changed}

pub marked-outs : (s : Core) (t m : ℕ) → m < length s.cells → outs (ensure_mark s t m) m ≡ outs s m
marked-outs s t m h = go (has (entries s m) t)
  where
    go : (b : Bool) → outs (elim b as (λ _. Core) [ true ↦ s | false ↦ enter s t m modes.Mark ]) m ≡ outs s m
    go true = refl
    go false = ap (λ (c : Cell). c.outs) (cell-changed m (place_entry s t modes.Mark) s.cells h)

pub marked-callers : (s : Core) (t m : ℕ) → (ensure_mark s t m).callers ≡ s.callers
marked-callers s t m = go (has (entries s m) t)
  where
    go : (b : Bool) → (elim b as (λ _. Core) [ true ↦ s | false ↦ enter s t m modes.Mark ]).callers ≡ s.callers
    go true = refl
    go false = refl
