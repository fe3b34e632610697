-- No step changes how many lists and callers there are, nor how many calls have begun.
use Rattle.std.proofs.Common.{◌≡◌, ℕ, zero, suc, Bool, true, false, refl, ap, List, [], ◌∷◌, length, ◌∙◌}
use Rattle.signal_graph.specs.Graph.{Graph}
use Rattle.node_versions.specs.declared.entry.State.TheVariants.{Mark, Frame}
use Rattle.node_versions.specs.Entries.{has, at, is_mark}
use Rattle.flow_model.specs.declared.step.Step.{Step}
use Rattle.flow_model.specs.declared.step.Step.TheVariants as steps
use Rattle.flow_model.specs.Machine.Lists.{change_at}
use Rattle.flow_model.specs.Machine.State.{Core, Cell, entries, with_cell}
use Rattle.flow_model.specs.Machine.Words.{value_now, found_picks}
use Rattle.flow_model.specs.Machine.Changes.{enter, raise, ensure_mark, set_state, place_entry, cleared, add_edge, drop_edge, finish}
use Rattle.flow_model.specs.Machine.Steps.{apply, open_node, frame, is_change}

pub change_at-length : (n : ℕ) (f : Cell → Cell) (cs : List Cell) → length (change_at n f cs) ≡ length cs
change_at-length n f [] = refl
change_at-length zero f (c ∷ cs) = refl
change_at-length (suc n) f (c ∷ cs) = ap suc (change_at-length n f cs)

-- as many lists and callers as before
pub record SameParts (s q : Core) : Type 0 where
  pub cells : length q.cells ≡ length s.cells
  pub callers : q.callers ≡ s.callers

with_cell-parts : (s q : Core) (n : ℕ) (f : Cell → Cell) → SameParts s q → SameParts s (with_cell q n f)
with_cell-parts s q n f h = record { cells = change_at-length n f q.cells ∙ h.cells; callers = h.callers }

same : (s : Core) → SameParts s s
same s = record { cells = refl; callers = refl }

enter-parts : (s : Core) (t m : ℕ) (x : _) → SameParts s (enter s t m x)
enter-parts s t m x = record { cells = change_at-length m (place_entry s t x) s.cells; callers = refl }

ensure_mark-parts : (s : Core) (t m : ℕ) → SameParts s (ensure_mark s t m)
ensure_mark-parts s t m = go (has (entries s m) t)
  where
    go : (b : Bool) → SameParts s (elim b [ true ↦ s | false ↦ enter s t m Mark ])
    go true = same s
    go false = enter-parts s t m Mark

frame-parts : (graph : Graph) (s : Core) (t n : ℕ) → SameParts s (frame graph s t n)
frame-parts graph s t n = go (at is_mark (entries s n) t)
  where
    go : (b : Bool) → SameParts s (elim b [ true ↦ open_node graph (raise s t n) t n | false ↦ open_node graph (enter s t n Frame) t n ])
    go true = record { cells = change_at-length n (set_state t Frame) s.cells; callers = refl }
    go false = record { cells = change_at-length n (place_entry s t Frame) s.cells; callers = refl }

pub step-parts : (graph : Graph) (s : Core) (step : Step) → SameParts s (apply graph s step)
step-parts graph s (steps.Frame t n) = frame-parts graph s t n
step-parts graph s (steps.Start t) = record { cells = refl; callers = refl }
step-parts graph s (steps.Skip t n) = record { cells = change_at-length n _ s.cells; callers = refl }
step-parts graph s (steps.Gather t n m) = with_cell-parts s s n _ (same s)
step-parts graph s (steps.Evaluate t n) = record { cells = change_at-length n _ s.cells; callers = refl }
step-parts graph s (steps.Body t n) = with_cell-parts s s n _ (same s)
step-parts graph s (steps.Resolve t n) = with_cell-parts s (finish s t n (value_now graph s t n) (is_change graph s t n) (found_picks s n)) n cleared (record { cells = change_at-length n _ s.cells; callers = refl })
step-parts graph s (steps.Discover t n c) = let h = with_cell-parts s (ensure_mark s t c) c (add_edge n t) (ensure_mark-parts s t c) in record { cells = h.cells; callers = h.callers }
step-parts graph s (steps.Drop t n o) = with_cell-parts s (ensure_mark s t o) o (drop_edge n) (ensure_mark-parts s t o)
step-parts graph s (steps.Mark t m) = enter-parts s t m Mark
step-parts graph s (steps.Look t) = record { cells = refl; callers = refl }
step-parts graph s (steps.End t) = record { cells = refl; callers = refl }
step-parts graph s (steps.Collect n) = with_cell-parts s s n _ (same s)

-- no step begins a call
pub step-begun : (graph : Graph) (s : Core) (step : Step) → (apply graph s step).begun ≡ s.begun
step-begun graph s (steps.Frame t m) = go (at is_mark (entries s m) t)
  where
    go : (b : Bool) → (elim b as (λ _. Core) [ true ↦ open_node graph (raise s t m) t m | false ↦ open_node graph (enter s t m Frame) t m ]).begun ≡ s.begun
    go true = refl
    go false = refl
step-begun graph s (steps.Start t) = refl
step-begun graph s (steps.Skip t m) = refl
step-begun graph s (steps.Gather t m i) = refl
step-begun graph s (steps.Evaluate t m) = refl
step-begun graph s (steps.Body t m) = refl
step-begun graph s (steps.Resolve t m) = refl
step-begun graph s (steps.Discover t m c) = go (has (entries s c) t)
  where
    go : (b : Bool) → (elim b as (λ _. Core) [ true ↦ s | false ↦ enter s t c Mark ]).begun ≡ s.begun
    go true = refl
    go false = refl
step-begun graph s (steps.Drop t m o) = go (has (entries s o) t)
  where
    go : (b : Bool) → (elim b as (λ _. Core) [ true ↦ s | false ↦ enter s t o Mark ]).begun ≡ s.begun
    go true = refl
    go false = refl
step-begun graph s (steps.Mark t m) = refl
step-begun graph s (steps.Look t) = refl
step-begun graph s (steps.End t) = refl
step-begun graph s (steps.Collect m) = refl
