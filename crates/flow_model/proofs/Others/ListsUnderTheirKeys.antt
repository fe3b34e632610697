-- A move changes no list and no out-edges but those of the node that it is kept under.
use Rattle.std.proofs.Common.{◌≡◌, ◌≢◌, ℕ, Bool, true, false, ◌==◌, refl, sym, ap, List, [], ◌∷◌, ◌∙◌, Some}
use Rattle.std.proofs.lemmas.Bool.{eqb-true, false_from_ne_true}
use Rattle.std.specs.List.{AllByRecursion}
use Rattle.signal_graph.specs.Graph.{Graph}
use Rattle.node_versions.specs.declared.entry.State.TheVariants.{Mark, Frame, Done}
use Rattle.node_versions.specs.Entries.{has, at, is_mark, value_at, value_before, picks_before}
use Rattle.flow_model.specs.declared.step.Step.{Step}
use Rattle.flow_model.specs.declared.step.Step.TheVariants as steps
use Rattle.flow_model.specs.Machine.State.{Core, Cell, cell, entries, with_cell}
use Rattle.flow_model.specs.Machine.Words.{found_now, body_now, value_now, found_picks}
use Rattle.flow_model.specs.Machine.Changes.{place_entry, enter, raise, ensure_mark, set_state, finish, cleared, add_edge, drop_edge}
use Rattle.flow_model.specs.Machine.Steps.{apply, open_node, frame, gather, keep_found, keep_body, is_change, collect}
use Rattle.flow_model.specs.Machine.Keys.{list_of_step}
use Rattle.flow_model.specs.Machine.Histories.{Move, Begin, Make, after_move, after_moves}
use Rattle.flow_model.specs.Follows.Others.{list_of, IsSameList}
use Rattle.flow_model.proofs.OneStep.ChangesOfOneList.{same_cell}
use Rattle.flow_model.proofs.FramesSpread.AfterOtherSteps.{same_outs}
use Rattle.flow_model.proofs.OrderStays.OpenNodesHaveFrames.{cell-other}

apart : (n m : ℕ) → Some n ≢ Some m → (m == n) ≡ false
apart n m h = false_from_ne_true _ (λ e. h (ap Some (sym (eqb-true m n e))))

same-list : (s q : Core) (m : ℕ) → cell q m ≡ cell s m → IsSameList s q m
same-list s q m e = record { entries = ap (λ (c : Cell). c.entries) e; outs = ap (λ (c : Cell). c.outs) e }

-- a change of a node's work
worked : (graph : Graph) (s : Core) (n m : ℕ) (f : Cell → Cell) → ((c : Cell) → (f c).entries ≡ c.entries) → ((c : Cell) → (f c).outs ≡ c.outs) → IsSameList s (with_cell s n f) m
worked graph s n m f e o = record { entries = same_cell graph s n f e m; outs = same_outs s n f o m }

framed : (graph : Graph) (s : Core) (t n m : ℕ) → (m == n) ≡ false → cell (frame graph s t n) m ≡ cell s m
framed graph s t n m e = go (at is_mark (entries s n) t)
  where
    go : (b : Bool) → cell (elim b as (λ _. Core) [ true ↦ open_node graph (raise s t n) t n | false ↦ open_node graph (enter s t n Frame) t n ]) m ≡ cell s m
    go true = cell-other s n m (set_state t Frame) e
    go false = cell-other s n m (place_entry s t Frame) e

ensured : (s : Core) (t n m : ℕ) → (m == n) ≡ false → cell (ensure_mark s t n) m ≡ cell s m
ensured s t n m e = go (has (entries s n) t)
  where
    go : (b : Bool) → cell (elim b as (λ _. Core) [ true ↦ s | false ↦ enter s t n Mark ]) m ≡ cell s m
    go true = refl
    go false = cell-other s n m (place_entry s t Mark) e

step-other_list : (graph : Graph) (s : Core) (step : Step) (m : ℕ) → list_of_step step ≢ Some m → IsSameList s (apply graph s step) m
step-other_list graph s (steps.Frame t n) m h = same-list s (apply graph s (steps.Frame t n)) m (framed graph s t n m (apart n m h))
step-other_list graph s (steps.Start t) m h = record { entries = refl; outs = refl }
step-other_list graph s (steps.Skip t n) m h = same-list s (apply graph s (steps.Skip t n)) m (cell-other s n m (set_state t (Done (value_before (entries s n) t) false (picks_before (entries s n) t))) (apart n m h))
step-other_list graph s (steps.Gather t n i) m h = worked graph s n m (gather i (value_at (entries s i) t)) (λ c. refl) (λ c. refl)
step-other_list graph s (steps.Evaluate t n) m h = let w = worked graph s n m (keep_found (found_now graph s t n)) (λ c. refl) (λ c. refl) in record { entries = w.entries; outs = w.outs }
step-other_list graph s (steps.Body t n) m h = worked graph s n m (keep_body (body_now graph s n)) (λ c. refl) (λ c. refl)
step-other_list graph s (steps.Resolve t n) m h = same-list s (apply graph s (steps.Resolve t n)) m
    (cell-other (finish s t n (value_now graph s t n) (is_change graph s t n) (found_picks s n)) n m cleared (apart n m h) ∙ cell-other s n m (set_state t (Done (value_now graph s t n) (is_change graph s t n) (found_picks s n))) (apart n m h))
step-other_list graph s (steps.Discover t n c) m h = same-list s (apply graph s (steps.Discover t n c)) m (cell-other (ensure_mark s t c) c m (add_edge n t) (apart c m h) ∙ ensured s t c m (apart c m h))
step-other_list graph s (steps.Drop t n o) m h = same-list s (apply graph s (steps.Drop t n o)) m (cell-other (ensure_mark s t o) o m (drop_edge n) (apart o m h) ∙ ensured s t o m (apart o m h))
step-other_list graph s (steps.Mark t n) m h = same-list s (apply graph s (steps.Mark t n)) m (cell-other s n m (place_entry s t Mark) (apart n m h))
step-other_list graph s (steps.Look t) m h = record { entries = refl; outs = refl }
step-other_list graph s (steps.End t) m h = record { entries = refl; outs = refl }
step-other_list graph s (steps.Collect n) m h = same-list s (apply graph s (steps.Collect n)) m (cell-other s n m (collect s) (apart n m h))

move-other_list : (graph : Graph) (s : Core) (move : Move) (m : ℕ) → list_of move ≢ Some m → IsSameList s (after_move graph s move) m
move-other_list graph s (Begin caller c) m h = record { entries = refl; outs = refl }
move-other_list graph s (Make step) m h = step-other_list graph s step m h

pub moves-other_list : (graph : Graph) (moves : List Move) (s : Core) (m : ℕ) → AllByRecursion (λ (move : Move). list_of move ≢ Some m) moves → IsSameList s (after_moves graph s moves) m
moves-other_list graph [] s m h = record { entries = refl; outs = refl }
moves-other_list graph (move ∷ moves) s m h =
    let one = move-other_list graph s move m h.0 in
    let more = moves-other_list graph moves (after_move graph s move) m h.1 in
    record { entries = more.entries ∙ one.entries; outs = more.outs ∙ one.outs }
