-- Where no call is live, each list has entries of ended calls alone, and its last Done is the one-thread machine's after the log.
use Rattle.std.proofs.Common.{◌≡◌, ℕ, suc, ◌+◌, ◌<◌, true, false, refl, sym, ap, ap₂, arith, List, [], ◌∷◌, map, length, ◌∙◌}
use Rattle.std.specs.Prelude.{is_some}
use Rattle.std.specs.Prelude.{filter, slice_index_or}
use Rattle.script_tree.specs.declared.value.Value.{Value}
use Rattle.script_tree.specs.declared.value.Value.TheVariants.{Fault as Faulty}
use Rattle.script_tree.specs.declared.value.Fault.TheVariants.{NoChoice}
use Rattle.signal_graph.specs.Graph.{Graph, IsGraph}
use Rattle.signal_graph.specs.Values.{picks}
use Rattle.signal_graph.specs.Legal.{state_after, finals}
use Rattle.signal_graph.proofs.Values.{length-values_from}
use Rattle.node_versions.specs.declared.entry.Entry.{Entry}
use Rattle.node_versions.specs.Entries.{last_done, state_of, value_of, picks_of, ended_len}
use Rattle.flow_model.specs.Machine.State.{Core, Cell, LiveCall, call_of, live, ended, entries, no_cell}
use Rattle.flow_model.specs.Machine.Histories.{Move, state, is_history, last_values}
use Rattle.flow_model.specs.Kept.Lawful.{IsLawful}
use Rattle.flow_model.proofs.Histories.Moves.{KeepsLawful, history-lawful}

-- ---- no call is live

none-live : (s : Core) → s.calls ≡ [] → (u : ℕ) → live s u ≡ false
none-live s none u = ap (λ (cs : List LiveCall). is_some (call_of cs u)) none

all-ended : (s : Core) → s.calls ≡ [] → (es : List Entry) → filter (ended s) es ≡ es
all-ended s none [] = refl
all-ended s none (e ∷ es) = let l = none-live s none e.version in rw l (ap (λ (xs : List Entry). e ∷ xs) (all-ended s none es))

pub all-ended_len : (s : Core) → s.calls ≡ [] → (n : ℕ) → ended_len (ended s) (entries s n) ≡ length (entries s n)
all-ended_len s none n = go (entries s n)
  where
    go : (es : List Entry) → ended_len (ended s) es ≡ length es
    go [] = refl
    go (e ∷ es) = let r = go es in let l = none-live s none e.version in grind (arith, r, l)

-- ---- the values

same-list : (f : Cell → Value) (d : Value) (cs : List Cell) (vs : List Value) → length cs ≡ length vs → ((n : ℕ) → n < length cs → f (slice_index_or cs n no_cell) ≡ slice_index_or vs n d) → map f cs ≡ vs
same-list f d [] [] l h = refl
same-list f d [] (v ∷ vs) l h = absurd (omega (arith, l))
same-list f d (c ∷ cs) [] l h = absurd (omega (arith, l))
same-list f d (c ∷ cs) (v ∷ vs) l h = ap₂ (λ (x : Value) (xs : List Value). x ∷ xs) (h 0 (omega arith)) (same-list f d cs vs (omega (arith, l)) (λ n k. h (suc n) (omega (arith, k))))

pub last_values-final : (graph : Graph) (s : Core) → IsLawful graph s → s.calls ≡ [] → last_values s ≡ finals graph s.log
last_values-final graph s h none = same-list (λ c. value_of (state_of (last_done c.entries))) (Faulty NoChoice) s.cells (finals graph s.log) (h.lists ∙ sym (length-values_from graph.nodes [] (state_after graph s.log) ∙ zero_more (length graph.nodes)))
    (λ n l. ap (λ (es : List Entry). value_of (state_of (last_done es))) (sym (all-ended s none (entries s n))) ∙ h.ended_is_machine.value n l)
  where
    zero_more : (k : ℕ) → 0 + k ≡ k
    zero_more k = omega arith

last_picks-final : (graph : Graph) (s : Core) → IsLawful graph s → s.calls ≡ [] → (n : ℕ) → n < length s.cells → picks_of (state_of (last_done (entries s n))) ≡ picks graph (state_after graph s.log) n
last_picks-final graph s h none n l = ap (λ (es : List Entry). picks_of (state_of (last_done es))) (sym (all-ended s none (entries s n))) ∙ h.ended_is_machine.picks n l

-- ---- histories

pub history-values_final : (graph : Graph) → IsGraph graph → KeepsLawful graph → (callers limit : ℕ) (moves : List Move) → is_history graph callers limit moves ≡ true → (state graph callers limit moves).calls ≡ [] → last_values (state graph callers limit moves) ≡ finals graph (state graph callers limit moves).log
history-values_final graph g keeps callers limit moves m = last_values-final graph (state graph callers limit moves) (history-lawful graph g keeps callers limit moves m)

pub history-picks_final : (graph : Graph) → IsGraph graph → KeepsLawful graph → (callers limit : ℕ) (moves : List Move) → is_history graph callers limit moves ≡ true → (state graph callers limit moves).calls ≡ [] → (n : ℕ) → n < length graph.nodes
    → picks_of (state_of (last_done (entries (state graph callers limit moves) n))) ≡ picks graph (state_after graph (state graph callers limit moves).log) n
history-picks_final graph g keeps callers limit moves m none n l =
    let h = history-lawful graph g keeps callers limit moves m in
    let e = h.lists in
    last_picks-final graph (state graph callers limit moves) h none n (omega (arith, e, l))
