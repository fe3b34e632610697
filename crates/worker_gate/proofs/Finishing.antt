-- When all callers have made their scripts and none lives, the run is finished, and what was refused is what the log has not.
use Rattle.std.proofs.Common.{◌≡◌, ℕ, suc, ◌+◌, ◌<◌, ◌≤◌, ◌⊎◌, inl, inr, true, refl, sym, ap, ap₂, arith, List, [], ◌∷◌, ◌++◌, length, ◌∙◌, subst}
use Rattle.std.specs.Prelude.{flat_map, slice_index_or}
use Rattle.std.proofs.lemmas.List.Concat.{flat_map-cons}
use Rattle.signal_graph.specs.declared.call.Call.{Call}
use Rattle.signal_graph.specs.declared.log.Refused.{Refused}
use Rattle.signal_graph.specs.declared.log.Logged.{Logged}
use Rattle.signal_graph.specs.Graph.{Graph}
use Rattle.call_log.specs.Made.{entries_of, well_named, script_of, IsPrefix}
use Rattle.call_log.specs.LeftOut.{left_out_from, left_out_of, left_out}
use Rattle.call_log.specs.Merge.{Merge}
use Rattle.flow_model.specs.Machine.Histories.{Move, state, is_history}
use Rattle.flow_model.specs.Follows.Callers.{count_begins, begun_by, calls_of, IsFinishedRun}
use Rattle.flow_model.proofs.Callers.FinishedRunsMerge.{ended-made, finished-Merge}
use Rattle.flow_model.proofs.Schedules.ReplaysMerge.{logged-length}
use Rattle.worker_gate.specs.Scripts.{GoesOn, IsMade, AreMade}
use Rattle.worker_gate.proofs.Begun.{further-count}

-- A history has all that a caller has seen, and no more calls of its.
abbrev pub HasAll : ℕ → List Move → List Move → Type 0
HasAll k front f = GoesOn front f × (calls_of (begun_by k f) ≡ calls_of (begun_by k front))

-- what a caller has begun in all, where it had begun nothing before
made-all : (graph : Graph) (limit k : ℕ) (script : List Call) (refused : List Refused) (old new f : List Move) (m : IsMade graph limit k script refused old new) → calls_of (begun_by k old) ≡ [] → HasAll k new f → calls_of (begun_by k f) ≡ m.made
made-all graph limit k script refused old new f m none all = all.1 ∙ m.calls.grown ∙ ap (λ (cs : List Call). cs ++ m.made) none

finished-run : (graph : Graph) (limit : ℕ) (scripts : List (List Call)) (refused : List Refused) (olds news : List (List Move)) (f : List Move) → AreMade graph limit scripts refused olds news
    → ((k : ℕ) → k < length scripts → calls_of (begun_by (k + 1) (slice_index_or olds k [])) ≡ [])
    → is_history graph (length scripts) limit f ≡ true → (state graph (length scripts) limit f).calls ≡ []
    → ((k : ℕ) → k < length scripts → HasAll (k + 1) (slice_index_or news k []) f)
    → IsFinishedRun graph scripts limit f
finished-run graph limit scripts refused olds news f m fresh history none all = record {
  history = history;
  none_live = none;
  in_order = λ k l. subst (λ (cs : List Call). IsPrefix cs (well_named graph (script_of scripts k))) (sym (made-all graph limit (k + 1) _ _ _ _ f (m.each k l) (fresh k l) (all k l))) (m.each k l).calls.first;
  all_begun = λ k l. begun k l (m.each k l).all;
}
  where
    begun : (k : ℕ) (l : k < length scripts) → ((m.each k l).made ≡ well_named graph (script_of scripts k)) ⊎ (count_begins (slice_index_or news k []) ≡ limit)
        → (calls_of (begun_by (k + 1) f) ≡ well_named graph (script_of scripts k)) ⊎ (limit ≤ count_begins f)
    begun k l (inl e) = inl (made-all graph limit (k + 1) _ _ _ _ f (m.each k l) (fresh k l) (all k l) ∙ e)
    begun k l (inr e) = let c = further-count (slice_index_or news k []) f (all k l).0 in inr (omega (arith, e, c))

-- ---- what was refused

refused-from : (graph : Graph) (limit : ℕ) (log : List Logged) (lists : List (List Refused)) (scripts : List (List Call)) (caller : ℕ) → length lists ≡ length scripts
    → ((i : ℕ) → i < length scripts → slice_index_or lists i [] ≡ left_out_from graph limit (caller + i) 1 (length (entries_of (caller + i) log)) (script_of scripts i))
    → flat_map (λ list. list) lists ≡ left_out_of graph limit log caller scripts
refused-from graph limit log [] [] caller s f = refl
refused-from graph limit log [] (calls ∷ scripts) caller s f = absurd (omega (arith, s))
refused-from graph limit log (x ∷ xs) [] caller s f = absurd (omega (arith, s))
refused-from graph limit log (x ∷ xs) (calls ∷ scripts) caller s f = flat_map-cons (λ (list : List Refused). list) x xs ∙ ap₂ (λ (a b : List Refused). a ++ b)
    (let e : caller + 0 ≡ caller = omega arith in subst (λ (n : ℕ). x ≡ left_out_from graph limit n 1 (length (entries_of n log)) calls) e (f 0 (omega arith)))
    (refused-from graph limit log xs scripts (caller + 1) (omega (arith, s)) (λ i l. let e : caller + suc i ≡ (caller + 1) + i = omega arith in
    subst (λ (n : ℕ). slice_index_or xs i [] ≡ left_out_from graph limit n 1 (length (entries_of n log)) (script_of scripts i)) e (f (suc i) (omega (arith, l)))))

-- ---- the whole

pub finished : (graph : Graph) (limit : ℕ) (scripts : List (List Call)) (refused : List Refused) (olds news : List (List Move)) (f : List Move) → AreMade graph limit scripts refused olds news
    → ((k : ℕ) → k < length scripts → calls_of (begun_by (k + 1) (slice_index_or olds k [])) ≡ [])
    → is_history graph (length scripts) limit f ≡ true → (state graph (length scripts) limit f).calls ≡ []
    → ((k : ℕ) → k < length scripts → HasAll (k + 1) (slice_index_or news k []) f)
    → Merge graph scripts limit (state graph (length scripts) limit f).log refused
finished graph limit scripts refused olds news f m fresh history none all =
    subst (λ (rs : List Refused). Merge graph scripts limit log rs) (sym (m.laid ∙ rest)) (finished-Merge graph scripts limit f run)
  where
    log : List Logged
    log = (state graph (length scripts) limit f).log

    run : IsFinishedRun graph scripts limit f
    run = finished-run graph limit scripts refused olds news f m fresh history none all

    entries : (k : ℕ) (l : k < length scripts) → length (m.each k l).made ≡ length (entries_of (1 + k) log)
    entries k l =
        let e : k + 1 ≡ 1 + k = omega arith in
        ap length (sym (made-all graph limit (k + 1) _ _ _ _ f (m.each k l) (fresh k l) (all k l)))
        ∙ ap (λ (ps : List (ℕ × Call)). length (calls_of ps)) (sym (ended-made graph (length scripts) limit f history none (k + 1)))
        ∙ logged-length (k + 1) log ∙ ap (λ (n : ℕ). length (entries_of n log)) e

    rest : flat_map (λ list. list) m.lists ≡ left_out graph limit log scripts
    rest = refused-from graph limit log m.lists scripts 1 m.as_many (λ k l.
        let e : k + 1 ≡ 1 + k = omega arith in
        (m.each k l).others ∙ ap₂ (λ (n j : ℕ). left_out_from graph limit n 1 j (script_of scripts k)) e (entries k l))
