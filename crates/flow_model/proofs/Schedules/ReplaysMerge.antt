-- What a schedule makes of scripts, once over, is a finished run and a merge of them, with the one-thread machine's last values.
use Rattle.std.proofs.Common.{◌≡◌, ℕ, zero, suc, ◌+◌, ◌<◌, ◌≤◌, true, ◌⊎◌, inl, inr, refl, sym, ap, ap₂, arith, List, [], ◌∷◌, ◌++◌, map, length, true≢false, ◌∙◌, subst, append-nil}
use Rattle.std.specs.Prelude.{slice_index_or}
use Rattle.std.specs.List.{list_all}
use Rattle.script_tree.proofs.Truths.{and_left, and_right}
use Rattle.signal_graph.specs.declared.call.Call.{Call}
use Rattle.signal_graph.specs.declared.log.Logged.{Logged}
use Rattle.signal_graph.specs.declared.log.Refused.{Refused}
use Rattle.signal_graph.specs.Graph.{Graph, IsGraph}
use Rattle.signal_graph.specs.Legal.{Legal, finals}
use Rattle.call_log.specs.Made.{entries_of, script_of, well_named, IsPrefix}
use Rattle.call_log.specs.LeftOut.{left_out_from, left_out_of, left_out}
use Rattle.call_log.specs.Merge.{Merge}
use Rattle.flow_model.specs.Machine.Lists.{is_empty}
use Rattle.flow_model.specs.Machine.State.{Core, LiveCall}
use Rattle.flow_model.specs.Machine.Histories.{Move, state, is_history, last_values}
use Rattle.flow_model.specs.Machine.Schedules.{Thread, Play, no_thread, thread, is_over, all_refused, replayed}
use Rattle.flow_model.specs.Follows.Callers.{count_begins, begun_by, calls_of, logged_of, IsFinishedRun, AreWithin}
use Rattle.flow_model.proofs.Histories.Moves.{KeepsLawful}
use Rattle.flow_model.proofs.Histories.LastValues.{last_values-final}
use Rattle.flow_model.proofs.Callers.FinishedRunsMerge.{ended-made, finished-Merge}
use Rattle.flow_model.proofs.Schedules.ThreadsTakeTheirScripts.{begun_calls, begun-prefix}
use Rattle.flow_model.proofs.Schedules.SchedulesMakeHistories.{PlayRight, replay-right}

-- ---- nothing is live or left

none-live : (cs : List LiveCall) → is_empty cs ≡ true → cs ≡ []
none-live [] h = refl
none-live (c ∷ cs) h = absurd (true≢false (sym h))

none-left : (cs : List Call) → is_empty cs ≡ true → cs ≡ []
none-left [] h = refl
none-left (c ∷ cs) h = absurd (true≢false (sym h))

all-left : (xs : List Thread) → list_all (λ (x : Thread). is_empty x.left) xs ≡ true → (i : ℕ) → (slice_index_or xs i no_thread).left ≡ []
all-left [] h i = refl
all-left (x ∷ xs) h zero = none-left x.left (and_left _ _ h)
all-left (x ∷ xs) h (suc i) = all-left xs (and_right _ _ h) i

-- Each thread has taken its script.
all-taken : (graph : Graph) (scripts : List (List Call)) (limit : ℕ) (play : Play) (p : PlayRight graph scripts limit play) → is_over play ≡ true → (i : ℕ) (l : i < length scripts) → (p.each i l).taken ≡ script_of scripts i
all-taken graph scripts limit play p o i l =
    let r = p.each i l in
    sym (append-nil r.taken) ∙ ap (λ (cs : List Call). r.taken ++ cs) (sym (all-left play.threads (and_right _ _ o) i)) ∙ sym r.split

-- ---- the run is finished

one_more : (k : ℕ) → suc k ≡ k + 1
one_more k = omega arith

over-finished : (graph : Graph) (scripts : List (List Call)) (limit : ℕ) (play : Play) → PlayRight graph scripts limit play → is_over play ≡ true → IsFinishedRun graph scripts limit play.moves
over-finished graph scripts limit play p o = record {
  history = p.history;
  none_live = ap (λ (s : Core). s.calls) (sym p.core) ∙ none-live play.core.calls (and_left _ _ o);
  in_order = λ k l. subst (λ (n : ℕ). IsPrefix (calls_of (begun_by n play.moves)) (well_named graph (script_of scripts k))) (one_more k)
      (subst (λ (cs : List Call). IsPrefix (begun_calls k play.moves) (well_named graph cs)) (all-taken graph scripts limit play p o k l) (begun-prefix graph limit (script_of scripts k) k (thread play k) play.moves (p.each k l)));
  all_begun = λ k l. begun k (all-taken graph scripts limit play p o k l) (p.each k l).begun;
}
  where
    begun : (k : ℕ) {taken : List Call} → taken ≡ script_of scripts k → (begun_calls k play.moves ≡ well_named graph taken) ⊎ ((limit ≤ count_begins play.moves) × IsPrefix (begun_calls k play.moves) (well_named graph taken))
        → (calls_of (begun_by (k + 1) play.moves) ≡ well_named graph (script_of scripts k)) ⊎ (limit ≤ count_begins play.moves)
    begun k e (inl b) = inl (ap (λ (n : ℕ). calls_of (begun_by n play.moves)) (sym (one_more k)) ∙ b ∙ ap (well_named graph) e)
    begun k e (inr b) = inr b.0

-- ---- what was refused

pub logged-length : (k : ℕ) (log : List Logged) → length (calls_of (logged_of k log)) ≡ length (entries_of k log)
logged-length k log = go (entries_of k log)
  where
    go : (xs : List Logged) → length (calls_of (map (λ (x : Logged). (x.version, x.call)) xs)) ≡ length xs
    go [] = refl
    go (x ∷ xs) = ap suc (go xs)

refused-from : (graph : Graph) (limit : ℕ) (log : List Logged) (xs : List Thread) (scripts : List (List Call)) (caller : ℕ) → length xs ≡ length scripts
    → ((i : ℕ) → i < length scripts → (slice_index_or xs i no_thread).refused ≡ left_out_from graph limit (caller + i) 1 (length (entries_of (caller + i) log)) (script_of scripts i)) → all_refused xs ≡ left_out_of graph limit log caller scripts
refused-from graph limit log [] [] caller s f = refl
refused-from graph limit log [] (calls ∷ scripts) caller s f = absurd (omega (arith, s))
refused-from graph limit log (x ∷ xs) [] caller s f = absurd (omega (arith, s))
refused-from graph limit log (x ∷ xs) (calls ∷ scripts) caller s f = ap₂ (λ (a b : List Refused). a ++ b)
    (let e : caller + 0 ≡ caller = omega arith in subst (λ (n : ℕ). x.refused ≡ left_out_from graph limit n 1 (length (entries_of n log)) calls) e (f 0 (omega arith)))
    (refused-from graph limit log xs scripts (caller + 1) (omega (arith, s)) (λ i l. let e : caller + suc i ≡ (caller + 1) + i = omega arith in
    subst (λ (n : ℕ). (slice_index_or xs i no_thread).refused ≡ left_out_from graph limit n 1 (length (entries_of n log)) (script_of scripts i)) e (f (suc i) (omega (arith, l)))))

over-refused : (graph : Graph) (scripts : List (List Call)) (limit : ℕ) (play : Play) → PlayRight graph scripts limit play → is_over play ≡ true → all_refused play.threads ≡ left_out graph limit (state graph (length scripts) limit play.moves).log scripts
over-refused graph scripts limit play p o = refused-from graph limit log play.threads scripts 1 p.size (λ i l.
    let r = p.each i l in
    let e : suc i ≡ 1 + i = omega arith in
    subst (λ (n : ℕ). (thread play i).refused ≡ left_out_from graph limit n 1 (length (entries_of n log)) (script_of scripts i)) e
    (r.refused ∙ ap₂ (λ (n : ℕ) (cs : List Call). left_out_from graph limit (suc i) 1 n cs) (made i) (all-taken graph scripts limit play p o i l)))
  where
    log : List Logged
    log = (state graph (length scripts) limit play.moves).log

    made : (i : ℕ) → length (begun_calls i play.moves) ≡ length (entries_of (suc i) log)
    made i = ap (λ (ps : List (ℕ × Call)). length (calls_of ps)) (sym (ended-made graph (length scripts) limit play.moves p.history (over-finished graph scripts limit play p o).none_live (suc i))) ∙ logged-length (suc i) log

over-Merge : (graph : Graph) (scripts : List (List Call)) (limit : ℕ) (play : Play) → PlayRight graph scripts limit play → is_over play ≡ true → Merge graph scripts limit play.core.log (all_refused play.threads)
over-Merge graph scripts limit play p o =
    subst (λ (rs : List Refused). Merge graph scripts limit play.core.log rs) (sym (over-refused graph scripts limit play p o))
    (subst (λ (s : Core). Merge graph scripts limit s.log (left_out graph limit (state graph (length scripts) limit play.moves).log scripts)) (sym p.core) (finished-Merge graph scripts limit play.moves (over-finished graph scripts limit play p o)))

-- ---- replays

pub replay-finished : (graph : Graph) → IsGraph graph → KeepsLawful graph → (scripts : List (List Call)) → AreWithin scripts → (limit : ℕ) (schedule : List ℕ) → is_over (replayed graph scripts limit schedule) ≡ true → IsFinishedRun graph scripts limit (replayed graph scripts limit schedule).moves
replay-finished graph g keeps scripts within limit schedule o = over-finished graph scripts limit (replayed graph scripts limit schedule) (replay-right graph g keeps scripts within limit schedule) o

pub replay-Merge : (graph : Graph) → IsGraph graph → KeepsLawful graph → (scripts : List (List Call)) → AreWithin scripts → (limit : ℕ) (schedule : List ℕ) → is_over (replayed graph scripts limit schedule) ≡ true → Merge graph scripts limit (replayed graph scripts limit schedule).core.log (all_refused (replayed graph scripts limit schedule).threads)
replay-Merge graph g keeps scripts within limit schedule o = over-Merge graph scripts limit (replayed graph scripts limit schedule) (replay-right graph g keeps scripts within limit schedule) o

-- the last values
pub replay-values : (graph : Graph) → IsGraph graph → KeepsLawful graph → (scripts : List (List Call)) → AreWithin scripts → (limit : ℕ) (schedule : List ℕ) → is_over (replayed graph scripts limit schedule) ≡ true
    → last_values (replayed graph scripts limit schedule).core ≡ finals graph (replayed graph scripts limit schedule).core.log
replay-values graph g keeps scripts within limit schedule o = last_values-final graph (replayed graph scripts limit schedule).core (replay-right graph g keeps scripts within limit schedule).lawful (none-live (replayed graph scripts limit schedule).core.calls (and_left _ _ o))

-- the log, where that of every history is legal
pub replay-Legal : (graph : Graph) → IsGraph graph → KeepsLawful graph → ((callers limit : ℕ) (moves : List Move) → is_history graph callers limit moves ≡ true → Legal graph (state graph callers limit moves).log)
    → (scripts : List (List Call)) → AreWithin scripts → (limit : ℕ) (schedule : List ℕ) → Legal graph (replayed graph scripts limit schedule).core.log
replay-Legal graph g keeps legal scripts within limit schedule =
    let r = replay-right graph g keeps scripts within limit schedule in
    subst (λ (s : Core). Legal graph s.log) (sym r.core) (legal (length scripts) limit (replayed graph scripts limit schedule).moves r.history)
