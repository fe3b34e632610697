-- The last Dones of the ended calls stay the one-thread machine's.
use Rattle.std.proofs.Common.{◌≡◌, ℕ, suc, ◌<◌, Bool, true, false, not, ◌==◌, ◌⊎◌, inl, inr, refl, sym, ap, arith, List, [], ◌∷◌, ◌++◌, length, ◌∙◌, subst, Option, Some, None}
use Rattle.std.proofs.lemmas.Bool.{eqb-true, both_ways}
use Rattle.std.specs.Prelude.{is_some}
use Rattle.std.specs.Prelude.{filter, if◌then◌else◌}
use Rattle.std.specs.List.{cons_option}
use Rattle.signal_graph.specs.declared.call.Call.{Call}
use Rattle.signal_graph.specs.declared.log.Logged.{Logged}
use Rattle.signal_graph.specs.Graph.{Graph, IsGraph}
use Rattle.signal_graph.specs.Values.{val, picks}
use Rattle.signal_graph.specs.Legal.{state_after}
use Rattle.node_versions.specs.declared.entry.State.{State}
use Rattle.node_versions.specs.declared.entry.State.TheVariants.{Mark, Frame, Done}
use Rattle.node_versions.specs.declared.entry.Entry.{Entry}
use Rattle.node_versions.specs.Entries.{has, at, is_mark, front, rest, with_state, last_done, only_done, collected, state_of, value_of, picks_of, value_before, picks_before}
use Rattle.node_versions.proofs.Collecting.{last_is_done}
use Rattle.flow_model.specs.declared.step.Step.{Step}
use Rattle.flow_model.specs.declared.step.Step.TheVariants as steps
use Rattle.flow_model.specs.Machine.State.{Core, LiveCall, call_of, live, ended, entries, with_cell}
use Rattle.script_tree.specs.declared.value.Value.{Value}
use Rattle.flow_model.specs.Machine.Words.{active_outs, found_now, value_now, found_picks, next_look}
use Rattle.flow_model.specs.Machine.Changes.{stops, stops_call, new_entry, enter, raise, ensure_mark, opened, closed, finish, set_state, tell, tell_call, add_edge}
use Rattle.flow_model.specs.Machine.Steps.{allowed, apply, begin, frame, open_node, new_call, started, counted, keep_found, with_look, look_value, is_change}
use Rattle.flow_model.specs.Kept.Lawful.{IsLawful, EndedIsMachine, last_ended}
use Rattle.flow_model.proofs.OneStep.WhoMayStep.{executes-live, wants-live, at_front-executes}
use Rattle.flow_model.proofs.OneList.InOrder.{on_calls, front-rest, last_done-has, filter-has}
use Rattle.flow_model.proofs.OneStep.ChangesOfOneList.{ListStep, stays, marks, frames, raises, finishes, collects, step-list}
use Rattle.flow_model.proofs.OneList.CallsAndCells.{with_call-live, map_call-live}
use Rattle.flow_model.proofs.OneStep.SameLengths.{step-parts}
use Rattle.flow_model.proofs.OrderStays.AfterEachStep.{not_begun-entry, ensure_mark-log, frame-log}
use Rattle.flow_model.proofs.OneStep.BegunCalls.{begin-call}
use Rattle.flow_model.proofs.Ended.AfterEnd.{MachineLaws, end-EndedIsMachine}
use Rattle.flow_model.proofs.Ended.WhoEndsIsFirst.{filter-alike}

-- ---- the log

-- ---- which calls live

ensured-lives : (s : Core) (t m : ℕ) → live (ensure_mark s t m) ≡ live s
ensured-lives s t m = go (has (entries s m) t)
  where
    go : (b : Bool) → live (elim b as (λ _. Core) [ true ↦ s | false ↦ enter s t m Mark ]) ≡ live s
    go true = refl
    go false = refl

framed-lives : (graph : Graph) (s : Core) (t n : ℕ) → live (frame graph s t n) ≡ live s
framed-lives graph s t n = go (at is_mark (entries s n) t)
  where
    go : (b : Bool) → live (elim b as (λ _. Core) [ true ↦ open_node graph (raise s t n) t n | false ↦ open_node graph (enter s t n Frame) t n ]) ≡ live s
    go true = with_call-live (raise s t n) t (opened n (active_outs graph (raise s t n) t n)) (λ c. refl)
    go false = with_call-live (enter s t n Frame) t (opened n (active_outs graph (enter s t n Frame) t n)) (λ c. refl)

finished-lives : (s : Core) (t n : ℕ) (v : Value) (b : Bool) (ps : List (Option ℕ)) → live (finish s t n v b ps) ≡ live s
finished-lives s t n v b ps = with_call-live (with_cell s n (set_state t (Done v b ps))) t (closed n b) (λ c. refl)

told-lives : (s : Core) (t n c : ℕ) → live (tell (with_cell (ensure_mark s t c) c (add_edge n t)) t n c) ≡ live s
told-lives s t n c = let q = with_cell (ensure_mark s t c) c (add_edge n t) in map_call-live q (tell_call (entries q c) t n) (λ x. refl) ∙ ensured-lives s t c

-- ---- what ended calls have in a list

more-filter : (p : ℕ → Bool) (xs ys : List Entry) (e : Entry) → p e.version ≡ false → filter (on_calls p) (xs ++ e ∷ ys) ≡ filter (on_calls p) (xs ++ ys)
more-filter p [] ys e k = rw k refl
more-filter p (x ∷ xs) ys e k = let r = more-filter p xs ys e k in grind (arith, r)

state-filter : (p : ℕ → Bool) (t : ℕ) (x : State) (es : List Entry) → p t ≡ false → filter (on_calls p) (with_state t x es) ≡ filter (on_calls p) es
state-filter p t x [] k = refl
state-filter p t x (e ∷ es) k = go (e.version == t) refl (p e.version) refl (state-filter p t x es k)
  where
    go : (b : Bool) → (e.version == t) ≡ b → (c : Bool) → p e.version ≡ c → filter (on_calls p) (with_state t x es) ≡ filter (on_calls p) es
        → filter (on_calls p) (elim b as (λ _. List Entry) [ true ↦ record e { state = x } ∷ es | false ↦ e ∷ with_state t x es ]) ≡ filter (on_calls p) (e ∷ es)
    go true y c z r = let n : p e.version ≡ false = subst (λ (w : ℕ). p w ≡ false) (sym (eqb-true e.version t y)) k in rw n refl
    go false y true z r = rw z (ap (λ (xs : List Entry). e ∷ xs) r)
    go false y false z r = rw z r

other-filter : (p : ℕ → Bool) (es : List Entry) → filter (on_calls p) (filter (on_calls (λ v. not (p v))) es) ≡ []
other-filter p [] = refl
other-filter p (e ∷ es) = go (p e.version) refl (other-filter p es)
  where
    others : List Entry
    others = filter (on_calls (λ v. not (p v))) es

    go : (b : Bool) → p e.version ≡ b → filter (on_calls p) others ≡ [] → filter (on_calls p) (if not b then e ∷ others else others) ≡ []
    go true y r = r
    go false y r = rw y r

collected-last : (p : ℕ → Bool) (es : List Entry) → last_done (filter (on_calls p) (collected (on_calls p) es)) ≡ last_done (filter (on_calls p) es)
collected-last p es = go (last_done (filter (on_calls p) es)) refl
  where
    others : List Entry
    others = filter (on_calls (λ v. not (p v))) es

    go : (o : Option Entry) → last_done (filter (on_calls p) es) ≡ o → last_done (filter (on_calls p) (cons_option o others)) ≡ o
    go None e = ap last_done (other-filter p es)
    go (Some x) e =
        let passes = (filter-has p es x.version (last_done-has (filter (on_calls p) es) x e)).1 in
        let d = last_is_done (filter (on_calls p) es) x e in
        let only : only_done x ≡ Some x = rw (d, only_done) refl in
        rw passes (ap (λ (xs : List Entry). last_done (x ∷ xs)) (other-filter p es) ∙ only)

-- A step leaves the last Done of the ended calls.
kept-last : (graph : Graph) (s : Core) (n : ℕ) (es : List Entry) → ListStep graph s n es → last_done (filter (ended s) es) ≡ last_done (filter (ended s) (entries s n))
kept-last graph s n es (stays e) = ap (λ (xs : List Entry). last_done (filter (ended s) xs)) e
kept-last graph s n es (marks t x fresh r e) = ap (λ (xs : List Entry). last_done (filter (ended s) xs)) e
    ∙ ap last_done (more-filter (λ v. not (live s v)) (front (stops s t) (entries s n)) (rest (stops s t) (entries s n)) (new_entry s t Mark) (ap not (executes-live s t x)))
    ∙ ap (λ (xs : List Entry). last_done (filter (ended s) xs)) (front-rest (stops_call s t) (entries s n))
kept-last graph s n es (frames t w fresh r e) = ap (λ (xs : List Entry). last_done (filter (ended s) xs)) e
    ∙ ap last_done (more-filter (λ v. not (live s v)) (front (stops s t) (entries s n)) (rest (stops s t) (entries s n)) (new_entry s t Frame) (ap not (wants-live s t n w)))
    ∙ ap (λ (xs : List Entry). last_done (filter (ended s) xs)) (front-rest (stops_call s t) (entries s n))
kept-last graph s n es (raises t w m e) = ap (λ (xs : List Entry). last_done (filter (ended s) xs)) e ∙ ap last_done (state-filter (λ v. not (live s v)) t Frame (entries s n) (ap not (wants-live s t n w)))
kept-last graph s n es (finishes t v c ps f e) = ap (λ (xs : List Entry). last_done (filter (ended s) xs)) e
    ∙ ap last_done (state-filter (λ v. not (live s v)) t (Done v c ps) (entries s n) (ap not (executes-live s t (at_front-executes graph s t n f))))
kept-last graph s n es (collects e) = ap (λ (xs : List Entry). last_done (filter (ended s) xs)) e ∙ collected-last (λ v. not (live s v)) (entries s n)

-- the same calls live, and the log and the last Dones of ended calls are as before
kept-machine : (graph : Graph) (s q : Core) → EndedIsMachine graph s → q.log ≡ s.log → length q.cells ≡ length s.cells → ((n : ℕ) → last_ended q n ≡ last_ended s n) → EndedIsMachine graph q
kept-machine graph s q m e c l = record {
  value = λ n k. ap (λ (o : Option Entry). value_of (state_of o)) (l n) ∙ m.value n (subst (λ (j : ℕ). n < j) c k) ∙ ap (λ (log : List Logged). val graph (state_after graph log) n) (sym e);
  picks = λ n k. ap (λ (o : Option Entry). picks_of (state_of o)) (l n) ∙ m.picks n (subst (λ (j : ℕ). n < j) c k) ∙ ap (λ (log : List Logged). picks graph (state_after graph log) n) (sym e);
}

same-step : (graph : Graph) (s : Core) (step : Step) → IsLawful graph s → allowed graph s step ≡ true → live (apply graph s step) ≡ live s → (apply graph s step).log ≡ s.log → EndedIsMachine graph (apply graph s step)
same-step graph s step h a l e = kept-machine graph s (apply graph s step) h.ended_is_machine e (step-parts graph s step).cells
    (λ n. ap (λ (f : ℕ → Bool). last_done (filter (λ (x : Entry). not (f x.version)) (entries (apply graph s step) n))) l ∙ kept-last graph s n (entries (apply graph s step) n) (step-list graph s step h a n))

pub step-EndedIsMachine : (graph : Graph) → IsGraph graph → MachineLaws graph → (s : Core) (step : Step) → IsLawful graph s → allowed graph s step ≡ true → EndedIsMachine graph (apply graph s step)
step-EndedIsMachine graph g laws s (steps.Frame t n) h a = same-step graph s (steps.Frame t n) h a (framed-lives graph s t n) (frame-log graph s t n)
step-EndedIsMachine graph g laws s (steps.Start t) h a = same-step graph s (steps.Start t) h a (with_call-live s t started (λ c. refl)) refl
step-EndedIsMachine graph g laws s (steps.Skip t n) h a = same-step graph s (steps.Skip t n) h a (finished-lives s t n (value_before (entries s n) t) false (picks_before (entries s n) t)) refl
step-EndedIsMachine graph g laws s (steps.Gather t n m) h a = same-step graph s (steps.Gather t n m) h a refl refl
step-EndedIsMachine graph g laws s (steps.Evaluate t n) h a = same-step graph s (steps.Evaluate t n) h a (with_call-live (with_cell s n (keep_found (found_now graph s t n))) t counted (λ c. refl)) refl
step-EndedIsMachine graph g laws s (steps.Body t n) h a = same-step graph s (steps.Body t n) h a refl refl
step-EndedIsMachine graph g laws s (steps.Resolve t n) h a = same-step graph s (steps.Resolve t n) h a (finished-lives s t n (value_now graph s t n) (is_change graph s t n) (found_picks s n)) refl
step-EndedIsMachine graph g laws s (steps.Discover t n c) h a = same-step graph s (steps.Discover t n c) h a (told-lives s t n c) (ensure_mark-log s t c)
step-EndedIsMachine graph g laws s (steps.Drop t n o) h a = same-step graph s (steps.Drop t n o) h a (ensured-lives s t o) (ensure_mark-log s t o)
step-EndedIsMachine graph g laws s (steps.Mark t m) h a = same-step graph s (steps.Mark t m) h a refl refl
step-EndedIsMachine graph g laws s (steps.Look t) h a = same-step graph s (steps.Look t) h a (with_call-live s t (with_look (look_value s t (next_look s t))) (λ c. refl)) refl
step-EndedIsMachine graph g laws s (steps.End t) h a = end-EndedIsMachine graph g laws s h t a
step-EndedIsMachine graph g laws s (steps.Collect n) h a = same-step graph s (steps.Collect n) h a refl refl

-- ---- a call begins

pub begin-EndedIsMachine : (graph : Graph) (s : Core) (caller : ℕ) (c : Call) → IsLawful graph s → EndedIsMachine graph (begin graph s caller c)
begin-EndedIsMachine graph s caller c h = kept-machine graph s (begin graph s caller c) h.ended_is_machine refl refl (λ n. ap last_done (filter-alike (λ v. not (live (begin graph s caller c) v)) (λ v. not (live s v)) (entries s n) (λ v k. other n v k (begin-call graph s h caller c v))))
  where
    other : (n v : ℕ) → has (entries s n) v ≡ true → ((call_of (begin graph s caller c).calls v ≡ call_of s.calls v) × ((suc s.begun == v) ≡ false)) ⊎ ((v ≡ suc s.begun) × (call_of (begin graph s caller c).calls v ≡ Some (new_call graph s caller c))) → not (live (begin graph s caller c) v) ≡ not (live s v)
    other n v k (inl e) = ap (λ (o : Option LiveCall). not (is_some o)) e.0
    other n v k (inr e) = absurd (both_ways _ (not_begun-entry graph s h n) (subst (λ (w : ℕ). has (entries s n) w ≡ true) e.0 k))
