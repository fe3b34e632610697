-- Each step and each beginning keep what a call wants, has open and has changed ascending lists with no node twice.
use Rattle.std.proofs.Common.{◌≡◌, ℕ, suc, Bool, true, false, ◌==◌, ◌⊎◌, inl, inr, refl, sym, List, [], subst, Option, Some, None}
use Rattle.std.proofs.lemmas.Bool.{eqb-true, eq-eqb, both_ways, cases_Bool}
use Rattle.signal_graph.specs.declared.call.Call.{Call}
use Rattle.signal_graph.specs.Graph.{Graph}
use Rattle.node_versions.specs.declared.entry.Entry.{Entry}
use Rattle.node_versions.specs.declared.entry.State.TheVariants.{Mark, Frame, Done}
use Rattle.node_versions.specs.Entries.{has, at, is_mark, value_before, picks_before}
use Rattle.flow_model.specs.declared.step.Step.{Step}
use Rattle.flow_model.specs.declared.step.Step.TheVariants as steps
use Rattle.flow_model.specs.Machine.Sets.{IsSet, put, take_out, without}
use Rattle.flow_model.specs.Machine.State.{Core, LiveCall, call, call_of, call_or, no_call, entries, with_cell, with_call}
use Rattle.flow_model.specs.Machine.Words.{active_outs, found_now, value_now, found_picks, next_look}
use Rattle.flow_model.specs.Machine.Changes.{enter, raise, ensure_mark, set_state, opened, closed, tell_call, is_told, add_edge}
use Rattle.flow_model.specs.Machine.Steps.{apply, begin, new_call, open_node, frame, started, counted, with_look, is_change, keep_found, look_value, nodes_set, sets_in, without_call}
use Rattle.flow_model.specs.Kept.Lawful.{IsLawful, SetsAreSets}
use Rattle.flow_model.proofs.General.Sets.{put-IsSet, take_out-IsSet, put_all-IsSet}
use Rattle.flow_model.proofs.OneList.CallsAndCells.{change_call-same, change_call-other, map_call-reads, option_call, without_call-other, without_call-same}
use Rattle.flow_model.proofs.OneStep.BegunCalls.{begin-call}

pub record HasSets (c : LiveCall) : Type 0 where
  pub wanted : IsSet c.wanted
  pub open_nodes : IsSet c.open_nodes
  pub changed : IsSet c.changed

no_call-HasSets : HasSets no_call
no_call-HasSets = record { wanted = tt; open_nodes = tt; changed = tt }

optional : (f : LiveCall → LiveCall) → ((c : LiveCall) → HasSets c → HasSets (f c)) → (o : Option LiveCall) → HasSets (call_or o) → HasSets (call_or (option_call f o))
optional f k None h = no_call-HasSets
optional f k (Some c) h = k c h

with_call-sets : (s : Core) (t : ℕ) (f : LiveCall → LiveCall) → ((c : LiveCall) → (f c).version ≡ c.version) → ((c : LiveCall) → HasSets c → HasSets (f c)) → ((u : ℕ) → HasSets (call s u)) → (u : ℕ) → HasSets (call (with_call s t f) u)
with_call-sets s t f v k h u = go (cases_Bool (u == t))
  where
    go : ((u == t) ≡ true) ⊎ ((u == t) ≡ false) → HasSets (call (with_call s t f) u)
    go (inl e) = subst (λ (w : ℕ). HasSets (call (with_call s t f) w)) (sym (eqb-true u t e)) (subst (λ (o : Option LiveCall). HasSets (call_or o)) (sym (change_call-same t f v s.calls)) (optional f k (call_of s.calls t) (h t)))
    go (inr e) = subst (λ (o : Option LiveCall). HasSets (call_or o)) (sym (change_call-other t u f v s.calls (λ x. both_ways _ e (eq-eqb u t x)))) (h u)

opened-sets : (n : ℕ) (outs : List ℕ) (c : LiveCall) → HasSets c → HasSets (opened n outs c)
opened-sets n outs c h = record { wanted = put_all-IsSet (without outs (put n c.open_nodes)) (take_out n c.wanted) (take_out-IsSet n c.wanted h.wanted); open_nodes = put-IsSet n c.open_nodes h.open_nodes; changed = h.changed }

closed-sets : (n : ℕ) (b : Bool) (c : LiveCall) → HasSets c → HasSets (closed n b c)
closed-sets n true c h = record { wanted = h.wanted; open_nodes = take_out-IsSet n c.open_nodes h.open_nodes; changed = put-IsSet n c.changed h.changed }
closed-sets n false c h = record { wanted = h.wanted; open_nodes = take_out-IsSet n c.open_nodes h.open_nodes; changed = h.changed }

told-sets : (es : List Entry) (t n : ℕ) (c : LiveCall) → HasSets c → HasSets (tell_call es t n c)
told-sets es t n c h = record { wanted = go (is_told es t n c); open_nodes = h.open_nodes; changed = h.changed }
  where
    go : (b : Bool) → IsSet (elim b as (λ _. List ℕ) [ true ↦ put n c.wanted | false ↦ c.wanted ])
    go true = put-IsSet n c.wanted h.wanted
    go false = h.wanted

same-sets : (c d : LiveCall) → d.wanted ≡ c.wanted → d.open_nodes ≡ c.open_nodes → d.changed ≡ c.changed → HasSets c → HasSets d
same-sets c d e f g h = record { wanted = subst IsSet (sym e) h.wanted; open_nodes = subst IsSet (sym f) h.open_nodes; changed = subst IsSet (sym g) h.changed }

ensured : (s : Core) (t m : ℕ) → ((u : ℕ) → HasSets (call s u)) → (u : ℕ) → HasSets (call (ensure_mark s t m) u)
ensured s t m h u = go (has (entries s m) t)
  where
    go : (b : Bool) → HasSets (call (elim b [ true ↦ s | false ↦ enter s t m Mark ]) u)
    go true = h u
    go false = h u

framed : (graph : Graph) (s : Core) (t n : ℕ) → ((u : ℕ) → HasSets (call s u)) → (u : ℕ) → HasSets (call (frame graph s t n) u)
framed graph s t n h u = go (at is_mark (entries s n) t)
  where
    go : (b : Bool) → HasSets (call (elim b [ true ↦ open_node graph (raise s t n) t n | false ↦ open_node graph (enter s t n Frame) t n ]) u)
    go true = with_call-sets (raise s t n) t _ (λ c. refl) (opened-sets n (active_outs graph (raise s t n) t n)) h u
    go false = with_call-sets (enter s t n Frame) t _ (λ c. refl) (opened-sets n (active_outs graph (enter s t n Frame) t n)) h u

step-sets : (graph : Graph) (s : Core) (step : Step) → ((u : ℕ) → HasSets (call s u)) → (u : ℕ) → HasSets (call (apply graph s step) u)
step-sets graph s (steps.Frame t n) h u = framed graph s t n h u
step-sets graph s (steps.Start t) h u = with_call-sets s t started (λ c. refl) (λ c. same-sets c (started c) refl refl refl) h u
step-sets graph s (steps.Skip t n) h u = with_call-sets (with_cell s n (set_state t (Done (value_before (entries s n) t) false (picks_before (entries s n) t)))) t (closed n false) (λ c. refl) (closed-sets n false) h u
step-sets graph s (steps.Gather t n m) h u = h u
step-sets graph s (steps.Evaluate t n) h u = with_call-sets (with_cell s n (keep_found (found_now graph s t n))) t counted (λ c. refl) (λ c. same-sets c (counted c) refl refl refl) h u
step-sets graph s (steps.Body t n) h u = h u
step-sets graph s (steps.Resolve t n) h u = with_call-sets (with_cell s n (set_state t (Done (value_now graph s t n) (is_change graph s t n) (found_picks s n)))) t (closed n (is_change graph s t n)) (λ c. refl) (closed-sets n (is_change graph s t n)) h u
step-sets graph s (steps.Discover t n c) h u =
    let q = with_cell (ensure_mark s t c) c (add_edge n t) in
    subst (λ (o : Option LiveCall). HasSets (call_or o)) (sym (map_call-reads (tell_call (entries q c) t n) (λ x. refl) q.calls u)) (optional (tell_call (entries q c) t n) (told-sets (entries q c) t n) (call_of q.calls u) (ensured s t c h u))
step-sets graph s (steps.Drop t n o) h u = ensured s t o h u
step-sets graph s (steps.Mark t m) h u = h u
step-sets graph s (steps.Look t) h u = with_call-sets s t (with_look (look_value s t (next_look s t))) (λ c. refl) (λ c. same-sets c (with_look (look_value s t (next_look s t)) c) refl refl refl) h u
step-sets graph s (steps.End t) h u = go (cases_Bool (u == t))
  where
    go : ((u == t) ≡ true) ⊎ ((u == t) ≡ false) → HasSets (call_or (call_of (without_call t s.calls) u))
    go (inl e) = subst (λ (w : ℕ). HasSets (call_or (call_of (without_call t s.calls) w))) (sym (eqb-true u t e)) (subst (λ (o : Option LiveCall). HasSets (call_or o)) (sym (without_call-same t s.calls)) no_call-HasSets)
    go (inr e) = subst (λ (o : Option LiveCall). HasSets (call_or o)) (sym (without_call-other t u s.calls (λ x. both_ways _ e (eq-eqb u t x)))) (h u)
step-sets graph s (steps.Collect n) h u = h u

before-sets : (graph : Graph) (s : Core) → IsLawful graph s → (u : ℕ) → HasSets (call s u)
before-sets graph s h u = record { wanted = h.sets_are_sets.wanted u; open_nodes = h.sets_are_sets.open_nodes u; changed = h.sets_are_sets.changed u }

pub step-SetsAreSets : (graph : Graph) (s : Core) (step : Step) → IsLawful graph s → SetsAreSets (apply graph s step)
step-SetsAreSets graph s step h =
    let k = step-sets graph s step (before-sets graph s h) in
    record { wanted = λ u. (k u).wanted; open_nodes = λ u. (k u).open_nodes; changed = λ u. (k u).changed }

begin-sets : (graph : Graph) (s : Core) → IsLawful graph s → (caller : ℕ) (c : Call) (u : ℕ) → HasSets (call (begin graph s caller c) u)
begin-sets graph s h caller c u = go (begin-call graph s h caller c u)
  where
    go : ((call_of (begin graph s caller c).calls u ≡ call_of s.calls u) × ((suc s.begun == u) ≡ false)) ⊎ ((u ≡ suc s.begun) × (call_of (begin graph s caller c).calls u ≡ Some (new_call graph s caller c))) → HasSets (call (begin graph s caller c) u)
    go (inl e) = subst (λ (o : Option LiveCall). HasSets (call_or o)) (sym e.0) (before-sets graph s h u)
    go (inr e) = subst (λ (o : Option LiveCall). HasSets (call_or o)) (sym e.1) (record { wanted = put_all-IsSet (nodes_set (sets_in graph c)) [] tt; open_nodes = tt; changed = tt })

pub begin-SetsAreSets : (graph : Graph) (s : Core) (caller : ℕ) (c : Call) → IsLawful graph s → SetsAreSets (begin graph s caller c)
begin-SetsAreSets graph s caller c h =
    let k = begin-sets graph s h caller c in
    record { wanted = λ u. (k u).wanted; open_nodes = λ u. (k u).open_nodes; changed = λ u. (k u).changed }
