-- Each step at a node's list lowers its worth: the steps that calls may still make at their entries, and one for each entry.
use Rattle.std.proofs.Common.{◌≡◌, ℕ, suc, ◌+◌, ◌≤◌, Bool, true, false, ◌&&◌, ◌||◌, not, ◌==◌, ◌⊎◌, inl, inr, refl, sym, ap, arith, List, [], ◌∷◌, length, map, true≢false, subst, Option, Some}
use Rattle.std.proofs.lemmas.Bool.{eqb-true, eq-eqb, eqb-false, false_from_ne_true, both_ways, cases_Bool}
use Rattle.std.specs.Prelude.{is_some}
use Rattle.script_tree.specs.declared.value.Value.{Value}
use Rattle.signal_graph.specs.Graph.{Graph, is_in}
use Rattle.node_versions.specs.declared.entry.State.{State}
use Rattle.node_versions.specs.declared.entry.State.TheVariants.{Mark, Frame, Done}
use Rattle.node_versions.specs.declared.entry.Entry.{Entry}
use Rattle.node_versions.specs.Entries.{has, at, is_mark, is_frame, is_done, placed, with_state, collected}
use Rattle.node_versions.proofs.KeptLemmas.{length-with_state}
use Rattle.node_versions.proofs.Places.{at-has}
use Rattle.flow_model.specs.Machine.State.{Core, LiveCall, call_of, live, ended, entries}
use Rattle.flow_model.specs.Machine.Changes.{stops, stops_call, new_entry}
use Rattle.flow_model.specs.Machine.Words.{at_front}
use Rattle.flow_model.specs.Kept.Lawful.{IsLawful}
use Rattle.flow_model.proofs.OneStep.WhoMayStep.{executes-live, at_front-executes, at_front-heads}
use Rattle.flow_model.proofs.OneList.InOrder.{on_calls}
use Rattle.flow_model.proofs.OneList.StatesAndPlaces.{with_state-at}
use Rattle.flow_model.proofs.OneList.OneEntryACall.{placed-at_other, placed-at, placed-length, collected-at_live}
use Rattle.flow_model.proofs.OneStep.VersionsStayFresh.{live-in}
use Rattle.flow_model.proofs.Wants.FramedWith.{opens-frame, heads-opens}
use Rattle.flow_model.proofs.Reactions.RunsThatHaveEnded.{not_both}
use Rattle.flow_model.proofs.General.Sums.{total, total-le_in, total-falls}

-- the versions of the live calls
abbrev pub live_versions : Core → List ℕ
live_versions s = map (λ (c : LiveCall). c.version) s.calls

in-live : (cs : List LiveCall) (v : ℕ) → is_in v (map (λ (c : LiveCall). c.version) cs) ≡ true → is_some (call_of cs v) ≡ true
in-live [] v h = absurd (true≢false (sym h))
in-live (c ∷ cs) v h = go (c.version == v) h (in-live cs v)
  where
    go : (b : Bool) → (b || is_in v (map (λ (x : LiveCall). x.version) cs)) ≡ true → (is_in v (map (λ (x : LiveCall). x.version) cs) ≡ true → is_some (call_of cs v) ≡ true) → is_some (elim b as (λ _. Option LiveCall) [ true ↦ Some c | false ↦ call_of cs v ]) ≡ true
    go true k further = refl
    go false k further = further k

-- ---- what an entry is worth

-- by whether it is a Done, a Frame or a Mark: a Frame is worth k, and an entry to come most
abbrev pub weigh : ℕ → Bool → Bool → Bool → ℕ
weigh k true f m = 0
weigh k false true m = k
weigh k false false true = k + 1
weigh k false false false = k + 3

abbrev pub weight : ℕ → List Entry → ℕ → ℕ
weight k es t = weigh k (at is_done es t) (at is_frame es t) (at is_mark es t)

pub weigh-most : (k : ℕ) (d f m : Bool) → weigh k d f m ≤ k + 3
weigh-most k true f m = omega arith
weigh-most k false true m = omega arith
weigh-most k false false true = omega arith
weigh-most k false false false = omega arith

weigh-same : (k : ℕ) (d f m d2 f2 m2 : Bool) → d ≡ d2 → f ≡ f2 → m ≡ m2 → weigh k d f m ≡ weigh k d2 f2 m2
weigh-same k d f m d2 f2 m2 x y z = cc

weight-same : (k : ℕ) (es es2 : List Entry) (t : ℕ) → ((test : State → Bool) → at test es2 t ≡ at test es t) → weight k es2 t ≡ weight k es t
weight-same k es es2 t h = weigh-same k _ _ _ _ _ _ (h is_done) (h is_frame) (h is_mark)

-- a state that is no Done
state-weight : (k : ℕ) (x : State) → is_done x ≡ false → weigh k (is_done x) (is_frame x) (is_mark x) ≤ k + 1
state-weight k Mark h = omega arith
state-weight k Frame h = omega arith
state-weight k (Done v c ps) h = absurd (true≢false h)

none-weight : (k : ℕ) (es : List Entry) (t : ℕ) → has es t ≡ false → weight k es t ≡ k + 3
none-weight k es t h = weigh-same k _ _ _ false false false (none is_done) (none is_frame) (none is_mark)
  where
    none : (test : State → Bool) → at test es t ≡ false
    none test = false_from_ne_true _ (λ y. both_ways _ h (at-has test es t y))

marked : (es : List Entry) (t : ℕ) → at is_mark es t ≡ true → (at is_done es t ≡ false) × (at is_frame es t ≡ false)
marked [] t h = absurd (true≢false (sym h))
marked (e ∷ es) t h = let r = marked es t in let s = one e.state in (grind (arith, h, r, s), grind (arith, h, r, s))
  where
    one : (x : State) → is_mark x ≡ true → (is_done x ≡ false) × (is_frame x ≡ false)
    one Mark h = (refl, refl)
    one Frame h = absurd (true≢false (sym h))
    one (Done v c ps) h = absurd (true≢false (sym h))

pub frame-weight : (k : ℕ) (es : List Entry) (t : ℕ) → at is_frame es t ≡ true → weight k es t ≡ k
frame-weight k es t h = weigh-same k _ _ _ false true (at is_mark es t) (not_both es t h) h refl

mark-weight : (k : ℕ) (es : List Entry) (t : ℕ) → at is_mark es t ≡ true → weight k es t ≡ k + 1
mark-weight k es t h = let m = marked es t h in weigh-same k _ _ _ false false true m.0 m.1 h

-- ---- what a list is worth

abbrev pub list_worth : ℕ → List ℕ → List Entry → ℕ
list_worth k vs es = length es + total (weight k es) vs

placed-worth : (k : ℕ) (vs : List ℕ) (stops : ℕ → Bool) (e : Entry) (es : List Entry) → is_done e.state ≡ false → has es e.version ≡ false → is_in e.version vs ≡ true → list_worth k vs (placed (on_calls stops) e es) + 1 ≤ list_worth k vs es
placed-worth k vs stops e es d h i = ended (placed-length stops e es) (total-falls (weight k qs) (weight k es) 2 e.version vs i (λ v j. below v (cases_Bool (v == e.version))) own)
  where
    qs : List Entry
    qs = placed (on_calls stops) e es

    own : weight k qs e.version + 2 ≤ weight k es e.version
    own =
        let a = weigh-same k _ _ _ _ _ _ (placed-at is_done stops e es h) (placed-at is_frame stops e es h) (placed-at is_mark stops e es h) in
        let b = state-weight k e.state d in
        let c = none-weight k es e.version h in
        omega (arith, a, b, c)

    below : (v : ℕ) → ((v == e.version) ≡ true) ⊎ ((v == e.version) ≡ false) → weight k qs v ≤ weight k es v
    below v (inl x) = subst (λ (w : ℕ). weight k qs w ≤ weight k es w) (sym (eqb-true v e.version x)) (let o = own in omega (arith, o))
    below v (inr x) = let r = weight-same k es qs v (λ test. placed-at_other test stops e es v (eqb-false v e.version x)) in omega (arith, r)

    ended : length qs ≡ suc (length es) → total (weight k qs) vs + 2 ≤ total (weight k es) vs → list_worth k vs qs + 1 ≤ list_worth k vs es
    ended a b = omega (arith, a, b)

-- a call's entry gets another state
changed-worth : (k b : ℕ) (vs : List ℕ) (t : ℕ) (x : State) (es : List Entry) → is_in t vs ≡ true → weight k (with_state t x es) t + b ≤ weight k es t → list_worth k vs (with_state t x es) + b ≤ list_worth k vs es
changed-worth k b vs t x es i d = ended (length-with_state t x es) (total-falls (weight k qs) (weight k es) b t vs i (λ v j. below v (cases_Bool (v == t))) d)
  where
    qs : List Entry
    qs = with_state t x es

    below : (v : ℕ) → ((v == t) ≡ true) ⊎ ((v == t) ≡ false) → weight k qs v ≤ weight k es v
    below v (inl e) = subst (λ (w : ℕ). weight k qs w ≤ weight k es w) (sym (eqb-true v t e)) (omega (arith, d))
    below v (inr e) = let r = weight-same k es qs v (λ test. let w = with_state-at test t x es v in rw e at w) in omega (arith, r)

    ended : length qs ≡ length es → total (weight k qs) vs + b ≤ total (weight k es) vs → list_worth k vs qs + b ≤ list_worth k vs es
    ended a c = omega (arith, a, c)

own-state : (test : State → Bool) (t : ℕ) (x : State) (es : List Entry) → has es t ≡ true → at test (with_state t x es) t ≡ test x
own-state test t x es h = let w = with_state-at test t x es t in let e = eq-eqb t t refl in shown (t == t) (has es t) _ (test x) _ w e h
  where
    shown : (b c a p q : Bool) → a ≡ elim b as (λ _. Bool) [ true ↦ c && p | false ↦ q ] → b ≡ true → c ≡ true → a ≡ p
    shown b c a p q h j i = grind (arith, h, j, i)

raised-worth : (k : ℕ) (vs : List ℕ) (t : ℕ) (es : List Entry) → is_in t vs ≡ true → at is_mark es t ≡ true → list_worth k vs (with_state t Frame es) + 1 ≤ list_worth k vs es
raised-worth k vs t es i m =
    let there = at-has is_mark es t m in
    let a = frame-weight k (with_state t Frame es) t (own-state is_frame t Frame es there) in
    let b = mark-weight k es t m in
    changed-worth k 1 vs t Frame es i (omega (arith, a, b))

finished-worth : (k : ℕ) (vs : List ℕ) (t : ℕ) (v : Value) (c : Bool) (ps : List (Option ℕ)) (es : List Entry) → is_in t vs ≡ true → at is_frame es t ≡ true → list_worth k vs (with_state t (Done v c ps) es) + k ≤ list_worth k vs es
finished-worth k vs t v c ps es i f =
    let there = at-has is_frame es t f in
    let a = weigh-same k _ _ _ true false false (own-state is_done t (Done v c ps) es there) (own-state is_frame t (Done v c ps) es there) (own-state is_mark t (Done v c ps) es there) in
    let b = frame-weight k es t f in
    changed-worth k k vs t (Done v c ps) es i (omega (arith, a, b))

collected-weights : (k : ℕ) (vs : List ℕ) (p : ℕ → Bool) (es : List Entry) → ((v : ℕ) → is_in v vs ≡ true → p v ≡ false) → total (weight k (collected (on_calls p) es)) vs ≤ total (weight k es) vs
collected-weights k vs p es h = total-le_in (weight k (collected (on_calls p) es)) (weight k es) vs (λ v i. let r = weight-same k es (collected (on_calls p) es) v (λ test. collected-at_live test p es v (h v i)) in omega (arith, r))

-- ---- what a step at a list lowers

live-known : (s : Core) (t : ℕ) → live s t ≡ true → is_in t (live_versions s) ≡ true
live-known s t l = live-in s.calls t l

known-live : (s : Core) (v : ℕ) → is_in v (live_versions s) ≡ true → not (live s v) ≡ false
known-live s v i = ap not (in-live s.calls v i)

pub placed-lowers : (k : ℕ) (s : Core) (n t : ℕ) (x : State) → is_done x ≡ false → live s t ≡ true → has (entries s n) t ≡ false → list_worth k (live_versions s) (placed (stops s t) (new_entry s t x) (entries s n)) + 1 ≤ list_worth k (live_versions s) (entries s n)
placed-lowers k s n t x d l h = placed-worth k (live_versions s) (stops_call s t) (new_entry s t x) (entries s n) d h (live-known s t l)

pub raised-lowers : (k : ℕ) (s : Core) (n t : ℕ) → live s t ≡ true → at is_mark (entries s n) t ≡ true → list_worth k (live_versions s) (with_state t Frame (entries s n)) + 1 ≤ list_worth k (live_versions s) (entries s n)
raised-lowers k s n t l m = raised-worth k (live_versions s) t (entries s n) (live-known s t l) m

pub collected-lowers : (k : ℕ) (s : Core) (n b : ℕ) → length (collected (ended s) (entries s n)) + b ≤ length (entries s n) → list_worth k (live_versions s) (collected (ended s) (entries s n)) + b ≤ list_worth k (live_versions s) (entries s n)
collected-lowers k s n b h = let w = collected-weights k (live_versions s) (λ v. not (live s v)) (entries s n) (known-live s) in omega (arith, w, h)

pub finished-lowers : (graph : Graph) (k : ℕ) (s : Core) → IsLawful graph s → (n t : ℕ) (v : Value) (c : Bool) (ps : List (Option ℕ)) → at_front graph s t n ≡ true → list_worth k (live_versions s) (with_state t (Done v c ps) (entries s n)) + k ≤ list_worth k (live_versions s) (entries s n)
finished-lowers graph k s h n t v c ps f = finished-worth k (live_versions s) t v c ps (entries s n) (live-known s t (executes-live s t (at_front-executes graph s t n f))) (opens-frame graph s h t n (heads-opens graph s h t n (at_front-heads graph s t n f)))
