-- By slots it comes out the same which call stops another, precedes it, frames before it or wants its node.
use Rattle.std.proofs.Common.{◌≡◌, ℕ, Bool, true, false, not, ◌&&◌, ◌||◌, ◌==◌, ◌⊎◌, inl, inr, refl, sym, ap, arith, List, [], ◌∷◌, ◌++◌, map, filter, if◌then◌else◌, true≢false, ◌∙◌, subst, Option, Some}
use Rattle.std.proofs.lemmas.Bool.{or_cases, or_left, or_right, and_parts, and_from, eq-eqb}
use Rattle.std.specs.Prelude.{is_some}
use Rattle.std.specs.List.{list_any, AllByRecursion, cons_option}
use Rattle.std.specs.Cmp.{both_ways}
use Rattle.signal_graph.specs.Graph.{Graph, is_in}
use Rattle.order_graph.specs.declared.pair.Pair.{Pair}
use Rattle.order_graph.specs.Order.{is_recorded, reaches}
use Rattle.node_versions.specs.declared.entry.Entry.{Entry}
use Rattle.node_versions.specs.Entries.{front, rest, placed, collected, last_done}
use Rattle.flow_model.specs.Machine.State.{Core, LiveCall, call_of, call_or, live, ended, entries, precedes}
use Rattle.flow_model.specs.Machine.Words.{pressed, presses}
use Rattle.flow_model.specs.Machine.Changes.{stops}
use Rattle.flow_model.specs.Machine.Steps.{any_before, any_framing_before, is_framing_before}
use Rattle.flow_model.specs.Kept.Lawful.{IsLawful, AreDistinct, HasSlot}
use Rattle.flow_model.specs.Parts.SlotPairs.{renamed, slot_of, slot_pairs, stops_by_slot, ended_by_slot, any_before_by_slot, recorded_by_slot, is_framing_before_by_slot, presses_by_slot}
use Rattle.flow_model.proofs.OneStep.VersionsStayFresh.{call-version, tail-distinct}
use Rattle.flow_model.proofs.OneStep.BegunCalls.{calls-distinct, reads-in}
use Rattle.flow_model.proofs.General.Pigeons.{read-tail}
use Rattle.flow_model.proofs.Slots.PairsBySlot.{EndsPass, KeepsApart, same-test, ends-live, slots-apart, slots-is_recorded, slots-reaches, entry-lives, stops-by_slot}
use Rattle.flow_model.proofs.Together.NeverStuck.{any-passes}

-- ---- tests that agree on each entry of a list

abbrev SameOn : (Entry → Bool) → (Entry → Bool) → List Entry → Type 0
SameOn f g es = AllByRecursion (λ (e : Entry). f e ≡ g e) es

placed-alike : (f g : Entry → Bool) (new : Entry) (es : List Entry) → SameOn f g es → placed f new es ≡ placed g new es
placed-alike f g new es h = λ i. (fronts es h i) ++ new ∷ (rests es h i)
  where
    fronts : (es : List Entry) → SameOn f g es → front f es ≡ front g es
    fronts [] h = refl
    fronts (e ∷ es) h = let a = h.0 in let r = fronts es h.1 in λ i. elim (a i) as (λ _. List Entry) [ true ↦ [] | false ↦ e ∷ (r i) ]

    rests : (es : List Entry) → SameOn f g es → rest f es ≡ rest g es
    rests [] h = refl
    rests (e ∷ es) h = let a = h.0 in let r = rests es h.1 in λ i. elim (a i) as (λ _. List Entry) [ true ↦ e ∷ es | false ↦ (r i) ]

collected-alike : (f g : Entry → Bool) (es : List Entry) → SameOn f g es → collected f es ≡ collected g es
collected-alike f g es h = λ i. cons_option (last_done (those es h i)) (others es h i)
  where
    those : (es : List Entry) → SameOn f g es → filter f es ≡ filter g es
    those [] h = refl
    those (e ∷ es) h = let a = h.0 in let r = those es h.1 in λ i. if (a i) then (e ∷ (r i)) else (r i)

    others : (es : List Entry) → SameOn f g es → filter (λ e. not (f e)) es ≡ filter (λ e. not (g e)) es
    others [] h = refl
    others (e ∷ es) h = let a = h.0 in let r = others es h.1 in λ i. if (not (a i)) then (e ∷ (r i)) else (r i)

each : (P Q : Entry → Type 0) → ((e : Entry) → P e → Q e) → (es : List Entry) → AllByRecursion P es → AllByRecursion Q es
each P Q f [] h = tt
each P Q f (e ∷ es) h = (f e h.0, each P Q f es h.1)

-- A live call's place in a list is found by slots.
pub placed-by_slot : (graph : Graph) (s : Core) → IsLawful graph s → (t n : ℕ) (new : Entry) → live s t ≡ true → placed (stops_by_slot s t) new (entries s n) ≡ placed (stops s t) new (entries s n)
placed-by_slot graph s h t n new lt = placed-alike (stops_by_slot s t) (stops s t) new (entries s n) (each (HasSlot s) (λ e. stops_by_slot s t e ≡ stops s t e) (λ e p. stops-by_slot graph s h t e lt p) (entries s n) (h.entries_have_slots n))

-- What Collect leaves is found by slots.
pub collected-by_slot : (graph : Graph) (s : Core) → IsLawful graph s → (n : ℕ) → collected (ended_by_slot s) (entries s n) ≡ collected (ended s) (entries s n)
collected-by_slot graph s h n = collected-alike (ended_by_slot s) (ended s) (entries s n) (each (HasSlot s) (λ e. ended_by_slot s e ≡ ended s e) (λ e p. ap not (entry-lives s e p)) (entries s n) (h.entries_have_slots n))

-- ---- each live call is the one of its version

own-calls : (cs all : List LiveCall) → AreDistinct (map (λ (c : LiveCall). c.version) cs) → ((v : ℕ) → is_some (call_of cs v) ≡ true → call_of all v ≡ call_of cs v) → AllByRecursion (λ (c : LiveCall). call_of all c.version ≡ Some c) cs
own-calls [] all d f = tt
own-calls (c ∷ cs) all d f = (f c.version (ap is_some own) ∙ own, own-calls cs all (tail-distinct c.version (map (λ (c : LiveCall). c.version) cs) d) (λ v k. let r = read-tail c cs v d k in f v (ap is_some r ∙ k) ∙ r))
  where
    own : call_of (c ∷ cs) c.version ≡ Some c
    own = let e = eq-eqb c.version c.version refl in rw (e, call_of) refl

pub calls-own : (graph : Graph) (s : Core) → IsLawful graph s → AllByRecursion (λ (c : LiveCall). call_of s.calls c.version ≡ Some c) s.calls
calls-own graph s h = own-calls s.calls s.calls (calls-distinct s h.versions_are_fresh) (λ v k. refl)

any-same : (f g : LiveCall → Bool) (cs : List LiveCall) → AllByRecursion (λ (c : LiveCall). f c ≡ g c) cs → list_any f cs ≡ list_any g cs
any-same f g [] h = refl
any-same f g (c ∷ cs) h = let a = h.0 in let r = any-same f g cs h.1 in λ i. (a i) || (r i)

pub each-call : (P Q : LiveCall → Type 0) → ((c : LiveCall) → P c → Q c) → (cs : List LiveCall) → AllByRecursion P cs → AllByRecursion Q cs
each-call P Q f [] h = tt
each-call P Q f (c ∷ cs) h = (f c h.0, each-call P Q f cs h.1)

pub recorded-one : (graph : Graph) (s : Core) → IsLawful graph s → (t : ℕ) → live s t ≡ true → (c : LiveCall) → call_of s.calls c.version ≡ Some c → recorded_by_slot s t c ≡ is_recorded s.pairs c.version t
recorded-one graph s h t lt c e =
    let slot : slot_of s c.version ≡ c.slot = ap (λ (o : Option LiveCall). (call_or o).slot) e in
    ap (λ (a : ℕ). is_recorded (slot_pairs s) a (slot_of s t)) (sym slot) ∙ slots-is_recorded graph s h c.version t (ap is_some e) lt

pub framing-one : (graph : Graph) (s : Core) → IsLawful graph s → (t : ℕ) → live s t ≡ true → (c : LiveCall) → call_of s.calls c.version ≡ Some c → is_framing_before_by_slot s t c ≡ is_framing_before s t c
framing-one graph s h t lt c e = ap (λ (b : Bool). not c.executing && b) (recorded-one graph s h t lt c e)

pub presses-one : (graph : Graph) (s : Core) → IsLawful graph s → (t n : ℕ) → live s t ≡ true → (c : LiveCall) → call_of s.calls c.version ≡ Some c → presses_by_slot s t n c ≡ presses s t n c
presses-one graph s h t n lt c e =
    let slot : slot_of s c.version ≡ c.slot = ap (λ (o : Option LiveCall). (call_or o).slot) e in
    let r = ap (λ (a : ℕ). reaches (slot_pairs s) (slot_of s t) a) (sym slot) ∙ slots-reaches graph s h t c.version lt (ap is_some e) in
    let p : reaches (slot_pairs s) (slot_of s t) c.slot ≡ precedes s t c.version = r ∙ lives (live s t) (reaches s.pairs t c.version) lt ∙ ap (λ (b : Bool). reaches s.pairs t c.version || (not (live s t) && b)) (sym (ap is_some e)) in
    ap (λ (b : Bool). c.executing && b && is_in n c.wanted) p
  where
    lives : (l a : Bool) → l ≡ true → a ≡ (a || (not l && true))
    lives l a e = grind (arith, e)

-- Whether a framing call is a direct predecessor is told by slots.
pub framing-by_slot : (graph : Graph) (s : Core) → IsLawful graph s → (t : ℕ) → live s t ≡ true → list_any (is_framing_before_by_slot s t) s.calls ≡ any_framing_before s t
framing-by_slot graph s h t lt = any-same (is_framing_before_by_slot s t) (is_framing_before s t) s.calls (each-call (λ c. call_of s.calls c.version ≡ Some c) (λ c. is_framing_before_by_slot s t c ≡ is_framing_before s t c) (framing-one graph s h t lt) s.calls (calls-own graph s h))

-- Whether a later executing call wants a node is told by slots.
pub pressed-by_slot : (graph : Graph) (s : Core) → IsLawful graph s → (t n : ℕ) → live s t ≡ true → list_any (presses_by_slot s t n) s.calls ≡ pressed s t n
pressed-by_slot graph s h t n lt = any-same (presses_by_slot s t n) (presses s t n) s.calls (each-call (λ c. call_of s.calls c.version ≡ Some c) (λ c. presses_by_slot s t n c ≡ presses s t n c) (presses-one graph s h t n lt) s.calls (calls-own graph s h))

-- ---- a direct predecessor

-- by pairs of versions: a recorded pair leads to t, and its first call lives
recorded-leads : (pairs : List Pair) (u t : ℕ) → is_recorded pairs u t ≡ true → list_any (λ (p : Pair). p.to == t) pairs ≡ true
recorded-leads [] u t h = h
recorded-leads (p ∷ pairs) u t h = go (or_cases _ _ h) (recorded-leads pairs u t)
  where
    go : (((p.from == u) && (p.to == t)) ≡ true) ⊎ (is_recorded pairs u t ≡ true) → (is_recorded pairs u t ≡ true → list_any (λ (p : Pair). p.to == t) pairs ≡ true) → list_any (λ (p : Pair). p.to == t) (p ∷ pairs) ≡ true
    go (inl k) further = or_left _ _ (and_parts (p.from == u) (p.to == t) k).1
    go (inr k) further = or_right _ _ (further k)

leads-recorded : (pairs : List Pair) (t : ℕ) → list_any (λ (p : Pair). p.to == t) pairs ≡ true → (u : ℕ) × (is_recorded pairs u t ≡ true)
leads-recorded [] t h = absurd (true≢false (sym h))
leads-recorded (p ∷ pairs) t h = go (or_cases _ _ h) (leads-recorded pairs t)
  where
    go : ((p.to == t) ≡ true) ⊎ (list_any (λ (p : Pair). p.to == t) pairs ≡ true) → (list_any (λ (p : Pair). p.to == t) pairs ≡ true → (u : ℕ) × (is_recorded pairs u t ≡ true)) → (u : ℕ) × (is_recorded (p ∷ pairs) u t ≡ true)
    go (inl k) further = (p.from, or_left _ _ (and_from (p.from == p.from) (p.to == t) (eq-eqb p.from p.from refl) k))
    go (inr k) further = let r = further k in (r.0, or_right _ _ r.1)

renamed-leads : (test : ℕ → Bool) (f : ℕ → ℕ) → KeepsApart test f → (pairs : List Pair) → EndsPass test pairs → (t : ℕ) → test t ≡ true → list_any (λ (p : Pair). p.to == f t) (renamed f pairs) ≡ list_any (λ (p : Pair). p.to == t) pairs
renamed-leads test f k [] h t tt_ = refl
renamed-leads test f k (p ∷ pairs) h t passes = let a = same-test test f k p.to t h.0.1 passes in let r = renamed-leads test f k pairs h.1 t passes in λ i. (a i) || (r i)

-- Whether a live call has a direct predecessor is told by slots.
pub before-by_slot : (graph : Graph) (s : Core) → IsLawful graph s → (t : ℕ) → live s t ≡ true → any_before_by_slot s t ≡ any_before s t
before-by_slot graph s h t lt = renamed-leads (live s) (slot_of s) (slots-apart graph s h) s.pairs (ends-live graph s h) t lt ∙ both_ways _ _ to from
  where
    to : list_any (λ (p : Pair). p.to == t) s.pairs ≡ true → any_before s t ≡ true
    to k =
        let r = leads-recorded s.pairs t k in
        let lu = (h.entries_are_kept.pairs r.0 t r.1).0 in
        reads-in (λ c. is_recorded s.pairs c.version t) s.calls r.0 lu (subst (λ (w : ℕ). is_recorded s.pairs w t ≡ true) (sym (call-version s r.0 lu)) r.1)

    from : any_before s t ≡ true → list_any (λ (p : Pair). p.to == t) s.pairs ≡ true
    from k = let c = any-passes (λ c. is_recorded s.pairs c.version t) s.calls k in recorded-leads s.pairs c.0.version t c.1
