-- Pairs of slots say of slots what pairs of versions say of the live calls that have them.
use Rattle.std.proofs.Common.{◌≡◌, ℕ, Bool, true, false, not, ◌&&◌, ◌||◌, ◌==◌, ◌⊎◌, inl, inr, refl, sym, ap, arith, List, [], ◌∷◌, ◌++◌, if◌then◌else◌, ◌∙◌, subst, Option, Some, None}
use Rattle.std.specs.Prelude.{is_some}
use Rattle.std.specs.List.{list_any, AllByRecursion}
use Rattle.std.specs.Cmp.{both_ways as same_truth}
use Rattle.std.proofs.lemmas.List.{map-append}
use Rattle.std.proofs.lemmas.Bool.{or_cases, or_left, or_right, and_parts, and_from, eqb-true, eq-eqb, false_from_ne_true, both_ways}
use Rattle.signal_graph.specs.Graph.{Graph}
use Rattle.order_graph.specs.declared.pair.Pair.{Pair}
use Rattle.order_graph.specs.Order.{is_recorded, reaches, linked, retired}
use Rattle.node_versions.specs.declared.entry.Entry.{Entry}
use Rattle.node_versions.specs.Entries.{front, rest, first_entry, last_entry}
use Rattle.flow_model.specs.declared.step.Step.{Step}
use Rattle.flow_model.specs.Machine.State.{Core, LiveCall, call_of, call_or, live, executes, entries}
use Rattle.flow_model.specs.Machine.Changes.{stops, first_version, last_version, link_left, link_right, linked_at}
use Rattle.flow_model.specs.Machine.Steps.{allowed, apply}
use Rattle.flow_model.specs.Kept.Lawful.{IsLawful, HasSlot}
use Rattle.flow_model.specs.Parts.SlotPairs.{renamed_pair, renamed, slot_of, slot_pairs, link_left_by_slot, link_right_by_slot, linked_at_by_slot, entry_lives, stops_by_slot}
use Rattle.flow_model.proofs.OneStep.SameCallers.{step-stable, slot-stable}
use Rattle.flow_model.proofs.Settled.EntriesAreThere.{step-EntriesAreKept}

-- ---- another number for each of some numbers

-- the numbers that pass are kept apart
abbrev pub KeepsApart : (ℕ → Bool) → (ℕ → ℕ) → Type 0
KeepsApart test f = (u v : ℕ) → test u ≡ true → test v ≡ true → f u ≡ f v → u ≡ v

abbrev pub EndsPass : (ℕ → Bool) → List Pair → Type 0
EndsPass test pairs = AllByRecursion (λ (p : Pair). (test p.from ≡ true) × (test p.to ≡ true)) pairs

pub same-test : (test : ℕ → Bool) (f : ℕ → ℕ) → KeepsApart test f → (u v : ℕ) → test u ≡ true → test v ≡ true → (f u == f v) ≡ (u == v)
same-test test f k u v a b = same_truth _ _ (λ e. eq-eqb u v (k u v a b (eqb-true (f u) (f v) e))) (λ e. eq-eqb (f u) (f v) (ap f (eqb-true u v e)))

renamed-is_recorded : (test : ℕ → Bool) (f : ℕ → ℕ) → KeepsApart test f → (pairs : List Pair) → EndsPass test pairs → (a b : ℕ) → test a ≡ true → test b ≡ true → is_recorded (renamed f pairs) (f a) (f b) ≡ is_recorded pairs a b
renamed-is_recorded test f k [] h a b ta tb = refl
renamed-is_recorded test f k (p ∷ pairs) h a b ta tb =
    let r = renamed-is_recorded test f k pairs h.1 a b ta tb in
    let e1 = same-test test f k p.from a h.0.0 ta in
    let e2 = same-test test f k p.to b h.0.1 tb in
    λ i. ((e1 i) && (e2 i)) || (r i)

abbrev reach_by : Bool → Bool → Bool → Bool → Bool → Bool
reach_by known at_start to_start at_end from_end = elim known [ true ↦ true | false ↦ elim (at_start || to_start) [ true ↦ at_end || from_end | false ↦ false ] ]

pub renamed-reaches : (test : ℕ → Bool) (f : ℕ → ℕ) → KeepsApart test f → (pairs : List Pair) → EndsPass test pairs → (a b : ℕ) → test a ≡ true → test b ≡ true → reaches (renamed f pairs) (f a) (f b) ≡ reaches pairs a b
renamed-reaches test f k [] h a b ta tb = refl
renamed-reaches test f k (p ∷ pairs) h a b ta tb =
    let r1 = renamed-reaches test f k pairs h.1 a b ta tb in
    let r2 = renamed-reaches test f k pairs h.1 a p.from ta h.0.0 in
    let r3 = renamed-reaches test f k pairs h.1 p.to b h.0.1 tb in
    let e1 = same-test test f k p.from a h.0.0 ta in
    let e2 = same-test test f k p.to b h.0.1 tb in
    λ i. reach_by (r1 i) (e1 i) (r2 i) (e2 i) (r3 i)

renamed-linked : (test : ℕ → Bool) (f : ℕ → ℕ) → KeepsApart test f → (pairs : List Pair) → EndsPass test pairs → (a b n : ℕ) → test a ≡ true → test b ≡ true → linked (renamed f pairs) (f a) (f b) n ≡ renamed f (linked pairs a b n)
renamed-linked test f k pairs h a b n ta tb = go (is_recorded (renamed f pairs) (f a) (f b)) (is_recorded pairs a b) (renamed-is_recorded test f k pairs h a b ta tb)
  where
    old : List Pair
    old = renamed f pairs

    go : (x y : Bool) → x ≡ y → (if x then old else (old ++ record { from = f a; to = f b; node = n } ∷ [])) ≡ renamed f (if y then pairs else (pairs ++ record { from = a; to = b; node = n } ∷ []))
    go true true e = refl
    go false false e = sym (map-append (renamed_pair f) pairs (record { from = a; to = b; node = n } ∷ []))
    go true false e = cc
    go false true e = cc

renamed-retired : (test : ℕ → Bool) (f : ℕ → ℕ) → KeepsApart test f → (pairs : List Pair) → EndsPass test pairs → (a : ℕ) → test a ≡ true → retired (renamed f pairs) (f a) ≡ renamed f (retired pairs a)
renamed-retired test f k [] h a ta = refl
renamed-retired test f k (p ∷ pairs) h a ta =
    go _ _ (λ i. not ((same-test test f k p.from a h.0.0 ta i) || (same-test test f k p.to a h.0.1 ta i))) (renamed-retired test f k pairs h.1 a ta)
  where
    go : (x y : Bool) → x ≡ y → retired (renamed f pairs) (f a) ≡ renamed f (retired pairs a)
        → (if x then renamed_pair f p ∷ retired (renamed f pairs) (f a) else retired (renamed f pairs) (f a)) ≡ renamed f (if y then p ∷ retired pairs a else retired pairs a)
    go true true e r = ap (λ (ps : List Pair). renamed_pair f p ∷ ps) r
    go false false e r = r
    go true false e r = cc
    go false true e r = cc

linked-pass : (test : ℕ → Bool) (pairs : List Pair) (a b n : ℕ) → EndsPass test pairs → test a ≡ true → test b ≡ true → EndsPass test (linked pairs a b n)
linked-pass test pairs a b n h ta tb = go (is_recorded pairs a b)
  where
    last : (ps : List Pair) → EndsPass test ps → EndsPass test (ps ++ record { from = a; to = b; node = n } ∷ [])
    last [] k = ((ta, tb), tt)
    last (p ∷ ps) k = (k.0, last ps k.1)

    go : (x : Bool) → EndsPass test (if x then pairs else (pairs ++ record { from = a; to = b; node = n } ∷ []))
    go true = h
    go false = last pairs h

-- Numbers that agree on the ends rename alike.
renamed-alike : (f g : ℕ → ℕ) (pairs : List Pair) → AllByRecursion (λ (p : Pair). (f p.from ≡ g p.from) × (f p.to ≡ g p.to)) pairs → renamed f pairs ≡ renamed g pairs
renamed-alike f g [] h = refl
renamed-alike f g (p ∷ pairs) h = let r = renamed-alike f g pairs h.1 in let a = h.0.0 in let b = h.0.1 in λ i. (record { from = a i; to = b i; node = p.node }) ∷ (r i)

-- ---- the slots of live calls

-- Whatever a list says of each pair that it records is true of each of its pairs.
each-recorded : (P : ℕ → ℕ → Type 0) (pairs : List Pair) → ((u v : ℕ) → is_recorded pairs u v ≡ true → P u v) → AllByRecursion (λ (p : Pair). P p.from p.to) pairs
each-recorded P [] f = tt
each-recorded P (p ∷ pairs) f = (f p.from p.to (or_left _ _ (and_from _ _ (eq-eqb p.from p.from refl) (eq-eqb p.to p.to refl))), each-recorded P pairs (λ u v k. f u v (or_right _ _ k)))

pub slots-apart : (graph : Graph) (s : Core) → IsLawful graph s → KeepsApart (live s) (slot_of s)
slots-apart graph s h u v a b e = h.room_is_kept.slots_apart u v a b e

pub ends-live : (graph : Graph) (s : Core) → IsLawful graph s → EndsPass (live s) s.pairs
ends-live graph s h = each-recorded (λ u v. (live s u ≡ true) × (live s v ≡ true)) s.pairs h.entries_are_kept.pairs

pub slots-is_recorded : (graph : Graph) (s : Core) → IsLawful graph s → (u v : ℕ) → live s u ≡ true → live s v ≡ true → is_recorded (slot_pairs s) (slot_of s u) (slot_of s v) ≡ is_recorded s.pairs u v
slots-is_recorded graph s h u v a b = renamed-is_recorded (live s) (slot_of s) (slots-apart graph s h) s.pairs (ends-live graph s h) u v a b

pub slots-reaches : (graph : Graph) (s : Core) → IsLawful graph s → (u v : ℕ) → live s u ≡ true → live s v ≡ true → reaches (slot_pairs s) (slot_of s u) (slot_of s v) ≡ reaches s.pairs u v
slots-reaches graph s h u v a b = renamed-reaches (live s) (slot_of s) (slots-apart graph s h) s.pairs (ends-live graph s h) u v a b

pub slots-linked : (graph : Graph) (s : Core) → IsLawful graph s → (u v n : ℕ) → live s u ≡ true → live s v ≡ true → linked (slot_pairs s) (slot_of s u) (slot_of s v) n ≡ renamed (slot_of s) (linked s.pairs u v n)
slots-linked graph s h u v n a b = renamed-linked (live s) (slot_of s) (slots-apart graph s h) s.pairs (ends-live graph s h) u v n a b

-- ---- entering, and ending

pub all-front : (P : Entry → Type 0) (test : Entry → Bool) (es : List Entry) → AllByRecursion P es → AllByRecursion P (front test es)
all-front P test [] h = tt
all-front P test (e ∷ es) h = go (test e) (all-front P test es h.1)
  where
    go : (b : Bool) → AllByRecursion P (front test es) → AllByRecursion P (elim b as (λ _. List Entry) [ true ↦ [] | false ↦ e ∷ front test es ])
    go true r = tt
    go false r = (h.0, r)

pub all-rest : (P : Entry → Type 0) (test : Entry → Bool) (es : List Entry) → AllByRecursion P es → AllByRecursion P (rest test es)
all-rest P test [] h = tt
all-rest P test (e ∷ es) h = go (test e) (all-rest P test es h.1)
  where
    go : (b : Bool) → AllByRecursion P (rest test es) → AllByRecursion P (elim b as (λ _. List Entry) [ true ↦ e ∷ es | false ↦ rest test es ])
    go true r = h
    go false r = r

abbrev pub IfThere : (Entry → Type 0) → Option Entry → Type 0
IfThere P None = Unit {0}
IfThere P (Some e) = P e

abbrev pub version_if : Option Entry → Option ℕ
version_if None = None
version_if (Some e) = Some e.version

pub first-version : (es : List Entry) → first_version es ≡ version_if (first_entry es)
first-version [] = refl
first-version (e ∷ es) = refl

pub first-there : (P : Entry → Type 0) (es : List Entry) → AllByRecursion P es → IfThere P (first_entry es)
first-there P [] h = tt
first-there P (e ∷ es) h = h.0

pub last-version : (es : List Entry) (o : Option Entry) → last_version (version_if o) es ≡ version_if (last_entry o es)
last-version [] o = refl
last-version (e ∷ es) o = last-version es (Some e)

pub last-there : (P : Entry → Type 0) (es : List Entry) (o : Option Entry) → IfThere P o → AllByRecursion P es → IfThere P (last_entry o es)
last-there P [] o k h = k
last-there P (e ∷ es) o k h = last-there P es (Some e) h.0 h.1

module _ (graph : Graph) (s : Core) (h : IsLawful graph s) where
  pub left-slots : (t m : ℕ) → live s t ≡ true → (o : Option Entry) → IfThere (HasSlot s) o → (pairs : List Pair) → EndsPass (live s) pairs
      → (link_left_by_slot s t m o (renamed (slot_of s) pairs) ≡ renamed (slot_of s) (link_left s t m (version_if o) pairs)) × EndsPass (live s) (link_left s t m (version_if o) pairs)
  left-slots t m lt None k pairs e = (refl, e)
  left-slots t m lt (Some x) k pairs e = go (live s x.version) refl
    where
      go : (b : Bool) → live s x.version ≡ b
          → ((elim b as (λ _. List Pair) [ true ↦ linked (renamed (slot_of s) pairs) x.slot (slot_of s t) m | false ↦ renamed (slot_of s) pairs ]) ≡ renamed (slot_of s) (elim b as (λ _. List Pair) [ true ↦ linked pairs x.version t m | false ↦ pairs ]))
          × EndsPass (live s) (elim b as (λ _. List Pair) [ true ↦ linked pairs x.version t m | false ↦ pairs ])
      go true l = (ap (λ (a : ℕ). linked (renamed (slot_of s) pairs) a (slot_of s t) m) (k l) ∙ renamed-linked (live s) (slot_of s) (slots-apart graph s h) pairs e x.version t m l lt, linked-pass (live s) pairs x.version t m e l lt)
      go false l = (refl, e)

  right-slots : (t m : ℕ) → live s t ≡ true → (o : Option Entry) → IfThere (HasSlot s) o → (pairs : List Pair) → EndsPass (live s) pairs
      → (link_right_by_slot s t m o (renamed (slot_of s) pairs) ≡ renamed (slot_of s) (link_right s t m (version_if o) pairs)) × EndsPass (live s) (link_right s t m (version_if o) pairs)
  right-slots t m lt None k pairs e = (refl, e)
  right-slots t m lt (Some x) k pairs e = go (live s x.version) refl
    where
      go : (b : Bool) → live s x.version ≡ b
          → ((elim b as (λ _. List Pair) [ true ↦ linked (renamed (slot_of s) pairs) (slot_of s t) x.slot m | false ↦ renamed (slot_of s) pairs ]) ≡ renamed (slot_of s) (elim b as (λ _. List Pair) [ true ↦ linked pairs t x.version m | false ↦ pairs ]))
          × EndsPass (live s) (elim b as (λ _. List Pair) [ true ↦ linked pairs t x.version m | false ↦ pairs ])
      go true l = (ap (λ (a : ℕ). linked (renamed (slot_of s) pairs) (slot_of s t) a m) (k l) ∙ renamed-linked (live s) (slot_of s) (slots-apart graph s h) pairs e t x.version m lt l, linked-pass (live s) pairs t x.version m e lt l)
      go false l = (refl, e)

-- The pairs of slots after a live call has entered a list are found by the slots of its neighbours' entries.
pub entered-slots : (graph : Graph) (s : Core) → IsLawful graph s → (t m : ℕ) → live s t ≡ true → linked_at_by_slot s t m ≡ renamed (slot_of s) (linked_at s t m)
entered-slots graph s h t m lt =
    let es = front (stops s t) (entries s m) in
    let rs = rest (stops s t) (entries s m) in
    let a = left-slots graph s h t m lt (last_entry None es) (last-there (HasSlot s) es None tt (all-front (HasSlot s) (stops s t) (entries s m) (h.entries_have_slots m))) s.pairs (ends-live graph s h) in
    let b = right-slots graph s h t m lt (first_entry rs) (first-there (HasSlot s) rs (all-rest (HasSlot s) (stops s t) (entries s m) (h.entries_have_slots m))) (link_left s t m (version_if (last_entry None es)) s.pairs) a.1 in
    ap (link_right_by_slot s t m (first_entry rs)) a.0 ∙ b.0
    ∙ ap (λ (o : Option ℕ). renamed (slot_of s) (link_right s t m o (link_left s t m (version_if (last_entry None es)) s.pairs))) (sym (first-version rs))
    ∙ ap (λ (o : Option ℕ). renamed (slot_of s) (link_right s t m (first_version rs) (link_left s t m o s.pairs))) (sym (last-version es None))

-- The pairs of slots after a call's end.
pub ended-slots : (graph : Graph) (s : Core) → IsLawful graph s → (t : ℕ) → live s t ≡ true → retired (slot_pairs s) (slot_of s t) ≡ renamed (slot_of s) (retired s.pairs t)
ended-slots graph s h t lt = renamed-retired (live s) (slot_of s) (slots-apart graph s h) s.pairs (ends-live graph s h) t lt

pub step-slots : (graph : Graph) (s : Core) (step : Step) → IsLawful graph s → allowed graph s step ≡ true → slot_pairs (apply graph s step) ≡ renamed (slot_of s) (apply graph s step).pairs
step-slots graph s step h a =
    let q = apply graph s step in
    let live_after = (step-EntriesAreKept graph s step h a).pairs in
    renamed-alike (slot_of q) (slot_of s) q.pairs (each-recorded (λ u v. (slot_of q u ≡ slot_of s u) × (slot_of q v ≡ slot_of s v)) q.pairs
    (λ u v k. (step-stable (λ (c : LiveCall). c.slot) slot-stable graph s step u (live_after u v k).0, step-stable (λ (c : LiveCall). c.slot) slot-stable graph s step v (live_after u v k).1)))

-- ---- what an entry's slot tells

some-call : (cs : List LiveCall) (e : Entry) → list_any (λ c. (c.slot == e.slot) && (c.version == e.version)) cs ≡ true → is_some (call_of cs e.version) ≡ true
some-call [] e h = h
some-call (c ∷ cs) e h = go (c.version == e.version) refl (or_cases _ _ h) (some-call cs e)
  where
    go : (b : Bool) → (c.version == e.version) ≡ b → (((c.slot == e.slot) && (c.version == e.version)) ≡ true) ⊎ (list_any (λ c. (c.slot == e.slot) && (c.version == e.version)) cs ≡ true)
        → (list_any (λ c. (c.slot == e.slot) && (c.version == e.version)) cs ≡ true → is_some (call_of cs e.version) ≡ true) → is_some (elim b as (λ _. Option LiveCall) [ true ↦ Some c | false ↦ call_of cs e.version ]) ≡ true
    go true k x further = refl
    go false k (inl x) further = absurd (both_ways _ k (and_parts (c.slot == e.slot) (c.version == e.version) x).1)
    go false k (inr x) further = further x

call-there : (cs : List LiveCall) (e : Entry) → is_some (call_of cs e.version) ≡ true → e.slot ≡ (call_or (call_of cs e.version)).slot → list_any (λ c. (c.slot == e.slot) && (c.version == e.version)) cs ≡ true
call-there [] e h k = h
call-there (c ∷ cs) e h k = go (c.version == e.version) refl h k (call-there cs e)
  where
    go : (b : Bool) → (c.version == e.version) ≡ b → is_some (elim b as (λ _. Option LiveCall) [ true ↦ Some c | false ↦ call_of cs e.version ]) ≡ true → e.slot ≡ (call_or (elim b as (λ _. Option LiveCall) [ true ↦ Some c | false ↦ call_of cs e.version ])).slot
        → (is_some (call_of cs e.version) ≡ true → e.slot ≡ (call_or (call_of cs e.version)).slot → list_any (λ c. (c.slot == e.slot) && (c.version == e.version)) cs ≡ true)
        → list_any (λ c. (c.slot == e.slot) && (c.version == e.version)) (c ∷ cs) ≡ true
    go true j h k further = or_left _ _ (and_from _ _ (eq-eqb c.slot e.slot (sym k)) j)
    go false j h k further = or_right _ _ (further h k)

-- An entry's call lives exactly where a live call has the entry's slot and version.
pub entry-lives : (s : Core) (e : Entry) → HasSlot s e → entry_lives s e ≡ live s e.version
entry-lives s e k = same_truth _ _ (some-call s.calls e) (λ l. call-there s.calls e l (k l))

-- No pair is of an ended call.
no_pair : (graph : Graph) (s : Core) → IsLawful graph s → (u v : ℕ) → live s v ≡ false → reaches s.pairs u v ≡ false
no_pair graph s h u v l = go s.pairs (ends-live graph s h) u v l
  where
    go : (pairs : List Pair) → EndsPass (live s) pairs → (u v : ℕ) → live s v ≡ false → reaches pairs u v ≡ false
    go [] e u v l = refl
    go (p ∷ pairs) e u v l =
        let r1 = go pairs e.1 u v l in
        let r2 = go pairs e.1 p.to v l in
        let ne : (p.to == v) ≡ false = false_from_ne_true _ (λ k. both_ways _ l (subst (λ (w : ℕ). live s w ≡ true) (eqb-true p.to v k) e.0.1)) in
        never (reaches pairs u p.from) r1 r2 ne
      where
        never : (x : Bool) → reaches pairs u v ≡ false → reaches pairs p.to v ≡ false → (p.to == v) ≡ false → reaches (p ∷ pairs) u v ≡ false
        never x a b c = grind (arith, a, b, c)

-- Whether an entry stops a live call is told by the two slots.
pub stops-by_slot : (graph : Graph) (s : Core) → IsLawful graph s → (t : ℕ) (e : Entry) → live s t ≡ true → HasSlot s e → stops_by_slot s t e ≡ stops s t e
stops-by_slot graph s h t e lt k = go (live s e.version) refl
  where
    x : Bool
    x = executes s t

    lives : entry_lives s e ≡ live s e.version
    lives = entry-lives s e k

    go : (b : Bool) → live s e.version ≡ b → stops_by_slot s t e ≡ stops s t e
    go true l =
        let r = ap (reaches (slot_pairs s) (slot_of s t)) (k l) ∙ slots-reaches graph s h t e.version lt l in
        told (entry_lives s e) (live s e.version) (live s t) (reaches (slot_pairs s) (slot_of s t) e.slot) (reaches s.pairs t e.version) x (executes s e.version) (lives ∙ l) l lt r
      where
        told : (a b c r q x y : Bool) → a ≡ true → b ≡ true → c ≡ true → r ≡ q → (a && (r || (x && not y))) ≡ ((q || (not c && b)) || (x && (b && not y)))
        told a b c r q x y f g h k = grind (arith, f, g, h, k)
    go false l =
        let r = no_pair graph s h t e.version l in
        told (entry_lives s e) (live s e.version) (live s t) (reaches (slot_pairs s) (slot_of s t) e.slot) (reaches s.pairs t e.version) x (executes s e.version) (lives ∙ l) l r
      where
        told : (a b c r q x y : Bool) → a ≡ false → b ≡ false → q ≡ false → (a && (r || (x && not y))) ≡ ((q || (not c && b)) || (x && (b && not y)))
        told a b c r q x y f g h = grind (arith, f, g, h)
