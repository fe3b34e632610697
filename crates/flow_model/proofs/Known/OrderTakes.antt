-- In a lawful state the pairs that entering a list records are taken by the recorded order, by slots.
use Rattle.std.proofs.Common.{◌≡◌, ℕ, Bool, true, false, ◌&&◌, ◌||◌, ◌==◌, ◌≢◌, refl, sym, ap, arith, List, [], ◌∷◌, true≢false, ◌∙◌, subst, Option, Some, None}
use Rattle.std.proofs.lemmas.Bool.{eq-eqb, false_from_ne_true, both_ways, not-true}
use Rattle.std.specs.List.{list_any}
use Rattle.script_tree.proofs.Truths.{and_right}
use Rattle.signal_graph.specs.Graph.{Graph}
use Rattle.order_graph.specs.declared.pair.Pair.{Pair}
use Rattle.order_graph.specs.Order.{reaches, linked}
use Rattle.order_graph.proofs.Reaching.{reaches-linked}
use Rattle.node_versions.specs.declared.entry.State.TheVariants.{Mark}
use Rattle.node_versions.specs.declared.entry.Entry.{Entry}
use Rattle.node_versions.specs.Entries.{has, front, rest, first_entry, last_entry}
use Rattle.flow_model.specs.declared.step.Step.TheVariants as steps
use Rattle.flow_model.specs.Machine.State.{Core, live, entries}
use Rattle.flow_model.specs.Machine.Changes.{stops, first_version, last_version, link_left, link_right, linked_at}
use Rattle.flow_model.specs.Machine.Steps.{allowed}
use Rattle.flow_model.specs.Kept.Lawful.{IsLawful, ended_before, HasSlot}
use Rattle.flow_model.specs.Parts.SlotPairs.{renamed, slot_of, slot_pairs, link_left_by_slot}
use Rattle.flow_model.specs.Parts.Operations.{OrderTakes, IsFirstSlot}
use Rattle.flow_model.proofs.OneStep.WhoMayStep.{executes-live, idle-executes, end-idle}
use Rattle.flow_model.proofs.OneList.Entering.{enter-Standing, right-Grows}
use Rattle.flow_model.proofs.OrderStays.AfterEachStep.{lawful-Standing}
use Rattle.flow_model.proofs.Slots.TestsBySlot.{before-by_slot}
use Rattle.flow_model.proofs.Slots.PairsBySlot.{IfThere, version_if, renamed-reaches, slots-apart, ends-live, slots-reaches, left-slots, all-front, all-rest, first-version, last-version, first-there, last-there}

-- A link that makes no cycle is of two calls, and no chain led back.
forward : (ps : List Pair) (a b n : ℕ) → reaches (linked ps a b n) a a ≡ false → (a ≢ b) × (reaches ps b a ≡ false)
forward ps a b n h =
    let e = reaches-linked ps a b n a a in (
      λ x. let k = eq-eqb a b x in let w = eq-eqb a a refl in absurd (apart (reaches (linked ps a b n) a a) (reaches ps a a) (a == a) (reaches ps a a) (a == b) (reaches ps b a) h e w k),
      false_from_ne_true _ (λ r. let w = eq-eqb a a refl in back (reaches (linked ps a b n) a a) (reaches ps a a) (a == a) (reaches ps a a) (a == b) (reaches ps b a) h e w r),
    )
  where
    apart : (l r x q y z : Bool) → l ≡ false → l ≡ (r || ((x || q) && (y || z))) → x ≡ true → y ≡ true → ⊥
    apart l r x q y z h e w k = grind (arith, h, e, w, k)

    back : (l r x q y z : Bool) → l ≡ false → l ≡ (r || ((x || q) && (y || z))) → x ≡ true → z ≡ true → ⊥
    back l r x q y z h e w k = grind (arith, h, e, w, k)

-- Entering makes no cycle.
entered-no_cycle : (graph : Graph) (s : Core) → IsLawful graph s → (t m : ℕ) → live s t ≡ true → has (entries s m) t ≡ false → (u : ℕ) → reaches (linked_at s t m) u u ≡ false
entered-no_cycle graph s h t m lt k u = (enter-Standing s (ended_before s.log) t m Mark (lawful-Standing graph s h) lt k).order.no_cycle u

abbrev fronts : Core → ℕ → ℕ → List Entry
fronts s t m = front (stops s t) (entries s m)

abbrev rests : Core → ℕ → ℕ → List Entry
rests s t m = rest (stops s t) (entries s m)

-- The version of the left neighbour, and of the right one.
left-version : (s : Core) (t m : ℕ) (e : Entry) → last_entry None (fronts s t m) ≡ Some e → last_version None (fronts s t m) ≡ Some e.version
left-version s t m e k = last-version (fronts s t m) None ∙ ap version_if k

right-version : (s : Core) (t m : ℕ) (e : Entry) → first_entry (rests s t m) ≡ Some e → first_version (rests s t m) ≡ Some e.version
right-version s t m e k = first-version (rests s t m) ∙ ap version_if k

link-live : {A : Type 0} (b : Bool) (x y : A) → b ≡ true → elim b as (λ _. A) [ true ↦ x | false ↦ y ] ≡ x
link-live true x y k = refl
link-live false x y k = absurd (true≢false (sym k))

left-forward : (graph : Graph) (s : Core) → IsLawful graph s → (t m : ℕ) → live s t ≡ true → has (entries s m) t ≡ false → (u : ℕ) → last_version None (fronts s t m) ≡ Some u → live s u ≡ true → (u ≢ t) × (reaches s.pairs t u ≡ false)
left-forward graph s h t m lt k u e lu = forward s.pairs u t m (false_from_ne_true _ (λ r. both_ways _ (entered-no_cycle graph s h t m lt k u)
    ((right-Grows s t m (first_version (rests s t m)) (link_left s t m (last_version None (fronts s t m)) s.pairs) lt).more u u (ap (λ (ps : List Pair). reaches ps u u) linked_so ∙ r))))
  where
    linked_so : link_left s t m (last_version None (fronts s t m)) s.pairs ≡ linked s.pairs u t m
    linked_so = ap (λ (o : Option ℕ). link_left s t m o s.pairs) e ∙ link-live (live s u) (linked s.pairs u t m) s.pairs lu

right-forward : (graph : Graph) (s : Core) → IsLawful graph s → (t m : ℕ) → live s t ≡ true → has (entries s m) t ≡ false → (v : ℕ) → first_version (rests s t m) ≡ Some v → live s v ≡ true
    → (t ≢ v) × (reaches (link_left s t m (last_version None (fronts s t m)) s.pairs) v t ≡ false)
right-forward graph s h t m lt k v e lv = forward ps t v m (sym (ap (λ (qs : List Pair). reaches qs t t) linked_so) ∙ entered-no_cycle graph s h t m lt k t)
  where
    ps : List Pair
    ps = link_left s t m (last_version None (fronts s t m)) s.pairs

    linked_so : linked_at s t m ≡ linked ps t v m
    linked_so = ap (λ (o : Option ℕ). link_right s t m o ps) e ∙ link-live (live s v) (linked ps t v m) ps lv

there : (P : Entry → Type 0) (o : Option Entry) (e : Entry) → o ≡ Some e → IfThere P o → P e
there P o e k h = subst (IfThere P) k h

pub order-takes : (graph : Graph) (s : Core) → IsLawful graph s → (t m : ℕ) → live s t ≡ true → has (entries s m) t ≡ false → OrderTakes s t m
order-takes graph s h t m lt none = record { left = left; right = right }
  where
    apart : (e : Entry) → e.slot ≡ slot_of s e.version → live s e.version ≡ true → e.slot ≡ slot_of s t → e.version ≡ t
    apart e j l x = slots-apart graph s h e.version t l lt (sym j ∙ x)

    left : (e : Entry) → last_entry None (fronts s t m) ≡ Some e → live s e.version ≡ true → (e.slot ≢ slot_of s t) × (reaches (slot_pairs s) (slot_of s t) e.slot ≡ false)
    left e x l =
        let slot = there (HasSlot s) (last_entry None (fronts s t m)) e x (last-there (HasSlot s) (fronts s t m) None tt (all-front (HasSlot s) (stops s t) (entries s m) (h.entries_have_slots m))) l in
        let f = left-forward graph s h t m lt none e.version (left-version s t m e x) l in
        (λ y. f.0 (apart e slot l y), ap (reaches (slot_pairs s) (slot_of s t)) slot ∙ slots-reaches graph s h t e.version lt l ∙ f.1)

    right : (e : Entry) → first_entry (rests s t m) ≡ Some e → live s e.version ≡ true → (slot_of s t ≢ e.slot) × (reaches (link_left_by_slot s t m (last_entry None (fronts s t m)) (slot_pairs s)) e.slot (slot_of s t) ≡ false)
    right e x l =
        let slot = there (HasSlot s) (first_entry (rests s t m)) e x (first-there (HasSlot s) (rests s t m) (all-rest (HasSlot s) (stops s t) (entries s m) (h.entries_have_slots m))) l in
        let f = right-forward graph s h t m lt none e.version (right-version s t m e x) l in
        let w = left-slots graph s h t m lt (last_entry None (fronts s t m)) (last-there (HasSlot s) (fronts s t m) None tt (all-front (HasSlot s) (stops s t) (entries s m) (h.entries_have_slots m))) s.pairs (ends-live graph s h) in
        let qs = link_left s t m (version_if (last_entry None (fronts s t m))) s.pairs in (
          λ y. f.0 (sym (apart e slot l (sym y))),
          ap (λ (ps : List Pair). reaches ps e.slot (slot_of s t)) w.0 ∙ ap (λ (a : ℕ). reaches (renamed (slot_of s) qs) a (slot_of s t)) slot
              ∙ renamed-reaches (live s) (slot_of s) (slots-apart graph s h) qs w.1 e.version t l lt
              ∙ ap (λ (o : Option ℕ). reaches (link_left s t m o s.pairs) e.version t) (sym (last-version (fronts s t m) None)) ∙ f.1,
        )

-- ---- a call that ends

unreached : (ps : List Pair) (b : ℕ) → list_any (λ (p : Pair). p.to == b) ps ≡ false → (a : ℕ) → reaches ps a b ≡ false
unreached [] b h a = refl
unreached (p ∷ ps) b h a =
    let k = neither (p.to == b) (list_any (λ (p : Pair). p.to == b) ps) h in
    let r1 = unreached ps b k.1 a in
    let r2 = unreached ps b k.1 p.to in
    let n = k.0 in
    grind (arith, r1, r2, n)
  where
    neither : (x y : Bool) → (x || y) ≡ false → (x ≡ false) × (y ≡ false)
    neither true y h = absurd (true≢false h)
    neither false y h = (refl, h)

pub ends-first : (graph : Graph) (s : Core) → IsLawful graph s → (t : ℕ) → allowed graph s (steps.End t) ≡ true → IsFirstSlot s t
ends-first graph s h t a = unreached (slot_pairs s) (slot_of s t) (before-by_slot graph s h t lt ∙ not-true _ (and_right _ _ a))
  where
    lt : live s t ≡ true
    lt = executes-live s t (idle-executes s t (end-idle graph s t a))
