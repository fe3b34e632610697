-- The least version of the calls that pass a test is that of the first such call, and is found by slots.
use Rattle.std.proofs.Common.{◌≡◌, ℕ, ◌<◌, Bool, true, false, nat_lt, refl, ap, arith, List, [], ◌∷◌, map, find, if◌then◌else◌, option_map, Option, Some, None}
use Rattle.std.specs.List.{AllByRecursion}
use Rattle.signal_graph.specs.Graph.{Graph}
use Rattle.order_graph.specs.Order.{is_recorded}
use Rattle.flow_model.specs.Machine.State.{Core, LiveCall, call_of, live}
use Rattle.flow_model.specs.Machine.Words.{presses}
use Rattle.flow_model.specs.Machine.Steps.{is_framing_before}
use Rattle.flow_model.specs.Machine.Next.{lesser, least_version}
use Rattle.flow_model.specs.Machine.Sets.{IsSet}
use Rattle.flow_model.specs.Kept.Lawful.{IsLawful}
use Rattle.flow_model.specs.Parts.SlotPairs.{recorded_by_slot, is_framing_before_by_slot, presses_by_slot}
use Rattle.flow_model.proofs.Slots.TestsBySlot.{calls-own, each-call, framing-one, presses-one, recorded-one}

least-same : (f g : LiveCall → Bool) (cs : List LiveCall) → AllByRecursion (λ (c : LiveCall). f c ≡ g c) cs → least_version f cs ≡ least_version g cs
least-same f g [] h = refl
least-same f g (c ∷ cs) h = let a = h.0 in let r = least-same f g cs h.1 in λ i. elim (a i) as (λ _. Option ℕ) [ true ↦ Some (lesser c.version (r i)) | false ↦ r i ]

-- By slots the same call is the least: of the direct predecessors, of those that frame, and of later ones that want a node.
pub least-recorded : (graph : Graph) (s : Core) → IsLawful graph s → (t : ℕ) → live s t ≡ true → least_version (recorded_by_slot s t) s.calls ≡ least_version (λ c. is_recorded s.pairs c.version t) s.calls
least-recorded graph s h t lt = least-same (recorded_by_slot s t) (λ c. is_recorded s.pairs c.version t) s.calls (each-call (λ c. call_of s.calls c.version ≡ Some c) (λ c. recorded_by_slot s t c ≡ is_recorded s.pairs c.version t) (recorded-one graph s h t lt) s.calls (calls-own graph s h))

pub least-framing : (graph : Graph) (s : Core) → IsLawful graph s → (t : ℕ) → live s t ≡ true → least_version (is_framing_before_by_slot s t) s.calls ≡ least_version (is_framing_before s t) s.calls
least-framing graph s h t lt = least-same (is_framing_before_by_slot s t) (is_framing_before s t) s.calls (each-call (λ c. call_of s.calls c.version ≡ Some c) (λ c. is_framing_before_by_slot s t c ≡ is_framing_before s t c) (framing-one graph s h t lt) s.calls (calls-own graph s h))

pub least-presses : (graph : Graph) (s : Core) → IsLawful graph s → (t n : ℕ) → live s t ≡ true → least_version (presses_by_slot s t n) s.calls ≡ least_version (presses s t n) s.calls
least-presses graph s h t n lt = least-same (presses_by_slot s t n) (presses s t n) s.calls (each-call (λ c. call_of s.calls c.version ≡ Some c) (λ c. presses_by_slot s t n c ≡ presses s t n c) (presses-one graph s h t n lt) s.calls (calls-own graph s h))

-- ---- the first call is the least

abbrev pub Above : ℕ → Option ℕ → Type 0
Above v None = Unit {0}
Above v (Some w) = v < w

least-above : (test : LiveCall → Bool) (v : ℕ) (cs : List LiveCall) → AllByRecursion (λ (y : ℕ). v < y) (map (λ (c : LiveCall). c.version) cs) → Above v (least_version test cs)
least-above test v [] h = tt
least-above test v (c ∷ cs) h = go (test c) (least_version test cs) (least-above test v cs h.1)
  where
    less : (o : Option ℕ) → Above v o → v < lesser c.version o
    less None k = h.0
    less (Some w) k = pick (nat_lt w c.version)
      where
        pick : (b : Bool) → v < (elim b as (λ _. ℕ) [ true ↦ w | false ↦ c.version ])
        pick true = k
        pick false = h.0

    go : (b : Bool) (o : Option ℕ) → Above v o → Above v (elim b as (λ _. Option ℕ) [ true ↦ Some (lesser c.version o) | false ↦ o ])
    go true o k = less o k
    go false o k = k

pub own-lesser : (v : ℕ) (o : Option ℕ) → Above v o → lesser v o ≡ v
own-lesser v None k = refl
own-lesser v (Some w) k = pick (nat_lt w v) (below w v k)
  where
    below : (w v : ℕ) → v < w → nat_lt w v ≡ false
    below w v k = grind (arith, k)

    pick : (b : Bool) → b ≡ false → elim b as (λ _. ℕ) [ true ↦ w | false ↦ v ] ≡ v
    pick false e = refl
    pick true e = cc

first-least : (test : LiveCall → Bool) (cs : List LiveCall) → IsSet (map (λ (c : LiveCall). c.version) cs) → least_version test cs ≡ option_map (λ (c : LiveCall). c.version) (find test cs)
first-least test [] h = refl
first-least test (c ∷ cs) h = go (test c) (first-least test cs h.1)
  where
    go : (b : Bool) → least_version test cs ≡ option_map (λ (c : LiveCall). c.version) (find test cs)
        → elim b as (λ _. Option ℕ) [ true ↦ Some (lesser c.version (least_version test cs)) | false ↦ least_version test cs ] ≡ option_map (λ (c : LiveCall). c.version) (if b then Some c else find test cs)
    go true r = ap Some (own-lesser c.version (least_version test cs) (least-above test c.version cs h.0))
    go false r = r

pub least-first : (graph : Graph) (s : Core) → IsLawful graph s → (test : LiveCall → Bool) → least_version test s.calls ≡ option_map (λ (c : LiveCall). c.version) (find test s.calls)
least-first graph s h test = first-least test s.calls h.calls_ascend
