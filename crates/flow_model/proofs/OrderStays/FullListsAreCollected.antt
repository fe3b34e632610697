-- A full list has entries of ended calls to collect, and Collect leaves one entry more than there are callers at most.
use Rattle.std.proofs.Common.{◌≡◌, ℕ, zero, suc, ◌+◌, ◌<◌, ◌≤◌, Bool, true, false, not, ◌||◌, ◌==◌, ◌⊎◌, inl, inr, refl, sym, ap, arith, List, [], ◌∷◌, length, map, ◌∙◌, subst, Option, Some, None}
use Rattle.std.proofs.lemmas.Bool.{eqb-true, eqb-false, both_ways, cases_Bool}
use Rattle.std.proofs.lemmas.List.{length-map}
use Rattle.std.specs.Prelude.{filter, nat_lt, slice_index_or}
use Rattle.std.specs.List.{cons_option}
use Rattle.signal_graph.specs.Graph.{Graph, is_in}
use Rattle.node_versions.specs.declared.entry.Entry.{Entry}
use Rattle.node_versions.specs.Entries.{IsUnique, has, last_done}
use Rattle.flow_model.specs.declared.step.Step.TheVariants as steps
use Rattle.flow_model.specs.Machine.Lists.{change_at}
use Rattle.flow_model.specs.Machine.State.{Core, Cell, LiveCall, live, ended, entries, no_cell}
use Rattle.flow_model.specs.Machine.Words.{has_room}
use Rattle.flow_model.specs.Machine.Steps.{allowed, apply, collect, collected_at}
use Rattle.flow_model.specs.Kept.Lawful.{IsLawful, AreDistinct, times}
use Rattle.flow_model.proofs.OneList.InOrder.{on_calls, filter-has}
use Rattle.flow_model.proofs.OneList.OneEntryACall.{filter-unique}
use Rattle.flow_model.proofs.OneStep.VersionsStayFresh.{times-in, in-times, live-in, live-version}
use Rattle.flow_model.proofs.General.Pigeons.{total, total-length, total-all, total-bound, times-it, times-other, field-distinct, holder, Holder}
use Rattle.flow_model.proofs.OneStep.BegunCalls.{calls-distinct}

versions-have : (es : List Entry) (u : ℕ) → is_in u (map (λ (e : Entry). e.version) es) ≡ has es u
versions-have [] u = refl
versions-have (e ∷ es) u = ap (λ (b : Bool). (e.version == u) || b) (versions-have es u)

unique-distinct : (es : List Entry) → IsUnique es → AreDistinct (map (λ (e : Entry). e.version) es)
unique-distinct [] q x = omega arith
unique-distinct (e ∷ es) q x = go (cases_Bool (e.version == x)) (unique-distinct es q.1 x)
  where
    vs : List ℕ
    vs = map (λ (e : Entry). e.version) es

    zero_times : (n : ℕ) → (1 ≤ n → ⊥) → n ≡ 0
    zero_times zero k = refl
    zero_times (suc n) k = absurd (k (omega arith))

    go : ((e.version == x) ≡ true) ⊎ ((e.version == x) ≡ false) → times x (map (λ (e : Entry). e.version) es) ≤ 1 → times x (e.version ∷ map (λ (e : Entry). e.version) es) ≤ 1
    go (inl w) r =
        let p = eqb-true e.version x w in
        let z = zero_times (times x (map (λ (e : Entry). e.version) es)) (λ k. both_ways (has es e.version) q.0 (subst (λ (v : ℕ). has es v ≡ true) (sym p) (sym (versions-have es x) ∙ in-times x (map (λ (e : Entry). e.version) es) k))) in
        let t = times-it x e.version (map (λ (e : Entry). e.version) es) p in
        omega (arith, z, t)
    go (inr w) r = let p = eqb-false e.version x w in let t = times-other x e.version (map (λ (e : Entry). e.version) es) p in omega (arith, r, t)

total-most_of : (xs ys : List ℕ) (from k : ℕ) → ((x : ℕ) → times x xs ≤ times x ys) → total xs from k ≤ total ys from k
total-most_of xs ys from zero h = omega arith
total-most_of xs ys from (suc k) h = let r = total-most_of xs ys (suc from) k h in let e = h from in omega (arith, r, e)

-- A list without doubles, all of whose members another list has, is no longer.
no_longer : (xs ys : List ℕ) (k : ℕ) → AreDistinct xs → ((x : ℕ) → is_in x xs ≡ true → (is_in x ys ≡ true) × (x < k)) → length xs ≤ length ys
no_longer xs ys k d h =
    let a = total-all xs 0 k (λ x i. (omega arith, (let l = (h x i).1 in omega (arith, l)))) in
    let b = total-most_of xs ys 0 k most in
    let c = total-length ys 0 k in
    omega (arith, a, b, c)
  where
    small : (x n : ℕ) → n ≤ 1 → (1 ≤ n → 1 ≤ times x ys) → n ≤ times x ys
    small x zero a f = omega arith
    small x (suc n) a f = let r = f (omega arith) in omega (arith, a, r)

    most : (x : ℕ) → times x xs ≤ times x ys
    most x = small x (times x xs) (d x) (λ i. times-in x ys (h x (in-times x xs i)).0)

pub calls-few : (graph : Graph) (s : Core) → IsLawful graph s → length s.calls ≤ s.callers
calls-few graph s h =
    let cs = map (λ (c : LiveCall). c.caller) s.calls in
    let d = field-distinct (λ c. c.caller) s.calls (calls-distinct s h.versions_are_fresh) (λ u v k l e. h.room_is_kept.callers_apart u v k l e) in
    let m = total-bound cs 1 s.callers d in
    let i = total-all cs 1 s.callers (λ x k. inside x (holder (λ c. c.caller) s.calls x (calls-distinct s h.versions_are_fresh) k)) in
    let l = length-map s.calls (λ (c : LiveCall). c.caller) in
    omega (arith, m, i, l)
  where
    inside : (x : ℕ) → Holder (λ c. c.caller) s.calls x → (1 ≤ x) × (x < 1 + s.callers)
    inside x p = let f = h.room_is_kept.callers_fit p.version p.known in subst (λ (k : ℕ). (1 ≤ k) × (k < 1 + s.callers)) p.value (f.0, (let g = f.1 in omega (arith, g)))

live-entries : (graph : Graph) (s : Core) → IsLawful graph s → (n : ℕ) → length (filter (on_calls (λ v. not (not (live s v)))) (entries s n)) ≤ s.callers
live-entries graph s h n =
    let es = filter (on_calls (λ v. not (not (live s v)))) (entries s n) in
    let vs = map (λ (e : Entry). e.version) es in
    let ys = map (λ (c : LiveCall). c.version) s.calls in
    let d = unique-distinct es (filter-unique (λ v. not (not (live s v))) (entries s n) (h.one_entry n)) in
    let a = no_longer vs ys (suc s.begun) d (λ x i. let l = lives x (filter-has (λ v. not (not (live s v))) (entries s n) x (sym (versions-have es x) ∙ i)).1 in (live-in s.calls x l, (let f = (h.versions_are_fresh.fit x (live-version s x l)).1 in omega (arith, f)))) in
    let b = length-map es (λ (e : Entry). e.version) in
    let c = length-map s.calls (λ (c : LiveCall). c.version) in
    let e = calls-few graph s h in
    omega (arith, a, b, c, e)
  where
    lives : (x : ℕ) → not (not (live s x)) ≡ true → live s x ≡ true
    lives x k = twice (live s x) k
      where
        twice : (b : Bool) → not (not b) ≡ true → b ≡ true
        twice true k = refl
        twice false k = k

collected-few : (graph : Graph) (s : Core) → IsLawful graph s → (n : ℕ) → length (collected_at s n) ≤ suc s.callers
collected-few graph s h n = go (last_done (filter (ended s) (entries s n)))
  where
    go : (o : Option Entry) → length (cons_option o (filter (on_calls (λ v. not (not (live s v)))) (entries s n))) ≤ suc s.callers
    go None = let l = live-entries graph s h n in omega (arith, l)
    go (Some x) = let l = live-entries graph s h n in omega (arith, l)

pub full-collects : (graph : Graph) (s : Core) → IsLawful graph s → (m : ℕ) → has_room s m ≡ false → allowed graph s (steps.Collect m) ≡ true
full-collects graph s h m r =
    let c = collected-few graph s h m in
    less (length (collected_at s m)) (length (entries s m)) (full (length (entries s m)) s.callers r) c
  where
    full : (a b : ℕ) → nat_lt a (b + 9) ≡ false → b + 9 ≤ a
    full a b k = grind (arith, k)

    less : (a b : ℕ) → s.callers + 9 ≤ b → a ≤ suc s.callers → nat_lt a b ≡ true
    less a b k l = lesser a b (omega (arith, k, l))
      where
        lesser : (a b : ℕ) → a < b → nat_lt a b ≡ true
        lesser a b h = grind arith

-- What Collect leaves in its list.
pub collect-leaves : (graph : Graph) (s : Core) → IsLawful graph s → (n : ℕ) → length (entries (apply graph s (steps.Collect n)) n) ≤ s.callers + 1
collect-leaves graph s h n = go s.cells n (s.callers + 1) (let c = collected-few graph s h n in omega (arith, c))
  where
    go : (cells : List Cell) (n k : ℕ) → length (collect s (slice_index_or cells n no_cell)).entries ≤ k → length (slice_index_or (change_at n (collect s) cells) n no_cell).entries ≤ k
    go [] n k h = omega arith
    go (c ∷ cs) zero k h = h
    go (c ∷ cs) (suc n) k h = go cs n k h
