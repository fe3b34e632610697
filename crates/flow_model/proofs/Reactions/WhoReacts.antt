-- A node that reacts after lists and out-edges change reacted before, where its runs are the same and none covers more.
use Rattle.std.proofs.Common.{◌≡◌, ℕ, suc, Bool, true, false, ◌&&◌, ◌||◌, not, ◌==◌, ◌⊎◌, inl, inr, refl, sym, ap, arith, List, [], ◌∷◌, ◌++◌, ◌∙◌, subst, Option, Some, None}
use Rattle.std.specs.Prelude.{slice_get}
use Rattle.std.specs.List.{list_any}
use Rattle.std.proofs.lemmas.List.Folds.{list_any-append}
use Rattle.std.proofs.lemmas.Bool.{or_cases, or_left, or_right, and_parts, and_from, eqb-true, eq-eqb, both_ways, cases_Bool}
use Rattle.signal_graph.specs.Graph.{Graph, is_in, static_outs}
use Rattle.node_versions.specs.declared.entry.State.{State}
use Rattle.node_versions.specs.declared.entry.State.TheVariants.{Mark}
use Rattle.node_versions.specs.declared.entry.Entry.{Entry}
use Rattle.node_versions.specs.Entries.{OutEdge, has, is_frame, behind, up_to, first_open, is_active, has_out, has_node, front, rest, placed}
use Rattle.node_versions.proofs.KeptLemmas.{has-put}
use Rattle.flow_model.specs.Machine.State.{Core, live, entries, outs}
use Rattle.flow_model.specs.Machine.Changes.{stops}
use Rattle.flow_model.specs.Kept.Runs.{Run, Reading, read_state, read_all, nothing_read, last_run, discovered, runs, is_from, is_until, covers, reacts}
use Rattle.flow_model.proofs.OneList.InOrder.{on_calls, front-rest}
use Rattle.flow_model.proofs.OneList.StatesAndPlaces.{more-behind, behind-has}

-- the runs by a list and the out-edges at the candidate
abbrev pub dropper_in : List Entry → List OutEdge → ℕ → Option ℕ
dropper_in es os n = elim (has_node os n) [ true ↦ None | false ↦ first_open es ]

abbrev pub runs_in : List Entry → List OutEdge → ℕ → ℕ → List Run
runs_in es os n m = let q = read_all m es nothing_read in
    q.closed ++ last_run q.current (dropper_in es os n) ++ discovered (first_open es) n os

-- the same list and out-edges
pub same-runs : (s q : Core) (n m : ℕ) → entries q n ≡ entries s n → outs q m ≡ outs s m → runs q n m ≡ runs s n m
same-runs s q n m e o = ap (λ (es : List Entry). runs_in es (outs q m) n m) e ∙ ap (λ (os : List OutEdge). runs_in (entries s n) os n m) o

-- What holds of the runs that a test takes.
pub any-map : (test test2 : Run → Bool) (rs : List Run) → ((i : ℕ) (r : Run) → slice_get rs i ≡ Some r → test r ≡ true → test2 r ≡ true) → list_any test rs ≡ true → list_any test2 rs ≡ true
any-map test test2 [] f h = h
any-map test test2 (r ∷ rs) f h = go (or_cases _ _ h) (any-map test test2 rs (λ i x e. f (suc i) x e))
  where
    go : (test r ≡ true) ⊎ (list_any test rs ≡ true) → (list_any test rs ≡ true → list_any test2 rs ≡ true) → list_any test2 (r ∷ rs) ≡ true
    go (inl k) further = or_left _ _ (f 0 r refl k)
    go (inr k) further = or_right _ _ (further k)

-- The runs are those that have ended, the one in which the list ends, and the one that the first open call has begun.
pub any-parts : (test : Run → Bool) (es : List Entry) (os : List OutEdge) (n m : ℕ) → list_any test (runs_in es os n m)
    ≡ ((list_any test (read_all m es nothing_read).closed || list_any test (last_run (read_all m es nothing_read).current (dropper_in es os n))) || list_any test (discovered (first_open es) n os))
any-parts test es os n m =
    let q = read_all m es nothing_read in
    list_any-append test (q.closed ++ last_run q.current (dropper_in es os n)) (discovered (first_open es) n os)
    ∙ ap (λ (x : Bool). x || list_any test (discovered (first_open es) n os)) (list_any-append test q.closed (last_run q.current (dropper_in es os n)))

-- other out-edges, with the same ones of the node
pub same-edges : (es : List Entry) (os os2 : List OutEdge) (n m : ℕ) → has_node os2 n ≡ has_node os n → ((t : ℕ) → has_out os2 n t ≡ has_out os n t) → runs_in es os2 n m ≡ runs_in es os n m
same-edges es os os2 n m e f =
    let q = read_all m es nothing_read in
    ap (λ (b : Bool). q.closed ++ last_run q.current (elim b as (λ _. Option ℕ) [ true ↦ None | false ↦ first_open es ]) ++ discovered (first_open es) n os2) e
    ∙ ap (λ (rs : List Run). q.closed ++ last_run q.current (dropper_in es os n) ++ rs) (found (first_open es))
  where
    found : (o : Option ℕ) → discovered o n os2 ≡ discovered o n os
    found None = refl
    found (Some t) = ap (λ (b : Bool). elim b as (λ _. List Run) [ true ↦ record { begins = Some t; ends = None } ∷ [] | false ↦ [] ]) (f t)

-- A node that reacts after a change reacted before it: by its scripts, or by a run.
pub reacts-back : (graph : Graph) (s q : Core) (u m n : ℕ) → (list_any (covers q m u) (runs q n m) ≡ true → list_any (covers s m u) (runs s n m) ≡ true) → reacts graph q u m n ≡ true → reacts graph s u m n ≡ true
reacts-back graph s q u m n f h = go (or_cases _ _ h)
  where
    go : (is_in n (static_outs graph m) ≡ true) ⊎ (list_any (covers q m u) (runs q n m) ≡ true) → reacts graph s u m n ≡ true
    go (inl k) = or_left _ _ k
    go (inr k) = or_right _ _ (f k)

-- the parts of a cover
pub record Covers (s : Core) (m u : ℕ) (r : Run) : Type 0 where
  pub has_it : has (entries s m) u ≡ true
  pub from : is_from s m r.begins u ≡ true
  pub until : is_until s m r.ends u ≡ true

pub covers-parts : (s : Core) (m u : ℕ) (r : Run) → covers s m u r ≡ true → Covers s m u r
covers-parts s m u r h =
    let a = and_parts (has (entries s m) u && is_from s m r.begins u) (is_until s m r.ends u) h in
    let b = and_parts (has (entries s m) u) (is_from s m r.begins u) a.0 in
    record { has_it = b.0; from = b.1; until = a.1 }

pub parts-covers : (s : Core) (m u : ℕ) (r : Run) → Covers s m u r → covers s m u r ≡ true
parts-covers s m u r c = and_from _ _ (and_from _ _ c.has_it c.from) c.until

pub from-back : (s q : Core) (m u : ℕ) (begins : Option ℕ) → ((b : ℕ) → begins ≡ Some b → is_active (entries q m) b u ≡ true → is_active (entries s m) b u ≡ true) → is_from q m begins u ≡ true → is_from s m begins u ≡ true
from-back s q m u None f h = refl
from-back s q m u (Some b) f h = f b refl h

pub until-back : (s q : Core) (m u : ℕ) (ends : Option ℕ) → ((z : ℕ) → ends ≡ Some z → live q z ≡ true → behind (entries q m) u z ≡ true → (live s z ≡ true) × (behind (entries s m) u z ≡ true)) → is_until q m ends u ≡ true → is_until s m ends u ≡ true
until-back s q m u None f h = refl
until-back s q m u (Some z) f h = let a = and_parts (live q z) (behind (entries q m) u z) h in let b = f z refl a.0 a.1 in and_from _ _ b.0 b.1

-- Where the runs are the same and each run that covers the call covered it, what reacts reacted.
pub kept-reacts : (graph : Graph) (s q : Core) (u m n : ℕ) → runs q n m ≡ runs s n m → ((i : ℕ) (r : Run) → slice_get (runs s n m) i ≡ Some r → covers q m u r ≡ true → covers s m u r ≡ true)
    → reacts graph q u m n ≡ true → reacts graph s u m n ≡ true
kept-reacts graph s q u m n e f h = reacts-back graph s q u m n (λ k. any-map (covers q m u) (covers s m u) (runs s n m) f (subst (λ (rs : List Run). list_any (covers q m u) rs ≡ true) e k)) h

-- the same lists, and no call lives that did not
pub same_lists-covers : (s q : Core) (m u : ℕ) → entries q m ≡ entries s m → ((z : ℕ) → has (entries s m) z ≡ true → live q z ≡ true → live s z ≡ true) → (r : Run) → covers q m u r ≡ true → covers s m u r ≡ true
same_lists-covers s q m u e l r h =
    let c = covers-parts q m u r h in
    parts-covers s m u r (record {
      has_it = subst (λ (es : List Entry). has es u ≡ true) e c.has_it;
      from = from-back s q m u r.begins (λ b k a. subst (λ (es : List Entry). is_active es b u ≡ true) e a) c.from;
      until = until-back s q m u r.ends (λ z k x a. let b = subst (λ (es : List Entry). behind es u z ≡ true) e a in (l z (behind-has (entries s m) u z b).1 x, b)) c.until;
    })

-- ---- a Mark more in a list

pub read_all-append : (m : ℕ) (xs ys : List Entry) (q : Reading) → read_all m (xs ++ ys) q ≡ read_all m ys (read_all m xs q)
read_all-append m [] ys q = refl
read_all-append m (x ∷ xs) ys q = read_all-append m xs ys (read_state m x.version x.state q)

pub marked-reading : (stops : ℕ → Bool) (m : ℕ) (e : Entry) (es : List Entry) (q : Reading) → e.state ≡ Mark → read_all m (placed (on_calls stops) e es) q ≡ read_all m es q
marked-reading stops m e es q h =
    read_all-append m (front (on_calls stops) es) (e ∷ rest (on_calls stops) es) q
    ∙ ap (λ (x : State). read_all m (rest (on_calls stops) es) (read_state m e.version x (read_all m (front (on_calls stops) es) q))) h
    ∙ sym (read_all-append m (front (on_calls stops) es) (rest (on_calls stops) es) q)
    ∙ ap (λ (xs : List Entry). read_all m xs q) (front-rest stops es)

pub more-first_open : (xs ys : List Entry) (e : Entry) → is_frame e.state ≡ false → first_open (xs ++ e ∷ ys) ≡ first_open (xs ++ ys)
more-first_open [] ys e h = rw (h, first_open) refl
more-first_open (x ∷ xs) ys e h = let r = more-first_open xs ys e h in grind (arith, r)

pub marked-first_open : (stops : ℕ → Bool) (e : Entry) (es : List Entry) → is_frame e.state ≡ false → first_open (placed (on_calls stops) e es) ≡ first_open es
marked-first_open stops e es h = more-first_open (front (on_calls stops) es) (rest (on_calls stops) es) e h ∙ ap first_open (front-rest stops es)

pub marked-runs : (stops : ℕ → Bool) (e : Entry) (es : List Entry) (os : List OutEdge) (n m : ℕ) → e.state ≡ Mark → runs_in (placed (on_calls stops) e es) os n m ≡ runs_in es os n m
marked-runs stops e es os n m h =
    ap (λ (q : Reading). q.closed ++ last_run q.current (dropper_in (placed (on_calls stops) e es) os n) ++ discovered (first_open (placed (on_calls stops) e es)) n os) (marked-reading stops m e es nothing_read h)
    ∙ ap (λ (o : Option ℕ). (read_all m es nothing_read).closed ++ last_run (read_all m es nothing_read).current (elim (has_node os n) as (λ _. Option ℕ) [ true ↦ None | false ↦ o ]) ++ discovered o n os) (marked-first_open stops e es (ap is_frame h))

more-up_to : (xs ys : List Entry) (e : Entry) (u b : ℕ) → (e.version == u) ≡ false → (e.version == b) ≡ false → has (up_to (xs ++ e ∷ ys) u) b ≡ has (up_to (xs ++ ys) u) b
more-up_to [] ys e u b h k = grind (arith, h, k)
more-up_to (x ∷ xs) ys e u b h k = let r = more-up_to xs ys e u b h k in grind (arith, r)

-- An edge of another call is active after a call has entered the list where it was before; one of the call itself was too.
pub placed-active : (stops : ℕ → Bool) (e : Entry) (es : List Entry) (u b : ℕ) → has es e.version ≡ false → (e.version == u) ≡ false → is_active (placed (on_calls stops) e es) b u ≡ true → is_active es b u ≡ true
placed-active stops e es u b fresh ne h = go (cases_Bool (e.version == b))
  where
    go : ((e.version == b) ≡ true) ⊎ ((e.version == b) ≡ false) → is_active es b u ≡ true
    go (inl k) = let z = subst (λ (v : ℕ). has es v ≡ false) (eqb-true e.version b k) fresh in grind (arith, z)
    go (inr k) =
        let xs = front (on_calls stops) es in
        let ys = rest (on_calls stops) es in
        let a = has-put xs ys e b in
        let c = more-up_to xs ys e u b ne k in
        let j = front-rest stops es in
        let d = ap (λ (zs : List Entry). has zs b) j in
        let f = ap (λ (zs : List Entry). has (up_to zs u) b) j in
        same (has (xs ++ e ∷ ys) b) (has (up_to (xs ++ e ∷ ys) u) b) (has es b) (has (up_to es u) b) (e.version == b) k (a ∙ ap (λ (x : Bool). (e.version == b) || x) d) (c ∙ f) h
      where
        same : (a b c d e : Bool) → e ≡ false → a ≡ (e || c) → b ≡ d → (not a || b) ≡ true → (not c || d) ≡ true
        same a b c d e x p q h = grind (arith, x, p, q, h)

pub placed-behind : (stops : ℕ → Bool) (e : Entry) (es : List Entry) (u z : ℕ) → (e.version == u) ≡ false → (e.version == z) ≡ false → behind (placed (on_calls stops) e es) u z ≡ behind es u z
placed-behind stops e es u z h k = more-behind (front (on_calls stops) es) (rest (on_calls stops) es) e u z (λ x. both_ways _ h (eq-eqb e.version u (sym x))) (λ x. both_ways _ k (eq-eqb e.version z (sym x))) ∙ ap (λ (xs : List Entry). behind xs u z) (front-rest stops es)
