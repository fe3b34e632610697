-- A step that comes next in the work at a node is allowed.
use Rattle.std.proofs.Common.{◌≡◌, ℕ, Bool, true, false, ◌&&◌, ◌||◌, not, ◌==◌, ◌⊎◌, inl, inr, refl, sym, ap, arith, List, [], ◌∷◌, ◌++◌, length, true≢false, ◌∙◌, subst, Option, Some, None}
use Rattle.std.specs.Prelude.{find, is_none, is_some, slice_get}
use Rattle.std.specs.List.{list_any, list_all}
use Rattle.std.proofs.lemmas.Bool.Decides.{eqb_tells}
use Rattle.std.proofs.lemmas.Bool.{or_cases, or_left, or_right, and_from, eqb-true, eq-eqb, false_from_ne_true, both_ways, cases_Bool, not-true, and_right as and_none, or_parts}
use Rattle.std.proofs.lemmas.List.Folds.{list_any-append}
use Rattle.script_tree.proofs.Truths.{and_left, and_right}
use Rattle.signal_graph.specs.Graph.{Graph, node_at, numbers, is_in, is_source, inputs_of, body_of}
use Rattle.node_versions.specs.declared.entry.Entry.{Entry}
use Rattle.node_versions.specs.Entries.{IsUnique, has, at, is_mark, is_frame, behind, first_open, served, has_out, has_node}
use Rattle.flow_model.specs.declared.step.Step.{Step}
use Rattle.flow_model.specs.declared.step.Step.TheVariants as steps
use Rattle.flow_model.specs.declared.step.Turn.{Turn}
use Rattle.flow_model.specs.declared.step.Turn.TheVariants as turns
use Rattle.flow_model.specs.Machine.State.{Core, LiveCall, live, executes, wants, opens, changes, entries, outs, cell}
use Rattle.flow_model.specs.Machine.Words.{deps, prior_picks, is_gathered, is_found, found_candidates, is_prior, is_candidate, heads, at_front, can_work, touched, due, pressed, has_room, is_some_of}
use Rattle.flow_model.specs.Machine.Steps.{allowed, asks_for, all_gathered, has_body_value, is_worked_out, is_discovered, is_released}
use Rattle.flow_model.specs.Machine.Next
use Rattle.flow_model.specs.Kept.Runs.{runs, Run, read_all, nothing_read, last_run, dropper, discovered}
use Rattle.flow_model.specs.Kept.Lawful.{IsLawful}
use Rattle.flow_model.proofs.OneStep.WhoMayStep.{executes-live}
use Rattle.flow_model.proofs.OrderStays.OpenNodesHaveFrames.{entry-there}
use Rattle.flow_model.proofs.Together.Points.{when-holds, some-holds}
use Rattle.flow_model.proofs.General.AnyAndAll.{all-in, any-in, some-is, any-none as none_of}
use Rattle.flow_model.proofs.General.Counting.{in-numbers}

-- A turn is no step, or an allowed one.
abbrev pub Allows : Graph → Core → Turn → Type 0
Allows graph s (turns.Step step) = allowed graph s step ≡ true
Allows graph s (turns.NotYet cause) = Unit {0}
Allows graph s turns.Ready = Unit {0}

-- A full list has something to collect.
abbrev pub Collects : Graph → Core → Type 0
Collects graph s = (m : ℕ) → has_room s m ≡ false → allowed graph s (steps.Collect m) ≡ true

-- ---- what is found first

pub find-some : (test : ℕ → Bool) (xs : List ℕ) (m : ℕ) → find test xs ≡ Some m → (is_in m xs ≡ true) × (test m ≡ true)
find-some test [] m h = cc
find-some test (x ∷ xs) m h = go (cases_Bool (test x)) h (find-some test xs m)
  where
    go : (test x ≡ true) ⊎ (test x ≡ false) → find test (x ∷ xs) ≡ Some m → (find test xs ≡ Some m → (is_in m xs ≡ true) × (test m ≡ true)) → (is_in m (x ∷ xs) ≡ true) × (test m ≡ true)
    go (inl e) h further =
        let k : Some x ≡ Some m = rw e at h in
        let q : x ≡ m = cc in
        (or_left _ _ (eq-eqb x m q), subst (λ (y : ℕ). test y ≡ true) q e)
    go (inr e) h further = let k : find test xs ≡ Some m = rw e at h in let r = further k in (or_right _ _ r.0, r.1)

find-none : (test good : ℕ → Bool) → ((x : ℕ) → test x ≡ false → good x ≡ true) → (xs : List ℕ) → find test xs ≡ None → list_all good xs ≡ true
find-none test good f [] h = refl
find-none test good f (x ∷ xs) h = go (cases_Bool (test x)) h (find-none test good f xs)
  where
    go : (test x ≡ true) ⊎ (test x ≡ false) → find test (x ∷ xs) ≡ None → (find test xs ≡ None → list_all good xs ≡ true) → list_all good (x ∷ xs) ≡ true
    go (inl e) h further = let k : Some x ≡ None = rw e at h in cc
    go (inr e) h further = let k : find test xs ≡ None = rw e at h in and_from _ _ (f x e) (further k)

pub least-none : (test : LiveCall → Bool) (cs : List LiveCall) → Next.least_version test cs ≡ None → list_any test cs ≡ false
least-none test [] h = refl
least-none test (c ∷ cs) h = go (cases_Bool (test c)) h (least-none test cs)
  where
    go : (test c ≡ true) ⊎ (test c ≡ false) → Next.least_version test (c ∷ cs) ≡ None → (Next.least_version test cs ≡ None → list_any test cs ≡ false) → list_any test (c ∷ cs) ≡ false
    go (inl e) h further = let k : Some (Next.lesser c.version (Next.least_version test cs)) ≡ None = rw (e, Next.least_version) at h in cc
    go (inr e) h further = let k : Next.least_version test cs ≡ None = rw (e, Next.least_version) at h in let r = further k in grind (arith, e, r)

-- ---- steps that enter a list

entering-ok : (graph : Graph) (s : Core) → Collects graph s → (t m : ℕ) (step : Step) → (has_room s m ≡ true → allowed graph s step ≡ true) → Allows graph s (Next.entering graph s (entries s) (outs s) t m step)
entering-ok graph s col t m step f = go (has_room s m) refl
  where
    go : (b : Bool) → has_room s m ≡ b → Allows graph s (turns.Step (elim b [ true ↦ step | false ↦ steps.Collect m ]))
    go true e = f e
    go false e = col m e

unless-ok : (graph : Graph) (s : Core) → Collects graph s → (t : ℕ) (b : Bool) (m : ℕ) (step : Step) → (b ≡ true → allowed graph s step ≡ true) → (b ≡ false → has_room s m ≡ true → allowed graph s step ≡ true) → Allows graph s (Next.entering_unless graph s (entries s) (outs s) t b m step)
unless-ok graph s col t true m step f g = f refl
unless-ok graph s col t false m step f g = entering-ok graph s col t m step (g refl)

pub framing-ok : (graph : Graph) (s : Core) → Collects graph s → (t u n : ℕ) → wants s u n ≡ true → Allows graph s (Next.framing graph s (entries s) (outs s) t u n)
framing-ok graph s col t u n w = unless-ok graph s col t (at is_mark (entries s n) u) n (steps.Frame u n) (λ e. and_from _ _ w (or_left _ _ e)) (λ _ r. and_from _ _ w (or_right _ _ r))

-- ---- reading

pub first_open-has : (xs : List Entry) (v : ℕ) → first_open xs ≡ Some v → has xs v ≡ true
first_open-has [] v h = cc
first_open-has (x ∷ xs) v h = let r = first_open-has xs v in grind (arith, eqb_tells, r, h)

-- An entry that is no Frame, with no Frame before it, is served.
pub served-from : (es : List Entry) (t : ℕ) → IsUnique es → has es t ≡ true → at is_frame es t ≡ false → Next.blocked es t ≡ None → served es t ≡ true
served-from [] t q h f b = h
served-from (e ∷ es) t q h f b = go (is_frame e.state) refl (cases_Bool (e.version == t)) (served-from es t q.1)
  where
    go : (x : Bool) → is_frame e.state ≡ x → ((e.version == t) ≡ true) ⊎ ((e.version == t) ≡ false) → (has es t ≡ true → at is_frame es t ≡ false → Next.blocked es t ≡ None → served es t ≡ true) → served (e ∷ es) t ≡ true
    go true g (inl w) further = let k : is_frame e.state ≡ false = rw (w, at) at f in absurd (both_ways _ k g)
    go true g (inr w) further =
        let hes : has es t ≡ true = subst (λ (x : Bool). (x || has es t) ≡ true) w h in
        let o : first_open (e ∷ es) ≡ Some e.version = rw (g, first_open) refl in
        let v = eq-eqb e.version e.version refl in
        let bh : behind (e ∷ es) e.version t ≡ true = rw (v, behind) hes in
        let k : Next.kept_if (behind (e ∷ es) e.version t) e.version ≡ None = ap (λ (x : Option ℕ). Next.blocked_by (e ∷ es) t x) (sym o) ∙ b in
        let k2 : Some e.version ≡ None = ap (λ (x : Bool). Next.kept_if x e.version) (sym bh) ∙ k in
        cc
    go false g (inl w) further = rw (g, served) (or_left _ _ w)
    go false g (inr w) further =
        let hes : has es t ≡ true = subst (λ (x : Bool). (x || has es t) ≡ true) w h in
        let fes : at is_frame es t ≡ false = rw (w, at) at f in
        let o : first_open (e ∷ es) ≡ first_open es = rw (g, first_open) refl in
        rw (g, served) (or_right _ _ (further hes fes (still (first_open es) refl (ap (λ (x : Option ℕ). Next.blocked_by (e ∷ es) t x) (sym o) ∙ b))))
      where
        still : (x : Option ℕ) → first_open es ≡ x → Next.blocked_by (e ∷ es) t (first_open es) ≡ None → Next.blocked_by es t (first_open es) ≡ None
        still None e1 k = ap (λ (y : Option ℕ). Next.blocked_by es t y) e1
        still (Some v) e1 k =
            let hv = first_open-has es v e1 in
            let ne : (e.version == v) ≡ false = false_from_ne_true _ (λ z. both_ways _ q.0 (subst (λ (y : ℕ). has es y ≡ true) (sym (eqb-true e.version v z)) hv)) in
            let bv : behind (e ∷ es) v t ≡ behind es v t = rw (ne, behind) refl in
            ap (λ (y : Option ℕ). Next.blocked_by es t y) e1 ∙ ap (λ (y : Bool). Next.kept_if y v) (sym bv) ∙ sym (ap (λ (y : Option ℕ). Next.blocked_by (e ∷ es) t y) e1) ∙ k

pub not_not : (x : Bool) → not x ≡ false → x ≡ true
not_not true h = refl
not_not false h = absurd (true≢false h)

pub reading-ok : (graph : Graph) (s : Core) → Collects graph s → (t m : ℕ) (step : Step) → (has (entries s m) t ≡ true → Next.blocked (entries s m) t ≡ None → allowed graph s step ≡ true) → (has (entries s m) t ≡ false → has_room s m ≡ true → allowed graph s (steps.Mark t m) ≡ true) → Allows graph s (Next.reading graph s (entries s) (outs s) t m step)
reading-ok graph s col t m step f g =
    when-holds (Allows graph s) _ _ _ (λ e. entering-ok graph s col t m (steps.Mark t m) (g (not-true _ e))) (λ e.
    some-holds (Allows graph s) _ _ _ (λ v k. tt) (λ k. f (not_not _ e) k))

reading_candidate-ok : (graph : Graph) (s : Core) → Collects graph s → (t c : ℕ) (step : Step) → (has (entries s c) t ≡ true → opens s t c ≡ false → Next.blocked (entries s c) t ≡ None → allowed graph s step ≡ true) → (has (entries s c) t ≡ false → has_room s c ≡ true → allowed graph s (steps.Mark t c) ≡ true) → Allows graph s (Next.reading_candidate graph s (entries s) (outs s) t c step)
reading_candidate-ok graph s col t c step f g =
    when-holds (Allows graph s) _ _ _ (λ e. entering-ok graph s col t c (steps.Mark t c) (g (not-true _ e))) (λ e.
    when-holds (Allows graph s) _ _ _ (λ o. tt) (λ o.
    some-holds (Allows graph s) _ _ _ (λ v k. tt) (λ k. f (not_not _ e) o k)))

-- ---- the work at a node

-- it is the call's turn there, and no later call waits for it
pub record AtWork (graph : Graph) (s : Core) (t n : ℕ) : Type 0 where
  pub turns : can_work graph s t n ≡ true
  pub not_pressed : pressed s t n ≡ false

front : (graph : Graph) (s : Core) (t n : ℕ) → AtWork graph s t n → at_front graph s t n ≡ true
front graph s t n w = and_right _ _ w.turns

runs_on : (graph : Graph) (s : Core) (t n : ℕ) → AtWork graph s t n → executes s t ≡ true
runs_on graph s t n w = and_left _ _ (and_left _ _ (front graph s t n w))

head : (graph : Graph) (s : Core) (t n : ℕ) → AtWork graph s t n → heads s t n ≡ true
head graph s t n w = and_right _ _ (and_left _ _ (front graph s t n w))

input-closed : (graph : Graph) (s : Core) (t n m : ℕ) → AtWork graph s t n → is_in m (inputs_of (node_at graph n)) ≡ true → opens s t m ≡ false
input-closed graph s t n m w i = none_of (opens s t) (deps graph s t n) m (not-true _ (and_right _ _ (front graph s t n w)))
    (list_any-append (λ x. x == m) (inputs_of (node_at graph n)) (prior_picks s t n) ∙ or_left _ _ i)

pub not_frame : (graph : Graph) (s : Core) → IsLawful graph s → (t m : ℕ) → opens s t m ≡ false → at is_frame (entries s m) t ≡ false
not_frame graph s h t m o = sym (h.frames_are_open.opens_frames t m) ∙ o

-- the node is a node of the graph
head-has : (es : List Entry) (t : ℕ) → is_some_of (first_open es) t ≡ true → has es t ≡ true
head-has es t h = go (first_open es) refl h
  where
    go : (o : Option ℕ) → first_open es ≡ o → is_some_of o t ≡ true → has es t ≡ true
    go None e k = absurd (true≢false (sym k))
    go (Some v) e k = subst (λ (x : ℕ). has es x ≡ true) (eqb-true v t k) (first_open-has es v e)

-- A node that asks for an entry is given it.
mark-ok : (graph : Graph) (s : Core) → IsLawful graph s → (t n m : ℕ) → AtWork graph s t n → asks_for graph s t m n ≡ true → has (entries s m) t ≡ false → has_room s m ≡ true → allowed graph s (steps.Mark t m) ≡ true
mark-ok graph s h t n m w a e r =
    let there = entry-there s n t (head-has (entries s n) t (head graph s t n w)) in
    let l = h.lists in
    let i = in-numbers 0 graph.nodes n (omega arith) (omega (arith, there, l)) in
    and_from _ _ (and_from _ _ (and_from _ _ (runs_on graph s t n w) (ap not e)) r) (or_left _ _ (any-in (asks_for graph s t m) (numbers graph) n i a))

-- ---- the points of an open node

pub source-ok : (graph : Graph) (s : Core) (t n : ℕ) → AtWork graph s t n → is_source (node_at graph n) ≡ true → allowed graph s (steps.Resolve t n) ≡ true
source-ok graph s t n w e = and_from _ _ (and_from _ _ w.turns (ap not w.not_pressed)) (or_left _ _ e)

pub skip-ok : (graph : Graph) (s : Core) (t n : ℕ) → AtWork graph s t n → is_source (node_at graph n) ≡ false → list_any (changes s t) (deps graph s t n) ≡ false → allowed graph s (steps.Skip t n) ≡ true
skip-ok graph s t n w e u = and_from _ _ (and_from _ _ (and_from _ _ w.turns (ap not e)) (ap not (and_none (not (is_source (node_at graph n))) _ u))) (ap not w.not_pressed)

-- it is the call's turn at the node, which it has touched
pub record AtTouched (graph : Graph) (s : Core) (t n : ℕ) : Type 0 where
  pub work : AtWork graph s t n
  pub touches : touched graph s t n ≡ true

due-of : (graph : Graph) (s : Core) (t n : ℕ) → AtTouched graph s t n → due graph s t n ≡ true
due-of graph s t n a = and_from _ _ a.work.turns a.touches

pub input-ok : (graph : Graph) (s : Core) → IsLawful graph s → Collects graph s → (t n : ℕ) → AtTouched graph s t n → (m : ℕ) → find (λ m. not (is_gathered s n m)) (inputs_of (node_at graph n)) ≡ Some m → Allows graph s (Next.reading graph s (entries s) (outs s) t m (steps.Gather t n m))
input-ok graph s h col t n w m e =
    let f = find-some (λ c. not (is_gathered s n c)) (inputs_of (node_at graph n)) m e in
    let d = due-of graph s t n w in
    let o = not_frame graph s h t m (input-closed graph s t n m w.work f.0) in
    reading-ok graph s col t m (steps.Gather t n m)
    (λ a b. and_from _ _ (and_from _ _ (and_from _ _ d (or_left _ _ f.0)) f.1) (served-from (entries s m) t (h.one_entry m) a o b))
    (λ a r. mark-ok graph s h t n m w.work (and_from _ _ d (or_left _ _ (and_from _ _ f.0 f.1))) a r)

pub evaluate-ok : (graph : Graph) (s : Core) (t n : ℕ) → AtTouched graph s t n → all_gathered s n (inputs_of (node_at graph n)) ≡ true → is_found s n ≡ false → allowed graph s (steps.Evaluate t n) ≡ true
evaluate-ok graph s t n w a e = and_from _ _ (and_from _ _ (and_from _ _ (front graph s t n w.work) w.touches) a) (ap not e)

pub discover-ok : (graph : Graph) (s : Core) → Collects graph s → (t n : ℕ) → AtTouched graph s t n → (c : ℕ) → find (Next.is_new graph s (entries s) (outs s) t n) (found_candidates s n) ≡ Some c
    → Allows graph s (Next.entering_unless graph s (entries s) (outs s) t (has (entries s c) t) c (steps.Discover t n c))
discover-ok graph s col t n w c e =
    let g = find-some (Next.is_new graph s (entries s) (outs s) t n) (found_candidates s n) c e in
    let base = and_from _ _ (and_from _ _ (and_from _ _ (due-of graph s t n w) g.0) (and_left _ _ g.1)) (and_right _ _ g.1) in
    unless-ok graph s col t (has (entries s c) t) c (steps.Discover t n c) (λ k. and_from _ _ base (or_left _ _ k)) (λ _ r. and_from _ _ base (or_right _ _ r))

-- A candidate that the call has discovered has an entry of it.
last-get : (rs : List Run) (r : Run) → slice_get (rs ++ r ∷ []) (length rs) ≡ Some r
last-get [] r = refl
last-get (x ∷ xs) r = last-get xs r

discovered-entered : (graph : Graph) (s : Core) → IsLawful graph s → (t n c : ℕ) → live s t ≡ true → heads s t n ≡ true → has_out (outs s c) n t ≡ true → has (entries s c) t ≡ true
discovered-entered graph s h t n c l hd e =
    let q = read_all c (entries s n) nothing_read in
    let rs = q.closed ++ last_run q.current (dropper s n c) in
    let r : Run = record { begins = Some t; ends = None } in
    let d : discovered (first_open (entries s n)) n (outs s c) ≡ r ∷ [] = ap (λ (o : Option ℕ). discovered o n (outs s c)) (some-is (first_open (entries s n)) t hd) ∙ rw (e, discovered) refl in
    let g : slice_get (runs s n c) (length rs) ≡ Some r = ap (λ (xs : List Run). slice_get (rs ++ xs) (length rs)) d ∙ last-get rs r in
    h.edges_are_kept.begins_entered n c (length rs) r t g refl l

-- something is found, and each candidate is discovered
pub record IsDiscoveredAll (graph : Graph) (s : Core) (t n : ℕ) : Type 0 where
  pub work : AtTouched graph s t n
  pub found : is_found s n ≡ true
  pub discovered : list_all (is_discovered s t n) (found_candidates s n) ≡ true

pub candidate-ok : (graph : Graph) (s : Core) → IsLawful graph s → Collects graph s → (t n : ℕ) → IsDiscoveredAll graph s t n → (c : ℕ) → find (λ c. not (is_gathered s n c)) (found_candidates s n) ≡ Some c → Allows graph s (Next.reading_candidate graph s (entries s) (outs s) t c (steps.Gather t n c))
candidate-ok graph s h col t n g c e = reading_candidate-ok graph s col t c (steps.Gather t n c)
    (λ a k b. and_from _ _ (and_from _ _ (and_from _ _ d (or_right _ _ f.0)) f.1) (served-from (entries s c) t (h.one_entry c) a (not_frame graph s h t c k) b))
    (λ a r. mark-ok graph s h t n c g.work.work (and_from _ _ d (or_right _ _ (and_from _ _ f.0 (prior a)))) a r)
  where
    f : (is_in c (found_candidates s n) ≡ true) × (not (is_gathered s n c) ≡ true)
    f = find-some (λ c. not (is_gathered s n c)) (found_candidates s n) c e

    d : due graph s t n ≡ true
    d = due-of graph s t n g.work

    prior : has (entries s c) t ≡ false → is_prior s t n c ≡ true
    prior k = cases (or_cases (is_prior s t n c) (has_out (outs s c) n t) (all-in (is_discovered s t n) (found_candidates s n) c g.discovered f.0))
      where
        lt : live s t ≡ true
        lt = executes-live s t (runs_on graph s t n g.work.work)

        cases : (is_prior s t n c ≡ true) ⊎ (has_out (outs s c) n t ≡ true) → is_prior s t n c ≡ true
        cases (inl p) = p
        cases (inr o) = absurd (both_ways (has (entries s c) t) k (discovered-entered graph s h t n c lt (head graph s t n g.work.work) o))

-- each candidate is gathered besides
pub record IsGatheredAll (graph : Graph) (s : Core) (t n : ℕ) : Type 0 where
  pub candidates : IsDiscoveredAll graph s t n
  pub gathered : all_gathered s n (found_candidates s n) ≡ true

some-none : {A : Type 0} (o : Option A) → is_none o ≡ false → is_some o ≡ true
some-none None h = absurd (true≢false h)
some-none (Some x) h = refl

none-some : {A : Type 0} (o : Option A) → is_some o ≡ false → is_none o ≡ true
none-some None h = refl
none-some (Some x) h = absurd (true≢false h)

pub body-ok : (graph : Graph) (s : Core) (t n : ℕ) → IsGatheredAll graph s t n → has_body_value graph s n ≡ false → allowed graph s (steps.Body t n) ≡ true
body-ok graph s t n g e =
    let q = or_parts (is_none (body_of (node_at graph n))) (is_some (cell s n).body) e in
    let w = g.candidates.work in
    and_from _ _ (and_from _ _ (and_from _ _ (and_from _ _ (and_from _ _ (front graph s t n w.work) w.touches) (some-none (body_of (node_at graph n)) q.0)) g.candidates.found) g.gathered) (none-some (cell s n).body q.1)

pub drop-ok : (graph : Graph) (s : Core) → Collects graph s → (t n : ℕ) → IsGatheredAll graph s t n → (o : ℕ) → find (Next.is_held graph s (entries s) (outs s) t n) (prior_picks s t n) ≡ Some o
    → Allows graph s (Next.entering_unless graph s (entries s) (outs s) t (has (entries s o) t) o (steps.Drop t n o))
drop-ok graph s col t n g o e =
    let f = find-some (Next.is_held graph s (entries s) (outs s) t n) (prior_picks s t n) o e in
    let d = due-of graph s t n g.candidates.work in
    let base = and_from _ _ (and_from _ _ (and_from _ _ (and_from _ _ (and_from _ _ d g.candidates.found) g.gathered) f.0) (and_left _ _ f.1)) (and_right _ _ f.1) in
    unless-ok graph s col t (has (entries s o) t) o (steps.Drop t n o) (λ k. and_from _ _ base (or_left _ _ k)) (λ _ r. and_from _ _ base (or_right _ _ r))

kept-or_not : (a b : Bool) → (not a && b) ≡ false → (a || not b) ≡ true
kept-or_not true b h = refl
kept-or_not false true h = absurd (true≢false h)
kept-or_not false false h = refl

pub resolve-ok : (graph : Graph) (s : Core) (t n : ℕ) → IsGatheredAll graph s t n → has_body_value graph s n ≡ true → find (Next.is_held graph s (entries s) (outs s) t n) (prior_picks s t n) ≡ None → allowed graph s (steps.Resolve t n) ≡ true
resolve-ok graph s t n g b e =
    let rel = find-none (Next.is_held graph s (entries s) (outs s) t n) (is_released s n) (λ x k. kept-or_not (is_candidate s n x) (has_node (outs s x) n) k) (prior_picks s t n) e in
    let c = g.candidates in
    let worked : is_worked_out graph s t n ≡ true = and_from _ _ (and_from _ _ (and_from _ _ (and_from _ _ c.found g.gathered) c.discovered) rel) b in
    and_from _ _ (and_from _ _ c.work.work.turns (ap not c.work.work.not_pressed)) (or_right _ _ (and_from _ _ c.work.touches worked))

new-not : (a b : Bool) → (not a && not b) ≡ false → (a || b) ≡ true
new-not true b h = refl
new-not false true h = refl
new-not false false h = absurd (true≢false h)

pub all_discovered-none : (graph : Graph) (s : Core) (t n : ℕ) → find (Next.is_new graph s (entries s) (outs s) t n) (found_candidates s n) ≡ None → list_all (is_discovered s t n) (found_candidates s n) ≡ true
all_discovered-none graph s t n e = find-none (Next.is_new graph s (entries s) (outs s) t n) (is_discovered s t n) (λ y q. new-not (is_prior s t n y) (has_out (outs s y) n t) q) (found_candidates s n) e

pub all_gathered-none : (s : Core) (n : ℕ) (xs : List ℕ) → find (λ m. not (is_gathered s n m)) xs ≡ None → all_gathered s n xs ≡ true
all_gathered-none s n xs e = find-none (λ m. not (is_gathered s n m)) (is_gathered s n) (λ x k. not_not _ k) xs e
