-- A live call is worth its Start, its looks and its End; each of these steps lowers that, and no step raises it.
use Rattle.std.proofs.Common.{◌≡◌, ℕ, zero, suc, ◌+◌, ◌-◌, ◌≤◌, ◌<◌, Bool, true, false, not, ◌==◌, refl, sym, ap, arith, List, [], ◌∷◌, ◌++◌, length, map, true≢false, Option, Some, None}
use Rattle.std.specs.Prelude.{is_some}
use Rattle.std.specs.Prelude.{slice_get, is_none}
use Rattle.script_tree.specs.declared.limits.TheConstants.{LOOKS}
use Rattle.script_tree.specs.declared.value.Value.{Value}
use Rattle.script_tree.proofs.Truths.{and_right}
use Rattle.signal_graph.specs.declared.call.Call.{Call}
use Rattle.signal_graph.specs.Graph.{Graph}
use Rattle.node_versions.specs.declared.entry.Entry.{Entry}
use Rattle.node_versions.specs.declared.entry.State.TheVariants.{Mark, Frame}
use Rattle.node_versions.specs.Entries.{has, at, is_mark}
use Rattle.flow_model.specs.declared.step.Step.{Step}
use Rattle.flow_model.specs.declared.step.Step.TheVariants as steps
use Rattle.flow_model.specs.Machine.State.{Core, LiveCall, call, call_of, call_or, entries, change_call, with_cell}
use Rattle.flow_model.specs.Machine.Words.{next_look}
use Rattle.flow_model.specs.Machine.Changes.{enter, raise, ensure_mark, opened, closed, tell_call, add_edge}
use Rattle.flow_model.specs.Machine.Steps.{allowed, apply, begin, new_call, open_node, frame, started, counted, with_look, without_call, served_look, look_value}
use Rattle.flow_model.specs.Kept.Lawful.{IsLawful}
use Rattle.flow_model.proofs.OneStep.WhoMayStep.{start-is_framing, is_framing-live, look-idle, end-idle, idle-executes, executes-live}
use Rattle.flow_model.proofs.General.Sums.{total, total-append, bit}
use Rattle.flow_model.proofs.Lengths.ListWorth.{live_versions}

abbrev pub call_worth : LiveCall → ℕ
call_worth c = 1 + (bit (not c.executing) + (LOOKS - length c.looked))

abbrev pub calls_worth : Core → ℕ
calls_worth s = total call_worth s.calls

-- ---- a change of one call

changed-total : (w : LiveCall → ℕ) (t : ℕ) (f : LiveCall → LiveCall) → ((c : LiveCall) → w (f c) ≤ w c) → (cs : List LiveCall) → total w (change_call t f cs) ≤ total w cs
changed-total w t f h [] = omega arith
changed-total w t f h (c ∷ cs) = go (c.version == t) (changed-total w t f h cs) (h c)
  where
    go : (b : Bool) → total w (change_call t f cs) ≤ total w cs → w (f c) ≤ w c → total w (elim b as (λ _. List LiveCall) [ true ↦ f c ∷ cs | false ↦ c ∷ change_call t f cs ]) ≤ w c + total w cs
    go true r a = omega (arith, a)
    go false r a = omega (arith, r)

changed-lowers : (w : LiveCall → ℕ) (t : ℕ) (f : LiveCall → LiveCall) (cs : List LiveCall) → is_some (call_of cs t) ≡ true → w (f (call_or (call_of cs t))) + 1 ≤ w (call_or (call_of cs t)) → total w (change_call t f cs) + 1 ≤ total w cs
changed-lowers w t f [] h d = absurd (true≢false (sym h))
changed-lowers w t f (c ∷ cs) h d = go (c.version == t) h d (changed-lowers w t f cs)
  where
    go : (b : Bool) → is_some (elim b as (λ _. Option LiveCall) [ true ↦ Some c | false ↦ call_of cs t ]) ≡ true
        → w (f (call_or (elim b as (λ _. Option LiveCall) [ true ↦ Some c | false ↦ call_of cs t ]))) + 1 ≤ w (call_or (elim b as (λ _. Option LiveCall) [ true ↦ Some c | false ↦ call_of cs t ]))
        → (is_some (call_of cs t) ≡ true → w (f (call_or (call_of cs t))) + 1 ≤ w (call_or (call_of cs t)) → total w (change_call t f cs) + 1 ≤ total w cs)
        → total w (elim b as (λ _. List LiveCall) [ true ↦ f c ∷ cs | false ↦ c ∷ change_call t f cs ]) + 1 ≤ w c + total w cs
    go true k e r = omega (arith, e)
    go false k e r = let x = r k e in omega (arith, x)

mapped-total : (w : LiveCall → ℕ) (f : LiveCall → LiveCall) → ((c : LiveCall) → w (f c) ≤ w c) → (cs : List LiveCall) → total w (map f cs) ≤ total w cs
mapped-total w f h [] = omega arith
mapped-total w f h (c ∷ cs) = let r = mapped-total w f h cs in let a = h c in omega (arith, r, a)

-- without a call
ended-total : (w : LiveCall → ℕ) (t : ℕ) (cs : List LiveCall) → total w (without_call t cs) ≤ total w cs
ended-total w t [] = omega arith
ended-total w t (c ∷ cs) = go (c.version == t) (ended-total w t cs)
  where
    go : (b : Bool) → total w (without_call t cs) ≤ total w cs → total w (elim b as (λ _. List LiveCall) [ true ↦ without_call t cs | false ↦ c ∷ without_call t cs ]) ≤ w c + total w cs
    go true r = omega (arith, r)
    go false r = omega (arith, r)

ended-lowers : (w : LiveCall → ℕ) (t : ℕ) (cs : List LiveCall) → ((c : LiveCall) → 1 ≤ w c) → is_some (call_of cs t) ≡ true → total w (without_call t cs) + 1 ≤ total w cs
ended-lowers w t [] h k = absurd (true≢false (sym k))
ended-lowers w t (c ∷ cs) h k = go (c.version == t) k (ended-lowers w t cs h) (ended-total w t cs) (h c)
  where
    go : (b : Bool) → is_some (elim b as (λ _. Option LiveCall) [ true ↦ Some c | false ↦ call_of cs t ]) ≡ true → (is_some (call_of cs t) ≡ true → total w (without_call t cs) + 1 ≤ total w cs) → total w (without_call t cs) ≤ total w cs → 1 ≤ w c
        → total w (elim b as (λ _. List LiveCall) [ true ↦ without_call t cs | false ↦ c ∷ without_call t cs ]) + 1 ≤ w c + total w cs
    go true k r a b = omega (arith, a, b)
    go false k r a b = let x = r k in omega (arith, x)

-- ---- which total does not rise by a step

-- what no change of a live call raises
pub record Falls (w : LiveCall → ℕ) : Type 0 where
  pub opens : (n : ℕ) (outs : List ℕ) (c : LiveCall) → w (opened n outs c) ≤ w c
  pub starts : (c : LiveCall) → w (started c) ≤ w c
  pub closes : (n : ℕ) (b : Bool) (c : LiveCall) → w (closed n b c) ≤ w c
  pub counts : (c : LiveCall) → w (counted c) ≤ w c
  pub looks : (v : Value) (c : LiveCall) → w (with_look v c) ≤ w c
  pub tells : (es : List Entry) (t n : ℕ) (c : LiveCall) → w (tell_call es t n c) ≤ w c

frame-total : (w : LiveCall → ℕ) → Falls w → (graph : Graph) (s : Core) (t n : ℕ) → total w (frame graph s t n).calls ≤ total w s.calls
frame-total w h graph s t n = go (at is_mark (entries s n) t)
  where
    go : (b : Bool) → total w (elim b as (λ _. Core) [ true ↦ open_node graph (raise s t n) t n | false ↦ open_node graph (enter s t n Frame) t n ]).calls ≤ total w s.calls
    go true = changed-total w t _ (h.opens n _) s.calls
    go false = changed-total w t _ (h.opens n _) s.calls

ensured-total : (w : LiveCall → ℕ) (s : Core) (t m : ℕ) → total w (ensure_mark s t m).calls ≤ total w s.calls
ensured-total w s t m = go (has (entries s m) t)
  where
    go : (b : Bool) → total w (elim b as (λ _. Core) [ true ↦ s | false ↦ enter s t m Mark ]).calls ≤ total w s.calls
    go true = omega arith
    go false = omega arith

step-total : (w : LiveCall → ℕ) → Falls w → (graph : Graph) (s : Core) (step : Step) → total w (apply graph s step).calls ≤ total w s.calls
step-total w h graph s (steps.Frame t n) = frame-total w h graph s t n
step-total w h graph s (steps.Start t) = changed-total w t started h.starts s.calls
step-total w h graph s (steps.Skip t n) = changed-total w t _ (h.closes n false) s.calls
step-total w h graph s (steps.Gather t n m) = omega arith
step-total w h graph s (steps.Evaluate t n) = changed-total w t _ h.counts s.calls
step-total w h graph s (steps.Body t n) = omega arith
step-total w h graph s (steps.Resolve t n) = changed-total w t _ (h.closes n _) s.calls
step-total w h graph s (steps.Discover t n c) =
    let q = with_cell (ensure_mark s t c) c (add_edge n t) in
    let a = mapped-total w (tell_call (entries q c) t n) (h.tells (entries q c) t n) q.calls in
    let b = ensured-total w s t c in
    omega (arith, a, b)
step-total w h graph s (steps.Drop t n o) = ensured-total w s t o
step-total w h graph s (steps.Mark t m) = omega arith
step-total w h graph s (steps.Look t) = changed-total w t _ (h.looks _) s.calls
step-total w h graph s (steps.End t) = ended-total w t s.calls
step-total w h graph s (steps.Collect n) = omega arith

-- a number of the version
version-falls : (f : ℕ → ℕ) → Falls (λ (c : LiveCall). f c.version)
version-falls f = record { opens = λ n outs c. omega arith; starts = λ c. omega arith; closes = λ n b c. omega arith; counts = λ c. omega arith; looks = λ v c. omega arith; tells = λ es t n c. omega arith }

versions-total : (f : ℕ → ℕ) (cs : List LiveCall) → total f (map (λ (c : LiveCall). c.version) cs) ≡ total (λ (c : LiveCall). f c.version) cs
versions-total f [] = refl
versions-total f (c ∷ cs) = let r = versions-total f cs in omega (arith, r)

-- A step brings no call, whatever a version is worth.
pub step-versions : (f : ℕ → ℕ) (graph : Graph) (s : Core) (step : Step) → total f (live_versions (apply graph s step)) ≤ total f (live_versions s)
step-versions f graph s step =
    let a = step-total (λ (c : LiveCall). f c.version) (version-falls f) graph s step in
    let b = versions-total f s.calls in
    let c = versions-total f (apply graph s step).calls in
    omega (arith, a, b, c)

more-length : (v : Value) (xs : List Value) → length (xs ++ v ∷ []) ≡ suc (length xs)
more-length v [] = refl
more-length v (x ∷ xs) = let r = more-length v xs in omega (arith, r)

bit-false : (b : Bool) → bit false ≤ bit b
bit-false true = omega arith
bit-false false = omega arith

worth-falls : Falls call_worth
worth-falls = record {
  opens = λ n outs c. omega arith;
  starts = λ c. let b = bit-false (not c.executing) in omega (arith, b);
  closes = λ n b c. omega arith;
  counts = λ c. omega arith;
  looks = λ v c. let l = more-length v c.looked in omega (arith, l);
  tells = λ es t n c. omega arith;
}

pub step-calls_worth : (graph : Graph) (s : Core) (step : Step) → calls_worth (apply graph s step) ≤ calls_worth s
step-calls_worth graph s step = step-total call_worth worth-falls graph s step

-- ---- the steps that lower it

pub start-lowers : (graph : Graph) (s : Core) (t : ℕ) → allowed graph s (steps.Start t) ≡ true → calls_worth (apply graph s (steps.Start t)) + 1 ≤ calls_worth s
start-lowers graph s t a =
    let f = start-is_framing graph s t a in
    changed-lowers call_worth t started s.calls (is_framing-live s t f) (one (call s t) (and_right _ _ f))
  where
    one : (c : LiveCall) → not c.executing ≡ true → call_worth (started c) + 1 ≤ call_worth c
    one c h = let b = ap bit h in omega (arith, b)

looked-short : (looks : List ℕ) (k : ℕ) → is_none (slice_get looks k) ≡ false → k < length looks
looked-short [] k h = absurd (true≢false h)
looked-short (x ∷ xs) zero h = omega arith
looked-short (x ∷ xs) (suc k) h = let r = looked-short xs k h in omega (arith, r)

pub look-lowers : (graph : Graph) (s : Core) (t : ℕ) → IsLawful graph s → allowed graph s (steps.Look t) ≡ true → calls_worth (apply graph s (steps.Look t)) + 1 ≤ calls_worth s
look-lowers graph s t h a =
    let l = executes-live s t (idle-executes s t (look-idle graph s t a)) in
    changed-lowers call_worth t (with_look (look_value s t (next_look s t))) s.calls l (one (call s t) (look_value s t (next_look s t)) (some (next_look s t) (and_right _ _ a)) (h.calls_are_right t l).few_looks)
  where
    some : (o : Option ℕ) → served_look s t o ≡ true → is_none o ≡ false
    some None k = absurd (true≢false (sym k))
    some (Some m) k = refl

    one : (c : LiveCall) (v : Value) → is_none (slice_get c.looks (length c.looked)) ≡ false → length c.looks ≤ LOOKS → call_worth (with_look v c) + 1 ≤ call_worth c
    one c v k m = let x = looked-short c.looks (length c.looked) k in let l = more-length v c.looked in omega (arith, x, l, m)

pub end-lowers : (graph : Graph) (s : Core) (t : ℕ) → allowed graph s (steps.End t) ≡ true → calls_worth (apply graph s (steps.End t)) + 1 ≤ calls_worth s
end-lowers graph s t a = ended-lowers call_worth t s.calls (λ c. omega arith) (executes-live s t (idle-executes s t (end-idle graph s t a)))

-- ---- a beginning

-- A call is worth at most so much.
pub call_worth-most : (c : LiveCall) → call_worth c ≤ 66
call_worth-most c = go (not c.executing)
  where
    go : (b : Bool) → 1 + (bit b + (64 - length c.looked)) ≤ 66
    go true = omega arith
    go false = omega arith

pub begin-calls_worth : (graph : Graph) (s : Core) (caller : ℕ) (c : Call) → calls_worth (begin graph s caller c) ≤ calls_worth s + 66
begin-calls_worth graph s caller c =
    let a = total-append call_worth s.calls (new_call graph s caller c ∷ []) in
    let b = call_worth-most (new_call graph s caller c) in
    omega (arith, a, b)

pub begin-versions : (f : ℕ → ℕ) (graph : Graph) (s : Core) (caller : ℕ) (c : Call) → total f (live_versions (begin graph s caller c)) ≡ total f (live_versions s) + f (suc s.begun)
begin-versions f graph s caller c =
    let a = versions-total f s.calls in
    let b = versions-total f (begin graph s caller c).calls in
    let d = total-append (λ (x : LiveCall). f x.version) s.calls (new_call graph s caller c ∷ []) in
    omega (arith, a, b, d)
