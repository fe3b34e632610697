-- Only a beginning adds to a caller's calls, logged and live; a step leaves them, and End moves one from the live to the log.
use Rattle.std.proofs.Common.{◌≡◌, ℕ, zero, suc, ◌+◌, ◌≤◌, Bool, true, false, ◌||◌, ◌==◌, ◌⊎◌, inl, inr, refl, sym, ap, ap₂, arith, List, [], ◌∷◌, ◌++◌, map, true≢false, ◌∙◌, subst, Option, Some, append_assoc}
use Rattle.std.specs.Prelude.{filter}
use Rattle.std.proofs.lemmas.Bool.Decides.{eqb_tells}
use Rattle.std.proofs.lemmas.Bool.{or_cases, or_left, or_right, eqb-true, false_from_ne_true, both_ways, cases_Bool, ltb-true, leb-true}
use Rattle.std.proofs.lemmas.List.{map-append}
use Rattle.std.proofs.lemmas.List.Folds.{list_any-append}
use Rattle.script_tree.proofs.Truths.{and_right}
use Rattle.signal_graph.specs.declared.call.Call.{Call}
use Rattle.signal_graph.specs.declared.log.Logged.{Logged}
use Rattle.signal_graph.specs.Graph.{Graph, is_in}
use Rattle.node_versions.specs.declared.entry.State.TheVariants.{Mark, Frame}
use Rattle.node_versions.specs.Entries.{has, at, is_mark}
use Rattle.flow_model.specs.declared.step.Step.{Step}
use Rattle.flow_model.specs.declared.step.Step.TheVariants as steps
use Rattle.flow_model.specs.Machine.State.{Core, LiveCall, call, call_of, live, entries, with_cell, with_call, change_call}
use Rattle.flow_model.specs.Machine.Words.{active_outs}
use Rattle.flow_model.specs.Machine.Changes.{enter, raise, ensure_mark, opened, closed, tell_call, add_edge}
use Rattle.flow_model.specs.Machine.Steps.{allowed, apply, can_begin, begin, new_call, open_node, frame, started, counted, is_change, without_call, logged}
use Rattle.flow_model.specs.Kept.Lawful.{VersionsAreFresh, AreDistinct, times}
use Rattle.flow_model.specs.Follows.Callers.{logged_of, live_of, made_by}
use Rattle.flow_model.proofs.OneStep.WhoMayStep.{executes-live, idle-executes, end-idle}
use Rattle.flow_model.proofs.OneStep.VersionsStayFresh.{times-append, times-in, in-times, same-VersionsAreFresh, begin-VersionsAreFresh, end-VersionsAreFresh, tail-distinct, head-distinct}
use Rattle.flow_model.proofs.General.Pigeons.{any-field}
use Rattle.flow_model.proofs.Others.CallsAreLeft.{live-call}
use Rattle.flow_model.proofs.OneStep.BegunCalls.{begin-first, begin-last, begin-none}

-- ---- what tells a live call

-- whose a live call is, its version and what it asks
abbrev pub maker : LiveCall → ℕ × (ℕ × Call)
maker c = (c.caller, (c.version, c.call))

abbrev pub makers : List LiveCall → List (ℕ × (ℕ × Call))
makers cs = map maker cs

abbrev pub live_callers : List LiveCall → List ℕ
live_callers cs = map (λ (c : LiveCall). c.caller) cs

abbrev pub logged_callers : List Logged → List ℕ
logged_callers log = map (λ (x : Logged). x.caller) log

change_call-makers : (t : ℕ) (f : LiveCall → LiveCall) → ((c : LiveCall) → maker (f c) ≡ maker c) → (cs : List LiveCall) → makers (change_call t f cs) ≡ makers cs
change_call-makers t f k [] = refl
change_call-makers t f k (c ∷ cs) = go (c.version == t) (change_call-makers t f k cs)
  where
    go : (b : Bool) → makers (change_call t f cs) ≡ makers cs → makers (elim b as (λ _. List LiveCall) [ true ↦ f c ∷ cs | false ↦ c ∷ change_call t f cs ]) ≡ maker c ∷ makers cs
    go true r = ap (λ (x : ℕ × (ℕ × Call)). x ∷ makers cs) (k c)
    go false r = ap (λ (xs : List (ℕ × (ℕ × Call))). maker c ∷ xs) r

map-makers : (f : LiveCall → LiveCall) → ((c : LiveCall) → maker (f c) ≡ maker c) → (cs : List LiveCall) → makers (map f cs) ≡ makers cs
map-makers f k [] = refl
map-makers f k (c ∷ cs) = ap₂ (λ (x : ℕ × (ℕ × Call)) (xs : List (ℕ × (ℕ × Call))). x ∷ xs) (k c) (map-makers f k cs)

pub makers-versions : (cs : List LiveCall) → map (λ (c : LiveCall). c.version) cs ≡ map (λ (p : ℕ × (ℕ × Call)). p.1.0) (makers cs)
makers-versions [] = refl
makers-versions (c ∷ cs) = ap (λ (xs : List ℕ). c.version ∷ xs) (makers-versions cs)

makers-callers : (cs : List LiveCall) → live_callers cs ≡ map (λ (p : ℕ × (ℕ × Call)). p.0) (makers cs)
makers-callers [] = refl
makers-callers (c ∷ cs) = ap (λ (xs : List ℕ). c.caller ∷ xs) (makers-callers cs)

abbrev held_by : ℕ → List (ℕ × (ℕ × Call)) → List (ℕ × Call)
held_by k ps = map (λ (p : ℕ × (ℕ × Call)). p.1) (filter (λ (p : ℕ × (ℕ × Call)). p.0 == k) ps)

makers-held : (k : ℕ) (cs : List LiveCall) → live_of k cs ≡ held_by k (makers cs)
makers-held k [] = refl
makers-held k (c ∷ cs) = go (c.caller == k) refl (makers-held k cs)
  where
    go : (b : Bool) → (c.caller == k) ≡ b → live_of k cs ≡ held_by k (makers cs) → live_of k (c ∷ cs) ≡ held_by k (maker c ∷ makers cs)
    go true e r = rw e (ap (λ (xs : List (ℕ × Call)). (c.version, c.call) ∷ xs) r)
    go false e r = rw e r

-- ---- what a step does

-- the same calls, live and logged
pub record SameMakers (s q : Core) : Type 0 where
  pub calls : makers q.calls ≡ makers s.calls
  pub log : q.log ≡ s.log
  pub begun : q.begun ≡ s.begun
  pub callers : q.callers ≡ s.callers
  pub limit : q.limit ≡ s.limit

-- a live call joins the log
pub record Logs (s q : Core) (t : ℕ) : Type 0 where
  pub lives : live s t ≡ true
  pub calls : q.calls ≡ without_call t s.calls
  pub log : q.log ≡ s.log ++ logged (call s t) ∷ []
  pub begun : q.begun ≡ s.begun
  pub callers : q.callers ≡ s.callers
  pub limit : q.limit ≡ s.limit

pub data MakerStep (s q : Core) : Type 0 where
  stays : SameMakers s q → MakerStep s q
  logs : (t : ℕ) → Logs s q t → MakerStep s q

changed : (s : Core) (t : ℕ) (f : LiveCall → LiveCall) → ((c : LiveCall) → maker (f c) ≡ maker c) → SameMakers s (with_call s t f)
changed s t f k = record { calls = change_call-makers t f k s.calls; log = refl; begun = refl; callers = refl; limit = refl }

same : (s : Core) → SameMakers s s
same s = record { calls = refl; log = refl; begun = refl; callers = refl; limit = refl }

ensured : (s : Core) (t m : ℕ) → SameMakers s (ensure_mark s t m)
ensured s t m = go (has (entries s m) t)
  where
    go : (b : Bool) → SameMakers s (elim b [ true ↦ s | false ↦ enter s t m Mark ])
    go true = same s
    go false = record { calls = refl; log = refl; begun = refl; callers = refl; limit = refl }

framed : (graph : Graph) (s : Core) (t n : ℕ) → SameMakers s (frame graph s t n)
framed graph s t n = go (at is_mark (entries s n) t)
  where
    go : (b : Bool) → SameMakers s (elim b [ true ↦ open_node graph (raise s t n) t n | false ↦ open_node graph (enter s t n Frame) t n ])
    go true = record { calls = change_call-makers t (opened n (active_outs graph (raise s t n) t n)) (λ c. refl) s.calls; log = refl; begun = refl; callers = refl; limit = refl }
    go false = record { calls = change_call-makers t (opened n (active_outs graph (enter s t n Frame) t n)) (λ c. refl) s.calls; log = refl; begun = refl; callers = refl; limit = refl }

pub step-makers : (graph : Graph) (s : Core) (step : Step) → allowed graph s step ≡ true → MakerStep s (apply graph s step)
step-makers graph s (steps.Frame t n) a = stays (framed graph s t n)
step-makers graph s (steps.Start t) a = stays (changed s t started (λ c. refl))
step-makers graph s (steps.Skip t n) a = stays (record { calls = change_call-makers t (closed n false) (λ c. refl) s.calls; log = refl; begun = refl; callers = refl; limit = refl })
step-makers graph s (steps.Gather t n m) a = stays (record { calls = refl; log = refl; begun = refl; callers = refl; limit = refl })
step-makers graph s (steps.Evaluate t n) a = stays (record { calls = change_call-makers t counted (λ c. refl) s.calls; log = refl; begun = refl; callers = refl; limit = refl })
step-makers graph s (steps.Body t n) a = stays (record { calls = refl; log = refl; begun = refl; callers = refl; limit = refl })
step-makers graph s (steps.Resolve t n) a = stays (record { calls = change_call-makers t (closed n (is_change graph s t n)) (λ c. refl) s.calls; log = refl; begun = refl; callers = refl; limit = refl })
step-makers graph s (steps.Discover t n c) a =
    let e = ensured s t c in
    let q = with_cell (ensure_mark s t c) c (add_edge n t) in
    stays (record { calls = map-makers (tell_call (entries q c) t n) (λ c. refl) q.calls ∙ e.calls; log = e.log; begun = e.begun; callers = e.callers; limit = e.limit })
step-makers graph s (steps.Drop t n o) a = let e = ensured s t o in stays (record { calls = e.calls; log = e.log; begun = e.begun; callers = e.callers; limit = e.limit })
step-makers graph s (steps.Mark t m) a = stays (record { calls = refl; log = refl; begun = refl; callers = refl; limit = refl })
step-makers graph s (steps.Look t) a = stays (changed s t _ (λ c. refl))
step-makers graph s (steps.End t) a = logs t (record { lives = executes-live s t (idle-executes s t (end-idle graph s t a)); calls = refl; log = refl; begun = refl; callers = refl; limit = refl })
step-makers graph s (steps.Collect n) a = stays (record { calls = refl; log = refl; begun = refl; callers = refl; limit = refl })

-- ---- a caller's calls

-- a caller's part of one call
abbrev pub one_of : ℕ → ℕ → ℕ × Call → List (ℕ × Call)
one_of k caller made = elim (caller == k) [ true ↦ made ∷ [] | false ↦ [] ]

live_of-more : (k : ℕ) (cs : List LiveCall) (c : LiveCall) → live_of k (cs ++ c ∷ []) ≡ live_of k cs ++ one_of k c.caller (c.version, c.call)
live_of-more k [] c = go (c.caller == k) refl
  where
    go : (b : Bool) → (c.caller == k) ≡ b → live_of k (c ∷ []) ≡ one_of k c.caller (c.version, c.call)
    go true e = rw (e, one_of) refl
    go false e = rw (e, one_of) refl
live_of-more k (x ∷ xs) c = go (x.caller == k) refl (live_of-more k xs c)
  where
    go : (b : Bool) → (x.caller == k) ≡ b → live_of k (xs ++ c ∷ []) ≡ live_of k xs ++ one_of k c.caller (c.version, c.call) → live_of k ((x ∷ xs) ++ c ∷ []) ≡ live_of k (x ∷ xs) ++ one_of k c.caller (c.version, c.call)
    go true e r = rw e (ap (λ (ps : List (ℕ × Call)). (x.version, x.call) ∷ ps) r)
    go false e r = rw e r

logged_of-more : (k : ℕ) (log : List Logged) (x : Logged) → logged_of k (log ++ x ∷ []) ≡ logged_of k log ++ one_of k x.caller (x.version, x.call)
logged_of-more k [] x = go (x.caller == k) refl
  where
    go : (b : Bool) → (x.caller == k) ≡ b → logged_of k (x ∷ []) ≡ one_of k x.caller (x.version, x.call)
    go true e = rw (e, one_of) refl
    go false e = rw (e, one_of) refl
logged_of-more k (y ∷ ys) x = go (y.caller == k) refl (logged_of-more k ys x)
  where
    go : (b : Bool) → (y.caller == k) ≡ b → logged_of k (ys ++ x ∷ []) ≡ logged_of k ys ++ one_of k x.caller (x.version, x.call) → logged_of k ((y ∷ ys) ++ x ∷ []) ≡ logged_of k (y ∷ ys) ++ one_of k x.caller (x.version, x.call)
    go true e r = rw e (ap (λ (ps : List (ℕ × Call)). (y.version, y.call) ∷ ps) r)
    go false e r = rw e r

caller-in : (cs : List LiveCall) (t : ℕ) (c : LiveCall) → call_of cs t ≡ Some c → is_in c.caller (live_callers cs) ≡ true
caller-in [] t c h = cc
caller-in (x ∷ xs) t c h = let r = caller-in xs t c in grind (arith, eqb_tells, r, h)

none-without : (t : ℕ) (cs : List LiveCall) → is_in t (map (λ (c : LiveCall). c.version) cs) ≡ false → without_call t cs ≡ cs
none-without t [] h = refl
none-without t (x ∷ xs) h = go (x.version == t) refl h (none-without t xs)
  where
    go : (b : Bool) → (x.version == t) ≡ b → (b || is_in t (map (λ (c : LiveCall). c.version) xs)) ≡ false → (is_in t (map (λ (c : LiveCall). c.version) xs) ≡ false → without_call t xs ≡ xs) → elim b as (λ _. List LiveCall) [ true ↦ without_call t xs | false ↦ x ∷ without_call t xs ] ≡ x ∷ xs
    go true e k further = absurd (true≢false k)
    go false e k further = ap (λ (ys : List LiveCall). x ∷ ys) (further k)

-- A live call and the rest of its caller's live calls, which are none.
live_of-without : (k t : ℕ) (cs : List LiveCall) (c : LiveCall) → AreDistinct (map (λ (c : LiveCall). c.version) cs) → AreDistinct (live_callers cs) → call_of cs t ≡ Some c → one_of k c.caller (c.version, c.call) ++ live_of k (without_call t cs) ≡ live_of k cs
live_of-without k t [] c d g h = cc
live_of-without k t (x ∷ xs) c d g h = go (x.version == t) refl h (live_of-without k t xs c (tail-distinct x.version (map (λ (c : LiveCall). c.version) xs) d) (tail-distinct x.caller (live_callers xs) g))
  where
    -- the first call is the one
    it : (b : Bool) → (x.caller == k) ≡ b → one_of k x.caller (x.version, x.call) ++ live_of k xs ≡ live_of k (x ∷ xs)
    it true w = rw (w, one_of) refl
    it false w = rw (w, one_of) refl

    gone : (x.version == t) ≡ true → without_call t xs ≡ xs
    gone v = none-without t xs (subst (λ (u : ℕ). is_in u (map (λ (c : LiveCall). c.version) xs) ≡ false) (eqb-true x.version t v) (head-distinct x.version (map (λ (c : LiveCall). c.version) xs) d))

    there : call_of xs t ≡ Some c → (x.caller == k) ≡ true → (c.caller == k) ≡ false
    there e w = false_from_ne_true _ (λ y. both_ways _ (head-distinct x.caller (live_callers xs) g) (subst (λ (u : ℕ). is_in u (live_callers xs) ≡ true) (eqb-true c.caller k y ∙ sym (eqb-true x.caller k w)) (caller-in xs t c e)))

    later : call_of xs t ≡ Some c → (b : Bool) → (x.caller == k) ≡ b → one_of k c.caller (c.version, c.call) ++ live_of k (without_call t xs) ≡ live_of k xs → one_of k c.caller (c.version, c.call) ++ live_of k (x ∷ without_call t xs) ≡ live_of k (x ∷ xs)
    later e true w r =
        let n = there e w in
        let z : one_of k c.caller (c.version, c.call) ≡ [] = rw (n, one_of) refl in
        let rest : live_of k (without_call t xs) ≡ live_of k xs = ap (λ (ps : List (ℕ × Call)). ps ++ live_of k (without_call t xs)) (sym z) ∙ r in
        ap (λ (ps : List (ℕ × Call)). ps ++ live_of k (x ∷ without_call t xs)) z ∙ rw w (ap (λ (ps : List (ℕ × Call)). (x.version, x.call) ∷ ps) rest)
    later e false w r = rw w r

    go : (b : Bool) → (x.version == t) ≡ b → elim b as (λ _. Option LiveCall) [ true ↦ Some x | false ↦ call_of xs t ] ≡ Some c
        → (call_of xs t ≡ Some c → one_of k c.caller (c.version, c.call) ++ live_of k (without_call t xs) ≡ live_of k xs)
        → one_of k c.caller (c.version, c.call) ++ live_of k (elim b as (λ _. List LiveCall) [ true ↦ without_call t xs | false ↦ x ∷ without_call t xs ]) ≡ live_of k (x ∷ xs)
    go true v e further = subst (λ (y : LiveCall). one_of k y.caller (y.version, y.call) ++ live_of k (without_call t xs) ≡ live_of k (x ∷ xs)) (some_is e) (ap (λ (ys : List LiveCall). one_of k x.caller (x.version, x.call) ++ live_of k ys) (gone v) ∙ it (x.caller == k) refl)
      where
        some_is : Some x ≡ Some c → x ≡ c
        some_is e = cc
    go false v e further = later e (x.caller == k) refl (further e)

-- ---- the calls of callers, and what each state keeps of them

-- A beginning adds the call to its caller's, and no other move changes them.
pub begun-made : (graph : Graph) (s : Core) (caller : ℕ) (c : Call) (k : ℕ) → made_by (begin graph s caller c) k ≡ made_by s k ++ one_of k caller (suc s.begun, c)
begun-made graph s caller c k = ap (λ (ps : List (ℕ × Call)). logged_of k s.log ++ ps) (live_of-more k s.calls (new_call graph s caller c)) ∙ sym (append_assoc (logged_of k s.log) (live_of k s.calls) (one_of k caller (suc s.begun, c)))

-- What every state of a history keeps: versions are fresh and within the limit, live calls have callers of their own, and
-- live and logged calls have callers that there are.
pub record IsCounted (s : Core) : Type 0 where
  pub fresh : VersionsAreFresh s
  pub apart : AreDistinct (live_callers s.calls)
  pub fit : (k : ℕ) → is_in k (live_callers s.calls ++ logged_callers s.log) ≡ true → (1 ≤ k) × (k ≤ s.callers)
  pub within : s.begun ≤ s.limit

same-IsCounted : (s q : Core) → SameMakers s q → IsCounted s → IsCounted q
same-IsCounted s q e h = record {
  fresh = same-VersionsAreFresh s q (record { calls = makers-versions q.calls ∙ ap (map (λ (p : ℕ × (ℕ × Call)). p.1.0)) e.calls ∙ sym (makers-versions s.calls); log = e.log; begun = e.begun }) h.fresh;
  apart = λ x. subst (λ (ks : List ℕ). times x ks ≤ 1) (sym callers) (h.apart x);
  fit = λ k i. subst (λ (n : ℕ). (1 ≤ k) × (k ≤ n)) (sym e.callers) (h.fit k (ap₂ (λ (ks : List ℕ) (log : List Logged). is_in k (ks ++ logged_callers log)) (sym callers) (sym e.log) ∙ i));
  within = subst (λ (n : ℕ). n ≤ q.limit) (sym e.begun) (subst (λ (n : ℕ). s.begun ≤ n) (sym e.limit) h.within);
}
  where
    callers : live_callers q.calls ≡ live_callers s.calls
    callers = makers-callers q.calls ∙ ap (map (λ (p : ℕ × (ℕ × Call)). p.0)) e.calls ∙ sym (makers-callers s.calls)

same-made : (s q : Core) → SameMakers s q → (k : ℕ) → made_by q k ≡ made_by s k
same-made s q e k = ap₂ (λ (log : List Logged) (ps : List (ℕ × Call)). logged_of k log ++ ps) e.log (makers-held k q.calls ∙ ap (held_by k) e.calls ∙ sym (makers-held k s.calls))

-- a call leaves the live ones
without-less : (t x : ℕ) (cs : List LiveCall) → times x (live_callers (without_call t cs)) ≤ times x (live_callers cs)
without-less t x [] = omega arith
without-less t x (c ∷ cs) = go (c.version == t) (without-less t x cs) (times-append x (c.caller ∷ []) (live_callers cs)) (times-append x (c.caller ∷ []) (live_callers (without_call t cs)))
  where
    go : (b : Bool) → times x (live_callers (without_call t cs)) ≤ times x (live_callers cs) → times x (c.caller ∷ live_callers cs) ≡ times x (c.caller ∷ []) + times x (live_callers cs) → times x (c.caller ∷ live_callers (without_call t cs)) ≡ times x (c.caller ∷ []) + times x (live_callers (without_call t cs))
        → times x (live_callers (elim b as (λ _. List LiveCall) [ true ↦ without_call t cs | false ↦ c ∷ without_call t cs ])) ≤ times x (c.caller ∷ live_callers cs)
    go true r a b = omega (arith, r, a)
    go false r a b = omega (arith, r, a, b)

without-in : (t x : ℕ) (cs : List LiveCall) → is_in x (live_callers (without_call t cs)) ≡ true → is_in x (live_callers cs) ≡ true
without-in t x cs h = in-times x (live_callers cs) (let a = times-in x (live_callers (without_call t cs)) h in let b = without-less t x cs in omega (arith, a, b))

in-logged : (k : ℕ) (log : List Logged) (x : Logged) → is_in k (logged_callers (log ++ x ∷ [])) ≡ true → (is_in k (logged_callers log) ≡ true) ⊎ (x.caller ≡ k)
in-logged k log x h = go (or_cases _ _ (sym (ap (is_in k) (map-append (λ (y : Logged). y.caller) log (x ∷ [])) ∙ list_any-append (λ (m : ℕ). m == k) (logged_callers log) (x.caller ∷ [])) ∙ h))
  where
    go : (is_in k (logged_callers log) ≡ true) ⊎ (((x.caller == k) || false) ≡ true) → (is_in k (logged_callers log) ≡ true) ⊎ (x.caller ≡ k)
    go (inl e) = inl e
    go (inr e) = inr (eqb-true x.caller k (only (x.caller == k) e))
      where
        only : (b : Bool) → (b || false) ≡ true → b ≡ true
        only true y = refl
        only false y = y

logs-IsCounted : (s q : Core) (t : ℕ) → Logs s q t → IsCounted s → IsCounted q
logs-IsCounted s q t e h = record {
  fresh = end-VersionsAreFresh s q t (e.calls, e.log, e.begun) h.fresh e.lives;
  apart = λ x. subst (λ (cs : List LiveCall). times x (live_callers cs) ≤ 1) (sym e.calls) (let a = h.apart x in let b = without-less t x s.calls in omega (arith, a, b));
  fit = λ k i. subst (λ (n : ℕ). (1 ≤ k) × (k ≤ n)) (sym e.callers) (h.fit k (known k (or_cases _ _ (sym (list_any-append (λ (m : ℕ). m == k) (live_callers (without_call t s.calls)) (logged_callers (s.log ++ logged (call s t) ∷ []))) ∙ (ap₂ (λ (cs : List LiveCall) (log : List Logged). is_in k (live_callers cs ++ logged_callers log)) (sym e.calls) (sym e.log) ∙ i)))));
  within = subst (λ (n : ℕ). n ≤ q.limit) (sym e.begun) (subst (λ (n : ℕ). s.begun ≤ n) (sym e.limit) h.within);
}
  where
    both : (k : ℕ) → (is_in k (live_callers s.calls) ≡ true) ⊎ (is_in k (logged_callers s.log) ≡ true) → is_in k (live_callers s.calls ++ logged_callers s.log) ≡ true
    both k (inl i) = list_any-append (λ (m : ℕ). m == k) (live_callers s.calls) (logged_callers s.log) ∙ or_left _ _ i
    both k (inr i) = list_any-append (λ (m : ℕ). m == k) (live_callers s.calls) (logged_callers s.log) ∙ or_right _ _ i

    ended : (k : ℕ) → (is_in k (logged_callers s.log) ≡ true) ⊎ ((logged (call s t)).caller ≡ k) → is_in k (live_callers s.calls ++ logged_callers s.log) ≡ true
    ended k (inl i) = both k (inr i)
    ended k (inr i) = both k (inl (subst (λ (n : ℕ). is_in n (live_callers s.calls) ≡ true) i (caller-in s.calls t (call s t) (live-call s t e.lives))))

    known : (k : ℕ) → (is_in k (live_callers (without_call t s.calls)) ≡ true) ⊎ (is_in k (logged_callers (s.log ++ logged (call s t) ∷ [])) ≡ true) → is_in k (live_callers s.calls ++ logged_callers s.log) ≡ true
    known k (inl i) = both k (inl (without-in t k s.calls i))
    known k (inr i) = ended k (in-logged k s.log (logged (call s t)) i)

logs-made : (s q : Core) (t : ℕ) → Logs s q t → IsCounted s → (k : ℕ) → made_by q k ≡ made_by s k
logs-made s q t e h k =
    let c = call s t in
    ap₂ (λ (log : List Logged) (cs : List LiveCall). logged_of k log ++ live_of k cs) e.log e.calls
    ∙ ap (λ (ps : List (ℕ × Call)). ps ++ live_of k (without_call t s.calls)) (logged_of-more k s.log (logged c))
    ∙ append_assoc (logged_of k s.log) (one_of k c.caller (c.version, c.call)) (live_of k (without_call t s.calls))
    ∙ ap (λ (ps : List (ℕ × Call)). logged_of k s.log ++ ps) (live_of-without k t s.calls c (versions-distinct s h.fresh) h.apart (live-call s t e.lives))
  where
    versions-distinct : (s : Core) → VersionsAreFresh s → AreDistinct (map (λ (c : LiveCall). c.version) s.calls)
    versions-distinct s f x = let a = f.distinct x in let b = times-append x (map (λ (c : LiveCall). c.version) s.calls) (map (λ (y : Logged). y.version) s.log) in omega (arith, a, b)

pub step-IsCounted : (graph : Graph) (s : Core) (step : Step) → allowed graph s step ≡ true → IsCounted s → IsCounted (apply graph s step)
step-IsCounted graph s step a h = go (step-makers graph s step a)
  where
    go : MakerStep s (apply graph s step) → IsCounted (apply graph s step)
    go (stays e) = same-IsCounted s (apply graph s step) e h
    go (logs t e) = logs-IsCounted s (apply graph s step) t e h

pub step-made : (graph : Graph) (s : Core) (step : Step) → allowed graph s step ≡ true → IsCounted s → (k : ℕ) → made_by (apply graph s step) k ≡ made_by s k
step-made graph s step a h k = go (step-makers graph s step a)
  where
    go : MakerStep s (apply graph s step) → made_by (apply graph s step) k ≡ made_by s k
    go (stays e) = same-made s (apply graph s step) e k
    go (logs t e) = logs-made s (apply graph s step) t e h k

pub step-within : (graph : Graph) (s : Core) (step : Step) → allowed graph s step ≡ true → ((apply graph s step).callers ≡ s.callers) × ((apply graph s step).limit ≡ s.limit)
step-within graph s step a = go (step-makers graph s step a)
  where
    go : MakerStep s (apply graph s step) → ((apply graph s step).callers ≡ s.callers) × ((apply graph s step).limit ≡ s.limit)
    go (stays e) = (e.callers, e.limit)
    go (logs t e) = (e.callers, e.limit)

-- A caller without a live call has none after a step.
pub step-idle : (graph : Graph) (s : Core) (step : Step) → allowed graph s step ≡ true → (k : ℕ) → is_in k (live_callers s.calls) ≡ false → is_in k (live_callers (apply graph s step).calls) ≡ false
step-idle graph s step a k h = go (step-makers graph s step a)
  where
    q : Core
    q = apply graph s step

    go : MakerStep s q → is_in k (live_callers q.calls) ≡ false
    go (stays e) = ap (is_in k) (makers-callers q.calls ∙ ap (map (λ (p : ℕ × (ℕ × Call)). p.0)) e.calls ∙ sym (makers-callers s.calls)) ∙ h
    go (logs t e) = false_from_ne_true _ (λ i. both_ways _ h (without-in t k s.calls (subst (λ (cs : List LiveCall). is_in k (live_callers cs) ≡ true) e.calls i)))

-- ---- a beginning

-- The caller of a call that may begin is one that there is.
pub begin-caller : (graph : Graph) (s : Core) (caller : ℕ) (c : Call) → can_begin graph s caller c ≡ true → (1 ≤ caller) × (caller ≤ s.callers)
begin-caller graph s caller c a = (leb-true 1 caller (begin-first graph s caller c a), leb-true caller s.callers (begin-last graph s caller c a))

pub begin-IsCounted : (graph : Graph) (s : Core) (caller : ℕ) (c : Call) → can_begin graph s caller c ≡ true → IsCounted s → IsCounted (begin graph s caller c)
begin-IsCounted graph s caller c a h = record {
  fresh = begin-VersionsAreFresh graph s caller c h.fresh;
  apart = λ x. subst (λ (ks : List ℕ). times x ks ≤ 1) (sym callers) (apart x (cases_Bool (caller == x)) (times-append x (live_callers s.calls) (caller ∷ [])));
  fit = λ k i. fit k (or_cases _ _ (sym (list_any-append (λ (m : ℕ). m == k) (live_callers s.calls ++ caller ∷ []) (logged_callers s.log)) ∙ (ap (λ (ks : List ℕ). is_in k (ks ++ logged_callers s.log)) (sym callers) ∙ i)));
  within = ltb-true s.begun s.limit (and_right _ _ a);
}
  where
    callers : live_callers (s.calls ++ new_call graph s caller c ∷ []) ≡ live_callers s.calls ++ caller ∷ []
    callers = map-append (λ (x : LiveCall). x.caller) s.calls (new_call graph s caller c ∷ [])

    none : is_in caller (live_callers s.calls) ≡ false
    none = sym (any-field (λ (x : LiveCall). x.caller) caller s.calls) ∙ begin-none graph s caller c a

    apart : (x : ℕ) → ((caller == x) ≡ true) ⊎ ((caller == x) ≡ false) → times x (live_callers s.calls ++ caller ∷ []) ≡ times x (live_callers s.calls) + times x (caller ∷ []) → times x (live_callers s.calls ++ caller ∷ []) ≤ 1
    apart x (inl e) p =
        let o : times x (caller ∷ []) ≡ 1 = rw e refl in
        let z = λ (k : 1 ≤ times x (live_callers s.calls)). both_ways _ none (subst (λ (n : ℕ). is_in n (live_callers s.calls) ≡ true) (sym (eqb-true caller x e)) (in-times x (live_callers s.calls) k)) in
        small (times x (live_callers s.calls)) z (subst (λ (n : ℕ). times x (live_callers s.calls ++ caller ∷ []) ≡ times x (live_callers s.calls) + n) o p)
      where
        small : (n : ℕ) → (1 ≤ n → ⊥) → times x (live_callers s.calls ++ caller ∷ []) ≡ n + 1 → times x (live_callers s.calls ++ caller ∷ []) ≤ 1
        small zero k e = omega (arith, e)
        small (suc n) k e = absurd (k (omega arith))
    apart x (inr e) p = let o : times x (caller ∷ []) ≡ 0 = rw e refl in let r = h.apart x in omega (arith, p, o, r)

    old : (k : ℕ) → (is_in k (live_callers s.calls) ≡ true) ⊎ (is_in k (logged_callers s.log) ≡ true) → (1 ≤ k) × (k ≤ s.callers)
    old k (inl i) = h.fit k (list_any-append (λ (m : ℕ). m == k) (live_callers s.calls) (logged_callers s.log) ∙ or_left _ _ i)
    old k (inr i) = h.fit k (list_any-append (λ (m : ℕ). m == k) (live_callers s.calls) (logged_callers s.log) ∙ or_right _ _ i)

    new : (k : ℕ) → (is_in k (live_callers s.calls) ≡ true) ⊎ (((caller == k) || false) ≡ true) → (1 ≤ k) × (k ≤ s.callers)
    new k (inl i) = old k (inl i)
    new k (inr i) = subst (λ (n : ℕ). (1 ≤ n) × (n ≤ s.callers)) (eqb-true caller k (only (caller == k) i)) (begin-caller graph s caller c a)
      where
        only : (b : Bool) → (b || false) ≡ true → b ≡ true
        only true y = refl
        only false y = y

    fit : (k : ℕ) → (is_in k (live_callers s.calls ++ caller ∷ []) ≡ true) ⊎ (is_in k (logged_callers s.log) ≡ true) → (1 ≤ k) × (k ≤ s.callers)
    fit k (inl i) = new k (or_cases _ _ (sym (list_any-append (λ (m : ℕ). m == k) (live_callers s.calls) (caller ∷ [])) ∙ i))
    fit k (inr i) = old k (inr i)
