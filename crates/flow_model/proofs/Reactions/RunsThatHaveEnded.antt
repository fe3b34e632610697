-- A run that has ended ends at a Done that leaves the candidate, and a Frame that becomes a Done is read last.
use Rattle.std.proofs.Common.{◌≡◌, ℕ, Bool, true, false, ◌||◌, ◌==◌, ◌⊎◌, inl, inr, refl, sym, ap, arith, List, [], ◌∷◌, ◌++◌, true≢false, ◌∙◌, subst, Option, Some, None}
use Rattle.std.specs.Prelude.{is_some}
use Rattle.std.specs.List.{list_any}
use Rattle.std.specs.Option.{option_or}
use Rattle.std.proofs.lemmas.List.Folds.{list_any-append}
use Rattle.std.proofs.lemmas.Bool.{or_cases, eqb-true, eq-eqb, false_from_ne_true, both_ways, cases_Bool}
use Rattle.script_tree.specs.declared.value.Value.{Value}
use Rattle.signal_graph.specs.Graph.{is_in}
use Rattle.signal_graph.specs.Values.{nodes_in}
use Rattle.node_versions.specs.declared.entry.State.{State}
use Rattle.node_versions.specs.declared.entry.State.TheVariants.{Mark, Frame, Done}
use Rattle.node_versions.specs.declared.entry.Entry.{Entry}
use Rattle.node_versions.specs.Entries.{IsUnique, has, at, is_frame, is_done, behind, before, up_to, last_done, only_done, picks_of, picks_at, picks_before, with_state}
use Rattle.node_versions.proofs.Places.{at-has}
use Rattle.flow_model.specs.Kept.Runs.{Run, Reading, close, read_done, read_state, read_all, nothing_read}
use Rattle.flow_model.proofs.OneList.StatesAndPlaces.{behind-has}
use Rattle.flow_model.proofs.Reactions.WhereRunsBegin.{picked_in, Seen, or-or, or-none, state_seen}

-- ---- a run that has ended

-- A run that the test takes ended at a call whose Done doesn't pick the candidate, which was picked before; `o` is the
-- last Done before the list.
pub record EndsRun (test : Run → Bool) (m : ℕ) (es : List Entry) (o : Option Entry) : Type 0 where
  pub run : Run
  pub call : ℕ
  pub taken : test run ≡ true
  pub ends : run.ends ≡ Some call
  pub done : at is_done es call ≡ true
  pub prior : picked_in m (option_or (last_done (before es call)) o) ≡ true
  pub now : picked_in m (option_or (last_done (up_to es call)) o) ≡ false

ends-more : (test : Run → Bool) (m : ℕ) (e : Entry) (es : List Entry) (o : Option Entry) → has es e.version ≡ false → EndsRun test m es (option_or (only_done e) o) → EndsRun test m (e ∷ es) o
ends-more test m e es o u p = record {
  run = p.run;
  call = p.call;
  taken = p.taken;
  ends = p.ends;
  done = rw (other, at) p.done;
  prior = rw (other, before) (ap (picked_in m) (or-or (last_done (before es p.call)) (only_done e) o) ∙ p.prior);
  now = rw (other, up_to) (ap (picked_in m) (or-or (last_done (up_to es p.call)) (only_done e) o) ∙ p.now);
}
  where
    other : (e.version == p.call) ≡ false
    other = false_from_ne_true _ (λ x. both_ways _ u (subst (λ (w : ℕ). has es w ≡ true) (sym (eqb-true e.version p.call x)) (at-has is_done es p.call p.done)))

pub any-last : (test : Run → Bool) (rs : List Run) (r : Run) → list_any test (rs ++ r ∷ []) ≡ true → (list_any test rs ≡ true) ⊎ (test r ≡ true)
any-last test rs r h = go (or_cases _ _ (sym (list_any-append test rs (r ∷ [])) ∙ h))
  where
    only : (a : Bool) → (a || false) ≡ true → a ≡ true
    only true k = refl
    only false k = k

    go : (list_any test rs ≡ true) ⊎ ((test r || false) ≡ true) → (list_any test rs ≡ true) ⊎ (test r ≡ true)
    go (inl k) = inl k
    go (inr k) = inr (only (test r) k)

-- the runs that an entry ends
ends-here : (test : Run → Bool) (m : ℕ) (e : Entry) (es : List Entry) (q : Reading) (o : Option Entry) → Seen m q o → list_any test (read_state m e.version e.state q).closed ≡ true → (list_any test q.closed ≡ true) ⊎ EndsRun test m (e ∷ es) o
ends-here test m e es q o seen k = go e.state refl k
  where
    same : (e.version == e.version) ≡ true
    same = eq-eqb e.version e.version refl

    ended : (v : Value) (c : Bool) (ps : List (Option ℕ)) → e.state ≡ Done v c ps → is_in m (nodes_in ps) ≡ false → (r : Run) → q.current ≡ Some r → test (record r { ends = Some e.version }) ≡ true → EndsRun test m (e ∷ es) o
    ended v c ps x f r g y = record {
      run = record r { ends = Some e.version };
      call = e.version;
      taken = y;
      ends = refl;
      done = rw (same, at, x) refl;
      prior = rw (same, before) (sym seen ∙ ap is_some g);
      now = rw (same, up_to, only_done, x) (ap (λ (w : State). is_in m (nodes_in (picks_of w))) x ∙ f);
    }

    go : (x : State) → e.state ≡ x → list_any test (read_state m e.version x q).closed ≡ true → (list_any test q.closed ≡ true) ⊎ EndsRun test m (e ∷ es) o
    go Mark x y = inl y
    go Frame x y = inl y
    go (Done v c ps) x y = picks (is_in m (nodes_in ps)) refl q.current refl y
      where
        picks : (p : Bool) → is_in m (nodes_in ps) ≡ p → (z : Option Run) → q.current ≡ z → list_any test (elim p as (λ _. List Run) [ true ↦ q.closed | false ↦ close z e.version q.closed ]) ≡ true → (list_any test q.closed ≡ true) ⊎ EndsRun test m (e ∷ es) o
        picks true f z g i = inl i
        picks false f None g i = inl i
        picks false f (Some r) g i = last (any-last test q.closed (record r { ends = Some e.version }) i)
          where
            last : (list_any test q.closed ≡ true) ⊎ (test (record r { ends = Some e.version }) ≡ true) → (list_any test q.closed ≡ true) ⊎ EndsRun test m (e ∷ es) o
            last (inl j) = inl j
            last (inr j) = inr (ended v c ps x f r g j)

ends-read : (test : Run → Bool) (m : ℕ) (es : List Entry) (q : Reading) (o : Option Entry) → IsUnique es → Seen m q o → list_any test (read_all m es q).closed ≡ true → (list_any test q.closed ≡ true) ⊎ EndsRun test m es o
ends-read test m [] q o u seen k = inl k
ends-read test m (e ∷ es) q o u seen k = go (ends-read test m es (read_state m e.version e.state q) (option_or (only_done e) o) u.1 (state_seen m e q o seen) k)
  where
    go : (list_any test (read_state m e.version e.state q).closed ≡ true) ⊎ EndsRun test m es (option_or (only_done e) o) → (list_any test q.closed ≡ true) ⊎ EndsRun test m (e ∷ es) o
    go (inl x) = ends-here test m e es q o seen x
    go (inr x) = inr (ends-more test m e es o u.0 x)

-- A run that has ended, and the call whose Done left the candidate.
pub record IsLeft (test : Run → Bool) (m : ℕ) (es : List Entry) : Type 0 where
  pub run : Run
  pub call : ℕ
  pub taken : test run ≡ true
  pub ends : run.ends ≡ Some call
  pub done : at is_done es call ≡ true
  pub prior : is_in m (nodes_in (picks_before es call)) ≡ true
  pub now : is_in m (nodes_in (picks_at es call)) ≡ false

pub closed-left : (test : Run → Bool) (m : ℕ) (es : List Entry) → IsUnique es → list_any test (read_all m es nothing_read).closed ≡ true → IsLeft test m es
closed-left test m es u k = go (ends-read test m es nothing_read None u refl k)
  where
    go : (false ≡ true) ⊎ EndsRun test m es None → IsLeft test m es
    go (inl x) = absurd (true≢false (sym x))
    go (inr p) = record {
      run = p.run;
      call = p.call;
      taken = p.taken;
      ends = p.ends;
      done = p.done;
      prior = ap (picked_in m) (sym (or-none (last_done (before es p.call)))) ∙ p.prior;
      now = ap (picked_in m) (sym (or-none (last_done (up_to es p.call)))) ∙ p.now;
    }

-- ---- a Frame becomes a Done

pub not_both : (es : List Entry) (t : ℕ) → at is_frame es t ≡ true → at is_done es t ≡ false
not_both [] t h = refl
not_both (e ∷ es) t h = let r = not_both es t in let s = one e.state in grind (arith, h, r, s)
  where
    one : (x : State) → is_frame x ≡ true → is_done x ≡ false
    one Mark h = refl
    one Frame h = refl
    one (Done v c ps) h = absurd (true≢false (sym h))

no_done-read : (m : ℕ) (e : Entry) (q : Reading) → is_done e.state ≡ false → read_state m e.version e.state q ≡ q
no_done-read m e q h = go e.state h
  where
    go : (x : State) → is_done x ≡ false → read_state m e.version x q ≡ q
    go Mark h = refl
    go Frame h = refl
    go (Done v c ps) h = absurd (true≢false h)

pub no_dones-read : (m : ℕ) (es : List Entry) (q : Reading) → IsUnique es → ((v : ℕ) → has es v ≡ true → at is_done es v ≡ false) → read_all m es q ≡ q
no_dones-read m [] q u h = refl
no_dones-read m (e ∷ es) q u h = ap (read_all m es) (no_done-read m e q (let k = h e.version (let w = eq-eqb e.version e.version refl in rw (w, has) refl) in let w = eq-eqb e.version e.version refl in rw (w, at) at k))
    ∙ no_dones-read m es q u.1 (λ v k. let ne : (e.version == v) ≡ false = false_from_ne_true _ (λ x. both_ways _ u.0 (subst (λ (w : ℕ). has es w ≡ true) (sym (eqb-true e.version v x)) k)) in let n = h v (rw (ne, has) k) in rw (ne, at) at n)

-- Where no Done stands behind the call's Frame, its Done is read last.
pub finished-reading : (m t : ℕ) (v : Value) (c : Bool) (ps : List (Option ℕ)) (es : List Entry) (q : Reading) → IsUnique es → at is_frame es t ≡ true → ((x : ℕ) → behind es t x ≡ true → at is_done es x ≡ false)
    → read_all m (with_state t (Done v c ps) es) q ≡ read_done m t ps (read_all m es q)
finished-reading m t v c ps [] q u f none = absurd (true≢false (sym f))
finished-reading m t v c ps (e ∷ es) q u f none = go (cases_Bool (e.version == t)) (finished-reading m t v c ps es (read_state m e.version e.state q) u.1)
  where
    later : (x : ℕ) → has es x ≡ true → (e.version == x) ≡ false
    later x k = false_from_ne_true _ (λ y. both_ways _ u.0 (subst (λ (w : ℕ). has es w ≡ true) (sym (eqb-true e.version x y)) k))

    frame : (x : State) → is_frame x ≡ true → is_done x ≡ false
    frame Mark h = refl
    frame Frame h = refl
    frame (Done a b d) h = absurd (true≢false (sym h))

    go : ((e.version == t) ≡ true) ⊎ ((e.version == t) ≡ false)
        → (at is_frame es t ≡ true → ((x : ℕ) → behind es t x ≡ true → at is_done es x ≡ false) → read_all m (with_state t (Done v c ps) es) (read_state m e.version e.state q) ≡ read_done m t ps (read_all m es (read_state m e.version e.state q)))
        → read_all m (with_state t (Done v c ps) (e ∷ es)) q ≡ read_done m t ps (read_all m (e ∷ es) q)
    go (inl w) further =
        let fe : is_frame e.state ≡ true = rw (w, at) at f in
        let rest = λ (x : ℕ) (k : has es x ≡ true). (let n = none x (rw (w, behind) k) in rw (later x k, at) at n) in
        let a = no_dones-read m es (read_done m e.version ps q) u.1 rest in
        let b = no_dones-read m es (read_state m e.version e.state q) u.1 rest ∙ no_done-read m e q (frame e.state fe) in
        rw (w, with_state) (a ∙ ap (λ (x : ℕ). read_done m x ps q) (eqb-true e.version t w) ∙ ap (read_done m t ps) (sym b))
    go (inr w) further = rw (w, with_state) (further (rw (w, at) at f) (λ x k. let n = none x (rw (w, behind) k) in rw (later x (behind-has es t x k).1, at) at n))

-- ---- a list with a Done

fresh-kept : (m : ℕ) (es : List Entry) (q : Reading) → q.fresh ≡ false → (read_all m es q).fresh ≡ false
fresh-kept m [] q h = h
fresh-kept m (e ∷ es) q h = fresh-kept m es (read_state m e.version e.state q) (go e.state)
  where
    go : (x : State) → (read_state m e.version x q).fresh ≡ false
    go Mark = h
    go Frame = h
    go (Done v c ps) = refl

pub done-not_fresh : (m : ℕ) (es : List Entry) (q : Reading) (u : ℕ) → at is_done es u ≡ true → (read_all m es q).fresh ≡ false
done-not_fresh m [] q u h = absurd (true≢false (sym h))
done-not_fresh m (e ∷ es) q u h = go (cases_Bool (e.version == u)) (done-not_fresh m es (read_state m e.version e.state q) u)
  where
    here : (x : State) → is_done x ≡ true → (read_state m e.version x q).fresh ≡ false
    here Mark k = absurd (true≢false (sym k))
    here Frame k = absurd (true≢false (sym k))
    here (Done v c ps) k = refl

    go : ((e.version == u) ≡ true) ⊎ ((e.version == u) ≡ false) → (at is_done es u ≡ true → (read_all m es (read_state m e.version e.state q)).fresh ≡ false) → (read_all m (e ∷ es) q).fresh ≡ false
    go (inl w) further = fresh-kept m es (read_state m e.version e.state q) (here e.state (rw (w, at) at h))
    go (inr w) further = further (rw (w, at) at h)
