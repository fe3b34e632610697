-- The run in which a list ends begins at a Done that picks the candidate, where the last Done before that doesn't.
use Rattle.std.proofs.Common.{true≢false, ◌≡◌, ℕ, Bool, true, false, ◌==◌, ◌⊎◌, inl, inr, refl, sym, ap, List, [], ◌∷◌, ◌∙◌, subst, Option, Some, None}
use Rattle.std.proofs.lemmas.Bool.{eqb-true, eq-eqb, false_from_ne_true, both_ways, cases_Bool}
use Rattle.std.specs.Prelude.{is_some}
use Rattle.std.specs.Option.{option_or}
use Rattle.script_tree.specs.declared.value.Value.{Value}
use Rattle.signal_graph.specs.Graph.{is_in}
use Rattle.signal_graph.specs.Values.{nodes_in}
use Rattle.node_versions.specs.declared.entry.State.{State}
use Rattle.node_versions.specs.declared.entry.State.TheVariants.{Mark, Frame, Done}
use Rattle.node_versions.specs.declared.entry.Entry.{Entry}
use Rattle.node_versions.specs.Entries.{IsUnique, has, at, is_done, before, up_to, last_done, only_done, state_of, picks_of, picks_at, picks_before, is_frame, behind}
use Rattle.node_versions.proofs.Collecting.{last_is_done}
use Rattle.node_versions.proofs.Places.{at-has}
use Rattle.flow_model.specs.Kept.Runs.{Run, Reading, begin_at, go_on, read_done, read_state, read_all, nothing_read}
use Rattle.flow_model.proofs.OneList.StatesAndPlaces.{behind-has}
use Rattle.flow_model.proofs.OneList.InOrder.{last_done-has}
use Rattle.flow_model.proofs.OneList.OneEntryACall.{last_done-at}

-- The picks of a Done, where there is one, have the candidate.
abbrev pub picked_in : ℕ → Option Entry → Bool
picked_in m o = is_in m (nodes_in (picks_of (state_of o)))

-- The call's Done picks the candidate, and the last Done before it doesn't; `o` is the last Done before the list.
pub record PicksFirst (m : ℕ) (es : List Entry) (o : Option Entry) (b : ℕ) : Type 0 where
  pub done : at is_done es b ≡ true
  pub now : picked_in m (option_or (last_done (up_to es b)) o) ≡ true
  pub prior : picked_in m (option_or (last_done (before es b)) o) ≡ false

-- A reading is in a run of the candidate where the last Done picks it.
abbrev pub Seen : ℕ → Reading → Option Entry → Type 0
Seen m q o = is_some q.current ≡ picked_in m o

pub or-or : {A : Type 0} (x y z : Option A) → option_or (option_or x y) z ≡ option_or x (option_or y z)
or-or None y z = refl
or-or (Some a) y z = refl

pub or-none : {A : Type 0} (x : Option A) → option_or x None ≡ x
or-none None = refl
or-none (Some a) = refl

done_seen : (m v : ℕ) (ps : List (Option ℕ)) (q : Reading) → is_some (read_done m v ps q).current ≡ is_in m (nodes_in ps)
done_seen m v ps q = go (is_in m (nodes_in ps)) q.current
  where
    go : (b : Bool) (r : Option Run) → is_some (elim b as (λ _. Option Run) [ true ↦ go_on r q.fresh v | false ↦ None ]) ≡ b
    go true None = refl
    go true (Some r) = refl
    go false r = refl

pub state_seen : (m : ℕ) (e : Entry) (q : Reading) (o : Option Entry) → Seen m q o → Seen m (read_state m e.version e.state q) (option_or (only_done e) o)
state_seen m e q o h = go e.state refl
  where
    go : (x : State) → e.state ≡ x → is_some (read_state m e.version e.state q).current ≡ picked_in m (option_or (only_done e) o)
    go Mark k = rw (k, only_done) h
    go Frame k = rw (k, only_done) h
    go (Done v c ps) k = rw (k, only_done) (done_seen m e.version ps q ∙ sym (ap (λ (x : State). is_in m (nodes_in (picks_of x))) k))

-- what a whole list's reading has seen
seen-from : (m : ℕ) (es : List Entry) (q : Reading) (o : Option Entry) → Seen m q o → Seen m (read_all m es q) (option_or (last_done es) o)
seen-from m [] q o h = h
seen-from m (e ∷ es) q o h = seen-from m es (read_state m e.version e.state q) (option_or (only_done e) o) (state_seen m e q o h) ∙ ap (picked_in m) (sym (or-or (last_done es) (only_done e) o))

pub seen-all : (m : ℕ) (es : List Entry) → is_some (read_all m es nothing_read).current ≡ picked_in m (last_done es)
seen-all m es = seen-from m es nothing_read None refl ∙ ap (picked_in m) (or-none (last_done es))

-- ---- the last Done before the first Frame

pub no_done-none : (es : List Entry) → IsUnique es → ((v : ℕ) → has es v ≡ true → at is_done es v ≡ false) → last_done es ≡ None
no_done-none es u h = go (last_done es) refl
  where
    go : (o : Option Entry) → last_done es ≡ o → last_done es ≡ None
    go None e = e
    go (Some x) e = absurd (both_ways _ (h x.version (last_done-has es x e)) (last_done-at is_done es x u e ∙ last_is_done es x e))

-- Where no Done stands behind a call's Frame, the last Done before it is the last of all.
pub before-last : (es : List Entry) (t : ℕ) → IsUnique es → at is_frame es t ≡ true → ((v : ℕ) → behind es t v ≡ true → at is_done es v ≡ false) → last_done (before es t) ≡ last_done es
before-last [] t u f none = absurd (true≢false (sym f))
before-last (e ∷ es) t u f none = go (cases_Bool (e.version == t)) (before-last es t u.1)
  where
    later : (v : ℕ) → has es v ≡ true → (e.version == v) ≡ false
    later v k = false_from_ne_true _ (λ x. both_ways _ u.0 (subst (λ (w : ℕ). has es w ≡ true) (sym (eqb-true e.version v x)) k))

    frame_only : (x : State) → e.state ≡ x → is_frame x ≡ true → only_done e ≡ None
    frame_only Mark a b = absurd (true≢false (sym b))
    frame_only Frame a b = rw (a, only_done) refl
    frame_only (Done v c ps) a b = absurd (true≢false (sym b))

    go : ((e.version == t) ≡ true) ⊎ ((e.version == t) ≡ false) → (at is_frame es t ≡ true → ((v : ℕ) → behind es t v ≡ true → at is_done es v ≡ false) → last_done (before es t) ≡ last_done es) → last_done (before (e ∷ es) t) ≡ last_done (e ∷ es)
    go (inl w) further =
        let fe : is_frame e.state ≡ true = rw (w, at) at f in
        let a : last_done es ≡ None = no_done-none es u.1 (λ v k. let n = none v (rw (w, behind) k) in rw (later v k, at) at n) in
        rw (w, before) (sym (ap (λ (o : Option Entry). option_or o (only_done e)) a ∙ frame_only e.state refl fe))
    go (inr w) further = rw (w, before) (ap (λ (o : Option Entry). option_or o (only_done e)) (further (rw (w, at) at f) (λ v k. let n = none v (rw (w, behind) k) in rw (later v (behind-has es t v k).1, at) at n)))

-- one entry more before the list
first-more : (m : ℕ) (e : Entry) (es : List Entry) (o : Option Entry) (b : ℕ) → has es e.version ≡ false → PicksFirst m es (option_or (only_done e) o) b → PicksFirst m (e ∷ es) o b
first-more m e es o b u p = record {
  done = rw (other, at) p.done;
  now = rw (other, up_to) (ap (picked_in m) (or-or (last_done (up_to es b)) (only_done e) o) ∙ p.now);
  prior = rw (other, before) (ap (picked_in m) (or-or (last_done (before es b)) (only_done e) o) ∙ p.prior);
}
  where
    other : (e.version == b) ≡ false
    other = false_from_ne_true _ (λ x. both_ways _ u (subst (λ (w : ℕ). has es w ≡ true) (sym (eqb-true e.version b x)) (at-has is_done es b p.done)))

begun_at : (fresh : Bool) (v b : ℕ) → (begin_at fresh v).begins ≡ Some b → v ≡ b
begun_at true v b h = cc
begun_at false v b h = cc

-- an entry that begins the run, or leaves it as it was
first-here : (m : ℕ) (e : Entry) (es : List Entry) (q : Reading) (o : Option Entry) (r : Run) (b : ℕ) → Seen m q o → (read_state m e.version e.state q).current ≡ Some r → r.begins ≡ Some b → (q.current ≡ Some r) ⊎ PicksFirst m (e ∷ es) o b
first-here m e es q o r b seen k j = go e.state refl k
  where
    begins : (v : Value) (c : Bool) (ps : List (Option ℕ)) → e.state ≡ Done v c ps → is_in m (nodes_in ps) ≡ true → q.current ≡ None → e.version ≡ b → PicksFirst m (e ∷ es) o b
    begins v c ps x y z w =
        let same : (e.version == b) ≡ true = eq-eqb e.version b w in record {
          done = rw (same, at, x) refl;
          now = rw (same, up_to, only_done, x) (ap (λ (w : State). is_in m (nodes_in (picks_of w))) x ∙ y);
          prior = rw (same, before) (sym seen ∙ ap is_some z);
        }

    go : (x : State) → e.state ≡ x → (read_state m e.version x q).current ≡ Some r → (q.current ≡ Some r) ⊎ PicksFirst m (e ∷ es) o b
    go Mark x y = inl y
    go Frame x y = inl y
    go (Done v c ps) x y = picks (is_in m (nodes_in ps)) refl q.current refl y
      where
        picks : (p : Bool) → is_in m (nodes_in ps) ≡ p → (z : Option Run) → q.current ≡ z → elim p as (λ _. Option Run) [ true ↦ go_on z q.fresh e.version | false ↦ None ] ≡ Some r → (q.current ≡ Some r) ⊎ PicksFirst m (e ∷ es) o b
        picks false f z g i = cc
        picks true f (Some old) g i = inl (g ∙ i)
        picks true f None g i = inr (begins v c ps x f g (begun_at q.fresh e.version b (subst (λ (w : Option Run). run_begins w ≡ Some b) (sym i) j)))
          where
            run_begins : Option Run → Option ℕ
            run_begins None = None
            run_begins (Some w) = w.begins

first-read : (m : ℕ) (es : List Entry) (q : Reading) (o : Option Entry) (r : Run) (b : ℕ) → IsUnique es → Seen m q o → (read_all m es q).current ≡ Some r → r.begins ≡ Some b → (q.current ≡ Some r) ⊎ PicksFirst m es o b
first-read m [] q o r b u seen k j = inl k
first-read m (e ∷ es) q o r b u seen k j = go (first-read m es (read_state m e.version e.state q) (option_or (only_done e) o) r b u.1 (state_seen m e q o seen) k j)
  where
    go : ((read_state m e.version e.state q).current ≡ Some r) ⊎ PicksFirst m es (option_or (only_done e) o) b → (q.current ≡ Some r) ⊎ PicksFirst m (e ∷ es) o b
    go (inl x) = first-here m e es q o r b seen x j
    go (inr x) = inr (first-more m e es o b u.0 x)

-- The call at which the last run begins has a Done that picks the candidate, which was not picked before.
pub record BeginsRun (m : ℕ) (es : List Entry) (b : ℕ) : Type 0 where
  pub done : at is_done es b ≡ true
  pub now : is_in m (nodes_in (picks_at es b)) ≡ true
  pub prior : is_in m (nodes_in (picks_before es b)) ≡ false

pub run-begins : (m : ℕ) (es : List Entry) (r : Run) (b : ℕ) → IsUnique es → (read_all m es nothing_read).current ≡ Some r → r.begins ≡ Some b → BeginsRun m es b
run-begins m es r b u k j = go (first-read m es nothing_read None r b u refl k j)
  where
    go : (None ≡ Some r) ⊎ PicksFirst m es None b → BeginsRun m es b
    go (inl x) = cc
    go (inr p) = record {
      done = p.done;
      now = ap (picked_in m) (sym (or-none (last_done (up_to es b)))) ∙ p.now;
      prior = ap (picked_in m) (sym (or-none (last_done (before es b)))) ∙ p.prior;
    }
