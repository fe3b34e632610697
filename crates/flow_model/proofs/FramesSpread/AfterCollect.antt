-- Where a call has a Frame, all that reacts is open for it or wanted by it, after Collect.
use Rattle.std.proofs.Common.{◌≡◌, ℕ, Bool, true, false, ◌||◌, not, ◌==◌, ◌⊎◌, inl, inr, refl, sym, ap, arith, List, [], ◌∷◌, ◌++◌, true≢false, ◌∙◌, subst, Option, Some, None}
use Rattle.std.specs.Prelude.{is_some, filter}
use Rattle.std.specs.List.{list_any, cons_option}
use Rattle.std.specs.Option.{option_or}
use Rattle.std.proofs.lemmas.List.Folds.{list_any-append}
use Rattle.std.proofs.lemmas.Bool.{or_cases, or_left, or_right, eqb-true, eq-eqb, false_from_ne_true, both_ways, cases_Bool, true_from_ne_false}
use Rattle.signal_graph.specs.Graph.{Graph, is_in}
use Rattle.signal_graph.specs.Values.{nodes_in}
use Rattle.node_versions.specs.declared.entry.State.{State}
use Rattle.node_versions.specs.declared.entry.State.TheVariants.{Mark, Frame, Done}
use Rattle.node_versions.specs.declared.entry.Entry.{Entry}
use Rattle.node_versions.specs.Entries.{OutEdge, IsUnique, has, at, is_frame, is_done, behind, up_to, first_open, is_active, has_node, last_done, only_done, picks_of, collected}
use Rattle.node_versions.proofs.Collecting.{last_is_done}
use Rattle.node_versions.proofs.Places.{at-has}
use Rattle.flow_model.specs.declared.step.Step.TheVariants as steps
use Rattle.flow_model.specs.Machine.State.{Core, Cell, cell, live, entries, outs, opens, with_cell}
use Rattle.flow_model.specs.Machine.Steps.{allowed, apply, collect}
use Rattle.flow_model.specs.Kept.Runs.{Run, Reading, go_on, begin_at, close, read_done, read_state, read_all, nothing_read, last_run, discovered, runs, covers, reacts}
use Rattle.flow_model.specs.Kept.Lawful.{IsLawful, FramesSpread}
use Rattle.flow_model.proofs.OneStep.WhoMayStep.{opens-live}
use Rattle.flow_model.proofs.OneList.InOrder.{on_calls, filter-has, last_done-has}
use Rattle.flow_model.proofs.OneList.StatesAndPlaces.{behind-has}
use Rattle.flow_model.proofs.OneList.OneEntryACall.{filter-unique, filter-behind, last_done-at, collected-unique, collected-behind_live}
use Rattle.flow_model.proofs.OneList.Entering.{with_cell-cell}
use Rattle.flow_model.proofs.OrderStays.OpenNodesHaveFrames.{step-FramesAreOpen}
use Rattle.flow_model.proofs.Wants.FramedWith.{opens-frame, not_up_to-behind}
use Rattle.flow_model.proofs.Reactions.WhereRunsBegin.{picked_in, seen-all}
use Rattle.flow_model.proofs.Reactions.RunsThatHaveEnded.{any-last, no_dones-read, done-not_fresh}
use Rattle.flow_model.proofs.Reactions.WhoReacts.{dropper_in, runs_in, same-runs, any-parts, any-map, covers-parts, parts-covers, from-back, until-back, same_lists-covers, reacts-back, read_all-append}
use Rattle.flow_model.proofs.FramesSpread.AfterOtherSteps.{same_outs, spread-kept}

-- ---- the parts of a list

-- Where what passes the test stands first, the list is the part that passes and the rest.
pub split : (p : ℕ → Bool) (es : List Entry) → IsUnique es → ((u v : ℕ) → behind es u v ≡ true → p v ≡ true → p u ≡ true) → filter (on_calls p) es ++ filter (on_calls (λ v. not (p v))) es ≡ es
split p [] u h = refl
split p (e ∷ es) u h = go (p e.version) refl (split p es u.1 (λ x y b k. later x y b k))
  where
    behind-first : (v : ℕ) → has es v ≡ true → behind (e ∷ es) e.version v ≡ true
    behind-first v k = let w = eq-eqb e.version e.version refl in rw (w, behind) k

    later : (x y : ℕ) → behind es x y ≡ true → p y ≡ true → p x ≡ true
    later x y b k =
        let ne : (e.version == x) ≡ false = false_from_ne_true _ (λ z. both_ways _ u.0 (subst (λ (w : ℕ). has es w ≡ true) (sym (eqb-true e.version x z)) (behind-has es x y b).0)) in
        h x y (rw (ne, behind) b) k

    none : (xs : List Entry) → ((v : ℕ) → has xs v ≡ true → p v ≡ false) → filter (on_calls p) xs ++ filter (on_calls (λ v. not (p v))) xs ≡ xs
    none [] k = refl
    none (x ∷ xs) k =
        let a = k x.version (let w = eq-eqb x.version x.version refl in rw (w, has) refl) in
        let r = none xs (λ v j. k v (or_right _ _ j)) in
        let f = empty xs (λ v j. k v (or_right _ _ j)) in
        grind (arith, a, r, f)
      where
        empty : (xs : List Entry) → ((v : ℕ) → has xs v ≡ true → p v ≡ false) → filter (on_calls p) xs ≡ []
        empty [] k = refl
        empty (x ∷ xs) k = let a = k x.version (let w = eq-eqb x.version x.version refl in rw (w, has) refl) in let r = empty xs (λ v j. k v (or_right _ _ j)) in grind (arith, a, r)

    go : (b : Bool) → p e.version ≡ b → filter (on_calls p) es ++ filter (on_calls (λ v. not (p v))) es ≡ es → filter (on_calls p) (e ∷ es) ++ filter (on_calls (λ v. not (p v))) (e ∷ es) ≡ e ∷ es
    go true x r = grind (arith, x, r)
    go false x r = none (e ∷ es) (λ v k. false_from_ne_true _ (λ y. cases v k y (or_cases _ _ k)))
      where
        cases : (v : ℕ) → has (e ∷ es) v ≡ true → p v ≡ true → ((e.version == v) ≡ true) ⊎ (has es v ≡ true) → ⊥
        cases v k y (inl z) = both_ways _ x (subst (λ (w : ℕ). p w ≡ true) (sym (eqb-true e.version v z)) y)
        cases v k y (inr z) = both_ways _ x (h e.version v (behind-first v z) y)

-- Frames that pass the test are found in the part that passes.
filter-first_open : (p : ℕ → Bool) (es : List Entry) → IsUnique es → ((u : ℕ) → at is_frame es u ≡ true → p u ≡ true) → first_open (filter (on_calls p) es) ≡ first_open es
filter-first_open p [] u h = refl
filter-first_open p (e ∷ es) u h = go (is_frame e.state) refl (p e.version) refl (filter-first_open p es u.1 (λ x k. later x k))
  where
    same : (e.version == e.version) ≡ true
    same = eq-eqb e.version e.version refl

    later : (x : ℕ) → at is_frame es x ≡ true → p x ≡ true
    later x k =
        let ne : (e.version == x) ≡ false = false_from_ne_true _ (λ z. both_ways _ u.0 (subst (λ (w : ℕ). has es w ≡ true) (sym (eqb-true e.version x z)) (at-has is_frame es x k))) in
        h x (rw (ne, at) k)

    go : (f : Bool) → is_frame e.state ≡ f → (b : Bool) → p e.version ≡ b → first_open (filter (on_calls p) es) ≡ first_open es → first_open (filter (on_calls p) (e ∷ es)) ≡ first_open (e ∷ es)
    go true x true y r = grind (arith, x, y)
    go true x false y r = absurd (both_ways _ y (h e.version (rw (same, at) x)))
    go false x true y r = grind (arith, x, y, r)
    go false x false y r = grind (arith, x, y, r)

-- ---- two readings

-- The runs in progress: none in both readings, or one in each, where what the test takes of the second it takes of the first.
pub data BothRuns (test : Run → Bool) : Option Run → Option Run → Type 0 where
  neither : BothRuns test None None
  each : (a b : Run) → ((z : Option ℕ) → test (record b { ends = z }) ≡ true → test (record a { ends = z }) ≡ true) → BothRuns test (Some a) (Some b)

pub record Alike (test : Run → Bool) (a b : Reading) : Type 0 where
  pub fresh : a.fresh ≡ b.fresh
  pub current : BothRuns test a.current b.current
  pub closed : list_any test b.closed ≡ true → list_any test a.closed ≡ true

done-alike : (test : Run → Bool) (m v : ℕ) (ps : List (Option ℕ)) (a b : Reading) → Alike test a b → Alike test (read_done m v ps a) (read_done m v ps b)
done-alike test m v ps a b h = record { fresh = refl; current = current (is_in m (nodes_in ps)); closed = closing (is_in m (nodes_in ps)) }
  where
    going : (x y : Option Run) → BothRuns test x y → BothRuns test (go_on x a.fresh v) (go_on y b.fresh v)
    going _ _ neither = subst (λ (f : Bool). BothRuns test (Some (begin_at a.fresh v)) (Some (begin_at f v))) h.fresh (each (begin_at a.fresh v) (begin_at a.fresh v) (λ z k. k))
    going _ _ (each x y f) = each x y f

    current : (p : Bool) → BothRuns test (elim p as (λ _. Option Run) [ true ↦ go_on a.current a.fresh v | false ↦ None ]) (elim p as (λ _. Option Run) [ true ↦ go_on b.current b.fresh v | false ↦ None ])
    current true = going a.current b.current h.current
    current false = neither

    closes : (x y : Option Run) → BothRuns test x y → list_any test (close y v b.closed) ≡ true → list_any test (close x v a.closed) ≡ true
    closes _ _ neither k = h.closed k
    closes _ _ (each x y f) k = go (any-last test b.closed (record y { ends = Some v }) k)
      where
        go : (list_any test b.closed ≡ true) ⊎ (test (record y { ends = Some v }) ≡ true) → list_any test (a.closed ++ record x { ends = Some v } ∷ []) ≡ true
        go (inl j) = list_any-append test a.closed (record x { ends = Some v } ∷ []) ∙ or_left _ _ (h.closed j)
        go (inr j) = list_any-append test a.closed (record x { ends = Some v } ∷ []) ∙ or_right (list_any test a.closed) _ (or_left _ _ (f (Some v) j))

    closing : (p : Bool) → list_any test (elim p as (λ _. List Run) [ true ↦ b.closed | false ↦ close b.current v b.closed ]) ≡ true → list_any test (elim p as (λ _. List Run) [ true ↦ a.closed | false ↦ close a.current v a.closed ]) ≡ true
    closing true k = h.closed k
    closing false k = closes a.current b.current h.current k

read-alike : (test : Run → Bool) (m : ℕ) (es : List Entry) (a b : Reading) → Alike test a b → Alike test (read_all m es a) (read_all m es b)
read-alike test m [] a b h = h
read-alike test m (e ∷ es) a b h = read-alike test m es (read_state m e.version e.state a) (read_state m e.version e.state b) (go e.state)
  where
    go : (x : State) → Alike test (read_state m e.version x a) (read_state m e.version x b)
    go Mark = h
    go Frame = h
    go (Done v c ps) = done-alike test m e.version ps a b h

-- What is true of the calls of a list is true of the call at which the run begins in which its reading ends.
open-run : (m : ℕ) (es : List Entry) (q : Reading) (P : ℕ → Type 0) → ((v : ℕ) → has es v ≡ true → P v) → ((r : Run) → q.current ≡ Some r → (b : ℕ) → r.begins ≡ Some b → P b) → (r : Run) → (read_all m es q).current ≡ Some r → (b : ℕ) → r.begins ≡ Some b → P b
open-run m [] q P h k r e b j = k r e b j
open-run m (e ∷ es) q P h k r0 y0 b0 j0 = open-run m es (read_state m e.version e.state q) P (λ v x. h v (or_right _ _ x)) (go e.state) r0 y0 b0 j0
  where
    here : P e.version
    here = h e.version (or_left _ _ (eq-eqb e.version e.version refl))

    go : (x : State) → (r : Run) → (read_state m e.version x q).current ≡ Some r → (b : ℕ) → r.begins ≡ Some b → P b
    go Mark r y b j = k r y b j
    go Frame r y b j = k r y b j
    go (Done v c ps) r y b j = picks (is_in m (nodes_in ps)) q.current refl y
      where
        run_begins : Option Run → Option ℕ
        run_begins None = None
        run_begins (Some w) = w.begins

        begun : (f : Bool) → (begin_at f e.version).begins ≡ Some b → P b
        begun true z = cc
        begun false z = subst P (value z) here
          where
            value : {x y : ℕ} → Some x ≡ Some y → x ≡ y
            value z = cc

        picks : (p : Bool) → (z : Option Run) → q.current ≡ z → elim p as (λ _. Option Run) [ true ↦ go_on z q.fresh e.version | false ↦ None ] ≡ Some r → P b
        picks false z g i = cc
        picks true (Some old) g i = k r (g ∙ i) b j
        picks true None g i = begun q.fresh (subst (λ (w : Option Run). run_begins w ≡ Some b) (sym i) j)

-- ---- a collected list

pub no_last-none : (es : List Entry) (u : ℕ) → last_done es ≡ None → at is_done es u ≡ false
no_last-none [] u h = refl
no_last-none (e ∷ es) u h = go (last_done es) refl h (no_last-none es u)
  where
    alone : (b : Bool) → is_done e.state ≡ b → elim b as (λ _. Option Entry) [ true ↦ Some e | false ↦ None ] ≡ None → is_done e.state ≡ false
    alone true k j = cc
    alone false k j = k

    go : (o : Option Entry) → last_done es ≡ o → option_or o (only_done e) ≡ None → (last_done es ≡ None → at is_done es u ≡ false) → at is_done (e ∷ es) u ≡ false
    go (Some x) k j further = cc
    go None k j further = let a = alone (is_done e.state) refl j in let b = further k in grind (arith, a, b)

-- What the test takes of a run without a first call, it takes of one that begins at an ended call.
abbrev pub Earlier : (Run → Bool) → (ℕ → Bool) → Type 0
Earlier test p = (b : ℕ) (z : Option ℕ) → p b ≡ true → test (record { begins = None; ends = z }) ≡ true → test (record { begins = Some b; ends = z }) ≡ true

pub collected-alike : (test : Run → Bool) (p : ℕ → Bool) → Earlier test p → (m : ℕ) (es : List Entry) → IsUnique es → ((u v : ℕ) → behind es u v ≡ true → p v ≡ true → p u ≡ true)
    → Alike test (read_all m es nothing_read) (read_all m (collected (on_calls p) es) nothing_read)
collected-alike test p earlier m es u h = subst (λ (q : Reading). Alike test q (read_all m (collected (on_calls p) es) nothing_read)) (sym parts) (go (last_done xs) refl)
  where
    xs : List Entry
    xs = filter (on_calls p) es

    ys : List Entry
    ys = filter (on_calls (λ v. not (p v))) es

    unique : IsUnique xs
    unique = filter-unique p es u

    parts : read_all m es nothing_read ≡ read_all m ys (read_all m xs nothing_read)
    parts = ap (λ (zs : List Entry). read_all m zs nothing_read) (sym (split p es u h)) ∙ read_all-append m xs ys nothing_read

    same : (q : Reading) → Alike test q q
    same q = record { fresh = refl; current = runs_same q.current; closed = λ k. k }
      where
        runs_same : (o : Option Run) → BothRuns test o o
        runs_same None = neither
        runs_same (Some r) = each r r (λ z k. k)

    -- the run that goes on after the ended calls
    longer : (r : Run) → (read_all m xs nothing_read).current ≡ Some r → (z : Option ℕ) → test (record { begins = None; ends = z }) ≡ true → test (record r { ends = z }) ≡ true
    longer r e z k = begun r.begins refl
      where
        begun : (o : Option ℕ) → r.begins ≡ o → test (record { begins = r.begins; ends = z }) ≡ true
        begun None x = subst (λ (o : Option ℕ). test (record { begins = o; ends = z }) ≡ true) (sym x) k
        begun (Some b) x = subst (λ (o : Option ℕ). test (record { begins = o; ends = z }) ≡ true) (sym x)
            (earlier b z (open-run m xs nothing_read (λ v. p v ≡ true) (λ v y. (filter-has p es v y).1) (λ w y. absurd (none_some w y)) r e b x) k)
          where
            none_some : (w : Run) → None ≡ Some w → ⊥
            none_some w y = cc

    done : (x : Entry) → last_done xs ≡ Some x → (y : State) → x.state ≡ y → is_done y ≡ true → Alike test (read_all m xs nothing_read) (read_state m x.version y nothing_read)
    done x e Mark k d = absurd (true≢false (sym d))
    done x e Frame k d = absurd (true≢false (sym d))
    done x e (Done v c ps) k d = record {
      fresh = done-not_fresh m xs nothing_read x.version (last_done-at is_done xs x unique e ∙ last_is_done xs x e);
      current = current (is_in m (nodes_in ps)) refl (read_all m xs nothing_read).current refl;
      closed = closed (is_in m (nodes_in ps));
    }
      where
        closed : (b : Bool) → list_any test (elim b as (λ _. List Run) [ true ↦ [] | false ↦ close None x.version [] ]) ≡ true → list_any test (read_all m xs nothing_read).closed ≡ true
        closed true k = absurd (true≢false (sym k))
        closed false k = absurd (true≢false (sym k))

        seen : is_some (read_all m xs nothing_read).current ≡ is_in m (nodes_in ps)
        seen = seen-all m xs ∙ ap (picked_in m) e ∙ ap (λ (w : State). is_in m (nodes_in (picks_of w))) k

        current : (b : Bool) → is_in m (nodes_in ps) ≡ b → (o : Option Run) → (read_all m xs nothing_read).current ≡ o → BothRuns test o (elim b as (λ _. Option Run) [ true ↦ Some (begin_at true x.version) | false ↦ None ])
        current true f (Some r) g = each r (begin_at true x.version) (longer r g)
        current true f None g = absurd (true≢false (sym (sym (ap is_some g) ∙ seen ∙ f)))
        current false f None g = neither
        current false f (Some r) g = absurd (true≢false (sym (ap is_some g) ∙ seen ∙ f))

    go : (o : Option Entry) → last_done xs ≡ o → Alike test (read_all m ys (read_all m xs nothing_read)) (read_all m (cons_option o ys) nothing_read)
    go None e = subst (λ (q : Reading). Alike test (read_all m ys q) (read_all m ys nothing_read)) (sym (no_dones-read m xs nothing_read unique (λ v _. no_last-none xs v e))) (same (read_all m ys nothing_read))
    go (Some x) e = read-alike test m ys (read_all m xs nothing_read) (read_state m x.version x.state nothing_read) (done x e x.state refl (last_is_done xs x e))

pub collected-first_open : (p : ℕ → Bool) (es : List Entry) → IsUnique es → ((u : ℕ) → at is_frame es u ≡ true → p u ≡ false) → first_open (collected (on_calls p) es) ≡ first_open es
collected-first_open p es u h = go (last_done (filter (on_calls p) es)) refl
  where
    live_part : first_open (filter (on_calls (λ v. not (p v))) es) ≡ first_open es
    live_part = filter-first_open (λ v. not (p v)) es u (λ v k. ap not (h v k))

    not_frame : (x : State) → is_done x ≡ true → is_frame x ≡ false
    not_frame Mark k = refl
    not_frame Frame k = absurd (true≢false (sym k))
    not_frame (Done v c ps) k = refl

    go : (o : Option Entry) → last_done (filter (on_calls p) es) ≡ o → first_open (cons_option o (filter (on_calls (λ v. not (p v))) es)) ≡ first_open es
    go None e = live_part
    go (Some x) e = let f = not_frame x.state (last_is_done (filter (on_calls p) es) x e) in rw (f, first_open) live_part

pub collected-any : (test : Run → Bool) (p : ℕ → Bool) → Earlier test p → (es : List Entry) (os : List OutEdge) (n m : ℕ) → IsUnique es → ((u v : ℕ) → behind es u v ≡ true → p v ≡ true → p u ≡ true) → ((u : ℕ) → at is_frame es u ≡ true → p u ≡ false)
    → list_any test (runs_in (collected (on_calls p) es) os n m) ≡ true → list_any test (runs_in es os n m) ≡ true
collected-any test p earlier es os n m u h f k = any-parts test es os n m ∙ parts (or_cases _ _ (sym (any-parts test after os n m) ∙ k))
  where
    after : List Entry
    after = collected (on_calls p) es

    alike : Alike test (read_all m es nothing_read) (read_all m after nothing_read)
    alike = collected-alike test p earlier m es u h

    first : first_open after ≡ first_open es
    first = collected-first_open p es u f

    dropper : dropper_in after os n ≡ dropper_in es os n
    dropper = ap (λ (o : Option ℕ). elim (has_node os n) as (λ _. Option ℕ) [ true ↦ None | false ↦ o ]) first

    only : (a : Bool) → (a || false) ≡ true → a ≡ true
    only true k = refl
    only false k = k

    last : (x y : Option Run) → BothRuns test x y → (z : Option ℕ) → list_any test (last_run y z) ≡ true → list_any test (last_run x z) ≡ true
    last _ _ neither z a = a
    last _ _ (each x y g) z a = or_left _ _ (g z (only _ a))

    two : (list_any test (read_all m after nothing_read).closed ≡ true) ⊎ (list_any test (last_run (read_all m after nothing_read).current (dropper_in after os n)) ≡ true)
        → (list_any test (read_all m es nothing_read).closed || list_any test (last_run (read_all m es nothing_read).current (dropper_in es os n))) ≡ true
    two (inl a) = or_left _ _ (alike.closed a)
    two (inr a) = or_right _ _ (last (read_all m es nothing_read).current (read_all m after nothing_read).current alike.current (dropper_in es os n) (subst (λ (z : Option ℕ). list_any test (last_run (read_all m after nothing_read).current z) ≡ true) dropper a))

    parts : ((list_any test (read_all m after nothing_read).closed || list_any test (last_run (read_all m after nothing_read).current (dropper_in after os n))) ≡ true) ⊎ (list_any test (discovered (first_open after) n os) ≡ true)
        → ((list_any test (read_all m es nothing_read).closed || list_any test (last_run (read_all m es nothing_read).current (dropper_in es os n))) || list_any test (discovered (first_open es) n os)) ≡ true
    parts (inl a) = or_left _ _ (two (or_cases _ _ a))
    parts (inr a) = or_right _ _ (subst (λ (o : Option ℕ). list_any test (discovered o n os) ≡ true) first a)

-- ---- covers in a collected list

pub behind-not_up : (es : List Entry) (u b : ℕ) → IsUnique es → behind es u b ≡ true → (has es b ≡ true) × (has (up_to es u) b ≡ false)
behind-not_up [] u b q h = absurd (true≢false (sym h))
behind-not_up (e ∷ es) u b q h = go (cases_Bool (e.version == u)) (behind-not_up es u b q.1)
  where
    other : has es b ≡ true → (e.version == b) ≡ false
    other k = false_from_ne_true _ (λ x. both_ways _ q.0 (subst (λ (w : ℕ). has es w ≡ true) (sym (eqb-true e.version b x)) k))

    go : ((e.version == u) ≡ true) ⊎ ((e.version == u) ≡ false) → (behind es u b ≡ true → (has es b ≡ true) × (has (up_to es u) b ≡ false)) → (has (e ∷ es) b ≡ true) × (has (up_to (e ∷ es) u) b ≡ false)
    go (inl w) further = let k : has es b ≡ true = rw (w, behind) at h in let ne = other k in (or_right _ _ k, rw (w, up_to) (rw (ne, has) refl))
    go (inr w) further = let r = further (rw (w, behind) at h) in let ne = other r.0 in (or_right _ _ r.0, rw (w, up_to) (rw (ne, has) r.1))

pub collected-behind : (p : ℕ → Bool) (es : List Entry) (u b : ℕ) → p u ≡ false → p b ≡ false → behind es u b ≡ true → behind (collected (on_calls p) es) u b ≡ true
collected-behind p es u b h k j = go (last_done (filter (on_calls p) es)) refl
  where
    shown : behind (filter (on_calls (λ v. not (p v))) es) u b ≡ true
    shown = let f = filter-behind (λ v. not (p v)) es u b in grind (arith, f, h, k, j)

    go : (o : Option Entry) → last_done (filter (on_calls p) es) ≡ o → behind (cons_option o (filter (on_calls (λ v. not (p v))) es)) u b ≡ true
    go None e = shown
    go (Some x) e =
        let hx = (filter-has p es x.version (last_done-has (filter (on_calls p) es) x e)).1 in
        let ne : (x.version == u) ≡ false = false_from_ne_true _ (λ w. both_ways _ h (subst (λ (v : ℕ). p v ≡ true) (eqb-true x.version u w) hx)) in
        rw (ne, behind) shown

-- An ended call's edge is active for each live call.
pub ended-active : (graph : Graph) (s : Core) → IsLawful graph s → (m u b : ℕ) → live s u ≡ true → has (entries s m) u ≡ true → live s b ≡ false → is_active (entries s m) b u ≡ true
ended-active graph s h m u b lu hu d = true_from_ne_false _ (λ e. both_ways _ (h.ended_is_prefix.prefix m u b (not_up_to-behind (entries s m) u b hu e) d) lu)

collected-covers : (graph : Graph) (s : Core) → IsLawful graph s → (n0 m u : ℕ) (r : Run) → opens s u m ≡ true → covers (with_cell s n0 (collect s)) m u r ≡ true → covers s m u r ≡ true
collected-covers graph s h n0 m u r o k = go (with_cell-cell s n0 (collect s) m)
  where
    q : Core
    q = with_cell s n0 (collect s)

    p : ℕ → Bool
    p v = not (live s v)

    es : List Entry
    es = entries s m

    lu : live s u ≡ true
    lu = opens-live s u m o

    hu : has es u ≡ true
    hu = at-has is_frame es u (opens-frame graph s h u m o)

    pu : p u ≡ false
    pu = ap not lu

    active : (b : ℕ) → is_active (collected (on_calls p) es) b u ≡ true → is_active es b u ≡ true
    active b a = cases (cases_Bool (live s b))
      where
        cases : (live s b ≡ true) ⊎ (live s b ≡ false) → is_active es b u ≡ true
        cases (inr d) = ended-active graph s h m u b lu hu d
        cases (inl l) = true_from_ne_false _ (λ e.
            let c = behind-not_up (collected (on_calls p) es) u b (collected-unique p es (h.one_entry m)) (collected-behind p es u b pu (ap not l) (not_up_to-behind es u b hu e)) in
            neither_way (has (collected (on_calls p) es) b) (has (up_to (collected (on_calls p) es) u) b) c.0 c.1 a)
          where
            neither_way : (x y : Bool) → x ≡ true → y ≡ false → (not x || y) ≡ true → ⊥
            neither_way true true a b c = both_ways _ b refl
            neither_way true false a b c = true≢false (sym c)
            neither_way false y a b c = both_ways _ (sym a) refl

    moved : entries q m ≡ collected (on_calls p) es → covers s m u r ≡ true
    moved g =
        let c = covers-parts q m u r k in
        parts-covers s m u r (record {
          has_it = hu;
          from = from-back s q m u r.begins (λ b _ a. active b (subst (λ (zs : List Entry). is_active zs b u ≡ true) g a)) c.from;
          until = until-back s q m u r.ends (λ z _ l b. (l, collected-behind_live p es u z pu (subst (λ (zs : List Entry). behind zs u z ≡ true) g b))) c.until;
        })

    go : (cell q m ≡ cell s m) ⊎ ((m ≡ n0) × (cell q m ≡ collect s (cell s m))) → covers s m u r ≡ true
    go (inl e) = same_lists-covers s q m u (ap (λ (c : Cell). c.entries) e) (λ z j l. l) r k
    go (inr e) = moved (ap (λ (c : Cell). c.entries) e.1)

collected-reacts : (graph : Graph) (s : Core) → IsLawful graph s → (n0 u m n : ℕ) → opens s u m ≡ true → reacts graph (with_cell s n0 (collect s)) u m n ≡ true → reacts graph s u m n ≡ true
collected-reacts graph s h n0 u m n o k = reacts-back graph s q u m n (λ a. go (with_cell-cell s n0 (collect s) n) (any-map (covers q m u) (covers s m u) (runs q n m) (λ i r _ x. collected-covers graph s h n0 m u r o x) a)) k
  where
    q : Core
    q = with_cell s n0 (collect s)

    p : ℕ → Bool
    p v = not (live s v)

    edges : outs q m ≡ outs s m
    edges = same_outs s n0 (collect s) (λ x. refl) m

    earlier : Earlier (covers s m u) p
    earlier b z d x =
        let c = covers-parts s m u (record { begins = None; ends = z }) x in
        parts-covers s m u (record { begins = Some b; ends = z }) (record { has_it = c.has_it; from = ended-active graph s h m u b (opens-live s u m o) c.has_it (turned (live s b) d); until = c.until })
      where
        turned : (a : Bool) → not a ≡ true → a ≡ false
        turned true k = sym k
        turned false k = refl

    prefix : (x y : ℕ) → behind (entries s n) x y ≡ true → p y ≡ true → p x ≡ true
    prefix x y b d = ap not (h.ended_is_prefix.prefix n x y b (turned (live s y) d))
      where
        turned : (a : Bool) → not a ≡ true → a ≡ false
        turned true k = sym k
        turned false k = refl

    no_frame : (x : ℕ) → at is_frame (entries s n) x ≡ true → p x ≡ false
    no_frame x f = ap not (true_from_ne_false (live s x) (λ d. both_ways _ (h.ended_is_prefix.no_frame n x d) f))

    go : (cell q n ≡ cell s n) ⊎ ((n ≡ n0) × (cell q n ≡ collect s (cell s n))) → list_any (covers s m u) (runs q n m) ≡ true → list_any (covers s m u) (runs s n m) ≡ true
    go (inl e) a = subst (λ (rs : List Run). list_any (covers s m u) rs ≡ true) (same-runs s q n m (ap (λ (x : Cell). x.entries) e) edges) a
    go (inr e) a = collected-any (covers s m u) p earlier (entries s n) (outs s m) n m (h.one_entry n) prefix no_frame
        (subst (λ (rs : List Run). list_any (covers s m u) rs ≡ true) (ap (λ (x : Cell). runs_in x.entries (outs q m) n m) e.1 ∙ ap (λ (os : List OutEdge). runs_in (collected (on_calls p) (entries s n)) os n m) edges) a)

pub collected-spread : (graph : Graph) (s : Core) (n0 : ℕ) → IsLawful graph s → allowed graph s (steps.Collect n0) ≡ true → FramesSpread graph (apply graph s (steps.Collect n0))
collected-spread graph s n0 h a = spread-kept graph s h (apply graph s (steps.Collect n0)) (step-FramesAreOpen graph s (steps.Collect n0) h a) (λ u n. refl) (λ u n. refl) (λ u m n o. collected-reacts graph s h n0 u m n o)
