-- Where no Frame comes, what settles an entry after a step did so before, or is what the step gathers, drops or finishes.
use Rattle.std.proofs.Common.{◌≡◌, ℕ, Bool, true, false, ◌&&◌, ◌||◌, not, ◌==◌, ◌⊎◌, inl, inr, refl, sym, ap, arith, List, [], ◌∷◌, ◌++◌, ◌∙◌, subst, Option}
use Rattle.std.specs.List.{list_any}
use Rattle.std.proofs.lemmas.Bool.Decides.{eqb_tells}
use Rattle.std.proofs.lemmas.Bool.{or_cases, or_left, or_right, and_parts, and_from, eqb-true, eq-eqb, false_from_ne_true, both_ways, true_from_ne_false, not-true, not_from_false}
use Rattle.script_tree.proofs.Truths.{and_left, and_right}
use Rattle.signal_graph.specs.Graph.{Graph, is_in, node_at, inputs_of}
use Rattle.signal_graph.specs.Values.{nodes_in}
use Rattle.node_versions.specs.declared.entry.State.{State}
use Rattle.node_versions.specs.declared.entry.Entry.{Entry}
use Rattle.node_versions.specs.Entries.{IsUnique, has, at, is_frame, is_done, behind, served, first_open, has_node, with_state, placed, collected, picks_before}
use Rattle.node_versions.proofs.KeptLemmas.{has-with_state}
use Rattle.flow_model.specs.Machine.State.{Core, live, executes, is_framing, entries, outs, changes}
use Rattle.flow_model.specs.Machine.Words.{heads, is_prior, is_gathered, touched, deps}
use Rattle.flow_model.specs.Kept.Runs.{settles, was_due, dropped, picks_it, looked_at, IsSettled, by_node, by_look}
use Rattle.flow_model.specs.Kept.Lawful.{IsLawful, SettledIsKept}
use Rattle.flow_model.proofs.OneStep.WhoMayStep.{no_states-none}
use Rattle.flow_model.proofs.OneList.InOrder.{on_calls}
use Rattle.flow_model.proofs.OneList.OneEntryACall.{placed-has, placed-at, placed-at_other, collected-at, collected-at_live, collected-behind_live}
use Rattle.flow_model.proofs.OneList.StatesAndPlaces.{behind-has, with_state-at, with_state-behind}
use Rattle.flow_model.proofs.OrderStays.NoFrameBeforeDones.{head-first}
use Rattle.flow_model.proofs.Reactions.WhoReacts.{placed-behind}
use Rattle.flow_model.proofs.OneList.PicksBefore.{KeepsPicks}
use Rattle.flow_model.proofs.General.AnyAndAll.{is-some, any-more}

-- ---- the four ways

-- u's entry at m is settled by what u does at n: it has gathered m there, has finished without m, has dropped m, or its Done
-- there was due.
pub data HowSettled (graph : Graph) (s : Core) (u m n : ℕ) : Type 0 where
  by_gather : heads s u n ≡ true → is_gathered s n m ≡ true → HowSettled graph s u m n
  by_leaving : is_prior s u n m ≡ true → at is_done (entries s n) u ≡ true → picks_it s u n m ≡ false → HowSettled graph s u m n
  by_drop : is_prior s u n m ≡ true → heads s u n ≡ true → has_node (outs s m) n ≡ false → HowSettled graph s u m n
  by_due : at is_done (entries s n) u ≡ true → touched graph s u n ≡ true → (is_in m (inputs_of (node_at graph n)) || picks_it s u n m) ≡ true → HowSettled graph s u m n

pub how : (graph : Graph) (s : Core) (u m n : ℕ) → settles graph s u m n ≡ true → HowSettled graph s u m n
how graph s u m n h = go (or_cases _ _ h)
  where
    left : (is_prior s u n m ≡ true) → ((at is_done (entries s n) u && not (picks_it s u n m)) ≡ true) ⊎ ((heads s u n && not (has_node (outs s m) n)) ≡ true) → HowSettled graph s u m n
    left p (inl x) = by_leaving p (and_left (at is_done (entries s n) u) (not (picks_it s u n m)) x) (not-true _ (and_right (at is_done (entries s n) u) (not (picks_it s u n m)) x))
    left p (inr x) = by_drop p (and_left (heads s u n) (not (has_node (outs s m) n)) x) (not-true _ (and_right (heads s u n) (not (has_node (outs s m) n)) x))

    first : ((heads s u n && is_gathered s n m) ≡ true) ⊎ (dropped s u n m ≡ true) → HowSettled graph s u m n
    first (inl x) = by_gather (and_left (heads s u n) (is_gathered s n m) x) (and_right (heads s u n) (is_gathered s n m) x)
    first (inr x) =
        let b = and_parts (is_prior s u n m) ((at is_done (entries s n) u && not (picks_it s u n m)) || (heads s u n && not (has_node (outs s m) n))) x in
        left b.0 (or_cases (at is_done (entries s n) u && not (picks_it s u n m)) (heads s u n && not (has_node (outs s m) n)) b.1)

    go : (((heads s u n && is_gathered s n m) || dropped s u n m) ≡ true) ⊎ ((was_due graph s u n && (is_in m (inputs_of (node_at graph n)) || picks_it s u n m)) ≡ true) → HowSettled graph s u m n
    go (inl x) = first (or_cases _ _ x)
    go (inr x) =
        let b = and_parts (was_due graph s u n) (is_in m (inputs_of (node_at graph n)) || picks_it s u n m) x in
        let d = and_parts (at is_done (entries s n) u) (touched graph s u n) b.0 in
        by_due d.0 d.1 b.1

pub settled-by : (graph : Graph) (s : Core) (u m n : ℕ) → HowSettled graph s u m n → settles graph s u m n ≡ true
settled-by graph s u m n (by_gather x y) = or_left _ _ (or_left _ _ (and_from _ _ x y))
settled-by graph s u m n (by_leaving p d k) = or_left _ _ (or_right _ _ (and_from _ _ p (or_left _ _ (and_from _ _ d (not_from_false _ k)))))
settled-by graph s u m n (by_drop p x e) = or_left _ _ (or_right _ _ (and_from _ _ p (or_right _ _ (and_from _ _ x (not_from_false _ e)))))
settled-by graph s u m n (by_due d t i) = or_right _ _ (and_from _ _ (and_from _ _ d t) i)

-- ---- what is kept at a node

pub touched-kept : (graph : Graph) (s q : Core) (u n : ℕ) → picks_before (entries q n) u ≡ picks_before (entries s n) u → ((m : ℕ) → changes q u m ≡ true → changes s u m ≡ true) → touched graph q u n ≡ true → touched graph s u n ≡ true
touched-kept graph s q u n e c k = and_from _ _ (and_left _ _ k) (subst (λ (ps : List (Option ℕ)). list_any (changes s u) (inputs_of (node_at graph n) ++ nodes_in ps) ≡ true) e (any-more (changes q u) (changes s u) (deps graph q u n) c (and_right _ _ k)))

-- The candidate is among the same picks.
pub in-picks : (ps qs : List (Option ℕ)) (m : ℕ) (b : Bool) → ps ≡ qs → is_in m (nodes_in ps) ≡ b → is_in m (nodes_in qs) ≡ b
in-picks ps qs m b e h = subst (λ (xs : List (Option ℕ)). is_in m (nodes_in xs) ≡ b) e h

either : {A B X : Type 0} → (A → B) → A ⊎ X → B ⊎ X
either f (inl a) = inl (f a)
either f (inr x) = inr x

-- What settles m after a step did so before it, but for what is newly gathered, or newly without an edge, which gives X.
pub settled-or : {X : Type 0} (graph : Graph) (s q : Core) (u m n : ℕ) → KeepsPicks (entries s n) (entries q n) u → ((j : ℕ) → changes q u j ≡ true → changes s u j ≡ true)
    → (heads s u n ≡ true → is_gathered q n m ≡ true → (is_gathered s n m ≡ true) ⊎ X) → (heads s u n ≡ true → is_prior s u n m ≡ true → has_node (outs q m) n ≡ false → (has_node (outs s m) n ≡ false) ⊎ X)
    → HowSettled graph q u m n → HowSettled graph s u m n ⊎ X
settled-or graph s q u m n k c g e (by_gather x y) = let f = is-some (first_open (entries s n)) u (k.head (head-first (entries q n) u x)).0 in either (λ z. by_gather f z) (g f y)
settled-or graph s q u m n k c g e (by_leaving p d l) = let z = k.done d in inl (by_leaving (in-picks _ _ m true z.prior p) z.done (in-picks _ _ m false z.now l))
settled-or graph s q u m n k c g e (by_drop p x y) =
    let z = k.head (head-first (entries q n) u x) in
    let f = is-some (first_open (entries s n)) u z.0 in
    let p2 = in-picks _ _ m true z.1 p in
    either (λ w. by_drop p2 f w) (e f p2 y)
settled-or graph s q u m n k c g e (by_due d t i) = let z = k.done d in inl (by_due z.done (touched-kept graph s q u n z.prior c t) (subst (λ (ps : List (Option ℕ)). (is_in m (inputs_of (node_at graph n)) || is_in m (nodes_in ps)) ≡ true) z.now i))

pub settled-before : (graph : Graph) (s q : Core) (u m n : ℕ) → KeepsPicks (entries s n) (entries q n) u → ((j : ℕ) → changes q u j ≡ true → changes s u j ≡ true)
    → (is_gathered q n m ≡ true → is_gathered s n m ≡ true) → (has_node (outs q m) n ≡ false → has_node (outs s m) n ≡ false) → HowSettled graph q u m n → HowSettled graph s u m n
settled-before graph s q u m n k c g e j = same (settled-or {X = ⊥} graph s q u m n k c (λ _ x. inl (g x)) (λ _ _ x. inl (e x)) j)
  where
    same : HowSettled graph s u m n ⊎ ⊥ → HowSettled graph s u m n
    same (inl x) = x
    same (inr x) = absurd x

-- ---- what is kept of a list

-- No Frame comes, no call changes places with one, only live calls enter, and live calls stay.
pub record KeepsPlaces (lives : ℕ → Bool) (es fs : List Entry) : Type 0 where
  pub frame : (u : ℕ) → at is_frame fs u ≡ true → at is_frame es u ≡ true
  pub order : (u v : ℕ) → behind fs u v ≡ true → at is_frame fs u ≡ true → has es v ≡ true → behind es u v ≡ true
  pub entrant : (v : ℕ) → has fs v ≡ true → (has es v ≡ true) ⊎ (lives v ≡ true)
  pub stays_in : (u : ℕ) → lives u ≡ true → has es u ≡ true → has fs u ≡ true

pub same-places : (lives : ℕ → Bool) (es fs : List Entry) → fs ≡ es → KeepsPlaces lives es fs
same-places lives es fs e = subst (KeepsPlaces lives es) (sym e) (record { frame = λ u h. h; order = λ u v b f h. b; entrant = λ v h. inl h; stays_in = λ u l h. h })

pub marked-places : (lives : ℕ → Bool) (stops : ℕ → Bool) (e : Entry) (es : List Entry) → has es e.version ≡ false → is_frame e.state ≡ false → lives e.version ≡ true → KeepsPlaces lives es (placed (on_calls stops) e es)
marked-places lives stops e es fresh f l = record {
  frame = λ u k. sym (placed-at_other is_frame stops e es u (λ y. both_ways _ (other u k) (eq-eqb e.version u (sym y)))) ∙ k;
  order = λ u v b k hv. sym (placed-behind stops e es u v (other u k) (false_from_ne_true _ (λ x. both_ways _ fresh (subst (λ (w : ℕ). has es w ≡ true) (sym (eqb-true e.version v x)) hv)))) ∙ b;
  entrant = λ v k. enters v (or_cases _ _ (sym (placed-has stops e es v) ∙ k));
  stays_in = λ u _ k. placed-has stops e es u ∙ or_right _ _ k;
}
  where
    other : (u : ℕ) → at is_frame (placed (on_calls stops) e es) u ≡ true → (e.version == u) ≡ false
    other u k = false_from_ne_true _ (λ x. both_ways _ f (sym (placed-at is_frame stops e es fresh) ∙ subst (λ (w : ℕ). at is_frame (placed (on_calls stops) e es) w ≡ true) (sym (eqb-true e.version u x)) k))

    enters : (v : ℕ) → ((e.version == v) ≡ true) ⊎ (has es v ≡ true) → (has es v ≡ true) ⊎ (lives v ≡ true)
    enters v (inl x) = inr (subst (λ (w : ℕ). lives w ≡ true) (eqb-true e.version v x) l)
    enters v (inr x) = inl x

pub finished-places : (lives : ℕ → Bool) (t : ℕ) (x : State) (es : List Entry) → is_frame x ≡ false → KeepsPlaces lives es (with_state t x es)
finished-places lives t x es f = record {
  frame = λ u k. let w = with_state-at is_frame t x es u in grind (arith, w, f, k);
  order = λ u v b k hv. sym (with_state-behind t x es u v) ∙ b;
  entrant = λ v k. inl (sym (has-with_state t x es v) ∙ k);
  stays_in = λ u _ k. has-with_state t x es u ∙ k;
}

pub at-all : (es : List Entry) (u : ℕ) → at (λ x. true) es u ≡ has es u
at-all [] u = refl
at-all (e ∷ es) u = let r = at-all es u in grind (arith, r)

pub collected-places : (lives : ℕ → Bool) (es : List Entry) → IsUnique es → ((u : ℕ) → at is_frame es u ≡ true → lives u ≡ true) → KeepsPlaces lives es (collected (on_calls (λ v. not (lives v))) es)
collected-places lives es q f = record {
  frame = λ u k. collected-at is_frame (λ v. not (lives v)) es u q k;
  order = λ u v b k hv. collected-behind_live (λ w. not (lives w)) es u v (ap not (f u (collected-at is_frame (λ w. not (lives w)) es u q k))) b;
  entrant = λ v k. inl (sym (at-all es v) ∙ collected-at (λ x. true) (λ w. not (lives w)) es v q (at-all (collected (on_calls (λ w. not (lives w))) es) v ∙ k));
  stays_in = λ u l k. sym (at-all (collected (on_calls (λ w. not (lives w))) es) u) ∙ collected-at_live (λ x. true) (λ w. not (lives w)) es u (ap not l) ∙ at-all es u ∙ k;
}

-- ---- settled entries after a step

-- The call has an entry that is no Frame, and no Frame stands before it.
pub record IsServed (es : List Entry) (u : ℕ) : Type 0 where
  pub entry : has es u ≡ true
  pub no_frame : at is_frame es u ≡ false
  pub none_before : (w : ℕ) → behind es w u ≡ true → at is_frame es w ≡ false

pub served-is : (es : List Entry) (u : ℕ) → IsUnique es → served es u ≡ true → IsServed es u
served-is es u q h = record { entry = entry es h; no_frame = no_frame es h; none_before = λ w b. before es w q h b }
  where
    entry : (es : List Entry) → served es u ≡ true → has es u ≡ true
    entry [] h = h
    entry (e ∷ es) h = let r = entry es in grind (arith, r, h)

    no_frame : (es : List Entry) → served es u ≡ true → at is_frame es u ≡ false
    no_frame [] h = refl
    no_frame (e ∷ es) h = let r = no_frame es in grind (arith, r, h)

    before : (es : List Entry) (w : ℕ) → IsUnique es → served es u ≡ true → behind es w u ≡ true → at is_frame es w ≡ false
    before [] w q h b = refl
    before (e ∷ es) w q h b = let r = before es w q.1 in let x = behind-has es w u in let y = q.0 in grind (arith, eqb_tells, r, x, y, h, b)

-- All that is settled after a step was settled before it, or is served.
abbrev pub Settles : Graph → Core → Core → Type 0
Settles graph s q = (u m : ℕ) → IsSettled graph q u m → IsSettled graph s u m ⊎ IsServed (entries q m) u

pub by-nodes : (graph : Graph) (s q : Core) → ((u m n : ℕ) → HowSettled graph q u m n → IsSettled graph s u m ⊎ IsServed (entries q m) u) → ((u m : ℕ) → looked_at q u m ≡ true → (looked_at s u m ≡ true) ⊎ IsServed (entries q m) u) → Settles graph s q
by-nodes graph s q f g u m (by_node n k) = f u m n (how graph q u m n k)
by-nodes graph s q f g u m (by_look k) = go (g u m k)
  where
    go : (looked_at s u m ≡ true) ⊎ IsServed (entries q m) u → IsSettled graph s u m ⊎ IsServed (entries q m) u
    go (inl x) = inl (by_look x)
    go (inr x) = inr x

pub record SettledStays (graph : Graph) (q : Core) : Type 0 where
  pub kept : SettledIsKept graph q
  pub has_entry : (u m : ℕ) → live q u ≡ true → IsSettled graph q u m → has (entries q m) u ≡ true

pub settled-stays : (graph : Graph) (s q : Core) → IsLawful graph s → Settles graph s q → ((m : ℕ) → KeepsPlaces (live s) (entries s m) (entries q m)) → ((u : ℕ) → live q u ≡ true → live s u ≡ true) → SettledStays graph q
settled-stays graph s q h back places lives = record {
  kept = record { none_before = λ u v m k b. before u v m b (back v m k); no_frame = λ v m k. frame v m (back v m k) };
  has_entry = λ u m l k. entry u m l (back u m k);
}
  where
    before : (u v m : ℕ) → behind (entries q m) u v ≡ true → IsSettled graph s v m ⊎ IsServed (entries q m) v → at is_frame (entries q m) u ≡ false
    before u v m b (inr x) = x.none_before u b
    before u v m b (inl x) = false_from_ne_true _ (λ f. both_ways _ (h.settled_is_kept.none_before u v m x ((places m).order u v b f (old ((places m).entrant v (behind-has (entries q m) u v b).1)))) ((places m).frame u f))
      where
        old : (has (entries s m) v ≡ true) ⊎ (live s v ≡ true) → has (entries s m) v ≡ true
        old (inl y) = y
        old (inr y) = h.settled_has_entry v m y x

    frame : (v m : ℕ) → IsSettled graph s v m ⊎ IsServed (entries q m) v → at is_frame (entries q m) v ≡ false
    frame v m (inr x) = x.no_frame
    frame v m (inl x) = false_from_ne_true _ (λ f. both_ways _ (h.settled_is_kept.no_frame v m x) ((places m).frame v f))

    entry : (u m : ℕ) → live q u ≡ true → IsSettled graph s u m ⊎ IsServed (entries q m) u → has (entries q m) u ≡ true
    entry u m l (inr x) = x.entry
    entry u m l (inl x) = (places m).stays_in u (lives u l) (h.settled_has_entry u m (lives u l) x)

-- A live call with a settled entry executes.
pub settled-executes : (graph : Graph) (s : Core) → IsLawful graph s → (v m : ℕ) → live s v ≡ true → IsSettled graph s v m → executes s v ≡ true
settled-executes graph s h v m l k = true_from_ne_false _ (λ e.
    let f : is_framing s v ≡ true = and_from _ _ l (ap not e) in
    both_ways _ (no_states-none (entries s m) v (h.framing_comes_last.no_mark v m f) (h.settled_is_kept.no_frame v m k) (h.framing_comes_last.no_done v m f)) (h.settled_has_entry v m l k))
