-- Each kind of atomic step keeps the rule.
use Rattle.std.proofs.Common.{◌≡◌, ◌≢◌, ℕ, zero, suc, ◌+◌, ◌<◌, true, false, cond, List, [], ◌∷◌, ◌++◌, length, set, refl, sym, ap, ◌∙◌, subst, ⊎_elim, inl, inr, ◌⊎◌, arith, length-append, length-set}
use Rattle.std.specs.Prelude.{◌==◌, slice_index}
use Rattle.std.specs.List.{AllByRecursion}
use Rattle.std.proofs.lemmas.Bool.Decides.{nat_tests}
use Rattle.script_tree.proofs.Numbers.{equal_to_itself}
use mathlib.Core.Option.{some, some-ne-none, some-injective}
use lib.ListN.{get_elem?}
use Rattle.atomic_table.specs.Table.{State, Me, Step, keeps, opening, Allows, Splits, Joins}
use Rattle.atomic_table.proofs.Lists.{at_set}
use Rattle.chronicle.specs.declared.entry.Entry.{Entry}
use Rattle.chronicle.specs.declared.view.Seen.{Seen}
use Rattle.chronicle.specs.declared.view.View.{View}
use Rattle.chronicle.specs.declared.view.View.TheVariants.{Writing, Noted, Spent}
use Rattle.chronicle.specs.Entries.{has_key, IsPrefixWithAll}
use Rattle.chronicle.specs.Keys.{is_out, out_with, out_without}
use Rattle.chronicle.specs.Rule.{WasNoteOf, IsTrueView, IsKept}
use Rattle.chronicle.specs.Steps.{made, note_made, note_out, note_back, Appends, Loads}
use Rattle.chronicle.proofs.EntryLaws.{has_key-in, with_all_refl, with_all-push}
use Rattle.chronicle.proofs.KeyLaws.{out_apart, is_out-with, is_out-with_itself, is_out-without, different-with, different-without}

module _ {A : Type 0} where
  -- where an item of a list with one more item stands
  at_end : (l : List A) (a b : A) (j : ℕ) → get_elem? (l ++ a ∷ []) j ≡ some b → (get_elem? l j ≡ some b) ⊎ ((j ≡ length l) × (a ≡ b))
  at_end [] a b zero e = inr (refl, some-injective a b e)
  at_end [] a b (suc j) e = absurd (some-ne-none b (sym e))
  at_end (x ∷ xs) a b zero e = inl e
  at_end (x ∷ xs) a b (suc j) e = ⊎_elim (λ t. inl t) (λ t. inr (ap suc t.0, t.1)) (at_end xs a b j e)

module _ {E : Type 0} where
  pub makes : IsKept (opening (0 ∷ []) [] (made {E = E}))
  makes = record { log = []; out = []; writer = 0; owner = λ _. 0; word = refl; different = tt; views = one }
    where
      one : (seat : ℕ) (v : View E) → get_elem? (made {E = E} ∷ []) seat ≡ some v → IsTrueView [] [] 0 (λ _. 0) seat v
      one zero v e = subst (IsTrueView [] [] 0 (λ _. 0) 0) (some-injective _ _ e) (refl, refl, refl, tt)
      one (suc seat) v e = absurd (some-ne-none v (sym e))

  -- the views are true after one seat has changed its own
  views_set : (log log' : List (Entry E)) (out out' : List ℕ) (writer : ℕ) (owner owner' : ℕ → ℕ) (views : List (View E)) (by : ℕ) (w : View E)
      → ((j : ℕ) (u : View E) → get_elem? views j ≡ some u → IsTrueView log out writer owner j u)
      → ((j : ℕ) (u : View E) → j ≢ by → IsTrueView log out writer owner j u → IsTrueView log' out' writer owner' j u)
      → IsTrueView log' out' writer owner' by w
      → (j : ℕ) (u : View E) → get_elem? (set views by w) j ≡ some u → IsTrueView log' out' writer owner' j u
  views_set log log' out out' writer owner owner' views by w each others mine j u e =
      ⊎_elim
      (λ (x : (j ≡ by) × (w ≡ u)). subst (λ (y : ℕ × View E). IsTrueView log' out' writer owner' y.0 y.1) (λ i. (sym x.0 i, x.1 i)) mine)
      (λ (x : (j ≢ by) × (get_elem? views j ≡ some u)). others j u x.0 (each j u x.1))
      (at_set views by j w u e)

  pub appends : (id : ℕ) (list : List (Entry E)) (keys : List ℕ) (seen : List (Seen E)) (e : Entry E) (new : ℕ) (st : Step (Unit {0}))
      → is_out e.first_key keys ≡ false → is_out e.second_key keys ≡ false → new ≡ length list + 1 → (slots : ℕ)
      → Allows IsKept slots id (Writing list keys seen, []) 0 (λ _. new) (λ _. Appends (e ∷ []) st (Writing list keys seen, []) new)
  appends id list keys seen e new st one two is slots s k homes at fits =
      let mine = k.views id (Writing list keys seen) at in
      let w = Writing (list ++ e ∷ []) keys [] in
      let log' = k.log ++ e ∷ [] in
      let long : new ≡ length log' = omega (arith, is, ap length mine.1, length-append k.log (e ∷ [])) in (
        w,
        keeps,
        tt,
        record {
          log = log';
          out = k.out;
          writer = k.writer;
          owner = k.owner;
          word = ap (λ (ws : List ℕ). set ws 0 new) k.word ∙ ap (λ (n : ℕ). n ∷ []) long;
          different = k.different;
          views = views_set k.log log' k.out k.out k.writer k.owner k.owner s.views id w k.views
              (λ j u away. others j u away mine.0 (sym (ap (λ (o : List ℕ). is_out e.first_key o) mine.2) ∙ one) (sym (ap (λ (o : List ℕ). is_out e.second_key o) mine.2) ∙ two))
              (mine.0, ap (λ (l : List (Entry E)). l ++ e ∷ []) mine.1, mine.2, tt);
        },
        (refl, refl),
      )
    where
      others : (j : ℕ) (u : View E) → j ≢ id → id ≡ k.writer → is_out e.first_key k.out ≡ false → is_out e.second_key k.out ≡ false
          → IsTrueView k.log k.out k.writer k.owner j u → IsTrueView (k.log ++ e ∷ []) k.out k.writer k.owner j u
      others j (Writing l o q) away me one' two' true_before = absurd (away (true_before.0 ∙ sym me))
      others j (Noted q l) away me one' two' true_before = (true_before.0, with_all-push q l k.log e true_before.1 (other q true_before.0))
        where
          other : (q : ℕ) → (0 < q → (k.owner q ≡ j) × (is_out q k.out ≡ true)) → has_key q e ≡ false
          other zero known = refl
          other (suc q) known = has_key-in k.out (suc q) e (known (omega arith)).1 one' two'
      others j Spent away me one' two' true_before = tt

  pub loads : (id : ℕ) (list : List (Entry E)) (keys : List ℕ) (seen : List (Seen E)) (st : Step (Unit {0})) (slots : ℕ)
      → Allows IsKept slots id (Writing list keys seen, []) 0 (λ n. n) (Loads st (Writing list keys seen, []))
  loads id list keys seen st slots s k homes at fits =
      let v = Writing list keys seen in
      let mine = k.views id v at in (
        v,
        keeps,
        tt,
        record {
          log = k.log;
          out = k.out;
          writer = k.writer;
          owner = k.owner;
          word = again s.words k.word;
          different = k.different;
          views = views_set k.log k.log k.out k.out k.writer k.owner k.owner s.views id v k.views (λ j u away known. known) mine;
        },
        (refl, refl, subst (λ (l : List (Entry E)). AllByRecursion (WasNoteOf l) seen) (sym mine.1) mine.3),
      )
    where
      again : (ws : List ℕ) → ws ≡ length k.log ∷ [] → set ws 0 (slice_index ws 0) ≡ length k.log ∷ []
      again ws is = subst (λ (l : List ℕ). set l 0 (slice_index l 0) ≡ length k.log ∷ []) (sym is) refl

  pub splits : (id : ℕ) (list : List (Entry E)) (keys : List ℕ) (seen : List (Seen E)) (k : ℕ) → is_out k keys ≡ false
      → Splits IsKept id (Writing list keys seen) (note_out k (Writing list keys seen)) (note_made k (Writing list keys seen))
  splits id list keys seen k free s h at =
      let v = Writing list keys seen in
      let mine = h.views id v at in
      let free' : is_out k h.out ≡ false = sym (ap (λ (o : List ℕ). is_out k o) mine.2) ∙ free in
      let w = Writing list (out_with k keys) seen in
      let owner : ℕ → ℕ = λ x. cond (k == x) (length s.views) (h.owner x) in
      let long : length (set s.views id w) ≡ length s.views = length-set s.views id w in
      record {
        log = h.log;
        out = out_with k h.out;
        writer = h.writer;
        owner = owner;
        word = h.word;
        different = different-with h.out k free' h.different;
        views = λ j u e. ⊎_elim
            (λ was. views_set h.log h.log h.out (out_with k h.out) h.writer h.owner owner s.views id w h.views
            (λ i x away known. others i x away mine.0 free' known)
            (mine.0, mine.1, ap (out_with k) mine.2, mine.3)
            j u was)
            (λ new. subst (IsTrueView h.log (out_with k h.out) h.writer owner j) new.1
            ((λ above. (own (length s.views) (h.owner k) ∙ sym (new.0 ∙ long), is_out-with_itself h.out k above)), subst (IsPrefixWithAll k list) mine.1 (with_all_refl k list)))
            (at_end (set s.views id w) (note_made k v) u j e);
      }
    where
      own : (n m : ℕ) → cond (k == k) n m ≡ n
      own n m = let same : (k == k) ≡ true = equal_to_itself k in rw same refl

      others : (j : ℕ) (u : View E) → j ≢ id → id ≡ h.writer → is_out k h.out ≡ false → IsTrueView h.log h.out h.writer h.owner j u
          → IsTrueView h.log (out_with k h.out) h.writer (λ x. cond (k == x) (length s.views) (h.owner x)) j u
      others j (Writing l o q) away me free' known = absurd (away (known.0 ∙ sym me))
      others j (Noted q l) away me free' known = (
        (λ above.
            let differ : (q == k) ≡ false = out_apart h.out q k (known.0 above).1 free' in
            let differ' : (k == q) ≡ false = grind (arith, nat_tests) in
            (rw differ' (known.0 above).0, is_out-with h.out k q (known.0 above).1)),
        known.1,
      )
      others j Spent away me free' known = tt

  pub joins : (id : ℕ) (list : List (Entry E)) (keys : List ℕ) (seen : List (Seen E)) (other k : ℕ) (xs : List (Entry E))
      → Joins IsKept id (Writing list keys seen) other (Noted k xs) (note_back (Writing list keys seen) (Noted k xs)) Spent
  joins id list keys seen other k xs s h at away there =
      let w = note_back (Writing list keys seen) (Noted k xs) in
      let mine = h.views id (Writing list keys seen) at in
      let theirs : IsTrueView h.log h.out h.writer h.owner other (Noted k xs) = ⊎_elim (λ t. absurd (away t.0)) (λ t. h.views other (Noted k xs) t.1) (at_set s.views id other w (Noted k xs) there) in
      let note : WasNoteOf h.log (record { key = k; list = xs; out = keys }) = record { prefix = theirs.1; was_out = λ above. ap (is_out k) mine.2 ∙ (theirs.0 above).1 } in
      record {
        log = h.log;
        out = out_without k h.out;
        writer = h.writer;
        owner = h.owner;
        word = h.word;
        different = different-without h.out k h.different;
        views = spends (set s.views id w)
            (λ j u not e. ⊎_elim
            (λ (x : (j ≡ id) × (w ≡ u)). subst (λ (y : ℕ × View E). IsTrueView h.log (out_without k h.out) h.writer h.owner y.0 y.1) (λ i. (sym x.0 i, x.1 i)) (mine.0, mine.1, ap (out_without k) mine.2, (note, mine.3)))
            (λ (x : (j ≢ id) × (get_elem? s.views j ≡ some u)). others j u x.0 not mine.0 (λ above. (theirs.0 above).0) (h.views j u x.1))
            (at_set s.views id j w u e));
      }
    where
      others : (j : ℕ) (u : View E) → j ≢ id → j ≢ other → id ≡ h.writer → (0 < k → h.owner k ≡ other) → IsTrueView h.log h.out h.writer h.owner j u → IsTrueView h.log (out_without k h.out) h.writer h.owner j u
      others j (Writing l o q) away' not me theirs known = absurd (away' (known.0 ∙ sym me))
      others j (Noted q l) away' not me theirs known = (
        (λ above.
            let apart : q ≢ k = λ same. not (sym (known.0 above).0 ∙ ap h.owner same ∙ theirs (subst (λ (n : ℕ). 0 < n) same above)) in
            ((known.0 above).0, is_out-without h.out k q apart ∙ (known.0 above).1)),
        known.1,
      )
      others j Spent away' not me theirs known = tt

      spends : (views : List (View E)) → ((j : ℕ) (u : View E) → j ≢ other → get_elem? views j ≡ some u → IsTrueView h.log (out_without k h.out) h.writer h.owner j u)
          → (j : ℕ) (u : View E) → get_elem? (set views other Spent) j ≡ some u → IsTrueView h.log (out_without k h.out) h.writer h.owner j u
      spends views each j u e =
          ⊎_elim
          (λ (x : (j ≡ other) × (Spent ≡ u)). subst (IsTrueView h.log (out_without k h.out) h.writer h.owner j) x.1 tt)
          (λ (x : (j ≢ other) × (get_elem? views j ≡ some u)). each j u x.0 x.1)
          (at_set views other j Spent u e)

  -- the steps, where a seat's view is known by an equation
  pub appends_as : (id : ℕ) (me : Me (Unit {0}) (View E)) (list : List (Entry E)) (keys : List ℕ) (seen : List (Seen E)) (more : List (Entry E)) (e : Entry E) (new : ℕ) (st : Step (Unit {0}))
      → me ≡ (Writing list keys seen, []) → more ≡ e ∷ [] → is_out e.first_key keys ≡ false → is_out e.second_key keys ≡ false → new ≡ length list + 1 → (slots : ℕ)
      → Allows IsKept slots id me 0 (λ _. new) (λ _. Appends more st me new)
  appends_as id me list keys seen more e new st is what one two long slots =
      subst (λ (m : List (Entry E)). Allows IsKept slots id me 0 (λ _. new) (λ _. Appends m st me new)) (sym what)
      (subst (λ (m : Me (Unit {0}) (View E)). Allows IsKept slots id m 0 (λ _. new) (λ _. Appends (e ∷ []) st m new)) (sym is) (appends id list keys seen e new st one two long slots))

  pub loads_as : (id : ℕ) (me : Me (Unit {0}) (View E)) (list : List (Entry E)) (keys : List ℕ) (seen : List (Seen E)) (st : Step (Unit {0})) (slots : ℕ)
      → me ≡ (Writing list keys seen, []) → Allows IsKept slots id me 0 (λ n. n) (Loads st me)
  loads_as id me list keys seen st slots is =
      subst (λ (m : Me (Unit {0}) (View E)). Allows IsKept slots id m 0 (λ n. n) (Loads st m)) (sym is) (loads id list keys seen st slots)

  -- the writer's view once a note came back
  pub back_is : (me : Me (Unit {0}) (View E)) (list : List (Entry E)) (keys : List ℕ) (seen : List (Seen E)) (w : View E) (k : ℕ) (xs : List (Entry E))
      → me ≡ (Writing list keys seen, []) → w ≡ Noted k xs
      → ◌≡◌ {A = Me (Unit {0}) (View E)} (note_back me.0 w, me.1) (Writing list (out_without k keys) (record { key = k; list = xs; out = keys } ∷ seen), [])
  back_is me list keys seen w k xs is was = λ i. (note_back (is i).0 (was i), (is i).1)

  pub splits_as : (id : ℕ) (v : View E) (list : List (Entry E)) (keys : List ℕ) (seen : List (Seen E)) (k : ℕ)
      → v ≡ Writing list keys seen → is_out k keys ≡ false → Splits IsKept id v (note_out k v) (note_made k v)
  splits_as id v list keys seen k is free = subst (λ (u : View E). Splits IsKept id u (note_out k u) (note_made k u)) (sym is) (splits id list keys seen k free)

  pub joins_as : (id : ℕ) (v : View E) (list : List (Entry E)) (keys : List ℕ) (seen : List (Seen E)) (other : ℕ) (w : View E) (k : ℕ) (xs : List (Entry E))
      → v ≡ Writing list keys seen → w ≡ Noted k xs → Joins IsKept id v other w (note_back v w) Spent
  joins_as id v list keys seen other w k xs is was =
      subst (λ (u : View E). Joins IsKept id u other w (note_back u w) Spent) (sym is)
      (subst (λ (u : View E). Joins IsKept id (Writing list keys seen) other u (note_back (Writing list keys seen) u) Spent) (sym was) (joins id list keys seen other k xs))

  -- no two unspent notes of one history have the same key above 0
  pub alone : (s : State (Unit {0}) (View E)) → IsKept s → (i j k : ℕ) (xs ys : List (Entry E)) → 0 < k → get_elem? s.views i ≡ some (Noted k xs) → get_elem? s.views j ≡ some (Noted k ys) → i ≡ j
  alone s h i j k xs ys above one two = sym ((h.views i (Noted k xs) one).0 above).0 ∙ ((h.views j (Noted k ys) two).0 above).0
