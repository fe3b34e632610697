-- The reply of a call that ends is the one-thread machine's after the log before it.
use Rattle.std.proofs.Common.{◌≡◌, ℕ, zero, suc, ◌+◌, ◌<◌, ◌≤◌, Bool, true, false, ◌&&◌, ◌||◌, not, ◌==◌, ◌⊎◌, inl, inr, refl, sym, ap, ap₂, arith, List, [], ◌∷◌, length, map, true≢false, ◌∙◌, subst, Option, Some, None}
use Rattle.std.specs.Prelude.{filter, if◌then◌else◌, is_none, slice_get}
use Rattle.std.specs.List.{list_any, AllByRecursion}
use Rattle.std.proofs.lemmas.Bool.Decides.{eqb_tells}
use Rattle.std.proofs.lemmas.Bool.{or_cases, or_left, or_right, eqb-true, eq-eqb, false_from_ne_true, both_ways, cases_Bool}
use Rattle.std.proofs.lemmas.List.Folds.{list_any-append}
use Rattle.std.proofs.lemmas.Option.{slice_get_within}
use Rattle.std.proofs.lemmas.Simd.{map-map}
use Rattle.script_tree.specs.declared.value.Value.{Value}
use Rattle.script_tree.proofs.Truths.{and_left, and_right}
use Rattle.signal_graph.specs.declared.call.Call.{Call}
use Rattle.signal_graph.specs.declared.call.Call.TheVariants.{Fire as Fires, Read as Reads}
use Rattle.signal_graph.specs.declared.call.Reply.TheVariants.{Fire as Fired, Read as Seen}
use Rattle.signal_graph.specs.declared.node.Node.{Node}
use Rattle.signal_graph.specs.Graph.{Graph, IsGraph, node_at, number_of, numbers, numbers_from, is_in, is_source, inputs_of, selectors_of}
use Rattle.signal_graph.specs.Values.{Values, values, val, picks, picks_of as node_picks, nodes_in, deps as machine_deps}
use Rattle.signal_graph.specs.Machine.{same, differs, looks_of, after, reply, changed, evaluated, looked}
use Rattle.signal_graph.specs.Legal.{state_after}
use Rattle.node_versions.specs.Entries.{at, is_done, changed_of}
use Rattle.node_versions.proofs.Places.{at-has}
use Rattle.flow_model.specs.declared.step.Step.TheVariants as steps
use Rattle.flow_model.specs.Machine.State.{Core, call, live, entries, changes}
use Rattle.flow_model.specs.Machine.Sets.{IsSet}
use Rattle.flow_model.specs.Machine.Words.{deps, touched, heads, is_found, next_look}
use Rattle.flow_model.specs.Machine.Steps.{allowed, reply_of, logged}
use Rattle.flow_model.specs.Kept.Runs.{was_due}
use Rattle.flow_model.specs.Kept.Lawful.{IsLawful, has_evaluated}
use Rattle.flow_model.proofs.Opening.OpeningLists.{picks-fit, picked-listed, candidate-earlier}
use Rattle.flow_model.proofs.OrderStays.OpenNodesHaveFrames.{entry-there}
use Rattle.flow_model.proofs.Wants.FramedWith.{heads-opens}
use Rattle.flow_model.proofs.Values.FoundByReads.{same-turned}
use Rattle.flow_model.proofs.General.AnyAndAll.{any-alike}
use Rattle.flow_model.proofs.Ended.WhoEndsIsFirst.{end-live, idle-opens}
use Rattle.flow_model.proofs.Ended.AfterEnd.{MachineLaws, number-there, state_before, next_state, new_value_of, changed-is, end-right, reads-new, rest_of, touched-is, touched-done, input-lower}
use Rattle.flow_model.proofs.Values.EvaluatedIsCounted.{filter-same, below-apart}

-- ---- numbers

number-inside : (k : ℕ) (nodes : List Node) (n : ℕ) → is_in n (numbers_from k nodes) ≡ true → n < k + length nodes
number-inside k [] n h = absurd (true≢false (sym h))
number-inside k (x ∷ xs) n h = go (or_cases _ _ h) (number-inside (k + 1) xs n)
  where
    go : ((k == n) ≡ true) ⊎ (is_in n (numbers_from (k + 1) xs) ≡ true) → (is_in n (numbers_from (k + 1) xs) ≡ true → n < k + 1 + length xs) → n < k + suc (length xs)
    go (inl e) further = let y = eqb-true k n e in omega (arith, y)
    go (inr e) further = let y = further e in omega (arith, y)

inside : (graph : Graph) (n : ℕ) → is_in n (numbers graph) ≡ true → n < length graph.nodes
inside graph n h = let r = number-inside 0 graph.nodes n h in omega (arith, r)

filter-in : (p : ℕ → Bool) (ns : List ℕ) (n : ℕ) → is_in n (filter p ns) ≡ (is_in n ns && p n)
filter-in p [] n = refl
filter-in p (x ∷ xs) n = go (p x) refl (filter-in p xs n) (cases_Bool (x == n))
  where
    go : (b : Bool) → p x ≡ b → is_in n (filter p xs) ≡ (is_in n xs && p n) → ((x == n) ≡ true) ⊎ ((x == n) ≡ false) → is_in n (if b then x ∷ filter p xs else filter p xs) ≡ (((x == n) || is_in n xs) && p n)
    go b e r (inr k) = other b
      where
        other : (b : Bool) → is_in n (if b then x ∷ filter p xs else filter p xs) ≡ (((x == n) || is_in n xs) && p n)
        other true = ap (λ (c : Bool). c || is_in n (filter p xs)) k ∙ r ∙ sym (ap (λ (c : Bool). (c || is_in n xs) && p n) k)
        other false = r ∙ sym (ap (λ (c : Bool). (c || is_in n xs) && p n) k)
    go true e r (inl k) = ap (λ (c : Bool). c || is_in n (filter p xs)) k ∙ sym (ap (λ (c : Bool). (c || is_in n xs) && p n) k ∙ (subst (λ (j : ℕ). p j ≡ true) (eqb-true x n k) e))
    go false e r (inl k) =
        let z : p n ≡ false = subst (λ (j : ℕ). p j ≡ false) (eqb-true x n k) e in
        r ∙ ap (λ (c : Bool). is_in n xs && c) z ∙ none (is_in n xs) ∙ sym (ap (λ (c : Bool). ((x == n) || is_in n xs) && c) z ∙ none ((x == n) || is_in n xs))
      where
        none : (c : Bool) → (c && false) ≡ false
        none true = refl
        none false = refl

above-out : (y : ℕ) (ys : List ℕ) (n : ℕ) → n ≤ y → AllByRecursion (λ z. y < z) ys → is_in n ys ≡ false
above-out y [] n l h = refl
above-out y (z ∷ zs) n l h = let k = h.0 in let e : (z == n) ≡ false = grind (arith, eqb_tells, k, l) in ap (λ (b : Bool). b || is_in n zs) e ∙ above-out y zs n l h.1

all-member : (P : ℕ → Type 0) (ns : List ℕ) → AllByRecursion P ns → (n : ℕ) → is_in n ns ≡ true → P n
all-member P [] h n k = absurd (true≢false (sym k))
all-member P (x ∷ xs) h n k = go (or_cases _ _ k) (all-member P xs h.1 n)
  where
    go : ((x == n) ≡ true) ⊎ (is_in n xs ≡ true) → (is_in n xs ≡ true → P n) → P n
    go (inl e) further = subst P (eqb-true x n e) h.0
    go (inr e) further = further e

empty-filter : (ns : List ℕ) → length (filter (λ n. is_in n []) ns) ≡ 0
empty-filter [] = refl
empty-filter (n ∷ ns) = empty-filter ns

-- A set of numbers from a range has as many members as numbers of the range are in it.
set-count : (k : ℕ) (nodes : List Node) (xs : List ℕ) → IsSet xs → ((m : ℕ) → is_in m xs ≡ true → (k ≤ m) × (m < k + length nodes)) → length (filter (λ n. is_in n xs) (numbers_from k nodes)) ≡ length xs
set-count k nodes [] h f = empty-filter (numbers_from k nodes)
set-count k [] (y ∷ ys) h f = let r = f y (or_left _ _ (eq-eqb y y refl)) in absurd (let a = r.0 in let b = r.1 in omega (arith, a, b))
set-count k (x ∷ nodes) (y ∷ ys) h f = go (cases_Bool (y == k)) (set-count (k + 1) nodes ys h.1) (set-count (k + 1) nodes (y ∷ ys) h)
  where
    first : (k ≤ y) × (y < k + suc (length nodes))
    first = f y (or_left _ _ (eq-eqb y y refl))

    later : (m : ℕ) → is_in m ys ≡ true → y < m
    later m i = all-member (λ z. y < z) ys h.0 m i

    bound : (m : ℕ) → is_in m (y ∷ ys) ≡ true → m < k + 1 + length nodes
    bound m i = let r = (f m i).1 in omega (arith, r)

    go : ((y == k) ≡ true) ⊎ ((y == k) ≡ false) → (((m : ℕ) → is_in m ys ≡ true → (k + 1 ≤ m) × (m < k + 1 + length nodes)) → length (filter (λ n. is_in n ys) (numbers_from (k + 1) nodes)) ≡ length ys)
        → (((m : ℕ) → is_in m (y ∷ ys) ≡ true → (k + 1 ≤ m) × (m < k + 1 + length nodes)) → length (filter (λ n. is_in n (y ∷ ys)) (numbers_from (k + 1) nodes)) ≡ suc (length ys))
        → length (if is_in k (y ∷ ys) then k ∷ filter (λ n. is_in n (y ∷ ys)) (numbers_from (k + 1) nodes) else filter (λ n. is_in n (y ∷ ys)) (numbers_from (k + 1) nodes)) ≡ suc (length ys)
    go (inl e) tail whole =
        let yk = eqb-true y k e in
        let here : is_in k (y ∷ ys) ≡ true = or_left _ _ e in
        let rest = filter-same (λ n. is_in n (y ∷ ys)) (λ n. is_in n ys) (numbers_from (k + 1) nodes) (λ n i. let b = below-apart (k + 1) nodes n i in let ne : (y == n) ≡ false = grind (arith, eqb_tells, b, yk) in ap (λ (c : Bool). c || is_in n ys) ne) in
        let t = tail (λ m i. ((let l = later m i in omega (arith, l, yk)), bound m (or_right _ _ i))) in
        rw here (ap (λ (ms : List ℕ). suc (length ms)) rest ∙ ap suc t)
    go (inr e) tail whole =
        let lk : k < y = let a = first.0 in grind (arith, eqb_tells, e, a) in
        let out : is_in k (y ∷ ys) ≡ false = ap (λ (c : Bool). c || is_in k ys) e ∙ above-out y ys k (omega (arith, lk)) h.0 in
        rw out (whole (λ m i. (above m (or_cases _ _ i) lk, bound m i)))
      where
        above : (m : ℕ) → ((y == m) ≡ true) ⊎ (is_in m ys ≡ true) → k < y → k + 1 ≤ m
        above m (inl i) l = let z = eqb-true y m i in omega (arith, z, l)
        above m (inr i) l = let z = later m i in omega (arith, z, l)

-- ---- looks

read-all : {A B : Type 0} (f : A → B) (xs : List A) (vs : List B) → length vs ≡ length xs → ((k : ℕ) (m : A) (v : B) → slice_get xs k ≡ Some m → slice_get vs k ≡ Some v → v ≡ f m) → vs ≡ map f xs
read-all f [] [] e h = refl
read-all f [] (v ∷ vs) e h = absurd (omega (arith, e))
read-all f (x ∷ xs) [] e h = absurd (omega (arith, e))
read-all f (x ∷ xs) (v ∷ vs) e h = ap₂ (λ w ws. w ∷ ws) (h 0 x v refl refl) (read-all f xs vs (omega (arith, e)) (λ k m w i j. h (suc k) m w i j))

get-none : {A : Type 0} (xs : List A) (k : ℕ) → slice_get xs k ≡ None → length xs ≤ k
get-none [] k h = omega arith
get-none (x ∷ xs) zero h = cc
get-none (x ∷ xs) (suc k) h = let r = get-none xs k h in omega (arith, r)

end-looked : (graph : Graph) (s : Core) (t : ℕ) → allowed graph s (steps.End t) ≡ true → is_none (next_look s t) ≡ true
end-looked graph s t a = and_right _ _ (and_left _ _ a)

-- ---- the reply

module _ (graph : Graph) (g : IsGraph graph) (laws : MachineLaws graph) (s : Core) (h : IsLawful graph s) (t : ℕ) (a : allowed graph s (steps.End t) ≡ true) where
  abbrev K : Values
  K = state_before graph g laws s h t a

  abbrev K_after : Values
  K_after = next_state graph g laws s h t a

  lives : live s t ≡ true
  lives = end-live graph s h t a

  new-is : (n : ℕ) → n < length graph.nodes → new_value_of graph g laws s h t a n ≡ val graph K_after n
  new-is n l = (end-right graph g laws s h t a n l).0

  -- what the call has changed is what differs
  changes-differ : (n : ℕ) → n < length graph.nodes → changes s t n ≡ differs (values graph K) (values graph K_after) n
  changes-differ n l = changed-is graph g laws s h t a n l
      ∙ ap (λ (v : Value). not (same v (val graph K n))) (new-is n l)
      ∙ ap not (same-turned (val graph K_after n) (val graph K n))

  changed-count : length (call s t).changed ≡ length (changed graph K K_after)
  changed-count = sym (set-count 0 graph.nodes (call s t).changed (h.sets_are_sets.changed t) (λ m k. (omega arith, there m k)))
      ∙ ap length (filter-same (changes s t) (differs (values graph K) (values graph K_after)) (numbers graph) (λ n k. changes-differ n (inside graph n k)))
    where
      there : (m : ℕ) → is_in m (call s t).changed ≡ true → m < 0 + length graph.nodes
      there m k =
          let e = entry-there s m t (at-has changed_of (entries s m) t (sym (h.dones_are_right.changed t m lives) ∙ k)) in
          let j = h.lists in omega (arith, e, j)

  moved : (n d : ℕ) → n < length graph.nodes → is_in d (rest_of graph g laws s h t a n) ≡ true → is_in d (changed graph K K_after) ≡ changes s t d
  moved n d l k = filter-in (differs (values graph K) (values graph K_after)) (numbers graph) d
      ∙ ap (λ (b : Bool). b && differs (values graph K) (values graph K_after) d) (number-there graph d below)
      ∙ sym (changes-differ d below)
    where
      lower : (is_in d (inputs_of (node_at graph n)) ≡ true) ⊎ (is_in d (nodes_in (node_picks (node_at graph n) (values graph K))) ≡ true) → d < n
      lower (inl x) = input-lower graph g laws s h t a n d l x
      lower (inr x) = candidate-earlier graph g n d l (picked-listed (selectors_of (node_at graph n)) (picks graph K n) d (picks-fit graph K n) x)

      below : d < length graph.nodes
      below = let z = lower (or_cases _ _ (sym (list_any-append (λ x. x == d) (inputs_of (node_at graph n)) (nodes_in (node_picks (node_at graph n) (values graph K)))) ∙ k)) in omega (arith, z, l)

  -- what it has evaluated rests on what has changed
  evaluated-is : (n : ℕ) → n < length graph.nodes → has_evaluated graph s t n ≡ (not (is_source (node_at graph n)) && list_any (λ d. is_in d (changed graph K K_after)) (machine_deps graph K n))
  evaluated-is n l =
      ap (λ (b : Bool). was_due graph s t n || (b && is_found s n)) no_head
      ∙ last (was_due graph s t n)
      ∙ due (at is_done (entries s n) t) refl (is_source (node_at graph n)) refl
      ∙ ap (λ (b : Bool). not (is_source (node_at graph n)) && b) (any-alike (changes s t) (λ d. is_in d (changed graph K K_after)) (rest_of graph g laws s h t a n) (λ d k. sym (moved n d l k)))
    where
      no_head : heads s t n ≡ false
      no_head = false_from_ne_true _ (λ k. both_ways _ (idle-opens graph s h t a n) (heads-opens graph s h t n k))

      last : (b : Bool) → (b || (false && is_found s n)) ≡ b
      last true = refl
      last false = refl

      due : (b : Bool) → at is_done (entries s n) t ≡ b → (c : Bool) → is_source (node_at graph n) ≡ c → (at is_done (entries s n) t && touched graph s t n) ≡ (not (is_source (node_at graph n)) && list_any (changes s t) (rest_of graph g laws s h t a n))
      due false d c e =
          let none : list_any (changes s t) (rest_of graph g laws s h t a n) ≡ false = false_from_ne_true _ (λ k. both_ways _ d (touched-done graph g laws s h t a n l k)) in
          ap (λ (b : Bool). b && touched graph s t n) d ∙ sym (ap (λ (b : Bool). not (is_source (node_at graph n)) && b) none ∙ never (not (is_source (node_at graph n))))
        where
          never : (b : Bool) → (b && false) ≡ false
          never true = refl
          never false = refl
      due true d true e = ap (λ (b : Bool). b && touched graph s t n) d ∙ source_touched ∙ sym (ap (λ (b : Bool). not b && list_any (changes s t) (rest_of graph g laws s h t a n)) e)
        where
          source_touched : touched graph s t n ≡ false
          source_touched = ap (λ (b : Bool). not b && list_any (changes s t) (deps graph s t n)) e
      due true d false e = ap (λ (b : Bool). b && touched graph s t n) d ∙ touched-is graph g laws s h t a n l e (at-has is_done (entries s n) t d) ∙ sym (ap (λ (b : Bool). not b && list_any (changes s t) (rest_of graph g laws s h t a n)) e)

  evaluated-count : (call s t).evaluated ≡ length (evaluated graph K K_after)
  evaluated-count = h.dones_are_right.evaluated t lives
      ∙ ap length (filter-same (has_evaluated graph s t) (λ n. not (is_source (node_at graph n)) && list_any (λ d. is_in d (changed graph K K_after)) (machine_deps graph K n)) (numbers graph) (λ n k. evaluated-is n (inside graph n k)))

  -- what it has looked at
  looked-is : (call s t).looked ≡ looked graph K_after (looks_of (call s t).call)
  looked-is = read-all (val graph K_after) (call s t).looks (call s t).looked long each
      ∙ ap (map (val graph K_after)) (h.calls_are_right t lives).looks
      ∙ map-map (val graph K_after) (number_of graph) (looks_of (call s t).call)
    where
      none : (o : Option ℕ) → is_none o ≡ true → o ≡ None
      none None e = refl
      none (Some x) e = absurd (true≢false (sym e))

      long : length (call s t).looked ≡ length (call s t).looks
      long = let x = h.looks_are_few t lives in let y = get-none (call s t).looks (length (call s t).looked) (none (next_look s t) (end-looked graph s t a)) in omega (arith, x, y)

      each : (k m : ℕ) (v : Value) → slice_get (call s t).looks k ≡ Some m → slice_get (call s t).looked k ≡ Some v → v ≡ val graph K_after m
      each k m v i j =
          let e = h.entries_are_kept.looks t k m lives (slice_get_within (call s t).looked k v j) i in
          let l : m < length graph.nodes = let x = entry-there s m t e in let y = h.lists in omega (arith, x, y) in
          h.values_are_read.looked t k m v lives i j ∙ reads-new graph g laws s h t a m e ∙ new-is m l

  pub reply-right : (logged (call s t)).reply ≡ reply graph (state_after graph s.log) (call s t).call
  reply-right = go (call s t).call refl
    where
      go : (c : Call) → (call s t).call ≡ c → reply_of (call s t) c ≡ reply graph (state_after graph s.log) c
      go (Fires sets looks) e =
          ap (λ (n : ℕ). Fired n (call s t).evaluated (call s t).looked) (changed-count ∙ ap (λ (c : Call). length (changed graph K (after graph K c))) e)
          ∙ ap (λ (n : ℕ). Fired (length (changed graph K (after graph K (Fires sets looks)))) n (call s t).looked) (evaluated-count ∙ ap (λ (c : Call). length (evaluated graph K (after graph K c))) e)
          ∙ ap (λ (vs : List Value). Fired (length (changed graph K (after graph K (Fires sets looks)))) (length (evaluated graph K (after graph K (Fires sets looks)))) vs) (looked-is ∙ ap (λ (c : Call). looked graph (after graph K c) (looks_of c)) e)
      go (Reads looks) e = ap Seen (looked-is ∙ ap (λ (c : Call). looked graph (after graph K c) (looks_of c)) e)
