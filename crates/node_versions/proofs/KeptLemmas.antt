-- Each change keeps a list within its rooms, one entry a call, and no out-edge twice.
use Rattle.std.proofs.Common.{◌≡◌, ℕ, ◌+◌, ◌-◌, ◌^◌, ◌<◌, ◌≤◌, Bool, true, false, ◌||◌, ◌==◌, List, [], ◌∷◌, ◌++◌, length, take, drop, refl, sym, ap, ◌∙◌, max, arith, subst, cond, true≢false, zero, suc, Some, length-append, length-take, length-drop, take_all}
use Rattle.std.specs.List.{insert, filter, remove_range, slice_get}
use Rattle.std.specs.Prelude.{Result, Ok, Err, IsOk, OnOk}
use Rattle.std.specs.List.Retain.{RetainsInTurn}
use Rattle.std.proofs.lemmas.Bool.{ne_eqb}
use Rattle.std.proofs.lemmas.Bool.Decides.{eqb_tells}
use Rattle.std.proofs.lemmas.List.{take-append-drop}
use Rattle.std.proofs.lemmas.List.Edits.{length-insert}
use Rattle.smallvec.specs.SmallVec.{SmallVec}
use Rattle.node_versions.specs.Entries.{Entry, State, OutEdge, Versions, IsUnique, AreDifferent, is_done, done_len, has, has_out, is_edge, with_state}
use Rattle.node_versions.specs.Kept.{IsKept}
use Rattle.node_versions.proofs.Collecting.{cut_before}
use Rattle.node_versions.proofs.DoneLen.{done_len_fits}
use Rattle.node_versions.proofs.FirstFrame.{frames}
use Rattle.node_versions.proofs.Indexes.{opens}
use Rattle.node_versions.proofs.Places.{place_fits}

-- ---- one entry more

pub has-put : (xs ys : List Entry) (e : Entry) (u : ℕ) → has (xs ++ e ∷ ys) u ≡ ((e.version == u) || has (xs ++ ys) u)
has-put [] ys e u = refl
has-put (x ∷ xs) ys e u = let r = has-put xs ys e u in grind (arith, r)

pub IsUnique-put : (xs ys : List Entry) (e : Entry) → IsUnique (xs ++ ys) → has (xs ++ ys) e.version ≡ false → IsUnique (xs ++ e ∷ ys)
IsUnique-put [] ys e q h = (h, q)
IsUnique-put (x ∷ xs) ys e q h =
    let a = has-put xs ys e x.version in
    (grind (arith, eqb_tells, a, q.0, h), IsUnique-put xs ys e q.1 (grind (arith, eqb_tells, h)))

pub IsUnique-insert : (es : List Entry) (i : ℕ) (e : Entry) → IsUnique es → has es e.version ≡ false → IsUnique (insert es i e)
IsUnique-insert es i e q h =
    let whole = sym (take-append-drop i es) in
    IsUnique-put (take i es) (drop i es) e (subst IsUnique whole q) (subst (λ (xs : List Entry). has xs e.version ≡ false) whole h)

-- no entry's version is above this one
abbrev pub IsNewest : ℕ → List Entry → Type 0
IsNewest newest es = (t : ℕ) → newest < t → has es t ≡ false

newest-insert : (es : List Entry) (i : ℕ) (e : Entry) (newest : ℕ) → IsNewest newest es → IsNewest (max newest e.version) (insert es i e)
newest-insert es i e newest k t above =
    let put = has-put (take i es) (drop i es) e t in
    let whole = ap (λ (xs : List Entry). has xs t) (take-append-drop i es) in
    let none = k t (omega (arith, above)) in
    let other = ne_eqb e.version t (λ same. omega (arith, same, above)) in
    put ∙ ap (λ b. b || has (take i es ++ drop i es) t) other ∙ whole ∙ none

-- ---- another state

pub has-with_state : (t : ℕ) (s : State) (es : List Entry) (u : ℕ) → has (with_state t s es) u ≡ has es u
has-with_state t s [] u = refl
has-with_state t s (e ∷ es) u = let r = has-with_state t s es u in grind (arith, eqb_tells, r)

pub IsUnique-with_state : (t : ℕ) (s : State) (es : List Entry) → IsUnique es → IsUnique (with_state t s es)
IsUnique-with_state t s [] q = q
IsUnique-with_state t s (e ∷ es) q = go (e.version == t) (IsUnique-with_state t s es q.1)
  where
    go : (b : Bool) → IsUnique (with_state t s es) → IsUnique (elim b as (λ _. List Entry) [ true ↦ record e { state = s } ∷ es | false ↦ e ∷ with_state t s es ])
    go true r = q
    go false r = (has-with_state t s es e.version ∙ q.0, r)

pub length-with_state : (t : ℕ) (s : State) (es : List Entry) → length (with_state t s es) ≡ length es
length-with_state t s [] = refl
length-with_state t s (e ∷ es) = let r = length-with_state t s es in grind (arith, r)

-- ---- a part of the entries less

has-remove_range : (es : List Entry) (i j u : ℕ) → i ≤ j → has es u ≡ false → has (remove_range es i j) u ≡ false
has-remove_range [] zero zero u le h = h
has-remove_range [] zero (suc j) u le h = h
has-remove_range [] (suc i) zero u le h = h
has-remove_range [] (suc i) (suc j) u le h = h
has-remove_range (e ∷ es) zero zero u le h = h
has-remove_range (e ∷ es) zero (suc j) u le h = has-remove_range es zero j u (omega arith) (grind (arith, h))
has-remove_range (e ∷ es) (suc i) zero u le h = absurd (omega (arith, le))
has-remove_range (e ∷ es) (suc i) (suc j) u le h = let r = has-remove_range es i j u (omega (arith, le)) in grind (arith, h, r)

pub IsUnique-remove_range : (es : List Entry) (i j : ℕ) → i ≤ j → IsUnique es → IsUnique (remove_range es i j)
IsUnique-remove_range [] zero zero le q = q
IsUnique-remove_range [] zero (suc j) le q = q
IsUnique-remove_range [] (suc i) zero le q = q
IsUnique-remove_range [] (suc i) (suc j) le q = q
IsUnique-remove_range (e ∷ es) zero zero le q = q
IsUnique-remove_range (e ∷ es) zero (suc j) le q = IsUnique-remove_range es zero j (omega arith) q.1
IsUnique-remove_range (e ∷ es) (suc i) zero le q = absurd (omega (arith, le))
IsUnique-remove_range (e ∷ es) (suc i) (suc j) le q = (has-remove_range es i j e.version (omega (arith, le)) q.0, IsUnique-remove_range es i j (omega (arith, le)) q.1)

pub length-remove_range : (es : List Entry) (i j : ℕ) → i ≤ j → j ≤ length es → length (remove_range es i j) + j ≡ length es + i
length-remove_range es i j le h =
    let a = length-append (take i es) (drop j es) in
    let b = length-take i es in
    let c = length-drop j es in
    omega (arith, a, b, c, le, h)

-- ---- out-edges

has_out-push : (outs : List OutEdge) (node since n s : ℕ) → has_out (outs ++ (node, since) ∷ []) n s ≡ (has_out outs n s || is_edge n s (node, since))
has_out-push [] node since n s = grind (arith, eqb_tells)
has_out-push (edge ∷ outs) node since n s = let r = has_out-push outs node since n s in grind (arith, r)

pub AreDifferent-push : (outs : List OutEdge) (node since : ℕ) → AreDifferent outs → has_out outs node since ≡ false → AreDifferent (outs ++ (node, since) ∷ [])
AreDifferent-push [] node since d h = (refl, tt)
AreDifferent-push (edge ∷ outs) node since d h =
    let a = has_out-push outs node since edge.0 edge.1 in
    (grind (arith, eqb_tells, a, d.0, h), AreDifferent-push outs node since d.1 (grind (arith, eqb_tells, h)))

has_out-filter : (test : OutEdge → Bool) (outs : List OutEdge) (n s : ℕ) → has_out outs n s ≡ false → has_out (filter test outs) n s ≡ false
has_out-filter test [] n s h = h
has_out-filter test (edge ∷ outs) n s h = let r = has_out-filter test outs n s in grind (arith, eqb_tells, r, h)

pub AreDifferent-filter : (test : OutEdge → Bool) (outs : List OutEdge) → AreDifferent outs → AreDifferent (filter test outs)
AreDifferent-filter test [] d = d
AreDifferent-filter test (edge ∷ outs) d = go (test edge) (AreDifferent-filter test outs d.1)
  where
    go : (b : Bool) → AreDifferent (filter test outs) → AreDifferent (cond b (edge ∷ filter test outs) (filter test outs))
    go true r = (has_out-filter test outs edge.0 edge.1 d.0, r)
    go false r = r

-- what `retain` keeps, where the closure says what the test says and changes nothing
pub filter-retained : {S X : Type 0} (R : S → X → Bool → S → X → Type 0) (test : X → Bool) (s : S) → ((x : X) (b : Bool) (t : S) (y : X) → R s x b t y → (b ≡ test x) × (y ≡ x) × (t ≡ s))
    → (xs ys : List X) → RetainsInTurn R s xs ys → ys ≡ filter test xs
filter-retained R test s told [] ys k = k
filter-retained {S} {X} R test s told (x ∷ xs) ys (b, t, y, r, zs, k, e) =
    let says = told x b t y r in
    let rest = filter-retained R test s told xs zs (subst (λ (u : S). RetainsInTurn R u xs zs) says.2 k) in
    e ∙ λ i. cond (says.0 i) (says.1 i ∷ rest i) (rest i)

-- what stands on a result that is Ok
pub on_ok : {T E : Type 0} {P : Type 0} (r : Result T E) → IsOk r → OnOk r P → P
on_ok (Ok x) is h = h
on_ok (Err e) is h = absurd (true≢false (sym is))

-- ---- the whole

-- the end of a list as a slice of it
pub tail_of : (old now : Versions) → old ≡ now → (from : ℕ) (slice : List Entry) → slice ≡ old.entries → take (length slice - from) (drop from slice) ≡ drop from now.entries
tail_of old now is from slice same =
    take_all (length slice - from) (drop from slice) (omega (arith, length-drop from slice)) ∙ ap (λ (xs : List Entry). drop from xs) (same ∙ ap (λ (v : Versions). v.entries) is)

-- the first Frame of a part of the list
pub frames_in_part : (old now : Versions) → old ≡ now → (from n : ℕ) (slice : List Entry) → slice ≡ old.entries → from ≤ length now.entries
    → n ≡ frames (take (length slice - from) (drop from slice)) → (n ≡ frames (drop from now.entries)) × (from + n ≤ length now.entries)
frames_in_part old now is from n slice same le at =
    let found = at ∙ ap frames (tail_of old now is from slice same) in
    (found, omega (arith, found, place_fits opens (drop from now.entries), length-drop from now.entries, le))

-- What is known of a list as it is seen, beside the indexes f and d that are kept of it.
pub record IsSeen (list : Versions) (f d : ℕ) : Type 0 where
  pub small : list.room < 2 ^ 32
  pub some : 0 < length list.entries
  pub fits : length list.entries ≤ list.room
  pub unique : IsUnique list.entries
  pub frame : f ≡ frames list.entries
  pub frame_fits : f ≤ length list.entries
  pub done : d ≡ done_len list.entries
  pub done_fits : d ≤ length list.entries

module _ {entries : SmallVec Entry} {outs : SmallVec OutEdge} {room outs_room first_frame done_end newest : ℕ} where
  kept_with_entries : (new : SmallVec Entry) (f d t : ℕ) → IsKept entries outs room outs_room first_frame done_end newest → 0 < length new.items → length new.items ≤ room
      → new.capacity ≡ entries.capacity → IsUnique new.items → f ≡ frames new.items → d ≡ done_len new.items → IsNewest t new.items
      → IsKept new outs room outs_room f d t
  kept_with_entries new f d t k some fits same unique frame done above = record {
    small = k.small;
    outs_small = k.outs_small;
    some = some;
    fits = fits;
    reserved = subst (λ n. room ≤ n) (sym same) k.reserved;
    unique = unique;
    outs_fit = k.outs_fit;
    outs_reserved = k.outs_reserved;
    different = k.different;
    frame = frame;
    done = done;
    above = above;
  }

  kept_with_outs : (new : SmallVec OutEdge) → IsKept entries outs room outs_room first_frame done_end newest → length new.items ≤ outs_room → new.capacity ≡ outs.capacity → AreDifferent new.items
      → IsKept entries new room outs_room first_frame done_end newest
  kept_with_outs new k fits same different = record {
    small = k.small;
    outs_small = k.outs_small;
    some = k.some;
    fits = k.fits;
    reserved = k.reserved;
    unique = k.unique;
    outs_fit = fits;
    outs_reserved = subst (λ n. outs_room ≤ n) (sym same) k.outs_reserved;
    different = different;
    frame = k.frame;
    done = k.done;
    above = k.above;
  }

  pub kept_more_outs : (new : SmallVec OutEdge) (node since : ℕ) → IsKept entries outs room outs_room first_frame done_end newest → length outs.items < outs_room → has_out outs.items node since ≡ false
      → new.items ≡ outs.items ++ (node, since) ∷ [] → new.capacity ≡ outs.capacity → IsKept entries new room outs_room first_frame done_end newest
  kept_more_outs new node since k fits other items same =
      let long = length-append outs.items ((node, since) ∷ []) in
      kept_with_outs new k (omega (arith, fits, ap length items, long)) same (subst AreDifferent (sym items) (AreDifferent-push outs.items node since k.different other))

  pub kept_fewer_outs : (new : SmallVec OutEdge) (test : OutEdge → Bool) → IsKept entries outs room outs_room first_frame done_end newest → length new.items ≤ length outs.items
      → new.items ≡ filter test outs.items → new.capacity ≡ outs.capacity → IsKept entries new room outs_room first_frame done_end newest
  kept_fewer_outs new test k fits items same = kept_with_outs new k (omega (arith, fits, k.outs_fit)) same (subst AreDifferent (sym items) (AreDifferent-filter test outs.items k.different))

  pub kept_inserted : (new : SmallVec Entry) (i : ℕ) (e : Entry) (f d t : ℕ) → IsKept entries outs room outs_room first_frame done_end newest → length entries.items < room → i ≤ length entries.items
      → has entries.items e.version ≡ false → f ≡ frames (insert entries.items i e) → d ≡ done_len (insert entries.items i e)
      → new.items ≡ insert entries.items i e → new.capacity ≡ entries.capacity → t ≡ max newest e.version → IsKept new outs room outs_room f d t
  kept_inserted new i e f d t k fits le other frame done items same is =
      let long = length-insert entries.items i e le in
      kept_with_entries new f d t k (omega (arith, ap length items, long)) (omega (arith, fits, ap length items, long)) same
      (subst IsUnique (sym items) (IsUnique-insert entries.items i e k.unique other)) (frame ∙ sym (ap frames items)) (done ∙ sym (ap done_len items))
      (subst (IsNewest t) (sym items) (subst (λ (u : ℕ). IsNewest u (insert entries.items i e)) (sym is) (newest-insert entries.items i e newest k.above)))

  pub kept_stated : (new : SmallVec Entry) (t : ℕ) (s : State) (f d : ℕ) → IsKept entries outs room outs_room first_frame done_end newest
      → f ≡ frames (with_state t s entries.items) → d ≡ done_len (with_state t s entries.items)
      → new.items ≡ with_state t s entries.items → new.capacity ≡ entries.capacity → IsKept new outs room outs_room f d newest
  kept_stated new t s f d k frame done items same =
      let long = ap length items ∙ length-with_state t s entries.items in
      kept_with_entries new f d newest k (omega (arith, long, k.some)) (omega (arith, long, k.fits)) same
      (subst IsUnique (sym items) (IsUnique-with_state t s entries.items k.unique)) (frame ∙ sym (ap frames items)) (done ∙ sym (ap done_len items))
      (subst (IsNewest newest) (sym items) (λ u above. has-with_state t s entries.items u ∙ k.above u above))

  pub kept_cut : (new : SmallVec Entry) (i n : ℕ) (e : Entry) (f d : ℕ) → IsKept entries outs room outs_room first_frame done_end newest → i < n → n ≤ length entries.items
      → slice_get entries.items i ≡ Some e → is_done e.state ≡ true → f ≡ frames (e ∷ drop n entries.items) → d ≡ done_len (e ∷ drop n entries.items)
      → new.items ≡ remove_range (remove_range entries.items (i + 1) n) 0 i → new.capacity ≡ entries.capacity → IsKept new outs room outs_room f d newest
  kept_cut new i n e f d k lt le at is frame done items same =
      let between = remove_range entries.items (i + 1) n in
      let first = length-remove_range entries.items (i + 1) n (omega (arith, lt)) le in
      let second = length-remove_range between 0 i (omega arith) (omega (arith, first, lt, le)) in
      let long = ap length items in
      let left = items ∙ cut_before entries.items (drop n entries.items) i e at in
      kept_with_entries new f d newest k (omega (arith, first, second, long, lt, le)) (omega (arith, first, second, long, k.fits, lt, le)) same
      (subst IsUnique (sym items) (IsUnique-remove_range between 0 i (omega arith) (IsUnique-remove_range entries.items (i + 1) n (omega (arith, lt)) k.unique)))
      (frame ∙ sym (ap frames left)) (done ∙ sym (ap done_len left))
      (subst (IsNewest newest) (sym items) (λ u above. has-remove_range between 0 i u (omega arith)
      (has-remove_range entries.items (i + 1) n u (omega (arith, lt)) (k.above u above))))

  pub seen : (list : Versions) → IsKept entries outs room outs_room first_frame done_end newest
      → record { entries = entries.items; outs = outs.items; room = room; outs_room = outs_room } ≡ list → IsSeen list first_frame done_end
  seen list k is = subst (λ (v : Versions). IsSeen v first_frame done_end) is (record {
    small = k.small;
    some = k.some;
    fits = k.fits;
    unique = k.unique;
    frame = k.frame;
    frame_fits = omega (arith, k.frame, place_fits opens entries.items);
    done = k.done;
    done_fits = omega (arith, k.done, done_len_fits entries.items);
  })

  pub older : (list : Versions) → IsKept entries outs room outs_room first_frame done_end newest
      → record { entries = entries.items; outs = outs.items; room = room; outs_room = outs_room } ≡ list → IsNewest newest list.entries
  older list k is = subst (λ (v : Versions). IsNewest newest v.entries) is k.above
