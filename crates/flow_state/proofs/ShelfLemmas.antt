-- Shelves in one block: what one part reads, and what a write to it leaves of the others.
use Rattle.std.proofs.Common.{◌≡◌, ℕ, zero, suc, ◌+◌, ◌-◌, ◌^◌, ◌<◌, ◌≤◌, ◌⊎◌, inl, inr, List, [], ◌∷◌, ◌++◌, None, length, map, get_or, set, take, drop, length-set, refl, sym, ap, ◌∙◌, subst, arith}
use Rattle.std.specs.List.{AllByRecursion, between, range_with_len, sum}
use Rattle.std.proofs.lemmas.List.{drop-set-lt, drop-set-add, take-set-le, take_more_set, length-drop, length-map, length-take-le}
use Rattle.std.proofs.lemmas.List.FromFn.{map-range_with_len_more, sum_by-map-range_with_len_more}
use Rattle.std.proofs.lemmas.List.Sums.{sum_by-cons}
use Rattle.script_tree.specs.declared.value.Value.{Value}
use Rattle.flow_model.specs.Machine.Lists.{change_at}
use Rattle.flow_model.specs.Machine.Words.{gathered_of}
use Rattle.flow_model.specs.Parts.Books.{Work, no_work, forgotten, with_gathered}
use Rattle.signal_graph.specs.Graph.{Graph, numbers}
use Rattle.signal_graph.proofs.Members.{numbers_range}
use Rattle.flow_state.specs.Booked.{AreApart, room_at, rooms_for}
use Rattle.flow_state.specs.Found.{found_option}
use Rattle.flow_state.specs.Shelves.{Shelved, work_on, on_shelf, gathered_on, work_in, shelved, AreLaid, AreShelves, laid_out, empty_shelves}
use Rattle.flow_state.specs.declared.shelf.Shelf.{Shelf}
use Rattle.flow_state.proofs.Gathered.{apart_more}

-- ---- a part of a block

part-is : {X : Type 0} (start count : ℕ) (xs : List X) → between start (start + count) xs ≡ take count (drop start xs)
part-is start count xs = ap (λ k. take k (drop start xs)) (let e : start + count - start ≡ count = omega arith in e)

-- a write before it leaves it
part-behind : {X : Type 0} (start count i : ℕ) (x : X) (xs : List X) → i < start → between start (start + count) (set xs i x) ≡ between start (start + count) xs
part-behind start count i x xs h = ap (take (start + count - start)) (drop-set-lt start xs i x h)

-- as does one behind it
part-before : {X : Type 0} (start count i : ℕ) (x : X) (xs : List X) → start + count ≤ i → between start (start + count) (set xs i x) ≡ between start (start + count) xs
part-before start count i x xs h =
    let k : ℕ = i - start in
    let e : i ≡ start + k = omega (arith, h) in
    ap (λ j. between start (start + count) (set xs j x)) e
    ∙ ap (take (start + count - start)) (drop-set-add start xs k x)
    ∙ take-set-le (start + count - start) (drop start xs) k x (omega (arith, h))

-- one right behind it makes it longer by one
part-more : {X : Type 0} (start count : ℕ) (x : X) (xs : List X) → start + count < length xs → between start (start + (count + 1)) (set xs (start + count) x) ≡ between start (start + count) xs ++ x ∷ []
part-more start count x xs h =
    let l = length-drop start xs in
    part-is start (count + 1) (set xs (start + count) x)
    ∙ ap (take (count + 1)) (drop-set-add start xs count x)
    ∙ take_more_set (drop start xs) count x (omega (arith, h, l))
    ∙ sym (ap (λ ys. ys ++ x ∷ []) (part-is start count xs))

part-length : {X : Type 0} (start count : ℕ) (xs : List X) → start + count ≤ length xs → length (between start (start + count) xs) ≡ count
part-length start count xs h =
    let l = length-drop start xs in
    ap length (part-is start count xs) ∙ length-take-le count (drop start xs) (omega (arith, h, l))

-- ---- where shelves lie

pub shelf_inside : (from : ℕ) (shelves : List Shelf) (end n : ℕ) (s : Shelf) → AreLaid from shelves end → n < length shelves → s ≡ get_or shelves n s → (from ≤ s.start) × (s.count ≤ s.room) × (s.start + s.room ≤ end)
shelf_inside from [] end n s laid h e = absurd (omega (arith, h))
shelf_inside from (x ∷ xs) end zero s laid h e =
    let start = ap (λ (y : Shelf). y.start) e ∙ laid.0 in
    let count = ap (λ (y : Shelf). y.count) e in
    let room = ap (λ (y : Shelf). y.room) e in
    let few = laid.1 in
    let rest = end-above (from + x.room) xs end laid.2 in
    (omega (arith, start), omega (arith, count, room, few), omega (arith, start, room, rest))
  where
    end-above : (from : ℕ) (shelves : List Shelf) (end : ℕ) → AreLaid from shelves end → from ≤ end
    end-above from [] end laid = omega (arith, laid)
    end-above from (x ∷ xs) end laid = let r = end-above (from + x.room) xs end laid.2 in omega (arith, r)
shelf_inside from (x ∷ xs) end (suc n) s laid h e =
    let r = shelf_inside (from + x.room) xs end n s laid.2 (omega (arith, h)) e in
    let above = r.0 in
    (omega (arith, above), r.1, r.2)

-- ---- what is read

works-at : (block : List (ℕ × Value)) (shelves : List Shelf) (n : ℕ) (s : Shelf) → n < length shelves → s ≡ get_or shelves n s → work_in block s ≡ get_or (map (work_in block) shelves) n no_work
works-at block [] n s h e = absurd (omega (arith, h))
works-at block (x ∷ xs) zero s h e = ap (work_in block) e
works-at block (x ∷ xs) (suc n) s h e = works-at block xs n s (omega (arith, h)) e

rooms-at : (shelves : List Shelf) (n : ℕ) (s : Shelf) → n < length shelves → s ≡ get_or shelves n s → s.room ≡ get_or (map (λ (y : Shelf). y.room) shelves) n 0
rooms-at [] n s h e = absurd (omega (arith, h))
rooms-at (x ∷ xs) zero s h e = ap (λ (y : Shelf). y.room) e
rooms-at (x ∷ xs) (suc n) s h e = rooms-at xs n s (omega (arith, h)) e

-- there is a shelf for each node
pub shelf_below : (block : List (ℕ × Value)) (shelves : List Shelf) (n : ℕ) (seen : Shelved) → shelved block shelves ≡ seen → n < length seen.works → n < length shelves
shelf_below block shelves n seen view h =
    let e = ap (λ (ss : Shelved). length ss.works) view in
    let l = length-map shelves (work_in block) in
    omega (arith, h, e, l)

pub work_there : (block : List (ℕ × Value)) (shelves : List Shelf) (n : ℕ) (s : Shelf) (seen : Shelved) → shelved block shelves ≡ seen → n < length seen.works → s ≡ get_or shelves n s → work_in block s ≡ work_on seen n
work_there block shelves n s seen view h e = works-at block shelves n s (shelf_below block shelves n seen view h) e ∙ ap (λ (ss : Shelved). work_on ss n) view

pub room_there : (block : List (ℕ × Value)) (shelves : List Shelf) (n : ℕ) (s : Shelf) (seen : Shelved) → shelved block shelves ≡ seen → n < length seen.works → s ≡ get_or shelves n s → s.room ≡ get_or seen.room_for n 0
room_there block shelves n s seen view h e = rooms-at shelves n s (shelf_below block shelves n seen view h) e ∙ ap (λ (ss : Shelved). get_or ss.room_for n 0) view

-- the values of a shelf lie in the block, as many as it counts
pub part_inside : (block : List (ℕ × Value)) (shelves : List Shelf) (n : ℕ) (s : Shelf) (seen : Shelved) → AreShelves block shelves → shelved block shelves ≡ seen → n < length seen.works → s ≡ get_or shelves n s → s.start + s.count ≤ length block
part_inside block shelves n s seen kept view h e =
    let at = shelf_inside 0 shelves (length block) n s kept.laid (shelf_below block shelves n seen view h) e in
    let few = at.1 in
    let last = at.2 in
    omega (arith, few, last)

all-at : (ws : List Work) (n : ℕ) (P : Work → Type 0) → P no_work → AllByRecursion P ws → P (get_or ws n no_work)
all-at [] n P none all = none
all-at (w ∷ ws) zero P none all = all.0
all-at (w ∷ ws) (suc n) P none all = all-at ws n P none all.1

pub part_apart : (block : List (ℕ × Value)) (shelves : List Shelf) (n : ℕ) (s : Shelf) → AreShelves block shelves → n < length shelves → s ≡ get_or shelves n s → AreApart (gathered_on block s)
part_apart block shelves n s kept h e = subst (λ (w : Work). AreApart w.gathered) (sym (works-at block shelves n s h e)) (all-at (map (work_in block) shelves) n (λ (w : Work). AreApart w.gathered) tt kept.apart)

-- ---- a change of one shelf

laid-set : (from : ℕ) (shelves : List Shelf) (end n : ℕ) (s new : Shelf) → AreLaid from shelves end → n < length shelves → s ≡ get_or shelves n s → new.start ≡ s.start → new.room ≡ s.room → new.count ≤ s.room → AreLaid from (set shelves n new) end
laid-set from [] end n s new laid h e start room few = laid
laid-set from (x ∷ xs) end zero s new laid h e start room few =
    let same : new.room ≡ x.room = room ∙ ap (λ (y : Shelf). y.room) e in
    (start ∙ ap (λ (y : Shelf). y.start) e ∙ laid.0, omega (arith, few, room), subst (λ r. AreLaid (from + r) xs end) (sym same) laid.2)
laid-set from (x ∷ xs) end (suc n) s new laid h e start room few = (laid.0, laid.1, laid-set (from + x.room) xs end n s new laid.2 (omega (arith, h)) e start room few)

-- A block that has changed in one shelf's part alone reads the same for all shelves before that and behind it.
abbrev IsElsewhere : Shelf → Shelf → Type 0
IsElsewhere s x = (x.start + x.room ≤ s.start) ⊎ (s.start + s.room ≤ x.start)

abbrev AreSameElsewhere : List (ℕ × Value) → List (ℕ × Value) → Shelf → Type 0
AreSameElsewhere block new s = (x : Shelf) → x.count ≤ x.room → IsElsewhere s x → gathered_on new x ≡ gathered_on block x

works-behind : (block new : List (ℕ × Value)) (s : Shelf) (from : ℕ) (shelves : List Shelf) (end : ℕ) → AreSameElsewhere block new s → AreLaid from shelves end → s.start + s.room ≤ from → map (work_in new) shelves ≡ map (work_in block) shelves
works-behind block new s from [] end same laid h = refl
works-behind block new s from (x ∷ xs) end same laid h =
    let start = laid.0 in
    let here = same x laid.1 (inr (omega (arith, h, start))) in
    let W : List (ℕ × Value) → Work = λ g. record { gathered = g; found = found_option x.found; body = x.body } in
    ap (λ (g : List (ℕ × Value)). W g ∷ map (work_in new) xs) here ∙ ap (λ ws. work_in block x ∷ ws) (works-behind block new s (from + x.room) xs end same laid.2 (omega (arith, h)))

works-set : (block new : List (ℕ × Value)) (from : ℕ) (shelves : List Shelf) (end n : ℕ) (s changed : Shelf) (f : Work → Work) → AreSameElsewhere block new s → AreLaid from shelves end → n < length shelves → s ≡ get_or shelves n s → work_in new changed ≡ f (work_in block s) → map (work_in new) (set shelves n changed) ≡ change_at n f (map (work_in block) shelves)
works-set block new from [] end n s changed f same laid h e is = refl
works-set block new from (x ∷ xs) end zero s changed f same laid h e is =
    let start = ap (λ (y : Shelf). y.start) e ∙ laid.0 in
    let room = ap (λ (y : Shelf). y.room) e in
    ap (λ (w : Work). w ∷ map (work_in new) xs) (is ∙ ap (λ (y : Shelf). f (work_in block y)) e)
    ∙ ap (λ ws. f (work_in block x) ∷ ws) (works-behind block new s (from + x.room) xs end same laid.2 (omega (arith, start, room)))
works-set block new from (x ∷ xs) end (suc n) s changed f same laid h e is =
    let at = shelf_inside (from + x.room) xs end n s laid.2 (omega (arith, h)) e in
    let above = at.0 in
    let start = laid.0 in
    let here = same x laid.1 (inl (omega (arith, above, start))) in
    let W : List (ℕ × Value) → Work = λ g. record { gathered = g; found = found_option x.found; body = x.body } in
    ap (λ (g : List (ℕ × Value)). W g ∷ map (work_in new) (set xs n changed)) here
    ∙ ap (λ ws. work_in block x ∷ ws) (works-set block new (from + x.room) xs end n s changed f same laid.2 (omega (arith, h)) e is)

rooms-set : (shelves : List Shelf) (n : ℕ) (s changed : Shelf) → n < length shelves → s ≡ get_or shelves n s → changed.room ≡ s.room → map (λ (y : Shelf). y.room) (set shelves n changed) ≡ map (λ (y : Shelf). y.room) shelves
rooms-set [] n s changed h e is = refl
rooms-set (x ∷ xs) zero s changed h e is = ap (λ (r : ℕ). r ∷ map (λ (y : Shelf). y.room) xs) (is ∙ ap (λ (y : Shelf). y.room) e)
rooms-set (x ∷ xs) (suc n) s changed h e is = ap (λ (rs : List ℕ). x.room ∷ rs) (rooms-set xs n s changed (omega (arith, h)) e is)

all-change : (ws : List Work) (n : ℕ) (f : Work → Work) (P : Work → Type 0) → AllByRecursion P ws → (P (get_or ws n no_work) → P (f (get_or ws n no_work))) → AllByRecursion P (change_at n f ws)
all-change [] n f P all h = tt
all-change (w ∷ ws) zero f P all h = (h all.0, all.1)
all-change (w ∷ ws) (suc n) f P all h = (all.0, all-change ws n f P all.1 h)

-- The shelves after a change of one stay kept, and what is seen is a change of the work at its node.
pub changed : (block new : List (ℕ × Value)) (shelves : List Shelf) (n : ℕ) (s next : Shelf) (f : Work → Work) (seen : Shelved) → AreShelves block shelves → shelved block shelves ≡ seen → n < length seen.works → s ≡ get_or shelves n s → next.start ≡ s.start → next.room ≡ s.room → next.count ≤ s.room → length new ≡ length block → AreSameElsewhere block new s → work_in new next ≡ f (work_in block s) → (AreApart (gathered_on block s) → AreApart (f (work_in block s)).gathered) → AreShelves new (set shelves n next) × (shelved new (set shelves n next) ≡ on_shelf seen n f)
changed block new shelves n s next f seen kept view h e start room few size same is apart =
    let below = shelf_below block shelves n seen view h in
    let works = works-set block new 0 shelves (length block) n s next f same kept.laid below e is in
    let P : Work → Type 0 = λ w. AreApart w.gathered in
    let still : P (get_or (map (work_in block) shelves) n no_work) → P (f (get_or (map (work_in block) shelves) n no_work)) = subst (λ (w : Work). P w → P (f w)) (works-at block shelves n s below e) apart in (
      record {
        few = let few_places = kept.few in omega (arith, few_places, size);
        laid = subst (λ k. AreLaid 0 (set shelves n next) k) (sym size) (laid-set 0 shelves (length block) n s next kept.laid below e start room few);
        apart = subst (AllByRecursion P) (sym works) (all-change (map (work_in block) shelves) n f P kept.apart still);
      },
      ap (λ (ws : List Work). record { works = ws; room_for = map (λ (y : Shelf). y.room) (set shelves n next) }) works
          ∙ ap (λ (rs : List ℕ). record { works = change_at n f (map (work_in block) shelves); room_for = rs }) (rooms-set shelves n s next below e room)
          ∙ ap (λ (ss : Shelved). on_shelf ss n f) view,
    )

-- a change that leaves the block
pub changed_alone : (block : List (ℕ × Value)) (shelves : List Shelf) (n : ℕ) (s next : Shelf) (f : Work → Work) (seen : Shelved) → AreShelves block shelves → shelved block shelves ≡ seen → n < length seen.works → s ≡ get_or shelves n s → next.start ≡ s.start → next.room ≡ s.room → next.count ≤ s.count → work_in block next ≡ f (work_in block s) → (AreApart (gathered_on block s) → AreApart (f (work_in block s)).gathered) → AreShelves block (set shelves n next) × (shelved block (set shelves n next) ≡ on_shelf seen n f)
changed_alone block shelves n s next f seen kept view h e start room few is apart =
    let at = shelf_inside 0 shelves (length block) n s kept.laid (shelf_below block shelves n seen view h) e in
    let within = at.1 in
    changed block block shelves n s next f seen kept view h e start room (omega (arith, few, within)) refl (λ x few away. refl) is apart

-- a shelf with no values, nothing found and no body has no work
pub nothing-left : (block : List (ℕ × Value)) (s : Shelf) → work_in block (record { start = s.start; count = 0; room = s.room; found = None; body = None }) ≡ forgotten (work_in block s)
nothing-left block s = ap (λ (g : List (ℕ × Value)). record { gathered = g; found = None; body = None }) (part-is s.start 0 block)

-- what a write behind a shelf's values, within its room, leaves of the others
pub same_elsewhere : (block : List (ℕ × Value)) (s : Shelf) (p : ℕ × Value) → s.count < s.room → AreSameElsewhere block (set block (s.start + s.count) p) s
same_elsewhere block s p room x few (inl before) = part-before x.start x.count (s.start + s.count) p block (omega (arith, few, before))
same_elsewhere block s p room x few (inr behind) = part-behind x.start x.count (s.start + s.count) p block (omega (arith, room, behind))

-- there is a place behind a shelf's values, if there is to be room
pub has_room : (block : List (ℕ × Value)) (shelves : List Shelf) (n : ℕ) (s : Shelf) (seen : Shelved) → AreShelves block shelves → shelved block shelves ≡ seen → n < length seen.works → s ≡ get_or shelves n s → (AreApart (work_on seen n).gathered → length (work_on seen n).gathered < get_or seen.room_for n 0) → (s.count < s.room) × (s.start + s.count < length block)
has_room block shelves n s seen kept view h e fits =
    let below = shelf_below block shelves n seen view h in
    let work = work_there block shelves n s seen view h e in
    let room = room_there block shelves n s seen view h e in
    let at = shelf_inside 0 shelves (length block) n s kept.laid below e in
    let last = at.2 in
    let long = part-length s.start s.count block (part_inside block shelves n s seen kept view h e) in
    let apart : AreApart (work_on seen n).gathered = subst (λ (w : Work). AreApart w.gathered) work (part_apart block shelves n s kept below e) in
    let less = fits apart in
    let same = ap (λ (w : Work). length w.gathered) work in
    let left : s.count < s.room = omega (arith, room, less, same, long) in
    (left, omega (arith, left, last))

-- one value more on a shelf
pub one_gathered : (block : List (ℕ × Value)) (shelves : List Shelf) (n : ℕ) (s next : Shelf) (m : ℕ) (v : Value) (seen : Shelved) → AreShelves block shelves → shelved block shelves ≡ seen → n < length seen.works → s ≡ get_or shelves n s → gathered_of m (work_on seen n).gathered ≡ None → (AreApart (work_on seen n).gathered → length (work_on seen n).gathered < get_or seen.room_for n 0) → next ≡ record s { count = s.count + 1 } → AreShelves (set block (s.start + s.count) (m, v)) (set shelves n next) × (shelved (set block (s.start + s.count) (m, v)) (set shelves n next) ≡ on_shelf seen n (with_gathered m v))
one_gathered block shelves n s next m v seen kept view h e none fits is =
    let room = has_room block shelves n s seen kept view h e fits in
    let left = room.0 in
    let more : Shelf = record s { count = s.count + 1 } in
    let new : List (ℕ × Value) = set block (s.start + s.count) (m, v) in
    let work = work_there block shelves n s seen view h e in
    let W : List (ℕ × Value) → Work = λ g. record { gathered = g; found = found_option s.found; body = s.body } in
    let longer : work_in new more ≡ with_gathered m v (work_in block s) = ap W (part-more s.start s.count (m, v) block room.1) in
    let absent : gathered_of m (gathered_on block s) ≡ None = ap (λ (w : Work). gathered_of m w.gathered) work ∙ none in
    subst (λ (x : Shelf). AreShelves new (set shelves n x) × (shelved new (set shelves n x) ≡ on_shelf seen n (with_gathered m v))) (sym is)
    (changed block new shelves n s more (with_gathered m v) seen kept view h e refl refl (omega (arith, left)) (length-set block (s.start + s.count) (m, v)) (same_elsewhere block s (m, v) left) longer (λ apart. apart_more m v (gathered_on block s) apart absent))

-- ---- empty shelves

sum-cons : (x : ℕ) (xs : List ℕ) → sum (x ∷ xs) ≡ x + sum xs
sum-cons x xs = sum_by-cons (λ (y : ℕ). y) x xs

laid-more : (from at r : ℕ) (rooms : List ℕ) → at ≡ from + sum rooms → laid_out from (rooms ++ r ∷ []) ≡ laid_out from rooms ++ record { start = at; count = 0; room = r; found = None; body = None } ∷ []
laid-more from at r [] e = ap (λ (k : ℕ). record { start = k; count = 0; room = r; found = None; body = None } ∷ []) (let i : from ≡ at = omega (arith, e) in i)
laid-more from at r (x ∷ xs) e =
    let s = sum-cons x xs in
    ap (λ (ss : List Shelf). record { start = from; count = 0; room = x; found = None; body = None } ∷ ss) (laid-more (from + x) at r xs (omega (arith, e, s)))

laid-from : (from end : ℕ) (rooms : List ℕ) → end ≡ from + sum rooms → AreLaid from (laid_out from rooms) end
laid-from from end [] e = omega (arith, e)
laid-from from end (r ∷ rs) e = let s = sum-cons r rs in (refl, omega arith, laid-from (from + r) end rs (omega (arith, e, s)))

-- one shelf more
pub one_shelf : (graph : Graph) (n places room : ℕ) (shelves new : List Shelf) → new ≡ shelves ++ record { start = places; count = 0; room = room; found = None; body = None } ∷ [] → shelves ≡ laid_out 0 (map (room_at graph) (range_with_len 0 n)) → places ≡ sum (map (room_at graph) (range_with_len 0 n)) → room ≡ room_at graph n → new ≡ laid_out 0 (map (room_at graph) (range_with_len 0 (n + 1)))
one_shelf graph n places room shelves new longer so at is =
    let rooms : List ℕ = map (room_at graph) (range_with_len 0 n) in
    let S : ℕ → Shelf = λ r. record { start = places; count = 0; room = r; found = None; body = None } in
    longer
    ∙ ap (λ (ss : List Shelf). ss ++ S room ∷ []) so
    ∙ ap (λ (r : ℕ). laid_out 0 rooms ++ S r ∷ []) is
    ∙ sym (laid-more 0 places (room_at graph n) rooms (omega (arith, at)))
    ∙ sym (ap (laid_out 0) (map-range_with_len_more (room_at graph) 0 n n (omega arith)))

pub more_places : (graph : Graph) (n places room : ℕ) → places ≡ sum (map (room_at graph) (range_with_len 0 n)) → room ≡ room_at graph n → places + room ≡ sum (map (room_at graph) (range_with_len 0 (n + 1)))
more_places graph n places room at is =
    let e : sum (map (room_at graph) (range_with_len 0 (n + 1))) ≡ sum (map (room_at graph) (range_with_len 0 n)) + room_at graph n = sum_by-map-range_with_len_more (λ (y : ℕ). y) (room_at graph) 0 n n (omega arith) in
    omega (arith, at, is, e)

-- the rooms of all nodes, by their numbers
pub all_rooms : (graph : Graph) → map (room_at graph) (range_with_len 0 (length graph.nodes)) ≡ rooms_for graph
all_rooms graph = ap (map (room_at graph)) (sym (numbers_range 0 graph.nodes))

works-empty : (block : List (ℕ × Value)) (from : ℕ) (rooms : List ℕ) → map (work_in block) (laid_out from rooms) ≡ map (λ (r : ℕ). no_work) rooms
works-empty block from [] = refl
works-empty block from (r ∷ rs) =
    ap (λ (g : List (ℕ × Value)). record { gathered = g; found = None; body = None } ∷ map (work_in block) (laid_out (from + r) rs)) (part-is from 0 block)
    ∙ ap (λ (ws : List Work). no_work ∷ ws) (works-empty block (from + r) rs)

rooms-empty : (from : ℕ) (rooms : List ℕ) → map (λ (y : Shelf). y.room) (laid_out from rooms) ≡ rooms
rooms-empty from [] = refl
rooms-empty from (r ∷ rs) = ap (λ (ks : List ℕ). r ∷ ks) (rooms-empty (from + r) rs)

all-empty : (rooms : List ℕ) → AllByRecursion (λ (w : Work). AreApart w.gathered) (map (λ (r : ℕ). no_work) rooms)
all-empty [] = tt
all-empty (r ∷ rs) = (tt, all-empty rs)

none-each : (graph : Graph) (ns : List ℕ) → map (λ (r : ℕ). no_work) (map (room_at graph) ns) ≡ map (λ (n : ℕ). no_work) ns
none-each graph [] = refl
none-each graph (n ∷ ns) = ap (λ (ws : List Work). no_work ∷ ws) (none-each graph ns)

pub empty_kept : (graph : Graph) (block : List (ℕ × Value)) (shelves : List Shelf) → shelves ≡ laid_out 0 (rooms_for graph) → length block ≡ sum (rooms_for graph) → length block < 2 ^ 32 → AreShelves block shelves
empty_kept graph block shelves is size few = subst (AreShelves block) (sym is) (record {
  laid = laid-from 0 (length block) (rooms_for graph) (omega (arith, size));
  few = few;
  apart = subst (AllByRecursion (λ (w : Work). AreApart w.gathered)) (sym (works-empty block 0 (rooms_for graph))) (all-empty (rooms_for graph));
})

pub empty_seen : (graph : Graph) (block : List (ℕ × Value)) (shelves : List Shelf) → shelves ≡ laid_out 0 (rooms_for graph) → shelved block shelves ≡ empty_shelves graph
empty_seen graph block shelves is =
    ap (shelved block) is
    ∙ ap (λ (ws : List Work). record { works = ws; room_for = map (λ (y : Shelf). y.room) (laid_out 0 (rooms_for graph)) }) (works-empty block 0 (rooms_for graph) ∙ none-each graph (numbers graph))
    ∙ ap (λ (rs : List ℕ). record { works = map (λ (n : ℕ). no_work) (numbers graph); room_for = rs }) (rooms-empty 0 (rooms_for graph))
