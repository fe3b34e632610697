-- How many seats want a node: how the counts change, and what a count of 0 tells.
use Rattle.std.proofs.Common.{◌≡◌, ℕ, zero, suc, ◌+◌, ◌<◌, ◌≤◌, Bool, true, false, not, ◌==◌, ◌||◌, ◌&&◌, List, [], ◌∷◌, ◌++◌, take, drop, Option, Some, None, length, map, set, refl, sym, ap, ◌∙◌, subst, arith}
use Rattle.std.specs.List.{range_with_len, list_any}
use Rattle.std.proofs.lemmas.Bool.{eq-eqb, eqb-true, false≢true, or_parts}
use Rattle.std.proofs.lemmas.Bool.Decides.{eqb_tells}
use Rattle.script_tree.proofs.Lists.{whole_slice}
use Rattle.signal_graph.specs.Graph.{is_in}
use Rattle.flow_model.specs.Machine.Sets.{put, take_out, least}
use Rattle.flow_model.specs.Machine.State.{LiveCall}
use Rattle.flow_model.specs.Machine.Next.{least_version, lesser}
use Rattle.flow_model.proofs.General.Sets.{in-put, in-take_out}
use Rattle.flow_model.proofs.General.Counting.{taken-length}
use Rattle.order_graph.specs.Order.{Order, reaches}
use Rattle.flow_state.specs.declared.seating.Tenant.{Tenant}
use Rattle.flow_state.specs.Booked.{opened_one, wanting}
use Rattle.flow_state.specs.Seats.{Seated, LiveCalls, free_seat, seat_at, call_at, calls_of, one_if, wanting_in, count_at, AreCounts, Follow, live_calls, presses_live, pressed_live}

-- ---- one seat changes

pub few_if : (b : Bool) → one_if b ≤ 1
few_if true = omega arith
few_if false = omega arith

counts-set : (n : ℕ) (seats : List Seated) (k : ℕ) (new : Seated) → k < length seats → wanting_in n (set seats k new) + one_if (is_in n (seat_at seats k).call.wanted) ≡ wanting_in n seats + one_if (is_in n new.call.wanted)
counts-set n [] k new h = absurd (omega (arith, h))
counts-set n (s ∷ ss) zero new h = omega arith
counts-set n (s ∷ ss) (suc k) new h = let r = counts-set n ss k new (omega (arith, h)) in omega (arith, r)

pub counted_after : (counts after : List ℕ) (seats : List Seated) (k : ℕ) (was new : Seated) → AreCounts counts seats → k < length seats → was ≡ seat_at seats k → Follow counts was.call.wanted after new.call.wanted → AreCounts after (set seats k new)
counted_after counts after seats k was new counted h read follow n =
    let old = counted n in
    let sum = counts-set n seats k new h in
    let same : one_if (is_in n was.call.wanted) ≡ one_if (is_in n (seat_at seats k).call.wanted) = ap (λ (s : Seated). one_if (is_in n s.call.wanted)) read in
    let moved = follow n in
    omega (arith, old, sum, same, moved)

pub counted_still : (counts : List ℕ) (seats : List Seated) (k : ℕ) (was new : Seated) → AreCounts counts seats → k < length seats → was ≡ seat_at seats k → new.call.wanted ≡ was.call.wanted → AreCounts counts (set seats k new)
counted_still counts seats k was new counted h read same = counted_after counts counts seats k was new counted h read (λ n. ap (λ (ws : List ℕ). count_at counts n + one_if (is_in n ws)) (sym same))

-- ---- what a count tells

one-of : (n : ℕ) (seats : List Seated) (k : ℕ) → k < length seats → one_if (is_in n (seat_at seats k).call.wanted) ≤ wanting_in n seats
one-of n [] k h = absurd (omega (arith, h))
one-of n (s ∷ ss) zero h = omega arith
one-of n (s ∷ ss) (suc k) h = let r = one-of n ss k (omega (arith, h)) in omega (arith, r)

pub counted_one : (counts : List ℕ) (seats : List Seated) (k : ℕ) (was : Seated) → AreCounts counts seats → k < length seats → was ≡ seat_at seats k → (n : ℕ) → one_if (is_in n was.call.wanted) ≤ count_at counts n
counted_one counts seats k was counted h read n =
    let old = counted n in
    let one = one-of n seats k h in
    let same : one_if (is_in n was.call.wanted) ≡ one_if (is_in n (seat_at seats k).call.wanted) = ap (λ (s : Seated). one_if (is_in n s.call.wanted)) read in
    omega (arith, old, one, same)

few-in : (n : ℕ) (seats : List Seated) → wanting_in n seats ≤ length seats
few-in n [] = omega arith
few-in n (s ∷ ss) = let r = few-in n ss in let one = few_if (is_in n s.call.wanted) in omega (arith, r, one)

pub counts_few : (counts : List ℕ) (seats : List Seated) → AreCounts counts seats → length seats ≤ 256 → (n : ℕ) → count_at counts n ≤ 256
counts_few counts seats counted few n = let c = counted n in let s = few-in n seats in omega (arith, c, s, few)

none-of : (n : ℕ) (seats : List Seated) → wanting_in n seats ≡ 0 → (k : ℕ) → is_in n (call_at seats k).wanted ≡ false
none-of n [] none k = refl
none-of n (s ∷ ss) none zero = not_one (is_in n s.call.wanted) (wanting_in n ss) none
  where
    not_one : (b : Bool) (rest : ℕ) → one_if b + rest ≡ 0 → b ≡ false
    not_one true rest h = absurd (omega (arith, h))
    not_one false rest h = refl
none-of n (s ∷ ss) none (suc k) = none-of n ss (omega (arith, none)) k

none-live : (n : ℕ) (seats : List Seated) (live : List Tenant) → ((k : ℕ) → is_in n (call_at seats k).wanted ≡ false) → list_any (λ (c : LiveCall). is_in n c.wanted) (calls_of seats live) ≡ false
none-live n seats [] none = refl
none-live n seats (x ∷ xs) none = ap (λ b. b || list_any (λ (c : LiveCall). is_in n c.wanted) (calls_of seats xs)) (none x.slot) ∙ none-live n seats xs none

pub none_wants : (counts : List ℕ) (seats : List Seated) (live : List Tenant) (n : ℕ) → AreCounts counts seats → count_at counts n ≡ 0 → list_any (λ (c : LiveCall). is_in n c.wanted) (calls_of seats live) ≡ false
none_wants counts seats live n counted none = none-live n seats live (none-of n seats (sym (counted n) ∙ none))

-- Some live call wants the node.
abbrev pub wanted_live : LiveCalls → ℕ → Bool
wanted_live live n = list_any (λ (c : LiveCall). is_in n c.wanted) live.calls

pub unwanted_seen : (callers nodes : ℕ) (seats : List Seated) (live : List Tenant) (order : Order) (counts read : List ℕ) (n : ℕ) (is_none : Bool) (seen : LiveCalls) → AreCounts counts seats → live_calls callers nodes seats live order ≡ seen → read ≡ counts → is_none ≡ (count_at read n == 0) → is_none ≡ true → wanted_live seen n ≡ false
unwanted_seen callers nodes seats live order counts read n is_none seen counted view same tells none =
    let zero_there : count_at counts n ≡ 0 = eqb-true (count_at counts n) 0 (ap (λ (cs : List ℕ). count_at cs n == 0) (sym same) ∙ sym tells ∙ none) in
    subst (λ (l : LiveCalls). wanted_live l n ≡ false) view (none_wants counts seats live n counted zero_there)

-- ---- a node that no live call wants presses none

pressing-wants : (e r w : Bool) → w ≡ false → (e && (r && w)) ≡ false
pressing-wants e r w h = grind (arith, h)

none-presses : (live : LiveCalls) (t n : ℕ) (cs : List LiveCall) → list_any (λ (c : LiveCall). is_in n c.wanted) cs ≡ false → list_any (presses_live live t n) cs ≡ false
none-presses live t n [] none = refl
none-presses live t n (c ∷ cs) none =
    let both = or_parts (is_in n c.wanted) _ none in
    ap (λ b. b || list_any (presses_live live t n) cs) (pressing-wants c.executing (reaches live.pairs t c.version) (is_in n c.wanted) both.0) ∙ none-presses live t n cs both.1

pub not_pressed : (live : LiveCalls) (t n : ℕ) → wanted_live live n ≡ false → pressed_live live t n ≡ false
not_pressed live t n none = none-presses live t n live.calls none

none-first : (live : LiveCalls) (t n : ℕ) (cs : List LiveCall) → list_any (λ (c : LiveCall). is_in n c.wanted) cs ≡ false → least_version (presses_live live t n) cs ≡ None
none-first live t n [] none = refl
none-first live t n (c ∷ cs) none =
    let both = or_parts (is_in n c.wanted) _ none in
    ap (λ (b : Bool). elim b as (λ _. Option ℕ) [ true ↦ Some (lesser c.version (least_version (presses_live live t n) cs)) | false ↦ least_version (presses_live live t n) cs ]) (pressing-wants c.executing (reaches live.pairs t c.version) (is_in n c.wanted) both.0)
    ∙ none-first live t n cs both.1

pub none_pressing : (live : LiveCalls) (t n : ℕ) → wanted_live live n ≡ false → least_version (presses_live live t n) live.calls ≡ None
none_pressing live t n none = none-first live t n live.calls none

-- ---- the counts follow what a seat wants

member-same : (m n : ℕ) (ws : List ℕ) → (m == n) ≡ true → is_in m ws ≡ is_in n ws
member-same m n ws e = let s : m ≡ n = grind (arith, eqb_tells, e) in ap (λ k. is_in k ws) s

pub follow_out : (counts after : List ℕ) (node : ℕ) (wanted : List ℕ) (fewer : Bool) → fewer ≡ is_in node wanted → ((n : ℕ) → count_at after n + one_if ((n == node) && fewer) ≡ count_at counts n) → Follow counts wanted after (take_out node wanted)
follow_out counts after node wanted fewer is lowered n = go (n == node) refl (is_in n wanted) refl (in-take_out n node wanted) (lowered n ∙ refl)
  where
    go : (b : Bool) → (n == node) ≡ b → (w : Bool) → is_in n wanted ≡ w → is_in n (take_out node wanted) ≡ (is_in n wanted && not (n == node)) → count_at after n + one_if ((n == node) && fewer) ≡ count_at counts n → count_at after n + one_if (is_in n wanted) ≡ count_at counts n + one_if (is_in n (take_out node wanted))
    go true e w v out low =
        let f : fewer ≡ w = is ∙ sym (member-same n node wanted e) ∙ v in
        let l : count_at after n + one_if w ≡ count_at counts n = sym (ap (λ b. count_at after n + one_if (b && fewer)) e ∙ ap (λ b. count_at after n + one_if b) f) ∙ low in
        let o : one_if (is_in n (take_out node wanted)) ≡ 0 = ap one_if out ∙ ap (λ b. one_if (is_in n wanted && not b)) e ∙ none_left (is_in n wanted) in
        let k : one_if (is_in n wanted) ≡ one_if w = ap one_if v in
        omega (arith, l, o, k)
      where
        none_left : (b : Bool) → one_if (b && false) ≡ 0
        none_left true = refl
        none_left false = refl
    go false e w v out low =
        let l : count_at after n + 0 ≡ count_at counts n = sym (ap (λ b. count_at after n + one_if (b && fewer)) e) ∙ low in
        let o : one_if (is_in n (take_out node wanted)) ≡ one_if (is_in n wanted) = ap one_if out ∙ ap (λ b. one_if (is_in n wanted && not b)) e ∙ ap one_if (all_left (is_in n wanted)) in
        omega (arith, l, o)
      where
        all_left : (b : Bool) → (b && true) ≡ b
        all_left true = refl
        all_left false = refl

pub follow_in : (counts after : List ℕ) (node : ℕ) (wanted : List ℕ) (more : Bool) → more ≡ not (is_in node wanted) → ((n : ℕ) → count_at after n ≡ count_at counts n + one_if ((n == node) && more)) → Follow counts wanted after (put node wanted)
follow_in counts after node wanted more is raised n = go (n == node) refl (is_in n wanted) refl (in-put n node wanted) (raised n)
  where
    go : (b : Bool) → (n == node) ≡ b → (w : Bool) → is_in n wanted ≡ w → is_in n (put node wanted) ≡ ((n == node) || is_in n wanted) → count_at after n ≡ count_at counts n + one_if ((n == node) && more) → count_at after n + one_if (is_in n wanted) ≡ count_at counts n + one_if (is_in n (put node wanted))
    go true e w v more_in high =
        let f : more ≡ not w = is ∙ ap not (sym (member-same n node wanted e) ∙ v) in
        let l : count_at after n ≡ count_at counts n + one_if (not w) = high ∙ ap (λ b. count_at counts n + one_if (b && more)) e ∙ ap (λ b. count_at counts n + one_if b) f in
        let o : one_if (is_in n (put node wanted)) ≡ 1 = ap one_if more_in ∙ ap (λ b. one_if (b || is_in n wanted)) e in
        let k : one_if (is_in n wanted) ≡ one_if w = ap one_if v in
        let both = one_of w in
        omega (arith, l, o, k, both)
      where
        one_of : (b : Bool) → one_if b + one_if (not b) ≡ 1
        one_of true = refl
        one_of false = refl
    go false e w v more_in high =
        let l : count_at after n ≡ count_at counts n + 0 = high ∙ ap (λ b. count_at counts n + one_if (b && more)) e in
        let o : one_if (is_in n (put node wanted)) ≡ one_if (is_in n wanted) = ap one_if more_in ∙ ap (λ b. one_if (b || is_in n wanted)) e in
        omega (arith, l, o)

pub follow_both : (counts middle after : List ℕ) (wanted next last : List ℕ) → Follow counts wanted middle next → Follow middle next after last → Follow counts wanted after last
follow_both counts middle after wanted next last first second n = let a = first n in let b = second n in omega (arith, a, b)

-- where a call opens a node, or wants one more
pub opened_follow : (counts after : List ℕ) (node : ℕ) (was new : Seated) (fewer : Bool) → new.call ≡ opened_one node was.call → fewer ≡ is_in node was.call.wanted → ((n : ℕ) → count_at after n + one_if ((n == node) && fewer) ≡ count_at counts n) → Follow counts was.call.wanted after new.call.wanted
opened_follow counts after node was new fewer e is lowered = subst (λ (c : LiveCall). Follow counts was.call.wanted after c.wanted) (sym e) (follow_out counts after node was.call.wanted fewer is lowered)

pub wanting_follow : (counts after : List ℕ) (node : ℕ) (was new : Seated) (more : Bool) → new.call ≡ wanting node was.call → more ≡ (not (is_in node was.call.open_nodes) && not (is_in node was.call.wanted)) → ((n : ℕ) → count_at after n ≡ count_at counts n + one_if ((n == node) && more)) → Follow counts was.call.wanted after new.call.wanted
wanting_follow counts after node was new more e is raised = subst (λ (c : LiveCall). Follow counts was.call.wanted after c.wanted) (sym e) (go (is_in node was.call.open_nodes) is)
  where
    same : (n : ℕ) → (b : Bool) → b ≡ false → one_if ((n == node) && b) ≡ 0
    same n b f = ap (λ b. one_if ((n == node) && b)) f ∙ none_left (n == node)
      where
        none_left : (b : Bool) → one_if (b && false) ≡ 0
        none_left true = refl
        none_left false = refl

    go : (b : Bool) → more ≡ (not b && not (is_in node was.call.wanted)) → Follow counts was.call.wanted after (elim b as (λ _. List ℕ) [ true ↦ was.call.wanted | false ↦ put node was.call.wanted ])
    go true m = λ n. let r = raised n in let s = same n more m in omega (arith, r, s)
    go false m = follow_in counts after node was.call.wanted more m raised

-- the counts after a loan of all of them, with which one seat has changed
pub counts_back : (len nodes : ℕ) (counts after : List ℕ) (seats : List Seated) (k : ℕ) (was new : Seated) → length counts ≡ nodes → AreCounts counts seats → len ≡ length counts → length after ≡ length counts → k < length seats → was ≡ seat_at seats k → Follow counts was.call.wanted after new.call.wanted
    → (length (take len (after ++ drop (length after) counts)) ≡ nodes) × AreCounts (take len (after ++ drop (length after) counts)) (set seats k new)
counts_back len nodes counts after seats k was new each counted full same inside read follow =
    let whole = whole_slice len after counts same full in (
      ap length whole ∙ same ∙ each,
      subst (λ (cs : List ℕ). AreCounts cs (set seats k new)) (sym whole) (counted_after counts after seats k was new counted inside read follow),
    )

-- ---- the least node is taken out

least-in : (xs : List ℕ) (n : ℕ) → Some n ≡ least xs → is_in n xs ≡ true
least-in [] n e = absurd (nothing n e)
  where
    nothing : (n : ℕ) → Some n ≡ None → ⊥
    nothing n e = cc
least-in (x ∷ xs) n e = ap (λ b. b || is_in n xs) (eq-eqb x n (same x n e))
  where
    same : (x n : ℕ) → Some n ≡ Some x → x ≡ n
    same x n e = cc

pub least_fewer : (xs : List ℕ) (n : ℕ) → Some n ≡ least xs → length (take_out n xs) < length xs
least_fewer [] n e = absurd (nothing n e)
  where
    nothing : (n : ℕ) → Some n ≡ None → ⊥
    nothing n e = cc
least_fewer (x ∷ xs) n e = go (x == n) (eq-eqb x n (same x n e))
  where
    same : (x n : ℕ) → Some n ≡ Some x → x ≡ n
    same x n e = cc

    go : (b : Bool) → b ≡ true → length (elim b as (λ _. List ℕ) [ true ↦ take_out n xs | false ↦ x ∷ take_out n xs ]) < suc (length xs)
    go true t = let l = taken-length n xs in omega (arith, l)
    go false t = absurd (false≢true t)

pub least_inside : (size : ℕ) (xs : List ℕ) (n : ℕ) → Some n ≡ least xs → ((q : ℕ) → is_in q xs ≡ true → q < size) → n < size
least_inside size xs n e inside = inside n (least-in xs n e)

-- ---- at opening

none-free : (n nodes : ℕ) (slots : List ℕ) → wanting_in n (map (free_seat nodes) slots) ≡ 0
none-free n nodes [] = refl
none-free n nodes (k ∷ ks) = let r = none-free n nodes ks in omega (arith, r)

pub counted_free : (counts : List ℕ) (callers nodes : ℕ) (seats : List Seated) → ((n : ℕ) → count_at counts n ≡ 0) → seats ≡ map (free_seat nodes) (range_with_len 0 callers) → AreCounts counts seats
counted_free counts callers nodes seats none e n = none n ∙ sym (ap (wanting_in n) e ∙ none-free n nodes (range_with_len 0 callers))
