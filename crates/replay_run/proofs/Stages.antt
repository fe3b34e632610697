-- What turns and rounds make of a play does not hang on its moves.
use Rattle.std.proofs.Common.{◌≡◌, ℕ, zero, suc, Bool, true, false, refl, sym, ap, arith, ◌+◌, ◌*◌, ◌^◌, ◌-◌, ◌<◌, ◌≤◌, List, [], ◌∷◌, length, drop, get_or, true≢false, ◌∙◌, Option, Some, None}
use Rattle.std.specs.Prelude.{sum_by, All}
use Rattle.std.proofs.Math.Nat.{mul-le-mul_right}
use Rattle.std.proofs.lemmas.List.{drop_more, drop_all}
use Rattle.std.proofs.lemmas.List.Sums.{sum_by-cons}
use Rattle.std.proofs.lemmas.List.Elements.{All-tail}
use Rattle.signal_graph.specs.declared.call.Call.{Call}
use Rattle.signal_graph.specs.declared.log.Why.{Why}
use Rattle.signal_graph.specs.Graph.{Graph}
use Rattle.signal_graph.specs.Machine.{misnamed}
use Rattle.flow_model.specs.declared.step.Step.TheVariants as steps
use Rattle.flow_model.specs.declared.step.Turn.{Turn}
use Rattle.flow_model.specs.declared.step.Turn.TheVariants as turn
use Rattle.flow_model.specs.Machine.Steps.{allowed}
use Rattle.flow_model.specs.Machine.Next.{next}
use Rattle.flow_model.specs.Machine.Histories.{Make}
use Rattle.flow_model.specs.Machine.Schedules.{Thread, Play, no_thread, thread, made, refused_for, begin_or_refuse, begin_next, make_turn, turn_of, version_of, take_turn, take_turns, is_over, round_from, rounds, most_rounds, at_start, replayed}
use Rattle.replay_run.specs.Replaying.{Stage, stage_of, play_of}

-- the play with no moves
abbrev bare : Graph → Play → Play
bare graph p = play_of (stage_of graph p)

pub turn-stage : (graph : Graph) (p : Play) (i : ℕ) → stage_of graph (take_turn graph p i) ≡ stage_of graph (take_turn graph (bare graph p) i)
turn-stage graph p i = go (version_of (suc i) p.core.calls)
  where
    refuses_or_not : (call : Call) (left : List Call) (why : Option Why) → stage_of graph (begin_or_refuse graph p i call left why) ≡ stage_of graph (begin_or_refuse graph (bare graph p) i call left why)
    refuses_or_not call left None = refl
    refuses_or_not call left (Some why) = refl

    begins : (left : List Call) → stage_of graph (begin_next graph p i left) ≡ stage_of graph (begin_next graph (bare graph p) i left)
    begins [] = refl
    begins (call ∷ left) = refuses_or_not call left (refused_for p.core.begun p.core.limit (misnamed graph call))

    ends : (v : ℕ) (b : Bool) → stage_of graph (elim b as (λ _. Play) [ true ↦ made graph p (Make (steps.End v)) | false ↦ p ])
        ≡ stage_of graph (elim b as (λ _. Play) [ true ↦ made graph (bare graph p) (Make (steps.End v)) | false ↦ bare graph p ])
    ends v true = refl
    ends v false = refl

    makes : (v : ℕ) (u : Turn) → stage_of graph (make_turn graph p v u) ≡ stage_of graph (make_turn graph (bare graph p) v u)
    makes v (turn.Step step) = refl
    makes v (turn.NotYet cause) = refl
    makes v turn.Ready = ends v (allowed graph p.core (steps.End v))

    go : (o : Option ℕ) → stage_of graph (turn_of graph p i o) ≡ stage_of graph (turn_of graph (bare graph p) i o)
    go None = begins (thread p i).left
    go (Some v) = makes v (next graph p.core v)

-- what follows a turn follows the same of its stage
behind : (graph : Graph) (f : Play → Play) → ((p : Play) → stage_of graph (f p) ≡ stage_of graph (f (bare graph p))) → (p : Play) (i : ℕ)
    → stage_of graph (f (take_turn graph p i)) ≡ stage_of graph (f (take_turn graph (bare graph p) i))
behind graph f same p i = same (take_turn graph p i) ∙ ap (λ (x : Stage). stage_of graph (f (play_of x))) (turn-stage graph p i) ∙ sym (same (take_turn graph (bare graph p) i))

pub turns-stage : (graph : Graph) (schedule : List ℕ) (p : Play) → stage_of graph (take_turns graph p schedule) ≡ stage_of graph (take_turns graph (bare graph p) schedule)
turns-stage graph [] p = refl
turns-stage graph (zero ∷ schedule) p = turns-stage graph schedule p
turns-stage graph (suc i ∷ schedule) p = behind graph (λ (q : Play). take_turns graph q schedule) (λ q. turns-stage graph schedule q) p i

pub round-stage : (graph : Graph) (i : ℕ) (xs : List Thread) (p : Play) → stage_of graph (round_from graph i xs p) ≡ stage_of graph (round_from graph i xs (bare graph p))
round-stage graph i [] p = refl
round-stage graph i (x ∷ xs) p = behind graph (λ (q : Play). round_from graph (suc i) xs q) (λ q. round-stage graph (suc i) xs q) p i

pub rounds-stage : (graph : Graph) (more : ℕ) (p : Play) → stage_of graph (rounds more graph p) ≡ stage_of graph (rounds more graph (bare graph p))
rounds-stage graph zero p = refl
rounds-stage graph (suc more) p = go (is_over p) (rounds-stage graph more q ∙ ap (λ (x : Stage). stage_of graph (rounds more graph (play_of x))) (round-stage graph 0 p.threads p) ∙ sym (rounds-stage graph more r))
  where
    q : Play
    q = round_from graph 0 p.threads p

    r : Play
    r = round_from graph 0 p.threads (bare graph p)

    go : (b : Bool) → stage_of graph (rounds more graph q) ≡ stage_of graph (rounds more graph r)
        → stage_of graph (elim b as (λ _. Play) [ true ↦ p | false ↦ rounds more graph q ]) ≡ stage_of graph (elim b as (λ _. Play) [ true ↦ bare graph p | false ↦ rounds more graph r ])
    go true e = refl
    go false e = e

-- ---- turns, one after the other

-- the next turn of a schedule
pub next-turn : (graph : Graph) (x y : Stage) (schedule : List ℕ) (i number : ℕ) → i < length schedule → get_or schedule i 0 ≡ number → 1 ≤ number
    → y ≡ stage_of graph (take_turn graph (play_of x) (number - 1))
    → stage_of graph (take_turns graph (play_of y) (drop (i + 1) schedule)) ≡ stage_of graph (take_turns graph (play_of x) (drop i schedule))
next-turn graph x y schedule i number l e some turn =
    let rest = drop (i + 1) schedule in
    let this : drop i schedule ≡ suc (number - 1) ∷ rest = drop_more schedule i 0 l ∙ ap (λ (n : ℕ). n ∷ rest) (e ∙ less number some) in
    ap (λ (z : Stage). stage_of graph (take_turns graph (play_of z) rest)) turn
    ∙ sym (turns-stage graph rest (take_turn graph (play_of x) (number - 1)))
    ∙ ap (λ (ns : List ℕ). stage_of graph (take_turns graph (play_of x) ns)) (sym this)
  where
    less : (n : ℕ) → 1 ≤ n → n ≡ suc (n - 1)
    less n h = omega (arith, h)

-- the next turn of a round
pub next-in-round : (graph : Graph) (x y : Stage) (xs : List Thread) (i : ℕ) → i < length xs
    → y ≡ stage_of graph (take_turn graph (play_of x) i)
    → stage_of graph (round_from graph (i + 1) (drop (i + 1) xs) (play_of y)) ≡ stage_of graph (round_from graph i (drop i xs) (play_of x))
next-in-round graph x y xs i l turn =
    let rest = drop (i + 1) xs in
    let next : i + 1 ≡ suc i = omega arith in
    ap (λ (z : Stage). stage_of graph (round_from graph (i + 1) rest (play_of z))) turn
    ∙ sym (round-stage graph (i + 1) rest (take_turn graph (play_of x) i))
    ∙ ap (λ (n : ℕ). stage_of graph (round_from graph n rest (take_turn graph (play_of x) i))) next
    ∙ ap (λ (ts : List Thread). stage_of graph (round_from graph i ts (play_of x))) (sym (drop_more xs i no_thread l))

-- ---- rounds, one after the other

over-stays : (graph : Graph) (n : ℕ) (p : Play) → is_over p ≡ true → rounds n graph p ≡ p
over-stays graph zero p h = refl
over-stays graph (suc n) p h = go (is_over p) h
  where
    go : (b : Bool) → b ≡ true → elim b as (λ _. Play) [ true ↦ p | false ↦ rounds n graph (round_from graph 0 p.threads p) ] ≡ p
    go true e = refl
    go false e = absurd (true≢false (sym e))

not-over : (graph : Graph) (n : ℕ) (p : Play) → is_over p ≡ false → rounds (suc n) graph p ≡ rounds n graph (round_from graph 0 p.threads p)
not-over graph n p h = go (is_over p) h
  where
    go : (b : Bool) → b ≡ false → elim b as (λ _. Play) [ true ↦ p | false ↦ rounds n graph (round_from graph 0 p.threads p) ] ≡ rounds n graph (round_from graph 0 p.threads p)
    go true e = absurd (true≢false e)
    go false e = refl

-- So many rounds have been taken of those that end it.
pub record IsAhead (graph : Graph) (x y : Stage) (taken : ℕ) : Type 0 where
  pub few : (more : ℕ) → is_over (rounds more graph (play_of x)) ≡ true → taken ≤ more
  pub rest : (more : ℕ) → is_over (rounds more graph (play_of x)) ≡ true → stage_of graph (rounds (more - taken) graph (play_of y)) ≡ stage_of graph (rounds more graph (play_of x))

pub none-taken : (graph : Graph) (x : Stage) → IsAhead graph x x 0
none-taken graph x = record { few = λ more h. omega arith; rest = λ more h. ap (λ (n : ℕ). stage_of graph (rounds n graph (play_of x))) (less more) }
  where
    less : (n : ℕ) → n - 0 ≡ n
    less n = omega arith

pub one-taken : (graph : Graph) (x y z : Stage) (taken : ℕ) → IsAhead graph x y taken → is_over (play_of y) ≡ false
    → z ≡ stage_of graph (round_from graph 0 y.threads (play_of y)) → IsAhead graph x z (taken + 1)
one-taken graph x y z taken h open_still round = record { few = few; rest = rest }
  where
    few : (more : ℕ) → is_over (rounds more graph (play_of x)) ≡ true → taken + 1 ≤ more
    few more o = at (more - taken) refl (h.few more o) (h.rest more o)
      where
        at : (m : ℕ) → more - taken ≡ m → taken ≤ more → stage_of graph (rounds (more - taken) graph (play_of y)) ≡ stage_of graph (rounds more graph (play_of x)) → taken + 1 ≤ more
        at zero e l same =
            let s : stage_of graph (play_of y) ≡ stage_of graph (rounds more graph (play_of x)) = ap (λ (n : ℕ). stage_of graph (rounds n graph (play_of y))) (sym e) ∙ same in
            absurd (true≢false (sym o ∙ sym (ap (λ (s : Stage). is_over (play_of s)) s) ∙ open_still))
        at (suc m) e l same = omega (arith, e, l)

    rest : (more : ℕ) → is_over (rounds more graph (play_of x)) ≡ true → stage_of graph (rounds (more - (taken + 1)) graph (play_of z)) ≡ stage_of graph (rounds more graph (play_of x))
    rest more o =
        let n : ℕ = more - (taken + 1) in
        let l = few more o in
        let e : more - taken ≡ suc n = omega (arith, l) in
        let r = round_from graph 0 y.threads (play_of y) in
        ap (λ (s : Stage). stage_of graph (rounds n graph (play_of s))) round
        ∙ sym (rounds-stage graph n r)
        ∙ ap (stage_of graph) (sym (not-over graph n (play_of y) open_still))
        ∙ ap (λ (k : ℕ). stage_of graph (rounds k graph (play_of y))) (sym e)
        ∙ h.rest more o

-- where all is over, no round is left
pub all-taken : (graph : Graph) (x y : Stage) (taken more : ℕ) → y.graph ≡ graph → IsAhead graph x y taken → is_over (play_of y) ≡ true → is_over (rounds more graph (play_of x)) ≡ true
    → y ≡ stage_of graph (rounds more graph (play_of x))
all-taken graph x y taken more g h o over =
    ap (λ (k : Graph). record { graph = k; core = y.core; threads = y.threads }) g
    ∙ ap (stage_of graph) (sym (over-stays graph (more - taken) (play_of y) o)) ∙ h.rest more over

-- ---- at the end of a schedule and of a round

with_graph : (graph : Graph) (x : Stage) → x.graph ≡ graph → x ≡ stage_of graph (play_of x)
with_graph graph x g = ap (λ (k : Graph). staged k x) g
  where
    staged : Graph → Stage → Stage
    staged k y = record { graph = k; core = y.core; threads = y.threads }

pub last-turn : (graph : Graph) (x z : Stage) (schedule : List ℕ) (i : ℕ) → x.graph ≡ graph → length schedule ≤ i → stage_of graph (take_turns graph (play_of x) (drop i schedule)) ≡ z → x ≡ z
last-turn graph x z schedule i g l h = with_graph graph x g ∙ ap (λ (ns : List ℕ). stage_of graph (take_turns graph (play_of x) ns)) (sym (drop_all i schedule l)) ∙ h

pub last-in-round : (graph : Graph) (x z : Stage) (xs : List Thread) (i : ℕ) → x.graph ≡ graph → length xs ≤ i → stage_of graph (round_from graph i (drop i xs) (play_of x)) ≡ z → x ≡ z
last-in-round graph x z xs i g l h = with_graph graph x g ∙ ap (λ (ts : List Thread). stage_of graph (round_from graph i ts (play_of x))) (sym (drop_all i xs l)) ∙ h

-- ---- a whole replay

-- what the rounds behind a schedule make of its stage
pub replay-stage : (graph : Graph) (scripts : List (List Call)) (limit : ℕ) (schedule : List ℕ) (x y : Stage) → x ≡ stage_of graph (at_start graph scripts limit)
    → y ≡ stage_of x.graph (take_turns x.graph (play_of x) schedule)
    → stage_of graph (rounds (most_rounds graph scripts) graph (play_of y)) ≡ stage_of graph (replayed graph scripts limit schedule)
replay-stage graph scripts limit schedule x y e h =
    let most = most_rounds graph scripts in
    let start = at_start graph scripts limit in
    ap (λ (z : Stage). stage_of graph (rounds most graph (play_of z))) (h ∙ ap (λ (z : Stage). stage_of z.graph (take_turns z.graph (play_of z) schedule)) e ∙ sym (turns-stage graph schedule start))
    ∙ sym (rounds-stage graph most (take_turns graph start schedule))

-- so many rounds are few
sum-small : (scripts : List (List Call)) → All (λ (calls : List Call). length calls < 2 ^ 32) scripts → sum_by length scripts ≤ length scripts * 2 ^ 32
sum-small [] h = omega arith
sum-small (calls ∷ scripts) h =
    let first = h 0 calls (omega arith) in
    let r = sum-small scripts (All-tail (λ (cs : List Call). length cs < 2 ^ 32) calls scripts h) in
    let e = sum_by-cons length calls scripts in
    omega (arith, first, r, e)

pub most-small : (graph : Graph) (scripts : List (List Call)) → length scripts ≤ 256 → length graph.nodes ≤ 16384 → All (λ (calls : List Call). length calls < 2 ^ 32) scripts
    → most_rounds graph scripts < 2 ^ 64 - 1
most-small graph scripts few nodes h = small (sum_by length scripts) (140 * length graph.nodes + 200) (let s = sum-small scripts h in omega (arith, s, few)) (omega (arith, nodes))
  where
    small : (a b : ℕ) → a ≤ 256 * 2 ^ 32 → b ≤ 2293960 → a * b < 2 ^ 64 - 1
    small a b p q =
        let m = mul-le-mul_right {m = a} {n = 256 * 2 ^ 32} b p in
        omega (arith, m, q)

graph-of : (graph : Graph) (scripts : List (List Call)) (limit : ℕ) (schedule : List ℕ) (x y : Stage) → x ≡ stage_of graph (at_start graph scripts limit)
    → y ≡ stage_of x.graph (take_turns x.graph (play_of x) schedule) → y.graph ≡ graph
graph-of graph scripts limit schedule x y e h = ap (λ (z : Stage). z.graph) h ∙ ap (λ (z : Stage). z.graph) e

-- the rounds behind a schedule come to an end where the replay is over
pub rounds-end : (graph : Graph) (scripts : List (List Call)) (limit : ℕ) (schedule : List ℕ) (x y : Stage) → x ≡ stage_of graph (at_start graph scripts limit)
    → y ≡ stage_of x.graph (take_turns x.graph (play_of x) schedule) → is_over (replayed graph scripts limit schedule) ≡ true
    → is_over (rounds (most_rounds graph scripts) y.graph (play_of y)) ≡ true
rounds-end graph scripts limit schedule x y e h over =
    let most = most_rounds graph scripts in
    ap (λ (k : Graph). is_over (rounds most k (play_of y))) (graph-of graph scripts limit schedule x y e h)
    ∙ ap (λ (z : Stage). is_over (play_of z)) (replay-stage graph scripts limit schedule x y e h) ∙ over

-- and what they leave is what the replay leaves
pub replay-ends : (graph : Graph) (scripts : List (List Call)) (limit : ℕ) (schedule : List ℕ) (x y z : Stage) → x ≡ stage_of graph (at_start graph scripts limit)
    → y ≡ stage_of x.graph (take_turns x.graph (play_of x) schedule) → z ≡ stage_of y.graph (rounds (most_rounds graph scripts) y.graph (play_of y))
    → z ≡ stage_of graph (replayed graph scripts limit schedule)
replay-ends graph scripts limit schedule x y z e h last =
    let most = most_rounds graph scripts in
    last ∙ ap (λ (k : Graph). stage_of k (rounds most k (play_of y))) (graph-of graph scripts limit schedule x y e h)
    ∙ replay-stage graph scripts limit schedule x y e h
