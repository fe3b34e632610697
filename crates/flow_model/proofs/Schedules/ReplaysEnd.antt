-- What a schedule makes of scripts is over after the rounds that follow it.
-- Each round makes a step, begins a call or refuses one, and there are not more of these than rounds.
use Rattle.std.proofs.Common.{◌≡◌, ℕ, zero, suc, ◌+◌, ◌*◌, ◌<◌, ◌≤◌, Bool, true, false, ◌&&◌, ◌==◌, ◌⊎◌, inl, inr, refl, sym, ap, arith, List, [], ◌∷◌, ◌++◌, map, length, true≢false, ◌∙◌, subst, Option, Some, None}
use Rattle.std.specs.Prelude.{is_some}
use Rattle.std.specs.Prelude.{slice_index_or, sum_by}
use Rattle.std.specs.List.{list_all}
use Rattle.std.proofs.Math.Nat.{add-mul, mul-le-mul_left}
use Rattle.std.proofs.lemmas.List.Sums.{sum_by-cons}
use Rattle.std.proofs.lemmas.Bool.{eqb-true, eq-eqb, both_ways, true_from_ne_false}
use Rattle.signal_graph.specs.declared.call.Call.{Call}
use Rattle.signal_graph.specs.declared.log.Why.{Why}
use Rattle.signal_graph.specs.Graph.{Graph, IsGraph}
use Rattle.signal_graph.specs.Machine.{misnamed}
use Rattle.flow_model.specs.declared.step.Step.{Step}
use Rattle.flow_model.specs.declared.step.Step.TheVariants as steps
use Rattle.flow_model.specs.declared.step.Turn.{Turn}
use Rattle.flow_model.specs.declared.step.Turn.TheVariants as turn
use Rattle.flow_model.specs.Machine.Lists.{is_empty, change_at}
use Rattle.flow_model.specs.Machine.State.{LiveCall, call, call_of, live}
use Rattle.flow_model.specs.Machine.Steps.{allowed}
use Rattle.flow_model.specs.Machine.Next.{next}
use Rattle.flow_model.specs.Machine.Histories.{Move, Begin, Make}
use Rattle.flow_model.specs.Machine.Schedules.{Thread, Play, no_thread, thread, made, goes_on, refuses, refused_for, begin_or_refuse, begin_next, make_turn, turn_of, version_of, take_turn, take_turns, is_over, round_from, rounds, most_rounds, at_start, replayed}
use Rattle.flow_model.specs.Follows.Callers.{count_begins, AreWithin}
use Rattle.flow_model.proofs.Lengths.FewInputs.{HasFewInputs}
use Rattle.flow_model.proofs.General.Sums.{total}
use Rattle.flow_model.proofs.Histories.Moves.{KeepsLawful}
use Rattle.flow_model.proofs.OneStep.BegunCalls.{reads-in, calls-distinct}
use Rattle.flow_model.proofs.Together.WorkIsAllowed.{least-none}
use Rattle.flow_model.proofs.Together.NextIsAllowed.{least-passes}
use Rattle.flow_model.proofs.Together.NeverStuck.{HasNext, IsFirst, first-HasNext, some-first, head-some}
use Rattle.flow_model.proofs.Lengths.HistoriesAreBounded.{history-length}
use Rattle.flow_model.proofs.Schedules.ThreadsTakeTheirScripts.{step-count, begin-count}
use Rattle.flow_model.proofs.Schedules.SchedulesMakeHistories.{PlayRight, play-callers as right-callers, new_thread, take_turns-right, round-right, rounds-right, start-right}

-- how many of the moves are steps, and how many calls threads have left
abbrev pub count_steps : List Move → ℕ
count_steps [] = 0
count_steps (Begin caller call ∷ moves) = count_steps moves
count_steps (Make step ∷ moves) = suc (count_steps moves)

abbrev pub count_left : List Thread → ℕ
count_left xs = total (λ (x : Thread). length x.left) xs

made-steps : (moves : List Move) (step : Step) → count_steps (moves ++ Make step ∷ []) ≡ suc (count_steps moves)
made-steps [] step = refl
made-steps (Begin caller c ∷ moves) step = made-steps moves step
made-steps (Make x ∷ moves) step = ap suc (made-steps moves step)

begun-steps : (moves : List Move) (caller : ℕ) (c : Call) → count_steps (moves ++ Begin caller c ∷ []) ≡ count_steps moves
begun-steps [] caller c = refl
begun-steps (Begin k x ∷ moves) caller c = begun-steps moves caller c
begun-steps (Make x ∷ moves) caller c = ap suc (begun-steps moves caller c)

all-moves : (moves : List Move) → length moves ≡ count_steps moves + count_begins moves
all-moves [] = refl
all-moves (Begin caller c ∷ moves) = let r = all-moves moves in omega (arith, r)
all-moves (Make step ∷ moves) = let r = all-moves moves in omega (arith, r)

-- a thread that takes its next call has one less left
taken-left : (i : ℕ) (f : Thread → Thread) (c : Call) (rest : List Call) → ((x : Thread) → (f x).left ≡ rest) → (xs : List Thread) → (slice_index_or xs i no_thread).left ≡ c ∷ rest → count_left (change_at i f xs) + 1 ≡ count_left xs
taken-left i f c rest k [] e = differ e
  where
    differ : {A : Type 0} → [] ≡ c ∷ rest → A
    differ x = cc
taken-left zero f c rest k (x ∷ xs) e = let a = ap length (k x) in let b : length x.left ≡ suc (length rest) = ap length e in omega (arith, a, b)
taken-left (suc i) f c rest k (x ∷ xs) e = let r = taken-left i f c rest k xs e in omega (arith, r)

-- ---- what one turn leaves

-- So many steps more, calls begun or refused: at least k of them. No call is begun that was not left.
record Gains (k : ℕ) (p q : Play) : Type 0 where
  gain : count_steps p.moves + count_left q.threads + k ≤ count_steps q.moves + count_left p.threads
  spent : count_begins q.moves + count_left q.threads ≤ count_begins p.moves + count_left p.threads

gains-none : (p : Play) → Gains 0 p p
gains-none p = record { gain = omega arith; spent = omega arith }

gains-on : (k m : ℕ) (p q r : Play) → Gains k p q → Gains m q r → Gains (k + m) p r
gains-on k m p q r a b = record { gain = (let x = a.gain in let y = b.gain in omega (arith, x, y)); spent = (let x = a.spent in let y = b.spent in omega (arith, x, y)) }

steps-gain : (graph : Graph) (p : Play) (step : Step) → Gains 1 p (made graph p (Make step))
steps-gain graph p step = record {
  gain = let e = made-steps p.moves step in omega (arith, e);
  spent = let e = step-count p.moves step in omega (arith, e);
}

begins-gain : (graph : Graph) (p : Play) (i : ℕ) (c : Call) (rest : List Call) (o : Option Why) → (thread p i).left ≡ c ∷ rest → Gains 1 p (begin_or_refuse graph p i c rest o)
begins-gain graph p i c rest None e =
    let l = taken-left i (goes_on rest) c rest (λ x. refl) p.threads e in
    let s = begun-steps p.moves (suc i) c in
    let b = begin-count p.moves (suc i) c in
    record { gain = omega (arith, l, s); spent = omega (arith, l, b) }
begins-gain graph p i c rest (Some why) e =
    let l = taken-left i (refuses (suc i) why rest) c rest (λ x. refl) p.threads e in
    record { gain = omega (arith, l); spent = omega (arith, l) }

turn-gains : (graph : Graph) (p : Play) (i : ℕ) → (take_turn graph p i ≡ p) ⊎ Gains 1 p (take_turn graph p i)
turn-gains graph p i = go (version_of (suc i) p.core.calls)
  where
    begins : (left : List Call) → (thread p i).left ≡ left → (begin_next graph p i left ≡ p) ⊎ Gains 1 p (begin_next graph p i left)
    begins [] e = inl refl
    begins (c ∷ rest) e = inr (begins-gain graph p i c rest (refused_for p.core.begun p.core.limit (misnamed graph c)) e)

    ends : (t : ℕ) (b : Bool) → (elim b as (λ _. Play) [ true ↦ made graph p (Make (steps.End t)) | false ↦ p ] ≡ p) ⊎ Gains 1 p (elim b as (λ _. Play) [ true ↦ made graph p (Make (steps.End t)) | false ↦ p ])
    ends t true = inr (steps-gain graph p (steps.End t))
    ends t false = inl refl

    turns : (t : ℕ) (u : Turn) → (make_turn graph p t u ≡ p) ⊎ Gains 1 p (make_turn graph p t u)
    turns t (turn.Step step) = inr (steps-gain graph p step)
    turns t (turn.NotYet cause) = inl refl
    turns t turn.Ready = ends t (allowed graph p.core (steps.End t))

    go : (o : Option ℕ) → (turn_of graph p i o ≡ p) ⊎ Gains 1 p (turn_of graph p i o)
    go None = begins (thread p i).left refl
    go (Some t) = turns t (next graph p.core t)

never-same : (p : Play) → Gains 1 p p → ⊥
never-same p g = let x = g.gain in absurd (omega (arith, x))

turn-keeps : (graph : Graph) (p : Play) (i : ℕ) → Gains 0 p (take_turn graph p i)
turn-keeps graph p i = go (turn-gains graph p i)
  where
    go : (take_turn graph p i ≡ p) ⊎ Gains 1 p (take_turn graph p i) → Gains 0 p (take_turn graph p i)
    go (inl e) = subst (λ (q : Play). Gains 0 p q) (sym e) (gains-none p)
    go (inr g) = record { gain = (let x = g.gain in omega (arith, x)); spent = g.spent }

-- ---- a round

round-keeps : (graph : Graph) (i : ℕ) (xs : List Thread) (p : Play) → Gains 0 p (round_from graph i xs p)
round-keeps graph i [] p = gains-none p
round-keeps graph i (x ∷ xs) p = gains-on 0 0 p (take_turn graph p i) (round_from graph (suc i) xs (take_turn graph p i)) (turn-keeps graph p i) (round-keeps graph (suc i) xs (take_turn graph p i))

-- A round in which some thread would move by itself moves.
round-gains : (graph : Graph) (i k : ℕ) (xs : List Thread) (p : Play) → k < length xs → Gains 1 p (take_turn graph p (i + k)) → Gains 1 p (round_from graph i xs p)
round-gains graph i k [] p l g = absurd (omega (arith, l))
round-gains graph i k (x ∷ xs) p l g = go (turn-gains graph p i) k l g (λ j m f. round-gains graph (suc i) j xs p m f)
  where
    next_one : (a b : ℕ) → a + suc b ≡ suc a + b
    next_one a b = omega arith

    itself : (a : ℕ) → a + 0 ≡ a
    itself a = omega arith

    go : (take_turn graph p i ≡ p) ⊎ Gains 1 p (take_turn graph p i) → (j : ℕ) → j < suc (length xs) → Gains 1 p (take_turn graph p (i + j))
        → ((n : ℕ) → n < length xs → Gains 1 p (take_turn graph p (suc i + n)) → Gains 1 p (round_from graph (suc i) xs p)) → Gains 1 p (round_from graph (suc i) xs (take_turn graph p i))
    go (inr h) j m f further = gains-on 1 0 p (take_turn graph p i) (round_from graph (suc i) xs (take_turn graph p i)) h (round-keeps graph (suc i) xs (take_turn graph p i))
    go (inl e) zero m f further = absurd (never-same p (subst (λ (q : Play). Gains 1 p q) (ap (take_turn graph p) (itself i) ∙ e) f))
    go (inl e) (suc j) m f further = subst (λ (q : Play). Gains 1 p (round_from graph (suc i) xs q)) (sym e) (further j (omega (arith, m)) (subst (λ (n : ℕ). Gains 1 p (take_turn graph p n)) (next_one i j) f))

-- ---- some thread can move

record CanMove (graph : Graph) (p : Play) : Type 0 where
  it : ℕ
  here : it < length p.threads
  moves : Gains 1 p (take_turn graph p it)

-- The thread of a live call that no live call is before makes its next step, or ends it.
live-moves : (graph : Graph) → IsGraph graph → (scripts : List (List Call)) (limit : ℕ) (p : Play) → PlayRight graph scripts limit p → p.core.callers ≡ length p.threads → (t : ℕ) → live p.core t ≡ true → CanMove graph p
live-moves graph g scripts limit p r size t l = of (some-first graph p.core r.lawful t l)
  where
    of : (u : ℕ) × (live p.core u ≡ true) × IsFirst p.core u → CanMove graph p
    of (u, lu, first) = at_caller (call p.core u).caller refl
      where
        turns : HasNext graph p.core u → Gains 1 p (make_turn graph p u (next graph p.core u))
        turns (inl (step, e, a)) = subst (λ (x : Turn). Gains 1 p (make_turn graph p u x)) (sym e) (steps-gain graph p step)
        turns (inr (e, a)) = subst (λ (x : Turn). Gains 1 p (make_turn graph p u x)) (sym e) (subst (λ (b : Bool). Gains 1 p (elim b as (λ _. Play) [ true ↦ made graph p (Make (steps.End u)) | false ↦ p ])) (sym a) (steps-gain graph p (steps.End u)))

        version : (k : ℕ) → (call p.core u).caller ≡ suc k → (o : Option ℕ) → version_of (suc k) p.core.calls ≡ o → o ≡ Some u
        version k e None f = absurd (both_ways _ (least-none (λ c. c.caller == suc k) p.core.calls f) (reads-in (λ c. c.caller == suc k) p.core.calls u lu (eq-eqb _ _ e)))
        version k e (Some v) f =
            let x = least-passes (λ c. c.caller == suc k) p.core.calls v (calls-distinct p.core r.lawful.versions_are_fresh) f in
            ap (λ (n : ℕ). Some n) (r.lawful.room_is_kept.callers_apart v u x.known lu (eqb-true (call p.core v).caller (suc k) x.passes ∙ sym e))

        at_caller : (n : ℕ) → (call p.core u).caller ≡ n → CanMove graph p
        at_caller zero e = let f = (r.lawful.room_is_kept.callers_fit u lu).0 in absurd (omega (arith, e, f))
        at_caller (suc k) e = record {
          it = k;
          here = let f = (r.lawful.room_is_kept.callers_fit u lu).1 in omega (arith, e, f, size);
          moves = subst (λ (o : Option ℕ). Gains 1 p (turn_of graph p k o)) (sym (version k e (version_of (suc k) p.core.calls) refl)) (turns (first-HasNext graph g p.core r.lawful u lu first));
        }

-- Where no call is live, a thread with a call left begins it, or that is refused.
some-left : (xs : List Thread) → list_all (λ (x : Thread). is_empty x.left) xs ≡ false → (i : ℕ) × (i < length xs) × (is_empty (slice_index_or xs i no_thread).left ≡ false)
some-left [] h = absurd (true≢false h)
some-left (x ∷ xs) h = go (is_empty x.left) refl h (some-left xs)
  where
    go : (b : Bool) → is_empty x.left ≡ b → (b && list_all (λ (y : Thread). is_empty y.left) xs) ≡ false
        → (list_all (λ (y : Thread). is_empty y.left) xs ≡ false → (i : ℕ) × (i < length xs) × (is_empty (slice_index_or xs i no_thread).left ≡ false))
        → (i : ℕ) × (i < suc (length xs)) × (is_empty (slice_index_or (x ∷ xs) i no_thread).left ≡ false)
    go false e k further = (0, omega arith, e)
    go true e k further = let r = further k in (suc r.0, (let m = r.1 in omega (arith, m)), r.2)

left-moves : (graph : Graph) (p : Play) → p.core.calls ≡ [] → list_all (λ (x : Thread). is_empty x.left) p.threads ≡ false → CanMove graph p
left-moves graph p none h = of (some-left p.threads h)
  where
    begins : (i : ℕ) (left : List Call) → (thread p i).left ≡ left → is_empty left ≡ false → Gains 1 p (begin_next graph p i left)
    begins i [] e k = absurd (true≢false k)
    begins i (c ∷ rest) e k = begins-gain graph p i c rest (refused_for p.core.begun p.core.limit (misnamed graph c)) e

    of : (i : ℕ) × (i < length p.threads) × (is_empty (thread p i).left ≡ false) → CanMove graph p
    of (i, l, k) = record {
      it = i;
      here = l;
      moves = subst (λ (cs : List LiveCall). Gains 1 p (turn_of graph p i (version_of (suc i) cs))) (sym none) (begins i (thread p i).left refl k);
    }

not_over-moves : (graph : Graph) → IsGraph graph → (scripts : List (List Call)) (limit : ℕ) (p : Play) → PlayRight graph scripts limit p → p.core.callers ≡ length p.threads → is_over p ≡ false → CanMove graph p
not_over-moves graph g scripts limit p r size h = go p.core.calls refl
  where
    go : (cs : List LiveCall) → p.core.calls ≡ cs → CanMove graph p
    go [] e = left-moves graph p e (sym (ap (λ (cs : List LiveCall). both cs) e) ∙ h)
      where
        both : List LiveCall → Bool
        both cs = is_empty cs && list_all (λ (x : Thread). is_empty x.left) p.threads
    go (c ∷ cs) e = live-moves graph g scripts limit p r size c.version (ap (λ (xs : List LiveCall). is_some (call_of xs c.version)) e ∙ head-some c cs)

-- ---- rounds

-- What each play of the scripts keeps besides.
play-callers : (graph : Graph) (scripts : List (List Call)) (limit : ℕ) (p : Play) → PlayRight graph scripts limit p → p.core.callers ≡ length p.threads
play-callers graph scripts limit p r = right-callers graph scripts limit p r ∙ sym r.size

round-moves : (graph : Graph) → IsGraph graph → (scripts : List (List Call)) (limit : ℕ) (p : Play) → PlayRight graph scripts limit p → is_over p ≡ false → Gains 1 p (round_from graph 0 p.threads p)
round-moves graph g scripts limit p r h = let m = not_over-moves graph g scripts limit p r (play-callers graph scripts limit p r) h in round-gains graph 0 m.it p.threads p m.here (subst (λ (n : ℕ). Gains 1 p (take_turn graph p n)) (from_zero m.it) m.moves)
  where
    from_zero : (n : ℕ) → n ≡ 0 + n
    from_zero n = omega arith

rounds-gain : (graph : Graph) → IsGraph graph → KeepsLawful graph → (scripts : List (List Call)) → AreWithin scripts → (limit more : ℕ) (p : Play) → PlayRight graph scripts limit p → is_over (rounds more graph p) ≡ false → Gains more p (rounds more graph p)
rounds-gain graph g keeps scripts within limit zero p r h = gains-none p
rounds-gain graph g keeps scripts within limit (suc more) p r h = go (is_over p) refl h (rounds-gain graph g keeps scripts within limit more (round_from graph 0 p.threads p) (round-right graph g keeps scripts within limit 0 p.threads p r))
  where
    q : Play
    q = round_from graph 0 p.threads p

    one_more : (n : ℕ) → 1 + n ≡ suc n
    one_more n = omega arith

    go : (b : Bool) → is_over p ≡ b → is_over (elim b as (λ _. Play) [ true ↦ p | false ↦ rounds more graph q ]) ≡ false → (is_over (rounds more graph q) ≡ false → Gains more q (rounds more graph q))
        → Gains (suc more) p (elim b as (λ _. Play) [ true ↦ p | false ↦ rounds more graph q ])
    go true e k further = absurd (both_ways _ k e)
    go false e k further = subst (λ (n : ℕ). Gains n p (rounds more graph q)) (one_more more) (gains-on 1 more p q (rounds more graph q) (round-moves graph g scripts limit p r e) (further k))

turns-keep : (graph : Graph) (schedule : List ℕ) (p : Play) → Gains 0 p (take_turns graph p schedule)
turns-keep graph [] p = gains-none p
turns-keep graph (zero ∷ schedule) p = turns-keep graph schedule p
turns-keep graph (suc i ∷ schedule) p = gains-on 0 0 p (take_turn graph p i) (take_turns graph (take_turn graph p i) schedule) (turn-keeps graph p i) (turns-keep graph schedule (take_turn graph p i))

start-left : (scripts : List (List Call)) → count_left (map new_thread scripts) ≡ sum_by length scripts
start-left [] = refl
start-left (calls ∷ scripts) = let r = start-left scripts in let s = sum_by-cons (λ (cs : List Call). length cs) calls scripts in omega (arith, r, s)

-- ---- no more than so many

-- a number that is as great as another, less it
record Rest (a b : ℕ) : Type 0 where
  rest : ℕ
  sum : b ≡ a + rest

rest-of : (a b : ℕ) → a ≤ b → Rest a b
rest-of zero b h = record { rest = b; sum = omega arith }
rest-of (suc a) zero h = absurd (omega (arith, h))
rest-of (suc a) (suc b) h = let r = rest-of a b (omega (arith, h)) in let e = r.sum in record { rest = r.rest; sum = omega (arith, e) }

-- Of all calls some have begun, with so many moves each at most, and some are left; each of all calls counts for as much.
few : (all begun left steps bound : ℕ) → 1 ≤ bound → begun + left ≤ all → steps + begun ≤ begun * bound → all * bound + left + 1 ≤ steps + all → ⊥
few all begun left steps bound b h m k =
    let r = rest-of (begun + left) all h in
    let e = r.sum in
    let z : all ≡ begun + (left + r.rest) = omega (arith, e) in
    let x : all * bound ≡ begun * bound + (left + r.rest) * bound = ap (λ (n : ℕ). n * bound) z ∙ add-mul begun (left + r.rest) bound in
    let y : (left + r.rest) * 1 ≤ (left + r.rest) * bound = mul-le-mul_left (left + r.rest) b in
    absurd (omega (arith, x, y, z, m, k))

pub replay-over : (graph : Graph) → IsGraph graph → HasFewInputs graph → KeepsLawful graph → (scripts : List (List Call)) → AreWithin scripts → (limit : ℕ) (schedule : List ℕ) → is_over (replayed graph scripts limit schedule) ≡ true
replay-over graph g fewi keeps scripts within limit schedule = true_from_ne_false (is_over q) (λ h. go h)
  where
    start : Play
    start = at_start graph scripts limit

    p : Play
    p = take_turns graph start schedule

    q : Play
    q = replayed graph scripts limit schedule

    last : Play
    last = round_from graph 0 q.threads q

    right : PlayRight graph scripts limit p
    right = take_turns-right graph g keeps scripts within limit schedule start (start-right graph g scripts limit)

    right_q : PlayRight graph scripts limit q
    right_q = rounds-right graph g keeps scripts within limit (most_rounds graph scripts) p right

    go : is_over q ≡ false → ⊥
    go h =
        let a = turns-keep graph schedule start in
        let b = rounds-gain graph g keeps scripts within limit (most_rounds graph scripts) p right h in
        let c = round-moves graph g scripts limit q right_q h in
        let right_l = round-right graph g keeps scripts within limit 0 q.threads q right_q in
        let m = history-length graph g fewi keeps (length scripts) limit last.moves right_l.history in
        let n = all-moves last.moves in
        let s = start-left scripts in
        let a1 = a.gain in
        let a2 = a.spent in
        let b1 = b.gain in
        let b2 = b.spent in
        let c1 = c.gain in
        let c2 = c.spent in
        few (sum_by length scripts) (count_begins last.moves) (count_left last.threads) (count_steps last.moves) (140 * length graph.nodes + 200) (omega arith) (omega (arith, a2, b2, c2, s)) (omega (arith, m, n)) (omega (arith, a1, a2, b1, c1, s))
