-- What a schedule of turns makes is a history, in which each thread has begun or refused what it has taken of its script.
use Rattle.std.proofs.Common.{◌≡◌, ℕ, zero, suc, ◌<◌, ◌≤◌, Bool, true, false, not, ◌==◌, nat_lt, nat_le, ◌⊎◌, inl, inr, refl, sym, ap, arith, List, [], ◌∷◌, ◌++◌, map, length, ◌∙◌, subst, Option, Some, None, ◌||◌, true≢false}
use Rattle.std.proofs.lemmas.Bool.{and_from, eqb-true, eq-eqb, both_ways, cases_Bool}
use Rattle.std.specs.Prelude.{slice_index_or, is_none}
use Rattle.std.specs.List.{AllByRecursion}
use Rattle.script_tree.specs.declared.limits.TheConstants.{SETS, LOOKS}
use Rattle.signal_graph.specs.declared.call.Call.{Call}
use Rattle.signal_graph.specs.declared.log.Why.{Why}
use Rattle.signal_graph.specs.declared.log.Why.TheVariants.{UnknownName, VersionsUsedUp}
use Rattle.signal_graph.specs.Graph.{Graph, IsGraph}
use Rattle.signal_graph.specs.Machine.{misnamed, sets_of, looks_of}
use Rattle.call_log.specs.Made.{script_of}
use Rattle.flow_model.specs.declared.step.Step.{Step}
use Rattle.flow_model.specs.declared.step.Step.TheVariants as steps
use Rattle.flow_model.specs.declared.step.Turn.{Turn}
use Rattle.flow_model.specs.declared.step.Turn.TheVariants as turn
use Rattle.flow_model.specs.Machine.Lists.{change_at}
use Rattle.flow_model.specs.Machine.State.{Core, live, opening, LiveCall}
use Rattle.flow_model.specs.Machine.Steps.{allowed, can_begin, has_call}
use Rattle.flow_model.specs.Machine.Next.{next, lesser}
use Rattle.flow_model.specs.Machine.Histories.{Move, Begin, Make, may, after_move, after_moves, may_all, state, is_history}
use Rattle.flow_model.specs.Kept.Lawful.{IsLawful}
use Rattle.flow_model.specs.Machine.Schedules.{Thread, Play, no_thread, thread, made, goes_on, refuses, refused_for, begin_or_refuse, begin_next, make_turn, turn_of, version_of, take_turn, take_turns, round_from, rounds, is_over, most_rounds, at_start, replayed}
use Rattle.flow_model.specs.Follows.Callers.{count_begins, IsWithin, AreWithin}
use Rattle.flow_model.proofs.Opening.OpeningIsLawful.{opening-lawful}
use Rattle.flow_model.proofs.Together.WorkIsAllowed.{least-none}
use Rattle.flow_model.proofs.Together.NextIsAllowed.{next-allowed, least-passes}
use Rattle.flow_model.proofs.OneStep.BegunCalls.{calls-distinct}
use Rattle.flow_model.proofs.Histories.Moves.{KeepsLawful, after_parts}
use Rattle.flow_model.proofs.Callers.CallersHaveTheirCalls.{Counts, history-counts, history-begun}
use Rattle.flow_model.proofs.Schedules.ThreadsTakeTheirScripts.{step-calls, begin-other_calls, step-count, begin-count, ThreadRight, thread-kept, thread-begins, thread-refuses}

-- who has no live call has no version
pub idle-version : (k : ℕ) (cs : List LiveCall) → has_call k cs ≡ false → version_of k cs ≡ None
idle-version k [] h = refl
idle-version k (c ∷ cs) h = go (c.caller == k) h (λ r. idle-version k cs r)
  where
    go : (b : Bool) → (b || has_call k cs) ≡ false → (has_call k cs ≡ false → version_of k cs ≡ None)
        → elim b as (λ _. Option ℕ) [ true ↦ Some (lesser c.version (version_of k cs)) | false ↦ version_of k cs ] ≡ None
    go true h r = absurd (true≢false h)
    go false h r = r h

-- ---- lists of threads

changed-same : (i : ℕ) (f : Thread → Thread) (xs : List Thread) → i < length xs → slice_index_or (change_at i f xs) i no_thread ≡ f (slice_index_or xs i no_thread)
changed-same i f [] l = absurd (omega (arith, l))
changed-same zero f (x ∷ xs) l = refl
changed-same (suc i) f (x ∷ xs) l = changed-same i f xs (omega (arith, l))

changed-other : (i j : ℕ) (f : Thread → Thread) (xs : List Thread) → (i ≡ j → ⊥) → slice_index_or (change_at i f xs) j no_thread ≡ slice_index_or xs j no_thread
changed-other i j f [] ne = refl
changed-other zero zero f (x ∷ xs) ne = absurd (ne refl)
changed-other zero (suc j) f (x ∷ xs) ne = refl
changed-other (suc i) zero f (x ∷ xs) ne = refl
changed-other (suc i) (suc j) f (x ∷ xs) ne = changed-other i j f xs (λ e. ne (ap suc e))

changed-length : (i : ℕ) (f : Thread → Thread) (xs : List Thread) → length (change_at i f xs) ≡ length xs
changed-length i f [] = refl
changed-length zero f (x ∷ xs) = refl
changed-length (suc i) f (x ∷ xs) = ap suc (changed-length i f xs)

-- ---- what a play keeps

pub record PlayRight (graph : Graph) (scripts : List (List Call)) (limit : ℕ) (play : Play) : Type 0 where
  pub lawful : IsLawful graph play.core
  pub core : play.core ≡ state graph (length scripts) limit play.moves
  pub history : is_history graph (length scripts) limit play.moves ≡ true
  pub size : length play.threads ≡ length scripts
  pub each : (i : ℕ) → i < length scripts → ThreadRight graph limit (script_of scripts i) i (thread play i) play.moves

pub may_all-more : (graph : Graph) (moves : List Move) (s : Core) (move : Move) → may_all graph s moves ≡ true → may graph (after_moves graph s moves) move ≡ true → may_all graph s (moves ++ move ∷ []) ≡ true
may_all-more graph [] s move h m = one (may graph s move) m
  where
    one : (b : Bool) → b ≡ true → elim b as (λ _. Bool) [ true ↦ true | false ↦ false ] ≡ true
    one true e = refl
    one false e = e
may_all-more graph (x ∷ xs) s move h m = go (may graph s x) h (λ k. may_all-more graph xs (after_move graph s x) move k m)
  where
    go : (b : Bool) → elim b as (λ _. Bool) [ true ↦ may_all graph (after_move graph s x) xs | false ↦ false ] ≡ true → (may_all graph (after_move graph s x) xs ≡ true → may_all graph (after_move graph s x) (xs ++ move ∷ []) ≡ true)
        → elim b as (λ _. Bool) [ true ↦ may_all graph (after_move graph s x) (xs ++ move ∷ []) | false ↦ false ] ≡ true
    go true k further = further k
    go false k further = k

-- a move more, with threads that are right after it
made-right : (graph : Graph) → KeepsLawful graph → (scripts : List (List Call)) (limit : ℕ) (play : Play) → PlayRight graph scripts limit play → (move : Move) → may graph play.core move ≡ true → (threads : List Thread) → length threads ≡ length scripts
    → ((i : ℕ) → i < length scripts → ThreadRight graph limit (script_of scripts i) i (slice_index_or threads i no_thread) (play.moves ++ move ∷ [])) → PlayRight graph scripts limit (record (made graph play move) { threads = threads })
made-right graph keeps scripts limit play p move m threads size each = record {
  lawful = keeps play.core move p.lawful m;
  core = ap (λ (s : Core). after_move graph s move) p.core ∙ sym (after_parts graph play.moves (move ∷ []) (opening graph (length scripts) limit));
  history = may_all-more graph play.moves (opening graph (length scripts) limit) move p.history (subst (λ (s : Core). may graph s move ≡ true) p.core m);
  size = size;
  each = each;
}

step-right : (graph : Graph) → KeepsLawful graph → (scripts : List (List Call)) (limit : ℕ) (play : Play) → PlayRight graph scripts limit play → (step : Step) → allowed graph play.core step ≡ true → PlayRight graph scripts limit (made graph play (Make step))
step-right graph keeps scripts limit play p step a = made-right graph keeps scripts limit play p (Make step) a play.threads p.size (λ i l.
    thread-kept graph limit (script_of scripts i) i (thread play i) play.moves (play.moves ++ Make step ∷ []) (step-calls i play.moves step) (let e = step-count play.moves step in omega (arith, e)) (p.each i l))

-- ---- what a play counts

play-counts : (graph : Graph) (scripts : List (List Call)) (limit : ℕ) (play : Play) → PlayRight graph scripts limit play → Counts graph (opening graph (length scripts) limit) play.moves
play-counts graph scripts limit play p = history-counts graph (length scripts) limit play.moves p.history

play-begun : (graph : Graph) (scripts : List (List Call)) (limit : ℕ) (play : Play) → PlayRight graph scripts limit play → play.core.begun ≡ count_begins play.moves
play-begun graph scripts limit play p = ap (λ (s : Core). s.begun) p.core ∙ history-begun graph (length scripts) limit play.moves p.history

play-limit : (graph : Graph) (scripts : List (List Call)) (limit : ℕ) (play : Play) → PlayRight graph scripts limit play → play.core.limit ≡ limit
play-limit graph scripts limit play p = ap (λ (s : Core). s.limit) p.core ∙ (play-counts graph scripts limit play p).limit

pub play-callers : (graph : Graph) (scripts : List (List Call)) (limit : ℕ) (play : Play) → PlayRight graph scripts limit play → play.core.callers ≡ length scripts
play-callers graph scripts limit play p = ap (λ (s : Core). s.callers) p.core ∙ (play-counts graph scripts limit play p).callers

-- ---- a thread begins its next call, or that is refused

all-mid : (P : Call → Type 0) (xs ys : List Call) (c : Call) → AllByRecursion P (xs ++ c ∷ ys) → P c
all-mid P [] ys c h = h.0
all-mid P (x ∷ xs) ys c h = all-mid P xs ys c h.1

begins-right : (graph : Graph) → KeepsLawful graph → (scripts : List (List Call)) (limit : ℕ) (play : Play) → PlayRight graph scripts limit play → (i : ℕ) → i < length scripts → (c : Call) (rest : List Call) → (thread play i).left ≡ c ∷ rest
    → misnamed graph c ≡ None → count_begins play.moves < limit → can_begin graph play.core (suc i) c ≡ true → PlayRight graph scripts limit (begin_or_refuse graph play i c rest None)
begins-right graph keeps scripts limit play p i l c rest e none few a =
    made-right graph keeps scripts limit play p (Begin (suc i) c) a (change_at i (goes_on rest) play.threads) (changed-length i (goes_on rest) play.threads ∙ p.size) (λ j k. go j k (cases_Bool (suc i == suc j)))
  where
    now : List Move
    now = play.moves ++ Begin (suc i) c ∷ []

    same : (a b : ℕ) → suc a ≡ suc b → a ≡ b
    same a b e = omega (arith, e)

    go : (j : ℕ) → j < length scripts → ((suc i == suc j) ≡ true) ⊎ ((suc i == suc j) ≡ false) → ThreadRight graph limit (script_of scripts j) j (slice_index_or (change_at i (goes_on rest) play.threads) j no_thread) now
    go j k (inr ne) = subst (λ (x : Thread). ThreadRight graph limit (script_of scripts j) j x now) (sym (changed-other i j (goes_on rest) play.threads (λ q. both_ways _ ne (eq-eqb (suc i) (suc j) (ap suc q)))))
        (thread-kept graph limit (script_of scripts j) j (thread play j) play.moves now (begin-other_calls i j play.moves c ne) (let q = begin-count play.moves (suc i) c in omega (arith, q)) (p.each j k))
    go j k (inl q) = subst (λ (n : ℕ). ThreadRight graph limit (script_of scripts n) n (slice_index_or (change_at i (goes_on rest) play.threads) n no_thread) now) (same i j (eqb-true (suc i) (suc j) q))
        (subst (λ (x : Thread). ThreadRight graph limit (script_of scripts i) i x now) (sym (changed-same i (goes_on rest) play.threads (let z = p.size in omega (arith, z, l))))
        (thread-begins graph limit (script_of scripts i) i (thread play i) play.moves c rest e none few (p.each i l)))

refuses-right : (graph : Graph) (scripts : List (List Call)) (limit : ℕ) (play : Play) → PlayRight graph scripts limit play → (i : ℕ) → i < length scripts → (c : Call) (rest : List Call) → (thread play i).left ≡ c ∷ rest → (why : Why)
    → ((place : ℕ) → misnamed graph c ≡ Some place → why ≡ UnknownName place) → (misnamed graph c ≡ None → (why ≡ VersionsUsedUp limit) × (limit ≤ count_begins play.moves)) → PlayRight graph scripts limit (begin_or_refuse graph play i c rest (Some why))
refuses-right graph scripts limit play p i l c rest e why unknown used = record {
  lawful = p.lawful;
  core = p.core;
  history = p.history;
  size = changed-length i (refuses (suc i) why rest) play.threads ∙ p.size;
  each = λ j k. go j k (cases_Bool (i == j));
}
  where
    go : (j : ℕ) → j < length scripts → ((i == j) ≡ true) ⊎ ((i == j) ≡ false) → ThreadRight graph limit (script_of scripts j) j (slice_index_or (change_at i (refuses (suc i) why rest) play.threads) j no_thread) play.moves
    go j k (inr ne) = subst (λ (x : Thread). ThreadRight graph limit (script_of scripts j) j x play.moves) (sym (changed-other i j (refuses (suc i) why rest) play.threads (λ q. both_ways _ ne (eq-eqb i j q)))) (p.each j k)
    go j k (inl q) = subst (λ (n : ℕ). ThreadRight graph limit (script_of scripts n) n (slice_index_or (change_at i (refuses (suc i) why rest) play.threads) n no_thread) play.moves) (eqb-true i j q)
        (subst (λ (x : Thread). ThreadRight graph limit (script_of scripts i) i x play.moves) (sym (changed-same i (refuses (suc i) why rest) play.threads (let z = p.size in omega (arith, z, l))))
        (thread-refuses graph limit (script_of scripts i) i (thread play i) play.moves c rest why e unknown used (p.each i l)))

begin_or_refuse-right : (graph : Graph) → KeepsLawful graph → (scripts : List (List Call)) → AreWithin scripts → (limit : ℕ) (play : Play) → PlayRight graph scripts limit play → (i : ℕ) → i < length scripts → (c : Call) (rest : List Call) → (thread play i).left ≡ c ∷ rest
    → has_call (suc i) play.core.calls ≡ false → PlayRight graph scripts limit (begin_or_refuse graph play i c rest (refused_for play.core.begun play.core.limit (misnamed graph c)))
begin_or_refuse-right graph keeps scripts within limit play p i l c rest e free = go (misnamed graph c) refl
  where
    is_within : IsWithin c
    is_within = let r = p.each i l in all-mid IsWithin r.taken rest c (subst (AllByRecursion IsWithin) (r.split ∙ ap (λ (cs : List Call). r.taken ++ cs) e) (within i))

    at_most : (a b : ℕ) → a ≤ b → nat_le a b ≡ true
    at_most a b h = grind arith

    less : (a b : ℕ) → nat_lt a b ≡ true → a < b
    less a b h = grind arith

    not_less : (a b : ℕ) → nat_lt a b ≡ false → b ≤ a
    not_less a b h = grind arith

    begun : play.core.begun ≡ count_begins play.moves
    begun = play-begun graph scripts limit play p

    top : play.core.limit ≡ limit
    top = play-limit graph scripts limit play p

    can : misnamed graph c ≡ None → nat_lt play.core.begun play.core.limit ≡ true → can_begin graph play.core (suc i) c ≡ true
    can m b = and_from _ _ (and_from _ _ (and_from _ _ (and_from _ _ (and_from _ _ (and_from _ _ (at_most 1 (suc i) (omega arith)) (at_most (suc i) play.core.callers (let k = play-callers graph scripts limit play p in omega (arith, k, l)))) (ap not free)) (at_most (length (sets_of c)) SETS is_within.0)) (at_most (length (looks_of c)) LOOKS is_within.1)) (ap (λ (o : Option ℕ). is_none o) m)) b

    named : misnamed graph c ≡ None → (b : Bool) → nat_lt play.core.begun play.core.limit ≡ b → PlayRight graph scripts limit (begin_or_refuse graph play i c rest (elim b as (λ _. Option Why) [ true ↦ None | false ↦ Some (VersionsUsedUp play.core.limit) ]))
    named m true b = begins-right graph keeps scripts limit play p i l c rest e m (let q = less play.core.begun play.core.limit b in omega (arith, q, begun, top)) (can m b)
    named m false b = refuses-right graph scripts limit play p i l c rest e (VersionsUsedUp play.core.limit) (λ place k. differ m k) (λ k. (ap VersionsUsedUp top, let q = not_less play.core.begun play.core.limit b in omega (arith, q, begun, top)))
      where
        differ : {A : Type 0} {place : ℕ} → misnamed graph c ≡ None → misnamed graph c ≡ Some place → A
        differ x y = cc

    go : (o : Option ℕ) → misnamed graph c ≡ o → PlayRight graph scripts limit (begin_or_refuse graph play i c rest (refused_for play.core.begun play.core.limit o))
    go None m = named m (nat_lt play.core.begun play.core.limit) refl
    go (Some place) m = refuses-right graph scripts limit play p i l c rest e (UnknownName place) (λ place2 k. ap UnknownName (one (sym m ∙ k))) (λ k. differ m k)
      where
        one : {a b : ℕ} → Some a ≡ Some b → a ≡ b
        one x = cc

        differ : {A : Type 0} → misnamed graph c ≡ Some place → misnamed graph c ≡ None → A
        differ x y = cc

-- ---- turns

next_call-right : (graph : Graph) → KeepsLawful graph → (scripts : List (List Call)) → AreWithin scripts → (limit : ℕ) (play : Play) → PlayRight graph scripts limit play → (i : ℕ) → has_call (suc i) play.core.calls ≡ false → (left : List Call) → (thread play i).left ≡ left → PlayRight graph scripts limit (begin_next graph play i left)
next_call-right graph keeps scripts within limit play p i free [] e = p
next_call-right graph keeps scripts within limit play p i free (c ∷ rest) e = begin_or_refuse-right graph keeps scripts within limit play p i there c rest e free
  where
    past : (xs : List Thread) (n : ℕ) → length xs ≤ n → slice_index_or xs n no_thread ≡ no_thread
    past [] n h = refl
    past (x ∷ xs) zero h = absurd (omega (arith, h))
    past (x ∷ xs) (suc n) h = past xs n (omega (arith, h))

    below : (a b : ℕ) → (b ≤ a → ⊥) → a < b
    below a b ne = grind (arith, ne)

    there : i < length scripts
    there = below i (length scripts) (λ h. none (past play.threads i (let z = p.size in omega (arith, z, h))))
      where
        none : thread play i ≡ no_thread → ⊥
        none q = differ (sym (ap (λ (x : Thread). x.left) q) ∙ e)
          where
            differ : [] ≡ c ∷ rest → ⊥
            differ x = cc

turn-right : (graph : Graph) → IsGraph graph → KeepsLawful graph → (scripts : List (List Call)) (limit : ℕ) (play : Play) → PlayRight graph scripts limit play → (t : ℕ) → live play.core t ≡ true → (u : Turn) → next graph play.core t ≡ u → PlayRight graph scripts limit (make_turn graph play t u)
turn-right graph g keeps scripts limit play p t l (turn.Step step) e = step-right graph keeps scripts limit play p step (next-allowed graph g play.core p.lawful t l step e)
turn-right graph g keeps scripts limit play p t l (turn.NotYet cause) e = p
turn-right graph g keeps scripts limit play p t l turn.Ready e = go (allowed graph play.core (steps.End t)) refl
  where
    go : (b : Bool) → allowed graph play.core (steps.End t) ≡ b → PlayRight graph scripts limit (elim b as (λ _. Play) [ true ↦ made graph play (Make (steps.End t)) | false ↦ play ])
    go true a = step-right graph keeps scripts limit play p (steps.End t) a
    go false a = p

take_turn-right : (graph : Graph) → IsGraph graph → KeepsLawful graph → (scripts : List (List Call)) → AreWithin scripts → (limit : ℕ) (play : Play) → PlayRight graph scripts limit play → (i : ℕ) → PlayRight graph scripts limit (take_turn graph play i)
take_turn-right graph g keeps scripts within limit play p i = go (version_of (suc i) play.core.calls) refl
  where
    go : (o : Option ℕ) → version_of (suc i) play.core.calls ≡ o → PlayRight graph scripts limit (turn_of graph play i o)
    go None e = next_call-right graph keeps scripts within limit play p i (least-none (λ c. c.caller == suc i) play.core.calls e) (thread play i).left refl
    go (Some t) e = turn-right graph g keeps scripts limit play p t (least-passes (λ c. c.caller == suc i) play.core.calls t (calls-distinct play.core p.lawful.versions_are_fresh) e).known (next graph play.core t) refl

pub take_turns-right : (graph : Graph) → IsGraph graph → KeepsLawful graph → (scripts : List (List Call)) → AreWithin scripts → (limit : ℕ) (schedule : List ℕ) (play : Play) → PlayRight graph scripts limit play → PlayRight graph scripts limit (take_turns graph play schedule)
take_turns-right graph g keeps scripts within limit [] play p = p
take_turns-right graph g keeps scripts within limit (zero ∷ schedule) play p = take_turns-right graph g keeps scripts within limit schedule play p
take_turns-right graph g keeps scripts within limit (suc i ∷ schedule) play p = take_turns-right graph g keeps scripts within limit schedule (take_turn graph play i) (take_turn-right graph g keeps scripts within limit play p i)

pub round-right : (graph : Graph) → IsGraph graph → KeepsLawful graph → (scripts : List (List Call)) → AreWithin scripts → (limit i : ℕ) (xs : List Thread) (play : Play) → PlayRight graph scripts limit play → PlayRight graph scripts limit (round_from graph i xs play)
round-right graph g keeps scripts within limit i [] play p = p
round-right graph g keeps scripts within limit i (x ∷ xs) play p = round-right graph g keeps scripts within limit (suc i) xs (take_turn graph play i) (take_turn-right graph g keeps scripts within limit play p i)

pub rounds-right : (graph : Graph) → IsGraph graph → KeepsLawful graph → (scripts : List (List Call)) → AreWithin scripts → (limit more : ℕ) (play : Play) → PlayRight graph scripts limit play → PlayRight graph scripts limit (rounds more graph play)
rounds-right graph g keeps scripts within limit zero play p = p
rounds-right graph g keeps scripts within limit (suc more) play p = go (is_over play) (rounds-right graph g keeps scripts within limit more (round_from graph 0 play.threads play) (round-right graph g keeps scripts within limit 0 play.threads play p))
  where
    go : (b : Bool) → PlayRight graph scripts limit (rounds more graph (round_from graph 0 play.threads play)) → PlayRight graph scripts limit (elim b as (λ _. Play) [ true ↦ play | false ↦ rounds more graph (round_from graph 0 play.threads play) ])
    go true r = p
    go false r = r

abbrev pub new_thread : List Call → Thread
new_thread calls = record { left = calls; number = 1; refused = [] }

pub start-right : (graph : Graph) → IsGraph graph → (scripts : List (List Call)) (limit : ℕ) → PlayRight graph scripts limit (at_start graph scripts limit)
start-right graph g scripts limit = record {
  lawful = opening-lawful graph g (length scripts) limit;
  core = refl;
  history = refl;
  size = sized scripts;
  each = λ i l. each scripts i i l;
}
  where
    sized : (xs : List (List Call)) → length (map new_thread xs) ≡ length xs
    sized [] = refl
    sized (x ∷ xs) = ap suc (sized xs)

    each : (xs : List (List Call)) (i k : ℕ) → i < length xs → ThreadRight graph limit (script_of xs i) k (slice_index_or (map new_thread xs) i no_thread) []
    each [] i k l = absurd (omega (arith, l))
    each (x ∷ xs) zero k l = record { taken = []; split = refl; number = refl; begun = inl refl; refused = refl }
    each (x ∷ xs) (suc i) k l = each xs i k (omega (arith, l))

pub replay-right : (graph : Graph) → IsGraph graph → KeepsLawful graph → (scripts : List (List Call)) → AreWithin scripts → (limit : ℕ) (schedule : List ℕ) → PlayRight graph scripts limit (replayed graph scripts limit schedule)
replay-right graph g keeps scripts within limit schedule =
    rounds-right graph g keeps scripts within limit (most_rounds graph scripts) (take_turns graph (at_start graph scripts limit) schedule) (take_turns-right graph g keeps scripts within limit schedule (at_start graph scripts limit) (start-right graph g scripts limit))
