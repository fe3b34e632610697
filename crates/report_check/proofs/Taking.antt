-- What a pass over the lines of calls keeps.
use Rattle.std.proofs.Common.{◌≡◌, ℕ, ◌+◌, ◌-◌, ◌<◌, ◌≤◌, Bool, true, false, cond, List, [], ◌∷◌, ◌++◌, length, drop, take, set, refl, sym, ap, ◌∙◌, subst, arith, true≢false, length-append, append-nil}
use Rattle.std.specs.Prelude.{◌==◌, ◌^◌, nat_lt, slice_index_or, slice_get, count_by, Some}
use Rattle.std.specs.List.{AllByRecursion}
use Rattle.std.proofs.lemmas.Bool.Decides.{eqb_tells, nat_tests}
use Rattle.std.proofs.lemmas.List.{map-append, get_or-set_other, length-set, take_more, get_or_default}
use Rattle.std.proofs.lemmas.Grind.{get_or-set_at}
use Rattle.std.proofs.lemmas.List.Sums.{sum_by_push, length-filter, count_by-le-length}
use Rattle.std.proofs.lemmas.List.Elements.{filter-append}
use Rattle.std.proofs.lemmas.Option.{get_or_from_slice_get}
use Rattle.script_tree.proofs.Numbers.{equal_to_itself}
use Rattle.script_tree.proofs.Lists.{rest_within, rest_first, rest_behind, no_rest}
use Rattle.signal_graph.specs.declared.call.Call.{Call}
use Rattle.signal_graph.specs.declared.call.Call.TheVariants.{Read}
use Rattle.signal_graph.specs.declared.log.Logged.{Logged}
use Rattle.signal_graph.specs.Graph.{Graph}
use Rattle.signal_graph.specs.Values.{start}
use Rattle.signal_graph.specs.Machine.{looks_of, reply, after}
use Rattle.signal_graph.specs.Legal.{state_after}
use Rattle.signal_graph.proofs.LegalLogs.{state_more}
use Rattle.call_log.specs.Made.{entries_of, versions_in, is_well_named, well_named, script_of}
use Rattle.serial_machine.specs.State.{State, IsAt}
use Rattle.report_text.specs.declared.data.CallLine.{CallLine}
use Rattle.report_check.specs.declared.seat.Seat.{Seat}
use Rattle.report_check.specs.Right.{next_call, entry_of, log_behind, log_of, IsRightCall}
use Rattle.report_check.specs.Standing.{greatest, seat_at, IsSeat, AreSeats, AreMarks, Stands, IsFree, IsNext, HasNoNext}

-- ---- lists

greatest_below : (vs : List ℕ) (v : ℕ) → greatest vs < v → AllByRecursion (λ x. x < v) vs
greatest_below [] v h = tt
greatest_below (x ∷ vs) v h = (omega (arith, h), greatest_below vs v (omega (arith, h)))

below_greatest : (vs : List ℕ) (v : ℕ) → 1 ≤ v → AllByRecursion (λ x. x < v) vs → greatest vs < v
below_greatest [] v low h = omega (arith, low)
below_greatest (x ∷ vs) v low h = let rest = below_greatest vs v low h.1 in omega (arith, rest, h.0)

greatest_more : (vs : List ℕ) (v : ℕ) → greatest vs < v → greatest (vs ++ v ∷ []) ≡ v
greatest_more [] v h = omega arith
greatest_more (x ∷ vs) v h = let rest = greatest_more vs v (omega (arith, h)) in omega (arith, rest, h)

-- ---- logs

apart : (m n : ℕ) → (m ≡ n → ⊥) → (m == n) ≡ false
apart m n other = grind (arith, eqb_tells)

pub entries_own : (caller : ℕ) (log : List Logged) (entry : Logged) → entry.caller ≡ caller → entries_of caller (log ++ entry ∷ []) ≡ entries_of caller log ++ entry ∷ []
entries_own caller log entry e = filter-append (λ (x : Logged). x.caller == caller) log (entry ∷ []) ∙ ap (λ b. entries_of caller log ++ cond b (entry ∷ []) []) (ap (λ c. c == caller) e ∙ equal_to_itself caller)

pub entries_other : (caller : ℕ) (log : List Logged) (entry : Logged) → (entry.caller ≡ caller → ⊥) → entries_of caller (log ++ entry ∷ []) ≡ entries_of caller log
entries_other caller log entry other = filter-append (λ (x : Logged). x.caller == caller) log (entry ∷ []) ∙ ap (λ b. entries_of caller log ++ cond b (entry ∷ []) []) (apart entry.caller caller other) ∙ append-nil (entries_of caller log)

pub count_more : (version : ℕ) (log : List Logged) (entry : Logged) → count_by (λ (x : Logged). x.version == version) (log ++ entry ∷ []) ≡ count_by (λ (x : Logged). x.version == version) log + cond (entry.version == version) 1 0
count_more version log entry = sum_by_push (λ (x : Logged). cond (x.version == version) 1 0) log entry

-- ---- one line more

-- what a seat tells of its thread's next call
record Next (graph : Graph) (scripts : List (List Call)) (log : List Logged) (caller at : ℕ) : Type 0 where
  left : length (entries_of caller log) < length (well_named graph (script_of scripts (caller - 1)))
  is : slice_index_or (script_of scripts (caller - 1)) at (Read []) ≡ next_call graph scripts log caller
  behind : well_named graph (drop (at + 1) (script_of scripts (caller - 1))) ≡ drop (length (entries_of caller log) + 1) (well_named graph (script_of scripts (caller - 1)))

thread_is : (caller : ℕ) → 1 ≤ caller → caller - 1 + 1 ≡ caller
thread_is caller low = omega (arith, low)

seat_of : (graph : Graph) (scripts : List (List Call)) (log : List Logged) (seats : List Seat) (caller : ℕ) → AreSeats graph scripts log seats → 1 ≤ caller → caller ≤ length scripts → IsSeat graph scripts log (caller - 1) (seat_at seats (caller - 1))
seat_of graph scripts log seats caller all low high = all (caller - 1) (omega (arith, low, high))

made_is : (graph : Graph) (scripts : List (List Call)) (log : List Logged) (seats : List Seat) (caller : ℕ) → AreSeats graph scripts log seats → 1 ≤ caller → caller ≤ length scripts → (seat_at seats (caller - 1)).made ≡ length (entries_of caller log)
made_is graph scripts log seats caller all low high = (seat_of graph scripts log seats caller all low high).made ∙ ap (λ c. length (entries_of c log)) (thread_is caller low)

last_is : (graph : Graph) (scripts : List (List Call)) (log : List Logged) (seats : List Seat) (caller : ℕ) → AreSeats graph scripts log seats → 1 ≤ caller → caller ≤ length scripts → (seat_at seats (caller - 1)).last ≡ greatest (versions_in (entries_of caller log))
last_is graph scripts log seats caller all low high = (seat_of graph scripts log seats caller all low high).last ∙ ap (λ c. greatest (versions_in (entries_of c log))) (thread_is caller low)

ahead_is : (graph : Graph) (scripts : List (List Call)) (log : List Logged) (seats : List Seat) (caller : ℕ) → AreSeats graph scripts log seats → 1 ≤ caller → caller ≤ length scripts → well_named graph (drop (seat_at seats (caller - 1)).next (script_of scripts (caller - 1))) ≡ drop (length (entries_of caller log)) (well_named graph (script_of scripts (caller - 1)))
ahead_is graph scripts log seats caller all low high = (seat_of graph scripts log seats caller all low high).ahead ∙ ap (λ n. drop n (well_named graph (script_of scripts (caller - 1)))) (made_is graph scripts log seats caller all low high)

next_is : (graph : Graph) (scripts : List (List Call)) (log : List Logged) (seats : List Seat) (caller at : ℕ) → AreSeats graph scripts log seats → IsNext graph scripts seats caller at → Next graph scripts log caller at
next_is graph scripts log seats caller at all next =
    let named = well_named graph (script_of scripts (caller - 1)) in
    let call = slice_index_or (script_of scripts (caller - 1)) at (Read []) in
    let rest = well_named graph (drop (at + 1) (script_of scripts (caller - 1))) in
    let split : drop (length (entries_of caller log)) named ≡ call ∷ rest = sym (ahead_is graph scripts log seats caller all next.from_one next.thread) ∙ next.rest in
    record {
      left = rest_within named (length (entries_of caller log)) call rest split;
      is = sym (rest_first named (length (entries_of caller log)) call rest (Read []) split);
      behind = sym (rest_behind named (length (entries_of caller log)) call rest split);
    }

-- no line of a caller without a call left is right
pub no_next_is_wrong : (graph : Graph) (scripts : List (List Call)) (made : ℕ) (machine : State) (seats : List Seat) (marks : List Bool) (log : List Logged) (line : CallLine) → Stands graph scripts made machine seats marks log → HasNoNext graph scripts seats line.caller → ¬ IsRightCall graph scripts made log line
no_next_is_wrong graph scripts made machine seats marks log line stands none right =
    let named = well_named graph (script_of scripts (line.caller - 1)) in
    let empty : drop (length (entries_of line.caller log)) named ≡ [] = sym (ahead_is graph scripts log seats line.caller stands.seated right.from_one right.thread) ∙ none right.from_one right.thread in
    let few = no_rest named (length (entries_of line.caller log)) empty in
    let left = right.left in
    omega (arith, few, left)

-- a mark that is not set is that of no entry
no_mark : (n : ℕ) (b : Bool) → b ≡ nat_lt 0 n → b ≡ false → n ≡ 0
no_mark n b e f = let g : nat_lt 0 n ≡ false = sym e ∙ f in grind (arith, nat_tests, g)

no_mark_back : (n : ℕ) (b : Bool) → b ≡ nat_lt 0 n → n ≡ 0 → b ≡ false
no_mark_back n b e f = e ∙ ap (nat_lt 0) f

-- a version is free by seat and marks where it is by the log
pub free_is : (graph : Graph) (scripts : List (List Call)) (made : ℕ) (machine : State) (seats : List Seat) (marks : List Bool) (log : List Logged) (line : CallLine) → Stands graph scripts made machine seats marks log → IsRightCall graph scripts made log line → IsFree made marks (seat_at seats (line.caller - 1)).last line.version
free_is graph scripts made machine seats marks log line stands right = record {
  low = right.low;
  high = right.high;
  once = no_mark_back (count_by (λ (entry : Logged). entry.version == line.version) log) _ (stands.marked line.version within) right.once;
  rises = subst (λ n. n < line.version) (sym (last_is graph scripts log seats line.caller stands.seated right.from_one right.thread)) (below_greatest (versions_in (entries_of line.caller log)) line.version right.low right.rises);
}
  where
    within : line.version < length marks
    within = let size = stands.enough in let high = right.high in omega (arith, size, high)

-- a line is right where its version is free, and names and reply are those of the next call
pub right_is : (graph : Graph) (scripts : List (List Call)) (made : ℕ) (machine : State) (seats : List Seat) (marks : List Bool) (log : List Logged) (line : CallLine) (at : ℕ) (call : Call) → Stands graph scripts made machine seats marks log → IsNext graph scripts seats line.caller at → call ≡ slice_index_or (script_of scripts (line.caller - 1)) at (Read []) → IsFree made marks (seat_at seats (line.caller - 1)).last line.version → line.names ≡ looks_of call → line.reply ≡ reply graph (state_after graph log) call → IsRightCall graph scripts made log line
right_is graph scripts made machine seats marks log line at call stands next e free names replies = record {
  from_one = next.from_one;
  thread = next.thread;
  left = (next_is graph scripts log seats line.caller at stands.seated next).left;
  names = names ∙ ap looks_of is;
  low = free.low;
  high = free.high;
  once = no_mark (count_by (λ (entry : Logged). entry.version == line.version) log) _ (stands.marked line.version within) free.once;
  rises = greatest_below (versions_in (entries_of line.caller log)) line.version (subst (λ n. n < line.version) (last_is graph scripts log seats line.caller stands.seated next.from_one next.thread) free.rises);
  reply = replies ∙ ap (reply graph (state_after graph log)) is;
}
  where
    within : line.version < length marks
    within = let size = stands.enough in let high = free.high in omega (arith, size, high)

    is : call ≡ next_call graph scripts log line.caller
    is = e ∙ (next_is graph scripts log seats line.caller at stands.seated next).is

-- names and reply of a right line are those of the next call
pub answers_are : (graph : Graph) (scripts : List (List Call)) (made : ℕ) (machine : State) (seats : List Seat) (marks : List Bool) (log : List Logged) (line : CallLine) (at : ℕ) (call : Call) → Stands graph scripts made machine seats marks log → IsNext graph scripts seats line.caller at → call ≡ slice_index_or (script_of scripts (line.caller - 1)) at (Read []) → IsRightCall graph scripts made log line → (line.names ≡ looks_of call) × (line.reply ≡ reply graph (state_after graph log) call)
answers_are graph scripts made machine seats marks log line at call stands next e right = (right.names ∙ ap looks_of (sym is), right.reply ∙ ap (reply graph (state_after graph log)) (sym is))
  where
    is : call ≡ next_call graph scripts log line.caller
    is = e ∙ (next_is graph scripts log seats line.caller at stands.seated next).is

-- ---- where the pass stands behind a line

own_seat : (graph : Graph) (scripts : List (List Call)) (log : List Logged) (seats : List Seat) (line : CallLine) (at : ℕ) → AreSeats graph scripts log seats → IsNext graph scripts seats line.caller at → (seat_at seats (line.caller - 1)).last < line.version → IsSeat graph scripts (log ++ entry_of graph scripts log line ∷ []) (line.caller - 1) (record { next = at + 1; made = (seat_at seats (line.caller - 1)).made + 1; last = line.version })
own_seat graph scripts log seats line at all next rises = record {
  made = ap (λ n. n + 1) made ∙ sym (length-append (entries_of line.caller log) (entry ∷ [])) ∙ ap length (sym own) ∙ ap (λ c. length (entries_of c (log ++ entry ∷ []))) (sym thread);
  ahead = (next_is graph scripts log seats line.caller at all next).behind ∙ ap (λ n. drop (n + 1) (well_named graph (script_of scripts (line.caller - 1)))) (sym made);
  last = sym (greatest_more (versions_in (entries_of line.caller log)) line.version below)
      ∙ ap greatest (sym (map-append (λ (x : Logged). x.version) (entries_of line.caller log) (entry ∷ [])) ∙ ap versions_in (sym own))
      ∙ ap (λ c. greatest (versions_in (entries_of c (log ++ entry ∷ [])))) (sym thread);
}
  where
    entry : Logged
    entry = entry_of graph scripts log line

    thread : line.caller - 1 + 1 ≡ line.caller
    thread = thread_is line.caller next.from_one

    made : (seat_at seats (line.caller - 1)).made ≡ length (entries_of line.caller log)
    made = made_is graph scripts log seats line.caller all next.from_one next.thread

    own : entries_of line.caller (log ++ entry ∷ []) ≡ entries_of line.caller log ++ entry ∷ []
    own = entries_own line.caller log entry refl

    below : greatest (versions_in (entries_of line.caller log)) < line.version
    below = subst (λ n. n < line.version) (last_is graph scripts log seats line.caller all next.from_one next.thread) rises

other_seat : (graph : Graph) (scripts : List (List Call)) (log : List Logged) (entry : Logged) (thread : ℕ) (seat : Seat) → (entry.caller ≡ thread + 1 → ⊥) → IsSeat graph scripts log thread seat → IsSeat graph scripts (log ++ entry ∷ []) thread seat
other_seat graph scripts log entry thread seat other is = record {
  made = is.made ∙ ap length (sym (entries_other (thread + 1) log entry other));
  ahead = is.ahead;
  last = is.last ∙ ap (λ es. greatest (versions_in es)) (sym (entries_other (thread + 1) log entry other));
}

seats_more : (graph : Graph) (scripts : List (List Call)) (log : List Logged) (seats : List Seat) (line : CallLine) (at : ℕ) → length seats ≡ length scripts → AreSeats graph scripts log seats → IsNext graph scripts seats line.caller at → (seat_at seats (line.caller - 1)).last < line.version → AreSeats graph scripts (log ++ entry_of graph scripts log line ∷ []) (set seats (line.caller - 1) (record { next = at + 1; made = (seat_at seats (line.caller - 1)).made + 1; last = line.version }))
seats_more graph scripts log seats line at size all next rises thread within = by (thread == (line.caller - 1)) refl
  where
    seat : Seat
    seat = record { next = at + 1; made = (seat_at seats (line.caller - 1)).made + 1; last = line.version }

    zeros : Seat
    zeros = record { next = 0; made = 0; last = 0 }

    entry : Logged
    entry = entry_of graph scripts log line

    by : (b : Bool) → (thread == (line.caller - 1)) ≡ b → IsSeat graph scripts (log ++ entry ∷ []) thread (seat_at (set seats (line.caller - 1) seat) thread)
    by true e =
        let same : thread ≡ line.caller - 1 = grind (arith, eqb_tells, e) in
        let low = next.from_one in
        let high = next.thread in
        let inside : line.caller - 1 < length seats = omega (arith, size, low, high) in
        let here : seat_at (set seats (line.caller - 1) seat) (line.caller - 1) ≡ seat = get_or-set_at seats (line.caller - 1) (line.caller - 1) seat zeros refl inside in
        subst (λ t. IsSeat graph scripts (log ++ entry ∷ []) t (seat_at (set seats (line.caller - 1) seat) t)) (sym same)
        (subst (λ s. IsSeat graph scripts (log ++ entry ∷ []) (line.caller - 1) s) (sym here) (own_seat graph scripts log seats line at all next rises))
    by false e =
        let differ : thread ≡ line.caller - 1 → ⊥ = λ same. true≢false (sym (equal_to_itself (line.caller - 1)) ∙ ap (λ t. t == (line.caller - 1)) (sym same) ∙ e) in
        let low = next.from_one in
        let other : line.caller ≡ thread + 1 → ⊥ = λ is. differ (omega (arith, is, low)) in
        let here : seat_at (set seats (line.caller - 1) seat) thread ≡ seat_at seats thread = get_or-set_other seats (line.caller - 1) thread seat zeros differ in
        subst (λ s. IsSeat graph scripts (log ++ entry ∷ []) thread s) (sym here) (other_seat graph scripts log entry thread (seat_at seats thread) other (all thread within))

marks_more : (log : List Logged) (marks : List Bool) (entry : Logged) → AreMarks log marks → entry.version < length marks → AreMarks (log ++ entry ∷ []) (set marks entry.version true)
marks_more log marks entry all inside version within = by (version == entry.version) refl
  where
    by : (b : Bool) → (version == entry.version) ≡ b → slice_index_or (set marks entry.version true) version true ≡ nat_lt 0 (count_by (λ (x : Logged). x.version == version) (log ++ entry ∷ []))
    by true e =
        let same : version ≡ entry.version = grind (arith, eqb_tells, e) in
        let here : slice_index_or (set marks entry.version true) entry.version true ≡ true = get_or-set_at marks entry.version entry.version true true refl inside in
        let one : ◌≡◌ {A = ℕ} (cond (entry.version == entry.version) 1 0) 1 = ap (λ b. cond b 1 0) (equal_to_itself entry.version) in
        let more = count_more entry.version log entry in
        let some : nat_lt 0 (count_by (λ (x : Logged). x.version == entry.version) (log ++ entry ∷ [])) ≡ true = lt_true _ (omega (arith, more, one)) in
        subst (λ v. slice_index_or (set marks entry.version true) v true ≡ nat_lt 0 (count_by (λ (x : Logged). x.version == v) (log ++ entry ∷ []))) (sym same) (here ∙ sym some)
      where
        lt_true : (n : ℕ) → 0 < n → nat_lt 0 n ≡ true
        lt_true n h = grind (arith, nat_tests, h)
    by false e =
        let differ : version ≡ entry.version → ⊥ = λ same. true≢false (sym (equal_to_itself entry.version) ∙ ap (λ t. t == entry.version) (sym same) ∙ e) in
        let here : slice_index_or (set marks entry.version true) version true ≡ slice_index_or marks version true = get_or-set_other marks entry.version version true true differ in
        let none : ◌≡◌ {A = ℕ} (cond (entry.version == version) 1 0) 0 = ap (λ b. cond b 1 0) (apart entry.version version (λ same. differ (sym same))) in
        let more = count_more version log entry in
        let kept : count_by (λ (x : Logged). x.version == version) (log ++ entry ∷ []) ≡ count_by (λ (x : Logged). x.version == version) log = omega (arith, more, none) in
        here ∙ all version (subst (λ n. version < n) (length-set marks entry.version true) within) ∙ ap (nat_lt 0) (sym kept)

-- behind a right line the pass stands where its log does
pub stands_more : (graph : Graph) (scripts : List (List Call)) (made : ℕ) (machine moved : State) (seats : List Seat) (marks : List Bool) (log : List Logged) (line : CallLine) (at : ℕ) (call : Call) → Stands graph scripts made machine seats marks log → IsNext graph scripts seats line.caller at → call ≡ slice_index_or (script_of scripts (line.caller - 1)) at (Read []) → IsFree made marks (seat_at seats (line.caller - 1)).last line.version → moved.graph ≡ machine.graph → IsAt moved (after graph (state_after graph log) call) → Stands graph scripts made moved (set seats (line.caller - 1) (record { next = at + 1; made = (seat_at seats (line.caller - 1)).made + 1; last = line.version })) (set marks line.version true) (log ++ entry_of graph scripts log line ∷ [])
stands_more graph scripts made machine moved seats marks log line at call stands next e free same there = record {
  graph_is = same ∙ stands.graph_is;
  machine_at = subst (IsAt moved) (ap (after graph (state_after graph log)) is ∙ sym (state_more graph (start graph) log entry)) there;
  as_many = length-set seats (line.caller - 1) _ ∙ stands.as_many;
  seated = seats_more graph scripts log seats line at stands.as_many stands.seated next free.rises;
  enough = length-set marks line.version true ∙ stands.enough;
  marked = marks_more log marks entry stands.marked within;
}
  where
    entry : Logged
    entry = entry_of graph scripts log line

    is : call ≡ next_call graph scripts log line.caller
    is = e ∙ (next_is graph scripts log seats line.caller at stands.seated next).is

    within : line.version < length marks
    within = let size = stands.enough in let high = free.high in omega (arith, size, high)

-- ---- what the code has at hand

pub the_line : (lines : List CallLine) (place : ℕ) (found line : CallLine) → found ≡ slice_index_or lines place found → slice_get lines place ≡ Some line → found ≡ line
the_line lines place found line e h = e ∙ get_or_from_slice_get lines place line found h

pub the_seat : (seats : List Seat) (thread : ℕ) (seat : Seat) → seat ≡ slice_index_or seats thread seat → thread < length seats → seat ≡ seat_at seats thread
the_seat seats thread seat e within = e ∙ get_or_default seats thread seat (record { next = 0; made = 0; last = 0 }) within

pub the_script : (scripts given : List (List Call)) (thread : ℕ) (calls : List Call) → given ≡ scripts → slice_get given thread ≡ Some calls → script_of scripts thread ≡ calls
the_script scripts given thread calls e h = ap (λ s. script_of s thread) (sym e) ∙ get_or_from_slice_get given thread calls [] h

pub the_call : (calls script : List Call) (at : ℕ) (call : Call) → script ≡ calls → slice_get calls at ≡ Some call → call ≡ slice_index_or script at (Read [])
the_call calls script at call e h = sym (get_or_from_slice_get calls at call (Read []) h) ∙ ap (λ cs. slice_index_or cs at (Read [])) (sym e)

-- a thread has made fewer calls than it has
pub made_fits : (graph : Graph) (scripts : List (List Call)) (log : List Logged) (seats : List Seat) (seat : Seat) (caller at : ℕ) → AreSeats graph scripts log seats → IsNext graph scripts seats caller at → seat ≡ seat_at seats (caller - 1) → length (script_of scripts (caller - 1)) < 2 ^ 32 → seat.made + 1 < 2 ^ 32
made_fits graph scripts log seats seat caller at all next e few =
    let script = script_of scripts (caller - 1) in
    let left = (next_is graph scripts log seats caller at all next).left in
    let made = ap (λ (s : Seat). s.made) e ∙ made_is graph scripts log seats caller all next.from_one next.thread in
    let named = length-filter (is_well_named graph) script in
    let most = count_by-le-length (is_well_named graph) script in
    omega (arith, left, made, named, most, few)

behind_append : (graph : Graph) (scripts : List (List Call)) (log : List Logged) (lines : List CallLine) (line : CallLine) → log_behind graph scripts log (lines ++ line ∷ []) ≡ log_behind graph scripts log lines ++ entry_of graph scripts (log_behind graph scripts log lines) line ∷ []
behind_append graph scripts log [] line = refl
behind_append graph scripts log (first ∷ lines) line = behind_append graph scripts (log ++ entry_of graph scripts log first ∷ []) lines line

pub log_more : (graph : Graph) (scripts : List (List Call)) (lines : List CallLine) (place : ℕ) (line : CallLine) → line ≡ slice_index_or lines place line → place < length lines → log_of graph scripts (take (place + 1) lines) ≡ log_of graph scripts (take place lines) ++ entry_of graph scripts (log_of graph scripts (take place lines)) line ∷ []
log_more graph scripts lines place line e within =
    ap (log_of graph scripts) (take_more lines place line within ∙ ap (λ l. take place lines ++ l ∷ []) (sym e))
    ∙ behind_append graph scripts [] (take place lines) line

-- the same, over what the code has
pub stands_further : (graph : Graph) (scripts : List (List Call)) (made : ℕ) (machine moved : State) (seats seats_now : List Seat) (marks marks_now : List Bool) (log grown : List Logged) (line : CallLine) (at : ℕ) (call : Call) (seat : Seat) → Stands graph scripts made machine seats marks log → IsNext graph scripts seats line.caller at → call ≡ slice_index_or (script_of scripts (line.caller - 1)) at (Read []) → seat ≡ seat_at seats (line.caller - 1) → IsFree made marks seat.last line.version → seats_now ≡ seats → marks_now ≡ marks → grown ≡ log ++ entry_of graph scripts log line ∷ [] → moved.graph ≡ machine.graph → IsAt moved (after graph (state_after graph log) call) → Stands graph scripts made moved (set seats_now (line.caller - 1) (record { next = at + 1; made = seat.made + 1; last = line.version })) (set marks_now line.version true) grown
stands_further graph scripts made machine moved seats seats_now marks marks_now log grown line at call seat stands next e seat_is free same_seats same_marks more same there =
    subst (λ g. Stands graph scripts made moved (set seats_now (line.caller - 1) (record { next = at + 1; made = seat.made + 1; last = line.version })) (set marks_now line.version true) g) (sym more)
    (subst (λ m. Stands graph scripts made moved (set seats_now (line.caller - 1) (record { next = at + 1; made = seat.made + 1; last = line.version })) (set m line.version true) (log ++ entry_of graph scripts log line ∷ [])) (sym same_marks)
    (subst (λ s. Stands graph scripts made moved (set s (line.caller - 1) (record { next = at + 1; made = seat.made + 1; last = line.version })) (set marks line.version true) (log ++ entry_of graph scripts log line ∷ [])) (sym same_seats)
    (subst (λ (k : Seat). Stands graph scripts made moved (set seats (line.caller - 1) (record { next = at + 1; made = k.made + 1; last = line.version })) (set marks line.version true) (log ++ entry_of graph scripts log line ∷ [])) (sym seat_is)
    (stands_more graph scripts made machine moved seats marks log line at call stands next e (subst (λ (k : Seat). IsFree made marks k.last line.version) seat_is free) same there))))
