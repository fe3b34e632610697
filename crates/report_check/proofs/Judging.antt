-- Which line is the first wrong one, from where lines of calls stop and where the lines behind them differ.
use Rattle.std.proofs.Common.{◌≡◌, ◌≢◌, ℕ, zero, suc, ◌+◌, ◌-◌, ◌<◌, ◌≤◌, Bool, true, false, List, [], ◌∷◌, ◌++◌, length, take, map, refl, sym, ap, ◌∙◌, subst, arith, length-append}
use Rattle.std.specs.Prelude.{slice_get, nat_lt, Option, Some, None}
use Rattle.std.proofs.lemmas.Bool.Decides.{nat_tests}
use Rattle.std.specs.List.{zip}
use Rattle.std.specs.Option.{option_map}
use Rattle.std.proofs.lemmas.List.{take_all, length-map}
use Rattle.std.proofs.lemmas.Option.{same_Some, slice_get_within, slice_get-map}
use Rattle.script_tree.specs.declared.value.Value.{Value}
use Rattle.script_tree.proofs.Lists.{same_first, same_rest}
use Rattle.signal_graph.specs.declared.call.Call.{Call}
use Rattle.signal_graph.specs.declared.log.Logged.{Logged}
use Rattle.signal_graph.specs.declared.log.Refused.{Refused}
use Rattle.signal_graph.specs.Graph.{Graph}
use Rattle.signal_graph.specs.Values.{Values, values}
use Rattle.signal_graph.specs.Legal.{state_after, finals}
use Rattle.call_log.specs.LeftOut.{left_out}
use Rattle.serial_machine.specs.State.{State, IsAt}
use Rattle.report_text.specs.declared.data.CallLine.{CallLine}
use Rattle.report_text.specs.declared.data.Report.{Report}
use Rattle.report_check.specs.declared.seat.Seat.{Seat}
use Rattle.report_check.specs.Standing.{AreSeats}
use Rattle.report_check.specs.Lines.{ReportLine, OfCall, OfRefusal, OfFinal, OfDone, lines_behind, lines_of}
use Rattle.report_check.specs.Right.{count_made, log_of, IsRightCall, IsRightCallLine, lines_due, IsRight, AreRightBefore, AreRight, IsFirstWrong}
use Rattle.report_check.specs.Differing.{DifferFirst}
use Rattle.report_check.specs.Stopping.{AreRightCalls, StopsAt, IsThrough}

-- ---- places of lists

pub get_left : {X : Type 0} (xs ys : List X) (n : ℕ) → n < length xs → slice_get (xs ++ ys) n ≡ slice_get xs n
get_left [] ys n h = absurd (omega arith)
get_left (x ∷ xs) ys zero h = refl
get_left (x ∷ xs) ys (suc n) h = get_left xs ys n (omega (arith, h))

pub get_right : {X : Type 0} (xs ys : List X) (m n : ℕ) → m ≡ length xs + n → slice_get (xs ++ ys) m ≡ slice_get ys n
get_right [] ys m n h = let e : m ≡ n = omega (arith, h) in ap (slice_get ys) e
get_right (x ∷ xs) ys zero n h = absurd (omega (arith, h))
get_right (x ∷ xs) ys (suc m) n h = get_right xs ys m n (omega (arith, h))

-- an element there is
pub record There {X : Type 0} (xs : List X) (n : ℕ) : Type 0 where
  pub item : X
  pub is : slice_get xs n ≡ Some item

pub there : {X : Type 0} (xs : List X) (n : ℕ) → n < length xs → There xs n
there [] n h = absurd (omega arith)
there (x ∷ xs) zero h = record { item = x; is = refl }
there (x ∷ xs) (suc n) h = let r = there xs n (omega (arith, h)) in record { item = r.item; is = r.is }

none_beyond : {X : Type 0} (xs : List X) (n : ℕ) → slice_get xs n ≡ None → length xs ≤ n
none_beyond [] n h = omega arith
none_beyond (x ∷ xs) zero h = absurd (cc)
none_beyond (x ∷ xs) (suc n) h = let r = none_beyond xs n h in omega (arith, r)

get_taken : {X : Type 0} (xs : List X) (p n : ℕ) → n < p → slice_get (take p xs) n ≡ slice_get xs n
get_taken [] zero n h = absurd (omega (arith, h))
get_taken [] (suc p) n h = refl
get_taken (x ∷ xs) zero n h = absurd (omega (arith, h))
get_taken (x ∷ xs) (suc p) zero h = refl
get_taken (x ∷ xs) (suc p) (suc n) h = get_taken xs p n (omega (arith, h))

-- ---- lists that differ, as lines

differ_in : {X : Type 0} (f : X → ReportLine) → ((x y : X) → f x ≡ f y → x ≡ y) → (due given : List X) (behind_due behind_given : List ReportLine)
    → ((x : X) → slice_get behind_due 0 ≢ Some (f x)) → ((x : X) → slice_get behind_given 0 ≢ Some (f x)) → (place : ℕ)
    → DifferFirst due given place → DifferFirst (map f due ++ behind_due) (map f given ++ behind_given) place
differ_in f inj [] [] d e not_d not_e place h = absurd (h.there refl)
differ_in f inj [] (y ∷ ys) d e not_d not_e zero h = record { in_due = omega arith; in_given = omega arith; before = refl; there = λ k. not_d y k }
differ_in f inj [] (y ∷ ys) d e not_d not_e (suc place) h = let low = h.in_due in absurd (omega (arith, low))
differ_in f inj (x ∷ xs) [] d e not_d not_e zero h = record { in_due = omega arith; in_given = omega arith; before = refl; there = λ k. not_e x (sym k) }
differ_in f inj (x ∷ xs) [] d e not_d not_e (suc place) h = let low = h.in_given in absurd (omega (arith, low))
differ_in f inj (x ∷ xs) (y ∷ ys) d e not_d not_e zero h = record { in_due = omega arith; in_given = omega arith; before = refl; there = λ k. h.there (ap (λ z. Some z) (inj x y (same_Some (f x) (f y) k))) }
differ_in f inj (x ∷ xs) (y ∷ ys) d e not_d not_e (suc place) h =
    let low = h.in_due in
    let high = h.in_given in
    let same : x ≡ y = same_first x y (take place xs) (take place ys) h.before in
    let rest = differ_in f inj xs ys d e not_d not_e place (record { in_due = omega (arith, low); in_given = omega (arith, high); before = same_rest x y (take place xs) (take place ys) h.before; there = h.there }) in
    let more = rest.in_due in
    let most = rest.in_given in
    record { in_due = omega (arith, more); in_given = omega (arith, most); before = ap (λ zs. f x ∷ zs) rest.before ∙ ap (λ z. f z ∷ take place (map f ys ++ e)) same; there = rest.there }

differ_behind : (front due given : List ReportLine) (place : ℕ) → DifferFirst due given place → (at : ℕ) → at ≡ length front + place → DifferFirst (front ++ due) (front ++ given) at
differ_behind [] due given place h at e = let same : place ≡ at = omega (arith, e) in subst (DifferFirst due given) same h
differ_behind (x ∷ front) due given place h zero e = absurd (omega (arith, e))
differ_behind (x ∷ front) due given place h (suc at) e =
    let rest = differ_behind front due given place h at (omega (arith, e)) in
    let more = rest.in_due in
    let most = rest.in_given in
    record { in_due = omega (arith, more); in_given = omega (arith, most); before = ap (λ zs. x ∷ zs) rest.before; there = rest.there }

abbrev pub refusal_or : ReportLine → Refused → Refused
refusal_or (OfRefusal refused) d = refused
refusal_or line d = d

abbrev pub last_or : ReportLine → List ℕ × Value → List ℕ × Value
last_or (OfFinal last) d = last
last_or line d = d

abbrev pub accepted_or : ReportLine → ℕ → ℕ
accepted_or (OfDone accepted refusals) d = accepted
accepted_or line d = d

abbrev pub refusals_or : ReportLine → ℕ → ℕ
refusals_or (OfDone accepted refusals) d = refusals
refusals_or line d = d

pub no_refusal_first : (last : List (List ℕ × Value)) (accepted refusals : ℕ) (refused : Refused) → slice_get (map OfFinal last ++ OfDone accepted refusals ∷ []) 0 ≢ Some (OfRefusal refused)
no_refusal_first [] accepted refusals refused e = absurd (cc)
no_refusal_first (x ∷ last) accepted refusals refused e = absurd (cc)

pub no_final_first : (accepted refusals : ℕ) (last : List ℕ × Value) → slice_get (OfDone accepted refusals ∷ []) 0 ≢ Some (OfFinal last)
no_final_first accepted refusals last e = absurd (cc)

pub no_call_first : (refused : List Refused) (last : List (List ℕ × Value)) (accepted refusals : ℕ) (line : CallLine) → slice_get (lines_behind refused last accepted refusals) 0 ≢ Some (OfCall line)
no_call_first [] [] accepted refusals line e = absurd (cc)
no_call_first [] (x ∷ last) accepted refusals line e = absurd (cc)
no_call_first (x ∷ refused) last accepted refusals line e = absurd (cc)

-- where refusals differ
pub refused_differ : (due given : List Refused) (last_due last_given : List (List ℕ × Value)) (a b c d : ℕ) (place : ℕ) → DifferFirst due given place → DifferFirst (lines_behind due last_due a b) (lines_behind given last_given c d) place
refused_differ due given last_due last_given a b c d place h =
    differ_in OfRefusal (λ x y e. ap (λ l. refusal_or l x) e) due given (map OfFinal last_due ++ OfDone a b ∷ []) (map OfFinal last_given ++ OfDone c d ∷ [])
    (no_refusal_first last_due a b) (no_refusal_first last_given c d) place h

-- where last values differ, behind the same refusals
pub finals_differ : (due given : List Refused) (last_due last_given : List (List ℕ × Value)) (a b c d : ℕ) (place : ℕ) → due ≡ given → DifferFirst last_due last_given place → DifferFirst (lines_behind due last_due a b) (lines_behind given last_given c d) (length given + place)
finals_differ due given last_due last_given a b c d place same h =
    let size = length-map given OfRefusal in
    subst (λ r. DifferFirst (lines_behind r last_due a b) (lines_behind given last_given c d) (length given + place)) (sym same)
    (differ_behind (map OfRefusal given) (map OfFinal last_due ++ OfDone a b ∷ []) (map OfFinal last_given ++ OfDone c d ∷ []) place
    (differ_in OfFinal (λ x y e. ap (λ l. last_or l x) e) last_due last_given (OfDone a b ∷ []) (OfDone c d ∷ []) (no_final_first a b) (no_final_first c d) place h)
    (length given + place) (omega (arith, size)))

-- where the counts differ, behind the same refusals and last values
pub counts_differ : (due given : List Refused) (last_due last_given : List (List ℕ × Value)) (a b c d : ℕ) → due ≡ given → last_due ≡ last_given → ((a ≡ c) × (b ≡ d) → ⊥) → DifferFirst (lines_behind due last_due a b) (lines_behind given last_given c d) (length given + length last_given)
counts_differ due given last_due last_given a b c d same same_last other =
    let size = length-map given OfRefusal in
    let size_last = length-map last_given OfFinal in
    subst (λ r. DifferFirst (lines_behind r last_due a b) (lines_behind given last_given c d) (length given + length last_given)) (sym same)
    (subst (λ l. DifferFirst (lines_behind given l a b) (lines_behind given last_given c d) (length given + length last_given)) (sym same_last)
    (differ_behind (map OfRefusal given) (map OfFinal last_given ++ OfDone a b ∷ []) (map OfFinal last_given ++ OfDone c d ∷ []) (length last_given)
    (differ_behind (map OfFinal last_given) (OfDone a b ∷ []) (OfDone c d ∷ []) 0
    (record { in_due = omega arith; in_given = omega arith; before = refl; there = λ e. other (ap (λ l. accepted_or l a) (same_Some (OfDone a b) (OfDone c d) e), ap (λ l. refusals_or l b) (same_Some (OfDone a b) (OfDone c d) e)) })
    (length last_given) (omega (arith, size_last)))
    (length given + length last_given) (omega (arith, size))))

-- ---- lines of calls

call_there : (report : Report) (place : ℕ) (call : CallLine) (line : ReportLine) → slice_get report.calls place ≡ Some call → slice_get (lines_of report) place ≡ Some line → line ≡ OfCall call
call_there report place call line h e =
    let inside = slice_get_within report.calls place call h in
    let size = length-map report.calls OfCall in
    same_Some line (OfCall call) (sym e ∙ get_left (map OfCall report.calls) (lines_behind report.refused report.finals report.accepted report.refusals) place (omega (arith, size, inside)) ∙ slice_get-map OfCall report.calls place ∙ ap (option_map OfCall) h)

pub behind_there : (report : Report) (place at : ℕ) → at ≡ length report.calls + place → slice_get (lines_of report) at ≡ slice_get (lines_behind report.refused report.finals report.accepted report.refusals) place
behind_there report place at e =
    let size = length-map report.calls OfCall in
    get_right (map OfCall report.calls) (lines_behind report.refused report.finals report.accepted report.refusals) at place (omega (arith, e, size))

pub call_at : (report : Report) (place : ℕ) (call : CallLine) → slice_get report.calls place ≡ Some call → slice_get (lines_of report) place ≡ Some (OfCall call)
call_at report place call h =
    let inside = slice_get_within report.calls place call h in
    let size = length-map report.calls OfCall in
    get_left (map OfCall report.calls) (lines_behind report.refused report.finals report.accepted report.refusals) place (omega (arith, size, inside)) ∙ slice_get-map OfCall report.calls place ∙ ap (option_map OfCall) h

-- lines of calls that are right are right lines
calls_right : (graph : Graph) (scripts : List (List Call)) (limit : ℕ) (report : Report) (end : ℕ) → end ≤ count_made graph scripts limit → end ≤ length report.calls → AreRightCalls graph scripts (count_made graph scripts limit) report.calls end → AreRightBefore graph scripts limit report end
calls_right graph scripts limit report end below inside right place line before is =
    let found = there report.calls place (omega (arith, before, inside)) in
    let call = found.item in
    record {
      made = λ h. subst (IsRightCallLine graph scripts (count_made graph scripts limit) (log_of graph scripts (take place report.calls))) (sym (call_there report place call line found.is is)) (right place call before found.is);
      due = λ h. absurd (omega (arith, before, below, h));
    }

pub not_call : (graph : Graph) (scripts : List (List Call)) (made : ℕ) (log : List Logged) (refused : List Refused) (last : List (List ℕ × Value)) (accepted refusals : ℕ) (line : ReportLine) → slice_get (lines_behind refused last accepted refusals) 0 ≡ Some line → ¬ IsRightCallLine graph scripts made log line
not_call graph scripts made log refused last accepted refusals (OfCall line) e right = no_call_first refused last accepted refusals line e
not_call graph scripts made log refused last accepted refusals (OfRefusal line) e right = right
not_call graph scripts made log refused last accepted refusals (OfFinal line) e right = right
not_call graph scripts made log refused last accepted refusals (OfDone a b) e right = right

pub behind_some : (refused : List Refused) (last : List (List ℕ × Value)) (accepted refusals : ℕ) → 0 < length (lines_behind refused last accepted refusals)
behind_some [] [] accepted refusals = omega arith
behind_some [] (x ∷ last) accepted refusals = omega arith
behind_some (x ∷ refused) last accepted refusals = omega arith

-- where lines of calls stop, the line is the first wrong one
pub stops_there : (graph : Graph) (scripts : List (List Call)) (limit : ℕ) (report : Report) (place : ℕ) → StopsAt graph scripts (count_made graph scripts limit) report.calls place → IsFirstWrong graph scripts limit report (place + 1)
stops_there graph scripts limit report place stops = by (slice_get report.calls place) refl
  where
    below : place < count_made graph scripts limit
    below = stops.below

    before : AreRightBefore graph scripts limit report place
    before = let low = stops.below in calls_right graph scripts limit report place (omega (arith, low)) stops.within stops.before

    by : (o : Option CallLine) → slice_get report.calls place ≡ o → IsFirstWrong graph scripts limit report (place + 1)
    by (Some call) e =
        let inside = slice_get_within report.calls place call e in
        let size = length-map report.calls OfCall in
        let is = get_left (map OfCall report.calls) (lines_behind report.refused report.finals report.accepted report.refusals) place (omega (arith, size, inside)) ∙ slice_get-map OfCall report.calls place ∙ ap (option_map OfCall) e in
        record { place = place; line = OfCall call; number = refl; there = is; before = before; wrong = λ right. stops.wrong call e (right.made below) }
    by None e =
        let beyond : length report.calls ≤ place = none_beyond report.calls place e in
        let most = stops.within in
        let at : place ≡ length report.calls + 0 = omega (arith, beyond, most) in
        let first = there (lines_behind report.refused report.finals report.accepted report.refusals) 0 (behind_some report.refused report.finals report.accepted report.refusals) in
        record {
          place = place;
          line = first.item;
          number = refl;
          there = behind_there report 0 place at ∙ first.is;
          before = before;
          wrong = λ right. not_call graph scripts (count_made graph scripts limit) (log_of graph scripts (take place report.calls)) report.refused report.finals report.accepted report.refusals first.item first.is (right.made below);
        }

-- a line of a call behind as many as are made is the first wrong line
pub one_too_many : (graph : Graph) (scripts : List (List Call)) (limit : ℕ) (report : Report) → IsThrough graph scripts (count_made graph scripts limit) report.calls → count_made graph scripts limit < length report.calls → IsFirstWrong graph scripts limit report (count_made graph scripts limit + 1)
one_too_many graph scripts limit report through more =
    let made = count_made graph scripts limit in
    let found = there report.calls made more in
    let size = length-map report.calls OfCall in
    let log = log_of graph scripts (take made report.calls) in
    let refused = left_out graph limit log scripts in
    record {
      place = made;
      line = OfCall found.item;
      number = refl;
      there = get_left (map OfCall report.calls) (lines_behind report.refused report.finals report.accepted report.refusals) made (omega (arith, size, more)) ∙ slice_get-map OfCall report.calls made ∙ ap (option_map OfCall) found.is;
      before = calls_right graph scripts limit report made (omega arith) through.enough through.each;
      wrong = λ right. no_call_first refused (zip graph.names (finals graph log)) made (length refused) found.item (ap (slice_get (lines_due graph scripts limit log)) (minus made) ∙ right.due (omega arith));
    }
  where
    minus : (n : ℕ) → 0 ≡ n - n
    minus n = omega arith

-- ---- the lines behind those of calls

-- behind all right lines of calls, lines that are due are right
behind_right : (graph : Graph) (scripts : List (List Call)) (limit : ℕ) (report : Report) (end : ℕ) → IsThrough graph scripts (count_made graph scripts limit) report.calls → length report.calls ≡ count_made graph scripts limit
    → ((n : ℕ) → n < end → slice_get (lines_due graph scripts limit (log_of graph scripts (take (count_made graph scripts limit) report.calls))) n ≡ slice_get (lines_behind report.refused report.finals report.accepted report.refusals) n)
    → AreRightBefore graph scripts limit report (count_made graph scripts limit + end)
behind_right graph scripts limit report end through size same place line before is = by (slice_get report.calls place) refl
  where
    made : ℕ
    made = count_made graph scripts limit

    by : (o : Option CallLine) → slice_get report.calls place ≡ o → IsRight graph scripts limit report place line
    by (Some call) e =
        let inside = slice_get_within report.calls place call e in
        calls_right graph scripts limit report (count_made graph scripts limit) (omega arith) through.enough through.each place line (omega (arith, inside, size)) is
    by None e =
        let beyond : length report.calls ≤ place = none_beyond report.calls place e in
        let at : place ≡ length report.calls + (place - count_made graph scripts limit) = omega (arith, beyond, size) in
        record {
          made = λ h. absurd (omega (arith, beyond, size, h));
          due = λ h. same (place - count_made graph scripts limit) (omega (arith, before, h)) ∙ sym (behind_there report (place - count_made graph scripts limit) place at) ∙ is;
        }

-- where the lines behind first differ from those that are due, the line is the first wrong one
pub differs_there : (graph : Graph) (scripts : List (List Call)) (limit : ℕ) (report : Report) (place : ℕ) → IsThrough graph scripts (count_made graph scripts limit) report.calls → length report.calls ≡ count_made graph scripts limit
    → DifferFirst (lines_due graph scripts limit (log_of graph scripts (take (count_made graph scripts limit) report.calls))) (lines_behind report.refused report.finals report.accepted report.refusals) place
    → place < length (lines_behind report.refused report.finals report.accepted report.refusals)
    → IsFirstWrong graph scripts limit report (count_made graph scripts limit + place + 1)
differs_there graph scripts limit report place through size differ inside =
    let made = count_made graph scripts limit in
    let due = lines_due graph scripts limit (log_of graph scripts (take made report.calls)) in
    let behind = lines_behind report.refused report.finals report.accepted report.refusals in
    let found = there behind place inside in
    record {
      place = made + place;
      line = found.item;
      number = refl;
      there = behind_there report place (made + place) (omega (arith, size)) ∙ found.is;
      before = behind_right graph scripts limit report place through size (λ n h. sym (get_taken due place n h) ∙ ap (λ ls. slice_get ls n) differ.before ∙ get_taken behind place n h);
      wrong = λ right. differ.there (ap (slice_get due) (minus made place) ∙ right.due (omega arith) ∙ sym found.is);
    }
  where
    minus : (m n : ℕ) → n ≡ m + n - m
    minus m n = omega arith

lines_size : (report : Report) → length (lines_of report) ≡ length report.calls + length (lines_behind report.refused report.finals report.accepted report.refusals)
lines_size report =
    let behind = lines_behind report.refused report.finals report.accepted report.refusals in
    length-append (map OfCall report.calls) behind ∙ ap (λ n. n + length behind) (length-map report.calls OfCall)

-- where the lines behind are those that are due, every line is right
pub all_right : (graph : Graph) (scripts : List (List Call)) (limit : ℕ) (report : Report) → IsThrough graph scripts (count_made graph scripts limit) report.calls → length report.calls ≡ count_made graph scripts limit
    → lines_due graph scripts limit (log_of graph scripts (take (count_made graph scripts limit) report.calls)) ≡ lines_behind report.refused report.finals report.accepted report.refusals
    → AreRight graph scripts limit report
all_right graph scripts limit report through size same =
    subst (AreRightBefore graph scripts limit report) (sym (lines_size report ∙ ap (λ n. n + length (lines_behind report.refused report.finals report.accepted report.refusals)) size))
    (behind_right graph scripts limit report (length (lines_behind report.refused report.finals report.accepted report.refusals)) through size (λ n h. ap (λ ls. slice_get ls n) same))

-- ---- the same, over what the code has

-- all lines of calls are right, and as many as are made
pub record IsPassed (graph : Graph) (scripts : List (List Call)) (limit : ℕ) (report : Report) (made : ℕ) : Type 0 where
  pub made_is : made ≡ count_made graph scripts limit
  pub size : length report.calls ≡ made
  pub through : IsThrough graph scripts made report.calls

passed_through : (graph : Graph) (scripts : List (List Call)) (limit : ℕ) (report : Report) (made : ℕ) → IsPassed graph scripts limit report made → IsThrough graph scripts (count_made graph scripts limit) report.calls
passed_through graph scripts limit report made passed = subst (λ m. IsThrough graph scripts m report.calls) passed.made_is passed.through

whole : (graph : Graph) (scripts : List (List Call)) (limit : ℕ) (report : Report) (made : ℕ) → IsPassed graph scripts limit report made → take (count_made graph scripts limit) report.calls ≡ report.calls
whole graph scripts limit report made passed = let size = passed.size in let made_is = passed.made_is in take_all (count_made graph scripts limit) report.calls (omega (arith, size, made_is))

differs : (graph : Graph) (scripts : List (List Call)) (limit : ℕ) (report : Report) (made place : ℕ) → IsPassed graph scripts limit report made
    → DifferFirst (lines_due graph scripts limit (log_of graph scripts report.calls)) (lines_behind report.refused report.finals report.accepted report.refusals) place
    → place < length (lines_behind report.refused report.finals report.accepted report.refusals)
    → IsFirstWrong graph scripts limit report (made + place + 1)
differs graph scripts limit report made place passed differ inside =
    subst (λ m. IsFirstWrong graph scripts limit report (m + place + 1)) (sym passed.made_is)
    (differs_there graph scripts limit report place (passed_through graph scripts limit report made passed) (passed.size ∙ passed.made_is)
    (subst (λ ls. DifferFirst (lines_due graph scripts limit (log_of graph scripts ls)) (lines_behind report.refused report.finals report.accepted report.refusals) place) (sym (whole graph scripts limit report made passed)) differ)
    inside)

pub behind_size : (refused : List Refused) (last : List (List ℕ × Value)) (accepted refusals : ℕ) → length (lines_behind refused last accepted refusals) ≡ length refused + length last + 1
behind_size [] [] accepted refusals = omega arith
behind_size [] (x ∷ last) accepted refusals = let rest = behind_size [] last accepted refusals in omega (arith, rest)
behind_size (x ∷ refused) last accepted refusals = let rest = behind_size refused last accepted refusals in omega (arith, rest)

-- the number of a line behind those of calls and of refusals, up to the last line
pub number_within : (report : Report) (made count place : ℕ) → length report.calls ≡ made → count ≡ length report.refused → place ≤ length report.finals → made + (count + place) + 1 ≤ length (lines_of report)
number_within report made count place size is low =
    let calls = length-map report.calls OfCall in
    let behind = behind_size report.refused report.finals report.accepted report.refusals in
    let all = length-append (map OfCall report.calls) (lines_behind report.refused report.finals report.accepted report.refusals) in
    omega (arith, all, behind, calls, size, is, low)

pub refused_wrong : (graph : Graph) (scripts : List (List Call)) (limit : ℕ) (report : Report) (made : ℕ) (due : List Refused) (place : ℕ) → IsPassed graph scripts limit report made → due ≡ left_out graph limit (log_of graph scripts report.calls) scripts → DifferFirst due report.refused place → IsFirstWrong graph scripts limit report (made + place + 1)
refused_wrong graph scripts limit report made due place passed due_is differ =
    let log = log_of graph scripts report.calls in
    let refused = left_out graph limit log scripts in
    let size = behind_size report.refused report.finals report.accepted report.refusals in
    let high = differ.in_given in
    differs graph scripts limit report made place passed
    (refused_differ refused report.refused (zip graph.names (finals graph log)) report.finals (count_made graph scripts limit) (length refused) report.accepted report.refusals place (subst (λ d. DifferFirst d report.refused place) due_is differ))
    (omega (arith, size, high))

pub finals_wrong : (graph : Graph) (scripts : List (List Call)) (limit : ℕ) (report : Report) (made : ℕ) (due : List Refused) (last : List Value) (place : ℕ) → IsPassed graph scripts limit report made → due ≡ left_out graph limit (log_of graph scripts report.calls) scripts → due ≡ report.refused → last ≡ finals graph (log_of graph scripts report.calls) → DifferFirst (zip graph.names last) report.finals place → IsFirstWrong graph scripts limit report (made + (length report.refused + place) + 1)
finals_wrong graph scripts limit report made due last place passed due_is same last_is differ =
    let log = log_of graph scripts report.calls in
    let refused = left_out graph limit log scripts in
    let size = behind_size report.refused report.finals report.accepted report.refusals in
    let high = differ.in_given in
    differs graph scripts limit report made (length report.refused + place) passed
    (finals_differ refused report.refused (zip graph.names (finals graph log)) report.finals (count_made graph scripts limit) (length refused) report.accepted report.refusals place (sym due_is ∙ same) (subst (λ d. DifferFirst (zip graph.names d) report.finals place) last_is differ))
    (omega (arith, size, high))

pub counts_wrong : (graph : Graph) (scripts : List (List Call)) (limit : ℕ) (report : Report) (made : ℕ) (due : List Refused) (last : List Value) → IsPassed graph scripts limit report made → due ≡ left_out graph limit (log_of graph scripts report.calls) scripts → due ≡ report.refused → last ≡ finals graph (log_of graph scripts report.calls) → zip graph.names last ≡ report.finals → ((report.accepted ≡ made) × (report.refusals ≡ length due) → ⊥) → IsFirstWrong graph scripts limit report (made + (length report.refused + length report.finals) + 1)
counts_wrong graph scripts limit report made due last passed due_is same last_is same_last other =
    let log = log_of graph scripts report.calls in
    let refused = left_out graph limit log scripts in
    let size = behind_size report.refused report.finals report.accepted report.refusals in
    differs graph scripts limit report made (length report.refused + length report.finals) passed
    (counts_differ refused report.refused (zip graph.names (finals graph log)) report.finals (count_made graph scripts limit) (length refused) report.accepted report.refusals (sym due_is ∙ same) (ap (zip graph.names) (sym last_is) ∙ same_last)
    (λ e. other (sym e.0 ∙ sym passed.made_is, sym e.1 ∙ ap length (sym due_is))))
    (omega (arith, size))

pub right_whole : (graph : Graph) (scripts : List (List Call)) (limit : ℕ) (report : Report) (made : ℕ) (due : List Refused) (last : List Value) → IsPassed graph scripts limit report made → due ≡ left_out graph limit (log_of graph scripts report.calls) scripts → due ≡ report.refused → last ≡ finals graph (log_of graph scripts report.calls) → zip graph.names last ≡ report.finals → report.accepted ≡ made → report.refusals ≡ length due → AreRight graph scripts limit report
right_whole graph scripts limit report made due last passed due_is same last_is same_last accepted refusals =
    let log = log_of graph scripts report.calls in
    let refused = left_out graph limit log scripts in
    all_right graph scripts limit report (passed_through graph scripts limit report made passed) (passed.size ∙ passed.made_is)
    (ap (λ ls. lines_due graph scripts limit (log_of graph scripts ls)) (whole graph scripts limit report made passed)
    ∙ ap (λ r. lines_behind r (zip graph.names (finals graph log)) (count_made graph scripts limit) (length refused)) (sym due_is ∙ same)
    ∙ ap (λ l. lines_behind report.refused l (count_made graph scripts limit) (length refused)) (ap (zip graph.names) (sym last_is) ∙ same_last)
    ∙ ap (λ n. lines_behind report.refused report.finals n (length refused)) (sym passed.made_is ∙ sym accepted)
    ∙ ap (lines_behind report.refused report.finals report.accepted) (ap length (sym due_is) ∙ sym refusals))

pub due_is : (graph g : Graph) (scripts s : List (List Call)) (limit : ℕ) (log : List Logged) (seats t : List Seat) (due : List Refused) → g ≡ graph → s ≡ scripts → t ≡ seats → ((l : List Logged) → AreSeats g s l t → due ≡ left_out g limit l s) → AreSeats graph scripts log seats → due ≡ left_out graph limit log scripts
due_is graph g scripts s limit log seats t due same_graph same_scripts same_seats is seated =
    is log (subst (λ x. AreSeats x s log t) (sym same_graph) (subst (λ x. AreSeats graph x log t) (sym same_scripts) (subst (AreSeats graph scripts log) (sym same_seats) seated)))
    ∙ ap (λ x. left_out x limit log s) same_graph ∙ ap (left_out graph limit log) same_scripts

pub last_is : (graph : Graph) (machine : State) (log : List Logged) (last : List Value) → machine.graph ≡ graph → IsAt machine (state_after graph log) → ((kept : Values) → IsAt machine kept → last ≡ values machine.graph kept) → last ≡ finals graph log
last_is graph machine log last same at is = is (state_after graph log) at ∙ ap (λ g. values g (state_after graph log)) same

pub right_more : (graph : Graph) (scripts : List (List Call)) (made : ℕ) (lines : List CallLine) (place : ℕ) → AreRightCalls graph scripts made lines place → ((line : CallLine) → slice_get lines place ≡ Some line → IsRightCall graph scripts made (log_of graph scripts (take place lines)) line) → AreRightCalls graph scripts made lines (place + 1)
right_more graph scripts made lines place before here at line low is = by (nat_lt at place) refl
  where
    by : (b : Bool) → nat_lt at place ≡ b → IsRightCall graph scripts made (log_of graph scripts (take at lines)) line
    by true e = let less : at < place = grind (arith, nat_tests, e) in before at line less is
    by false e =
        let more : place ≤ at = grind (arith, nat_tests, e) in
        let same : place ≡ at = omega (arith, more, low) in
        subst (λ n. IsRightCall graph scripts made (log_of graph scripts (take n lines)) line) same (here line (ap (slice_get lines) same ∙ is))
