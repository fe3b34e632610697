-- Reports whose lines are all right are those of runs, and the other way round.
use Rattle.std.proofs.Common.{◌≡◌, ℕ, zero, suc, ◌+◌, ◌-◌, ◌<◌, ◌≤◌, min, Bool, true, false, cond, List, [], ◌∷◌, ◌++◌, length, take, drop, map, get_or, refl, sym, ap, ◌∙◌, subst, arith, true≢false, length-append, append-nil, append_assoc}
use Rattle.std.specs.Prelude.{◌==◌, slice_get, slice_index_or, nat_lt, All, Some, Result, Ok, Err, IfOk, ◌↔◌}
use Rattle.std.specs.List.{AllByRecursion, zip}
use Rattle.std.specs.Option.{option_map}
use Rattle.std.specs.List.Sorted.{IsStrictlyIncreasing}
use Rattle.std.proofs.lemmas.Bool.Decides.{nat_tests, eqb_tells}
use Rattle.std.proofs.lemmas.List.{map-append, take_more, take_all, take-map, take-append-drop, drop_more, get_or-take, length-take, length-map}
use Rattle.std.proofs.lemmas.Option.{get_or_from_slice_get, same_Some, slice_get_within, slice_get-map}
use Rattle.std.proofs.Math.Seq.{get_or-append_seam}
use Rattle.std.proofs.lemmas.List.Elements.{filter-append, All-push}
use Rattle.std.proofs.lemmas.List.Sums.{sum_by-append, sum_by-cons}
use Rattle.script_tree.specs.declared.memory.OutOfMemory.{OutOfMemory}
use Rattle.script_tree.specs.declared.value.Value.{Value}
use Rattle.script_tree.proofs.Lists.{all_end}
use Rattle.signal_graph.specs.declared.call.Call.{Call}
use Rattle.signal_graph.specs.declared.call.Call.TheVariants.{Fire, Read}
use Rattle.signal_graph.specs.declared.log.Logged.{Logged}
use Rattle.signal_graph.specs.declared.log.Refused.{Refused}
use Rattle.signal_graph.specs.Graph.{Graph}
use Rattle.signal_graph.specs.Values.{Values, start}
use Rattle.signal_graph.specs.Machine.{looks_of, reply, after}
use Rattle.signal_graph.specs.Legal.{LegalFrom, Legal, state_from, state_after, finals}
use Rattle.signal_graph.proofs.LegalLogs.{legal_more}
use Rattle.call_log.specs.Made.{entries_of, calls_in, versions_in, well_named, count_well_named, script_of, IsPrefix}
use Rattle.call_log.specs.LeftOut.{left_out}
use Rattle.call_log.specs.Merge.{IsOfCaller, Merge}
use Rattle.call_log.proofs.Prefixes.{as_many}
use Rattle.report_text.specs.declared.data.CallLine.{CallLine}
use Rattle.report_text.specs.declared.data.Report.{Report}
use Rattle.report_text.specs.Report.{line_of}
use Rattle.report_check.specs.declared.verdict.Verdict.{Verdict}
use Rattle.report_check.specs.declared.verdict.Verdict.TheVariants.{Yes, Wrong}
use Rattle.report_check.specs.Verdicts.{IsVerdict}
use Rattle.report_check.specs.Lines.{ReportLine, OfCall, OfRefusal, OfFinal, OfDone, lines_behind, lines_of}
use Rattle.report_check.specs.Right.{count_made, next_call, entry_of, log_behind, log_of, IsRightCall, lines_due, IsRight, AreRight, IsFirstWrong}
use Rattle.report_check.specs.Runs.{IsOfRun, IsReportOfRun}
use Rattle.report_check.specs.Stopping.{AreRightCalls}
use Rattle.report_check.proofs.Taking.{entries_own, entries_other, count_more, log_more}
use Rattle.report_check.proofs.Numbering.{count, IsAmong, each_once, none_else, rising_more, before_less}
use Rattle.report_check.proofs.Judging.{there, no_refusal_first, no_final_first, no_call_first, refusal_or, last_or, accepted_or, refusals_or, call_at, behind_there, behind_some, not_call, right_whole}

-- ---- behind right lines a log keeps what a run's log keeps

pub record IsMade (graph : Graph) (scripts : List (List Call)) (made : ℕ) (log : List Logged) : Type 0 where
  pub callers : All (IsOfCaller (length scripts)) log
  pub in_order : (k : ℕ) → k < length scripts → IsPrefix (calls_in (entries_of (k + 1) log)) (well_named graph (script_of scripts k))
  pub legal : LegalFrom graph (start graph) log
  pub among : AllByRecursion (IsAmong made) log
  pub once : (version : ℕ) → count version log ≤ 1
  pub rising : (caller : ℕ) → IsStrictlyIncreasing (versions_in (entries_of caller log))

nothing_made : (graph : Graph) (scripts : List (List Call)) (made : ℕ) → IsMade graph scripts made []
nothing_made graph scripts made = record {
  callers = λ k d within. absurd (omega (arith, within));
  in_order = λ k within. refl;
  legal = tt;
  among = tt;
  once = λ version. omega arith;
  rising = λ caller k within. absurd (omega (arith, within));
}

pub made_more : (graph : Graph) (scripts : List (List Call)) (made : ℕ) (log : List Logged) (line : CallLine) → IsMade graph scripts made log → IsRightCall graph scripts made log line → IsMade graph scripts made (log ++ entry_of graph scripts log line ∷ [])
made_more graph scripts made log line is right = record {
  callers = All-push (IsOfCaller (length scripts)) log entry is.callers (right.from_one, right.thread);
  in_order = in_order;
  legal = legal_more graph (start graph) log entry is.legal right.reply;
  among = all_end (IsAmong made) log entry is.among (right.low, right.high);
  once = once;
  rising = rising;
}
  where
    entry : Logged
    entry = entry_of graph scripts log line

    tell : (m n : ℕ) → (m == n) ≡ false → m ≡ n → ⊥
    tell m n e same = true≢false (sym (let h : (m == n) ≡ true = grind (arith, eqb_tells, same) in h) ∙ e)

    in_order : (k : ℕ) → k < length scripts → IsPrefix (calls_in (entries_of (k + 1) (log ++ entry ∷ []))) (well_named graph (script_of scripts k))
    in_order k within = by (line.caller == (k + 1)) refl
      where
        named : List Call
        named = well_named graph (script_of scripts k)

        by : (b : Bool) → (line.caller == (k + 1)) ≡ b → IsPrefix (calls_in (entries_of (k + 1) (log ++ entry ∷ []))) (well_named graph (script_of scripts k))
        by false e = subst (λ es. IsPrefix (calls_in es) named) (sym (entries_other (k + 1) log entry (tell line.caller (k + 1) e))) (is.in_order k within)
        by true e =
            let same : line.caller ≡ k + 1 = grind (arith, eqb_tells, e) in
            let back : line.caller - 1 ≡ k = omega (arith, same) in
            let before = entries_of (k + 1) log in
            let grown : calls_in (entries_of (k + 1) (log ++ entry ∷ [])) ≡ calls_in before ++ entry.call ∷ [] = ap calls_in (entries_own (k + 1) log entry same) ∙ map-append (λ (x : Logged). x.call) before (entry ∷ []) in
            let left : length before < length named = subst (λ t. length before < length (well_named graph (script_of scripts t))) back (subst (λ c. length (entries_of c log) < length (well_named graph (script_of scripts (line.caller - 1)))) same right.left) in
            let next : entry.call ≡ get_or named (length before) (Read []) = ap (λ c. slice_index_or (well_named graph (script_of scripts (line.caller - 1))) (length (entries_of c log)) (Read [])) same ∙ ap (λ t. slice_index_or (well_named graph (script_of scripts t)) (length before) (Read [])) back in
            let first : calls_in before ≡ take (length before) named = is.in_order k within ∙ ap (λ n. take n named) (as_many before) in
            let long : length before + 1 ≡ length (calls_in before ++ entry.call ∷ []) = sym (length-append (calls_in before) (entry.call ∷ []) ∙ ap (λ n. n + 1) (as_many before)) in
            subst (λ cs. IsPrefix cs named) (sym grown)
            (ap (λ cs. cs ++ entry.call ∷ []) first ∙ ap (λ c. take (length before) named ++ c ∷ []) next ∙ sym (take_more named (length before) (Read []) left) ∙ ap (λ n. take n named) long)

    once : (version : ℕ) → count version (log ++ entry ∷ []) ≤ 1
    once version = by (line.version == version) refl
      where
        by : (b : Bool) → (line.version == version) ≡ b → count version (log ++ entry ∷ []) ≤ 1
        by true e =
            let same : line.version ≡ version = grind (arith, eqb_tells, e) in
            let none : count version log ≡ 0 = subst (λ v. count v log ≡ 0) same right.once in
            let here : ◌≡◌ {A = ℕ} (cond (line.version == version) 1 0) 1 = ap (λ b. cond b 1 0) e in
            let more = count_more version log entry in
            omega (arith, none, here, more)
        by false e =
            let few = is.once version in
            let here : ◌≡◌ {A = ℕ} (cond (line.version == version) 1 0) 0 = ap (λ b. cond b 1 0) e in
            let more = count_more version log entry in
            omega (arith, few, here, more)

    rising : (caller : ℕ) → IsStrictlyIncreasing (versions_in (entries_of caller (log ++ entry ∷ [])))
    rising caller = by (line.caller == caller) refl
      where
        by : (b : Bool) → (line.caller == caller) ≡ b → IsStrictlyIncreasing (versions_in (entries_of caller (log ++ entry ∷ [])))
        by false e = subst (λ es. IsStrictlyIncreasing (versions_in es)) (sym (entries_other caller log entry (tell line.caller caller e))) (is.rising caller)
        by true e =
            let same : line.caller ≡ caller = grind (arith, eqb_tells, e) in
            let grown : versions_in (entries_of caller (log ++ entry ∷ [])) ≡ versions_in (entries_of caller log) ++ line.version ∷ [] = ap versions_in (entries_own caller log entry same) ∙ map-append (λ (x : Logged). x.version) (entries_of caller log) (entry ∷ []) in
            subst IsStrictlyIncreasing (sym grown) (rising_more (versions_in (entries_of caller log)) line.version (is.rising caller) (subst (λ c. AllByRecursion (λ v. v < line.version) (versions_in (entries_of c log))) same right.rises))

-- ---- reports whose lines are all right

-- lines of calls that are right, as many as are made, and behind them what is due
pub record IsWhole (graph : Graph) (scripts : List (List Call)) (limit : ℕ) (report : Report) : Type 0 where
  pub size : length report.calls ≡ count_made graph scripts limit
  pub each : AreRightCalls graph scripts (count_made graph scripts limit) report.calls (count_made graph scripts limit)
  pub refused : report.refused ≡ left_out graph limit (log_of graph scripts report.calls) scripts
  pub last : report.finals ≡ zip graph.names (finals graph (log_of graph scripts report.calls))
  pub accepted : report.accepted ≡ count_made graph scripts limit
  pub refusals : report.refusals ≡ length (left_out graph limit (log_of graph scripts report.calls) scripts)

made_upto : (graph : Graph) (scripts : List (List Call)) (made : ℕ) (lines : List CallLine) (end : ℕ) → end ≤ length lines → AreRightCalls graph scripts made lines end → (n : ℕ) → n ≤ end → IsMade graph scripts made (log_of graph scripts (take n lines)) × (map line_of (log_of graph scripts (take n lines)) ≡ take n lines)
made_upto graph scripts made lines end inside right zero low = (nothing_made graph scripts made, refl)
made_upto graph scripts made lines end inside right (suc n) low =
    let found = there lines n (omega (arith, inside, low)) in
    let line = found.item in
    let log = log_of graph scripts (take n lines) in
    let before = made_upto graph scripts made lines end inside right n (omega (arith, low)) in
    let is : IsRightCall graph scripts made log line = right n line low found.is in
    let own : line ≡ slice_index_or lines n line = sym (get_or_from_slice_get lines n line line found.is) in
    let within : n < length lines = omega (arith, inside, low) in
    let more : log_of graph scripts (take (n + 1) lines) ≡ log ++ entry_of graph scripts log line ∷ [] = log_more graph scripts lines n line own within in
    let e : n + 1 ≡ suc n = omega arith in
    let entry = entry_of graph scripts log line in
    let same : line_of entry ≡ line = ap (λ ns. record { version = line.version; caller = line.caller; reply = line.reply; names = ns }) (sym is.names) in
    subst (λ k. IsMade graph scripts made (log_of graph scripts (take k lines)) × (map line_of (log_of graph scripts (take k lines)) ≡ take k lines)) e (
      subst (IsMade graph scripts made) (sym more) (made_more graph scripts made log line before.0 is),
      ap (map line_of) more ∙ map-append line_of log (entry ∷ []) ∙ ap (λ ls. ls ++ line_of entry ∷ []) before.1 ∙ ap (λ l. take n lines ++ l ∷ []) same
          ∙ ap (λ l. take n lines ++ l ∷ []) own ∙ sym (take_more lines n line within),
    )

-- such a report is that of a run
pub whole_is_of_run : (graph : Graph) (scripts : List (List Call)) (limit : ℕ) (report : Report) → IsWhole graph scripts limit report → IsReportOfRun graph scripts limit report
whole_is_of_run graph scripts limit report whole = record {
  log = log;
  run = record {
    refused = refused;
    last = finals graph log;
    lines = ap (λ ls. record { calls = ls; refused = report.refused; finals = report.finals; accepted = report.accepted; refusals = report.refusals }) (sym lines_are)
        ∙ ap (λ rs. record { calls = map line_of log; refused = rs; finals = report.finals; accepted = report.accepted; refusals = report.refusals }) whole.refused
        ∙ ap (λ fs. record { calls = map line_of log; refused = refused; finals = fs; accepted = report.accepted; refusals = report.refusals }) whole.last
        ∙ ap (λ n. record { calls = map line_of log; refused = refused; finals = zip graph.names (finals graph log); accepted = n; refusals = report.refusals }) (whole.accepted ∙ sym size)
        ∙ ap (λ n. record { calls = map line_of log; refused = refused; finals = zip graph.names (finals graph log); accepted = length log; refusals = n }) whole.refusals;
    merge = record {
      callers = is.callers;
      in_order = is.in_order;
      all_made = λ few. omega (arith, size, few);
      used_up = λ many. omega (arith, size, many);
      versions = record {
        each_once = each_once log (subst (λ n. AllByRecursion (IsAmong n) log) (sym size) is.among) is.once;
        rising = is.rising;
      };
      rest = refl;
    };
    legal = is.legal;
    finals = refl;
  };
}
  where
    made : ℕ
    made = count_made graph scripts limit

    log : List Logged
    log = log_of graph scripts report.calls

    refused : List Refused
    refused = left_out graph limit log scripts

    both : IsMade graph scripts made log × (map line_of log ≡ report.calls)
    both =
        let size = whole.size in
        subst (λ ls. IsMade graph scripts made (log_of graph scripts ls) × (map line_of (log_of graph scripts ls) ≡ ls)) (take_all made report.calls (omega (arith, size)))
        (made_upto graph scripts made report.calls made (omega (arith, size)) whole.each made (omega arith))

    is : IsMade graph scripts made log
    is = both.0

    lines_are : map line_of log ≡ report.calls
    lines_are = both.1

    size : length log ≡ min limit (count_well_named graph scripts)
    size = sym (length-map log line_of) ∙ ap length lines_are ∙ whole.size

-- lines that all are due ones are all of them
same_lines : (refused due : List Refused) (last last_due : List (List ℕ × Value)) (a b c d : ℕ) → ((n : ℕ) (line : ReportLine) → slice_get (lines_behind refused last a b) n ≡ Some line → slice_get (lines_behind due last_due c d) n ≡ Some line) → (refused ≡ due) × (last ≡ last_due) × (a ≡ c) × (b ≡ d)
same_lines [] [] [] [] a b c d h = let e = same_Some (OfDone c d) (OfDone a b) (h 0 (OfDone a b) refl) in (refl, refl, sym (ap (λ l. accepted_or l a) e), sym (ap (λ l. refusals_or l b) e))
same_lines [] [] [] (y ∷ ys) a b c d h = absurd (no_final_first a b y (sym (h 0 (OfDone a b) refl)))
same_lines [] [] (x ∷ xs) [] a b c d h = absurd (no_final_first c d x (h 0 (OfFinal x) refl))
same_lines [] [] (x ∷ xs) (y ∷ ys) a b c d h =
    let e : x ≡ y = ap (λ l. last_or l y) (sym (same_Some (OfFinal y) (OfFinal x) (h 0 (OfFinal x) refl))) in
    let rest = same_lines [] [] xs ys a b c d (λ n line is. h (suc n) line is) in
    (refl, ap (λ z. z ∷ xs) e ∙ ap (λ zs. y ∷ zs) rest.1, rest.2, rest.3)
same_lines [] (due ∷ dues) [] last_due a b c d h = absurd (no_refusal_first [] a b due (sym (h 0 (OfDone a b) refl)))
same_lines [] (due ∷ dues) (x ∷ xs) last_due a b c d h = absurd (no_refusal_first (x ∷ xs) a b due (sym (h 0 (OfFinal x) refl)))
same_lines (first ∷ refused) [] last last_due a b c d h = absurd (no_refusal_first last_due c d first (h 0 (OfRefusal first) refl))
same_lines (first ∷ refused) (due ∷ dues) last last_due a b c d h =
    let e : first ≡ due = ap (λ l. refusal_or l due) (sym (same_Some (OfRefusal due) (OfRefusal first) (h 0 (OfRefusal first) refl))) in
    let rest = same_lines refused dues last last_due a b c d (λ n line is. h (suc n) line is) in
    (ap (λ z. z ∷ refused) e ∙ ap (λ zs. due ∷ zs) rest.0, rest.1, rest.2, rest.3)

lines_there : (report : Report) (place at : ℕ) (line : ReportLine) → at ≡ length report.calls + place → slice_get (lines_behind report.refused report.finals report.accepted report.refusals) place ≡ Some line → slice_get (lines_of report) at ≡ Some line
lines_there report place at line e is = behind_there report place at e ∙ is

right_is_whole : (graph : Graph) (scripts : List (List Call)) (limit : ℕ) (report : Report) → AreRight graph scripts limit report → IsWhole graph scripts limit report
right_is_whole graph scripts limit report right = record {
  size = size;
  each = each;
  refused = same.0 ∙ ap (λ ls. left_out graph limit (log_of graph scripts ls) scripts) whole;
  last = same.1 ∙ ap (λ ls. zip graph.names (finals graph (log_of graph scripts ls))) whole;
  accepted = same.2;
  refusals = same.3 ∙ ap (λ ls. length (left_out graph limit (log_of graph scripts ls) scripts)) whole;
}
  where
    made : ℕ
    made = count_made graph scripts limit

    behind : List ReportLine
    behind = lines_behind report.refused report.finals report.accepted report.refusals

    all : (place : ℕ) (line : ReportLine) → slice_get (lines_of report) place ≡ Some line → IsRight graph scripts limit report place line
    all place line is = right place line (slice_get_within (lines_of report) place line is) is

    not_less : (m n : ℕ) → (m < n → ⊥) → n ≤ m
    not_less m n h = grind (arith, h)

    enough : made ≤ length report.calls
    enough = not_less (length report.calls) made (λ few.
        let first = there behind 0 (behind_some report.refused report.finals report.accepted report.refusals) in
        let is = lines_there report 0 (length report.calls) first.item (omega arith) first.is in
        not_call graph scripts made (log_of graph scripts (take (length report.calls) report.calls)) report.refused report.finals report.accepted report.refusals first.item first.is
        ((all (length report.calls) first.item is).made few))

    no_more : length report.calls ≤ made
    no_more = not_less made (length report.calls) (λ more.
        let found = there report.calls made more in
        let log = log_of graph scripts (take made report.calls) in
        let refused = left_out graph limit log scripts in
        no_call_first refused (zip graph.names (finals graph log)) made (length refused) found.item
        (ap (slice_get (lines_due graph scripts limit log)) (minus made) ∙ (all made (OfCall found.item) (call_at report made found.item found.is)).due (omega arith)))
      where
        minus : (n : ℕ) → 0 ≡ n - n
        minus n = omega arith

    size : length report.calls ≡ made
    size = let low = enough in let high = no_more in omega (arith, low, high)

    each : AreRightCalls graph scripts made report.calls made
    each place line low is = (all place (OfCall line) (call_at report place line is)).made low

    whole : take made report.calls ≡ report.calls
    whole = let low = no_more in take_all made report.calls (omega (arith, low))

    log : List Logged
    log = log_of graph scripts (take made report.calls)

    same : (report.refused ≡ left_out graph limit log scripts) × (report.finals ≡ zip graph.names (finals graph log)) × (report.accepted ≡ made) × (report.refusals ≡ length (left_out graph limit log scripts))
    same = same_lines report.refused (left_out graph limit log scripts) report.finals (zip graph.names (finals graph log)) report.accepted report.refusals made (length (left_out graph limit log scripts))
        (λ n line is. let e = size in let back : n ≡ made + n - made = minus made n in
        ap (slice_get (lines_due graph scripts limit log)) back ∙ (all (made + n) line (lines_there report n (made + n) line (omega (arith, e)) is)).due (omega arith))
      where
        minus : (m n : ℕ) → n ≡ m + n - m
        minus m n = omega arith

-- ---- reports of runs

run_size : (graph : Graph) (scripts : List (List Call)) (limit : ℕ) (log : List Logged) (refused : List Refused) → Merge graph scripts limit log refused → length log ≡ count_made graph scripts limit
run_size graph scripts limit log refused merge = by (nat_lt limit (count_well_named graph scripts)) refl
  where
    by : (b : Bool) → nat_lt limit (count_well_named graph scripts) ≡ b → length log ≡ min limit (count_well_named graph scripts)
    by true e =
        let many : limit < count_well_named graph scripts = grind (arith, nat_tests, e) in
        let size = merge.used_up many in
        omega (arith, size, many)
    by false e =
        let few : count_well_named graph scripts ≤ limit = grind (arith, nat_tests, e) in
        let size = merge.all_made few in
        omega (arith, size, few)

own_first : (log : List Logged) (entry : Logged) → entries_of entry.caller (entry ∷ log) ≡ entry ∷ entries_of entry.caller log
own_first log entry = ap (λ b. cond b (entry ∷ entries_of entry.caller log) (entries_of entry.caller log)) (let h : (entry.caller == entry.caller) ≡ true = grind (arith, eqb_tells) in h)

own_split : (before behind : List Logged) (entry : Logged) → entries_of entry.caller (before ++ entry ∷ behind) ≡ entries_of entry.caller before ++ entry ∷ entries_of entry.caller behind
own_split before behind entry = filter-append (λ (x : Logged). x.caller == entry.caller) before (entry ∷ behind) ∙ ap (λ es. entries_of entry.caller before ++ es) (own_first behind entry)

legal_at : (graph : Graph) (kept : Values) (before behind : List Logged) (entry : Logged) → LegalFrom graph kept (before ++ entry ∷ behind) → entry.reply ≡ reply graph (state_from graph kept before) entry.call
legal_at graph kept [] behind entry h = h.0
legal_at graph kept (first ∷ before) behind entry h = legal_at graph (after graph kept first.call) before behind entry h.1

among_at : (n : ℕ) (before behind : List Logged) (entry : Logged) → AllByRecursion (IsAmong n) (before ++ entry ∷ behind) → IsAmong n entry
among_at n [] behind entry h = h.0
among_at n (first ∷ before) behind entry h = among_at n before behind entry h.1

-- an entry of a run's log: whose it is, and which call
record IsNextOf (graph : Graph) (scripts : List (List Call)) (before : List Logged) (entry : Logged) : Type 0 where
  from_one : 1 ≤ entry.caller
  thread : entry.caller ≤ length scripts
  left : length (entries_of entry.caller before) < length (well_named graph (script_of scripts (entry.caller - 1)))
  next : next_call graph scripts before entry.caller ≡ entry.call

next_of_run : (graph : Graph) (scripts : List (List Call)) (limit : ℕ) (log : List Logged) (refused : List Refused) (before behind : List Logged) (entry : Logged) → Merge graph scripts limit log refused → log ≡ before ++ entry ∷ behind → IsNextOf graph scripts before entry
next_of_run graph scripts limit log refused before behind entry merge split = record {
  from_one = caller.0;
  thread = caller.1;
  left = left;
  next = sym (get_or-take (length calls) named (length own) (Read []) inside) ∙ ap (λ cs. get_or cs (length own) (Read [])) (sym first ∙ parts) ∙ ap (λ n. get_or (calls_in own ++ entry.call ∷ calls_in (entries_of entry.caller behind)) n (Read [])) (sym (as_many own)) ∙ get_or-append_seam (calls_in own) entry.call (calls_in (entries_of entry.caller behind)) (Read []);
}
  where
    caller : IsOfCaller (length scripts) entry
    caller =
        let size = ap length split ∙ length-append before (entry ∷ behind) in
        subst (IsOfCaller (length scripts)) (ap (λ l. get_or l (length before) entry) split ∙ get_or-append_seam before entry behind entry) (merge.callers (length before) entry (omega (arith, size)))

    named : List Call
    named = well_named graph (script_of scripts (entry.caller - 1))

    own : List Logged
    own = entries_of entry.caller before

    calls : List Call
    calls = calls_in (entries_of entry.caller log)

    first : calls ≡ take (length calls) named
    first =
        let low = caller.0 in
        let high = caller.1 in
        let back : entry.caller - 1 + 1 ≡ entry.caller = omega (arith, low) in
        subst (λ k. IsPrefix (calls_in (entries_of k log)) named) back (merge.in_order (entry.caller - 1) (omega (arith, low, high)))

    parts : calls ≡ calls_in own ++ entry.call ∷ calls_in (entries_of entry.caller behind)
    parts = ap (λ l. calls_in (entries_of entry.caller l)) split ∙ ap calls_in (own_split before behind entry) ∙ map-append (λ (x : Logged). x.call) own (entry ∷ entries_of entry.caller behind)

    inside : length own < length calls
    inside =
        let size = ap length parts ∙ length-append (calls_in own) (entry.call ∷ calls_in (entries_of entry.caller behind)) in
        let same = as_many own in
        omega (arith, size, same)

    left : length own < length named
    left =
        let most = ap length first ∙ length-take (length calls) named in
        let low = inside in
        omega (arith, most, low)

entry_is : (graph : Graph) (scripts : List (List Call)) (before : List Logged) (entry : Logged) → next_call graph scripts before entry.caller ≡ entry.call → entry_of graph scripts before (line_of entry) ≡ entry
entry_is graph scripts before entry e = ap (λ c. record { caller = entry.caller; version = entry.version; call = c; reply = entry.reply }) e

-- the log of a run's lines is its own
logs_agree : (graph : Graph) (scripts : List (List Call)) (limit : ℕ) (log : List Logged) (refused : List Refused) (before middle behind : List Logged) → Merge graph scripts limit log refused → log ≡ before ++ (middle ++ behind) → log_behind graph scripts before (map line_of middle) ≡ before ++ middle
logs_agree graph scripts limit log refused before [] behind merge split = sym (append-nil before)
logs_agree graph scripts limit log refused before (entry ∷ middle) behind merge split =
    let is = next_of_run graph scripts limit log refused before (middle ++ behind) entry merge split in
    ap (λ e. log_behind graph scripts (before ++ e ∷ []) (map line_of middle)) (entry_is graph scripts before entry is.next)
    ∙ logs_agree graph scripts limit log refused (before ++ entry ∷ []) middle behind merge (split ∙ sym (append_assoc before (entry ∷ []) (middle ++ behind)))
    ∙ append_assoc before (entry ∷ []) middle

right_of_run : (graph : Graph) (scripts : List (List Call)) (limit : ℕ) (log : List Logged) (refused : List Refused) (before behind : List Logged) (entry : Logged) → Merge graph scripts limit log refused → Legal graph log → log ≡ before ++ entry ∷ behind → IsRightCall graph scripts (count_made graph scripts limit) before (line_of entry)
right_of_run graph scripts limit log refused before behind entry merge legal split = record {
  from_one = is.from_one;
  thread = is.thread;
  left = is.left;
  names = ap looks_of (sym is.next);
  low = version.0;
  high = let high = version.1 in omega (arith, high, size);
  once =
      let all = merge.versions.each_once entry.version version.0 version.1 in
      let parts = ap (count entry.version) split ∙ sum_by-append (λ (x : Logged). cond (x.version == entry.version) 1 0) before (entry ∷ behind) in
      let first = sum_by-cons (λ (x : Logged). cond (x.version == entry.version) 1 0) entry behind in
      let one : ◌≡◌ {A = ℕ} (cond (entry.version == entry.version) 1 0) 1 = ap (λ b. cond b 1 0) (let h : (entry.version == entry.version) ≡ true = grind (arith, eqb_tells) in h) in
      omega (arith, all, parts, first, one);
  rises = before_less (versions_in (entries_of entry.caller before)) entry.version (versions_in (entries_of entry.caller behind))
      (subst IsStrictlyIncreasing (ap (λ l. versions_in (entries_of entry.caller l)) split ∙ ap versions_in (own_split before behind entry) ∙ map-append (λ (x : Logged). x.version) (entries_of entry.caller before) (entry ∷ entries_of entry.caller behind)) (merge.versions.rising entry.caller));
  reply = legal_at graph (start graph) before behind entry (subst (LegalFrom graph (start graph)) split legal) ∙ ap (reply graph (state_after graph before)) (sym is.next);
}
  where
    is : IsNextOf graph scripts before entry
    is = next_of_run graph scripts limit log refused before behind entry merge split

    size : length log ≡ count_made graph scripts limit
    size = run_size graph scripts limit log refused merge

    version : IsAmong (length log) entry
    version = among_at (length log) before behind entry (subst (AllByRecursion (IsAmong (length log))) split (none_else log merge.versions.each_once))

run_is_whole : (graph : Graph) (scripts : List (List Call)) (limit : ℕ) (report : Report) (log : List Logged) → IsOfRun graph scripts limit report log → IsWhole graph scripts limit report × (log ≡ log_of graph scripts report.calls)
run_is_whole graph scripts limit report log run = (
  record {
    size = ap length calls ∙ length-map log line_of ∙ size;
    each = λ place line low is. right place line is;
    refused = ap (λ (r : Report). r.refused) run.lines ∙ run.merge.rest ∙ ap (λ l. left_out graph limit l scripts) agree;
    last = ap (λ (r : Report). r.finals) run.lines ∙ ap (zip graph.names) run.finals ∙ ap (λ l. zip graph.names (finals graph l)) agree;
    accepted = ap (λ (r : Report). r.accepted) run.lines ∙ size;
    refusals = ap (λ (r : Report). r.refusals) run.lines ∙ ap length (run.merge.rest ∙ ap (λ l. left_out graph limit l scripts) agree);
  },
  agree,
)
  where
    size : length log ≡ count_made graph scripts limit
    size = run_size graph scripts limit log run.refused run.merge

    calls : report.calls ≡ map line_of log
    calls = ap (λ (r : Report). r.calls) run.lines

    agree : log ≡ log_of graph scripts report.calls
    agree = sym (ap (log_of graph scripts) calls ∙ logs_agree graph scripts limit log run.refused [] log [] run.merge (sym (append-nil log)))

    right : (place : ℕ) (line : CallLine) → slice_get report.calls place ≡ Some line → IsRightCall graph scripts (count_made graph scripts limit) (log_of graph scripts (take place report.calls)) line
    right place line is =
        let inside = slice_get_within report.calls place line is in
        let long = ap length calls ∙ length-map log line_of in
        let found = there log place (omega (arith, inside, long)) in
        let entry = found.item in
        let low : place < length log = omega (arith, inside, long) in
        let split : log ≡ take place log ++ entry ∷ drop (place + 1) log = sym (take-append-drop place log) ∙ ap (λ es. take place log ++ es) (drop_more log place entry low ∙ ap (λ e. e ∷ drop (place + 1) log) (get_or_from_slice_get log place entry entry found.is)) in
        let front : log_of graph scripts (take place report.calls) ≡ take place log = ap (λ ls. log_of graph scripts (take place ls)) calls ∙ ap (log_of graph scripts) (take-map line_of place log) ∙ logs_agree graph scripts limit log run.refused [] (take place log) (drop place log) run.merge (sym (take-append-drop place log)) in
        let same : line_of entry ≡ line = same_Some (line_of entry) line (sym (slice_get-map line_of log place ∙ ap (option_map line_of) found.is) ∙ ap (λ ls. slice_get ls place) (sym calls) ∙ is) in
        subst (IsRightCall graph scripts (count_made graph scripts limit) (log_of graph scripts (take place report.calls))) same
        (subst (λ l. IsRightCall graph scripts (count_made graph scripts limit) l (line_of entry)) (sym front)
        (right_of_run graph scripts limit log run.refused (take place log) (drop (place + 1) log) entry run.merge run.legal split))

pub right_is_of_run : (graph : Graph) (scripts : List (List Call)) (limit : ℕ) (report : Report) → AreRight graph scripts limit report → IsReportOfRun graph scripts limit report
right_is_of_run graph scripts limit report right = whole_is_of_run graph scripts limit report (right_is_whole graph scripts limit report right)

pub run_is_right : (graph : Graph) (scripts : List (List Call)) (limit : ℕ) (report : Report) → IsReportOfRun graph scripts limit report → AreRight graph scripts limit report
run_is_right graph scripts limit report run =
    let whole = (run_is_whole graph scripts limit report run.log run.run).0 in
    let made = count_made graph scripts limit in
    let size = whole.size in
    right_whole graph scripts limit report made report.refused (finals graph (log_of graph scripts report.calls)) (record { made_is = refl; size = whole.size; through = record { enough = omega (arith, size); each = whole.each } })
    whole.refused refl refl (sym whole.last) whole.accepted (whole.refusals ∙ ap length (sym whole.refused))

pub log_is : (graph : Graph) (scripts : List (List Call)) (limit : ℕ) (report : Report) (log : List Logged) → IsOfRun graph scripts limit report log → log ≡ log_of graph scripts report.calls
log_is graph scripts limit report log run = (run_is_whole graph scripts limit report log run).1

-- ---- verdicts

yes_is : (graph : Graph) (scripts : List (List Call)) (limit : ℕ) (report : Report) (verdict : Verdict) → IsVerdict graph scripts limit report verdict → (verdict ≡ Yes) ↔ IsReportOfRun graph scripts limit report
yes_is graph scripts limit report Yes right = (λ e. right_is_of_run graph scripts limit report right, λ run. refl)
yes_is graph scripts limit report (Wrong number) first = (
  λ e. absurd (cc),
  λ run.
      absurd (first.wrong (run_is_right graph scripts limit report run first.place first.line (slice_get_within (lines_of report) first.place first.line first.there) first.there)),
)

pub answer_is : (graph : Graph) (scripts : List (List Call)) (limit : ℕ) (report : Report) (answer : Result Verdict OutOfMemory) → IfOk answer (IsVerdict graph scripts limit report) → IfOk answer (λ verdict. (verdict ≡ Yes) ↔ IsReportOfRun graph scripts limit report)
answer_is graph scripts limit report (Ok verdict) h = yes_is graph scripts limit report verdict h
answer_is graph scripts limit report (Err e) h = h

first_is_one : (graph : Graph) (scripts : List (List Call)) (limit : ℕ) (report : Report) (m n : ℕ) (first : IsFirstWrong graph scripts limit report m) (other : IsFirstWrong graph scripts limit report n) → first.place < other.place → ⊥
first_is_one graph scripts limit report m n first other less = first.wrong (other.before first.place first.line less first.there)

pub one_verdict : (graph : Graph) (scripts : List (List Call)) (limit : ℕ) (report : Report) (a b : Verdict) → IsVerdict graph scripts limit report a → IsVerdict graph scripts limit report b → a ≡ b
one_verdict graph scripts limit report Yes Yes g h = refl
one_verdict graph scripts limit report Yes (Wrong n) g h = absurd (h.wrong (g h.place h.line (slice_get_within (lines_of report) h.place h.line h.there) h.there))
one_verdict graph scripts limit report (Wrong m) Yes g h = absurd (g.wrong (h g.place g.line (slice_get_within (lines_of report) g.place g.line g.there) g.there))
one_verdict graph scripts limit report (Wrong m) (Wrong n) g h =
    let same : g.place ≡ h.place = equal g.place h.place (first_is_one graph scripts limit report m n g h) (first_is_one graph scripts limit report n m h g) in
    ap (λ k. Wrong k) (g.number ∙ ap (λ k. k + 1) same ∙ sym h.number)
  where
    equal : (j k : ℕ) → (j < k → ⊥) → (k < j → ⊥) → j ≡ k
    equal j k below above = grind (arith, below, above)
