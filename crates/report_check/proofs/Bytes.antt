-- Reports of runs by their bytes.
use Rattle.std.proofs.Common.{◌≡◌, ℕ, ◌≤◌, ◌↔◌, List, [], ◌∷◌, ◌++◌, length, map, sym, ap, ◌∙◌, subst, arith, length-append}
use Rattle.std.specs.List.{flat_map}
use Rattle.std.proofs.lemmas.List.{length-map}
use Rattle.script_tree.specs.declared.value.Value.{Value}
use Rattle.signal_graph.specs.declared.call.Call.{Call}
use Rattle.signal_graph.specs.declared.log.Logged.{Logged}
use Rattle.signal_graph.specs.declared.log.Refused.{Refused}
use Rattle.signal_graph.specs.Graph.{Graph}
use Rattle.report_text.specs.declared.data.CallLine.{CallLine}
use Rattle.report_text.specs.declared.data.Report.{Report}
use Rattle.report_text.specs.Report.{report_of, call_line, refused_line, final_line, done_line}
use Rattle.report_text.specs.Printed.{printed, data_of, IsReport}
use Rattle.report_check.specs.Lines.{OfCall, lines_behind, lines_of}
use Rattle.report_check.specs.Runs.{IsReportOfRun, AreReportOfRun}
use Rattle.report_check.proofs.Judging.{behind_size}

pub by_bytes : ((log : List Logged) (refused : List Refused) (names : List (List ℕ)) (finals : List Value) → report_of log refused names finals ≡ printed (data_of log refused names finals))
    → ((a b : Report) → IsReport a → IsReport b → printed a ≡ printed b → a ≡ b)
    → (graph : Graph) (scripts : List (List Call)) (limit : ℕ) (report : Report) → IsReport report → IsReportOfRun graph scripts limit report ↔ AreReportOfRun graph scripts limit (printed report)
by_bytes run_text one graph scripts limit report is = (there, back)
  where
    there : IsReportOfRun graph scripts limit report → AreReportOfRun graph scripts limit (printed report)
    there h = record {
      log = h.log;
      refused = h.run.refused;
      last = h.run.last;
      text = ap printed h.run.lines ∙ sym (run_text h.log h.run.refused graph.names h.run.last);
      fits = subst IsReport h.run.lines is;
      merge = h.run.merge;
      legal = h.run.legal;
      finals = h.run.finals;
    }

    back : AreReportOfRun graph scripts limit (printed report) → IsReportOfRun graph scripts limit report
    back h = record {
      log = h.log;
      run = record {
        refused = h.refused;
        last = h.last;
        lines = one report (data_of h.log h.refused graph.names h.last) is h.fits (h.text ∙ run_text h.log h.refused graph.names h.last);
        merge = h.merge;
        legal = h.legal;
        finals = h.finals;
      };
    }

few_of : {X : Type 0} (text : X → List ℕ) → ((x : X) → 1 ≤ length (text x)) → (xs : List X) → length xs ≤ length (flat_map text xs)
few_of text some [] = omega arith
few_of text some (x ∷ xs) =
    let rest = few_of text some xs in
    let one = some x in
    let both = length-append (text x) (flat_map text xs) in
    omega (arith, rest, one, both)

some_call : (line : CallLine) → 1 ≤ length (call_line line)
some_call line = omega arith

some_refusal : (refused : Refused) → 1 ≤ length (refused_line refused)
some_refusal refused = omega arith

some_final : (last : List ℕ × Value) → 1 ≤ length (final_line last)
some_final last = omega arith

some_done : (accepted refusals : ℕ) → 1 ≤ length (done_line accepted refusals)
some_done accepted refusals = omega arith

pub few_lines : (report : Report) → length (lines_of report) ≤ length (printed report)
few_lines report =
    let calls = flat_map call_line report.calls in
    let refused = flat_map refused_line report.refused in
    let last = flat_map final_line report.finals in
    let done = done_line report.accepted report.refusals in
    let a = few_of call_line some_call report.calls in
    let b = few_of refused_line some_refusal report.refused in
    let c = few_of final_line some_final report.finals in
    let d = some_done report.accepted report.refusals in
    let e = length-append calls (refused ++ (last ++ done)) in
    let f = length-append refused (last ++ done) in
    let g = length-append last done in
    let behind = behind_size report.refused report.finals report.accepted report.refusals in
    let front = length-map report.calls OfCall in
    let all = length-append (map OfCall report.calls) (lines_behind report.refused report.finals report.accepted report.refusals) in
    omega (arith, a, b, c, d, e, f, g, behind, front, all)
