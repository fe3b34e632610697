use Rattle.std.proofs.Common.{◌≡◌, ◌+◌, ◌<◌, ◌≤◌, ◌^◌, ◌∷◌, [], ℕ, min, List, take, length, sym, ap, ◌∙◌, subst, arith}
use Rattle.std.specs.Prelude.{All, sum_by}
use Rattle.std.specs.Vec.Iter.{into_iter_items}
use Rattle.std.proofs.lemmas.List.Elements.{All-tail}
use Rattle.std.proofs.lemmas.List.{nil_from_length}
use Rattle.signal_graph.specs.declared.log.Logged.{Logged}
use Rattle.signal_graph.specs.declared.log.Refused.{Refused}
use Rattle.signal_graph.specs.declared.call.Call.{Call}
use Rattle.signal_graph.specs.Graph.{Graph}
use Rattle.signal_graph.specs.Legal.{Legal}
use Rattle.call_log.specs.Made.{count_well_named}
use Rattle.call_log.specs.Merge.{Merge}
use Rattle.serial_machine.specs.Progress.{Progress, all_run, nothing_yet}
use Rattle.serial_machine.specs.Running.{IsWithinLimits}
use Rattle.serial_machine.specs.SerialOrder.{made_in, serial_calls, CountsVersions}
use Rattle.serial_machine.proofs.Runs.{run_is_legal}
use Rattle.serial_machine.proofs.Merging.{run_is_merge, run_makes_first, run_counts_versions}
use Rattle.serial_machine.proofs.Moving.{few_of_all, room_for_caller, moved_caller, whole_run}
use Rattle.serial_machine.proofs.run.serial_owned.Goals as goal

legal : (graph : Graph) (limit : ℕ) (scripts : List (List Call)) (log : List Logged) (progress : Progress) → log ≡ progress.log → progress ≡ all_run graph limit 1 scripts nothing_yet → Legal graph log
legal graph limit scripts log progress e h = subst (λ l. Legal graph l) (sym (e ∙ ap (λ (p : Progress). p.log) h)) (run_is_legal graph limit scripts)

merge : (graph : Graph) (limit : ℕ) (scripts : List (List Call)) (log : List Logged) (refused : List Refused) (progress : Progress) → log ≡ progress.log → refused ≡ progress.refused → progress ≡ all_run graph limit 1 scripts nothing_yet → Merge graph scripts limit log refused
merge graph limit scripts log refused progress e f h =
    subst (λ l. Merge graph scripts limit l refused) (sym (e ∙ ap (λ (p : Progress). p.log) h))
    (subst (λ r. Merge graph scripts limit (all_run graph limit 1 scripts nothing_yet).log r) (sym (f ∙ ap (λ (p : Progress). p.refused) h))
    (run_is_merge graph limit scripts))

in_order : (graph : Graph) (limit : ℕ) (scripts : List (List Call)) (log : List Logged) (progress : Progress) → log ≡ progress.log → progress ≡ all_run graph limit 1 scripts nothing_yet → made_in log ≡ take limit (serial_calls graph scripts)
in_order graph limit scripts log progress e h = ap made_in (e ∙ ap (λ (p : Progress). p.log) h) ∙ run_makes_first graph limit scripts

counting : (graph : Graph) (limit : ℕ) (scripts : List (List Call)) (log : List Logged) (progress : Progress) → log ≡ progress.log → progress ≡ all_run graph limit 1 scripts nothing_yet → CountsVersions log
counting graph limit scripts log progress e h = subst (λ l. CountsVersions l) (sym (e ∙ ap (λ (p : Progress). p.log) h)) (run_counts_versions graph limit scripts)

pub call_all-requires-clause-room : goal.call_all-requires-clause-room
call_all-requires-clause-room c =
    let at = c.loop-calls in
    let i = at.invariant in
    let steps : into_iter_items at.calls-iterator ≡ c.in-Some.calls ∷ into_iter_items c.next.new.self = c.in-Some.ensures.steps.0 in
    let count : c.count_calls-count.result ≡ min c.args.versions (sum_by length c.args.scripts) = c.count_calls-count.ensures ∙ ap (λ (s : List (List Call)). min c.args.versions (sum_by length s)) c.as_slice.ensures in
    let few = few_of_all c.args.graph.now c.args.scripts in
    let room : min c.args.versions (count_well_named c.args.graph.now c.args.scripts) ≤ c.count_calls-count.result = omega (arith, count, few) in
    room_for_caller c.args.graph.now at.run.graph c.args.versions at.run.limit at.caller c.in-Some.calls (into_iter_items c.next.new.self) (into_iter_items at.calls-iterator)
    c.args.scripts at.run.progress c.count_calls-count.result at.run.capacity i.0 i.1 i.2 steps i.7 room

pub loop-calls-preserved : goal.loop-calls-preserved
loop-calls-preserved c =
    let at = c.loop-calls in
    let i = at.invariant in
    let rest = into_iter_items c.next.new.self in
    let steps : into_iter_items at.calls-iterator ≡ c.in-Some.calls ∷ rest = c.in-Some.ensures.steps.0 in
    let gone = c.in-Some.ensures.steps.1 in
    let short = ap length steps in (
      c.in_ok-call_all.ensures.graph ∙ i.0,
      c.in_ok-call_all.ensures.limit ∙ i.1,
      c.in_ok-call_all.ensures.capacity ∙ i.2,
      (let size = i.3 in omega arith),
      (let was = i.4 in omega arith),
      All-tail (λ (calls : List Call). length calls < 2 ^ 32) c.in-Some.calls rest (subst (All (λ (calls : List Call). length calls < 2 ^ 32)) steps i.5),
      All-tail (All IsWithinLimits) c.in-Some.calls rest (subst (All (All IsWithinLimits)) steps i.6),
      moved_caller c.args.graph.now at.run.graph c.args.versions at.run.limit at.caller c.in-Some.calls rest (into_iter_items at.calls-iterator)
          c.args.scripts at.run.progress c.call_all.new.self.progress i.0 i.1 steps c.in_ok-call_all.ensures.called i.7,
    )

pub returns-clause-legal : goal.returns-clause-legal
returns-clause-legal c =
    let at = c.loop-calls in
    let none = c.in-None.ensures.steps in
    let empty : into_iter_items at.calls-iterator ≡ [] = nil_from_length (into_iter_items at.calls-iterator) (sym at.invariant.4 ∙ none.0) in
    let whole = whole_run c.args.graph.now c.args.versions (at.caller + 1) (into_iter_items at.calls-iterator) c.args.scripts at.run.progress empty at.invariant.7 in
    legal c.args.graph.now c.args.versions c.args.scripts c.finish.result.log.entries at.run.progress c.finish.ensures.log whole

pub returns-clause-merge : goal.returns-clause-merge
returns-clause-merge c =
    let at = c.loop-calls in
    let none = c.in-None.ensures.steps in
    let empty : into_iter_items at.calls-iterator ≡ [] = nil_from_length (into_iter_items at.calls-iterator) (sym at.invariant.4 ∙ none.0) in
    let whole = whole_run c.args.graph.now c.args.versions (at.caller + 1) (into_iter_items at.calls-iterator) c.args.scripts at.run.progress empty at.invariant.7 in
    merge c.args.graph.now c.args.versions c.args.scripts c.finish.result.log.entries c.finish.result.refused at.run.progress c.finish.ensures.log c.finish.ensures.refused whole

pub returns-clause-calls : goal.returns-clause-calls
returns-clause-calls c =
    let at = c.loop-calls in
    let none = c.in-None.ensures.steps in
    let empty : into_iter_items at.calls-iterator ≡ [] = nil_from_length (into_iter_items at.calls-iterator) (sym at.invariant.4 ∙ none.0) in
    let whole = whole_run c.args.graph.now c.args.versions (at.caller + 1) (into_iter_items at.calls-iterator) c.args.scripts at.run.progress empty at.invariant.7 in
    in_order c.args.graph.now c.args.versions c.args.scripts c.finish.result.log.entries at.run.progress c.finish.ensures.log whole

pub returns-clause-versions : goal.returns-clause-versions
returns-clause-versions c =
    let at = c.loop-calls in
    let none = c.in-None.ensures.steps in
    let empty : into_iter_items at.calls-iterator ≡ [] = nil_from_length (into_iter_items at.calls-iterator) (sym at.invariant.4 ∙ none.0) in
    let whole = whole_run c.args.graph.now c.args.versions (at.caller + 1) (into_iter_items at.calls-iterator) c.args.scripts at.run.progress empty at.invariant.7 in
    counting c.args.graph.now c.args.versions c.args.scripts c.finish.result.log.entries at.run.progress c.finish.ensures.log whole
