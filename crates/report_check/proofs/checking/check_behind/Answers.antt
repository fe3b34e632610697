use Rattle.std.proofs.Common.{◌+◌, ◌≤◌, sym, ap, ◌∙◌, subst, true≢false, length, arith}
use Rattle.std.specs.List.{zip}
use Rattle.signal_graph.specs.Graph.{Graph}
use Rattle.report_check.specs.Differing.{DifferFirst}
use Rattle.report_check.specs.Right.{log_of, IsFirstWrong}
use Rattle.report_check.proofs.Judging.{IsPassed, due_is, last_is, refused_wrong, finals_wrong, counts_wrong, right_whole, number_within}
use Rattle.report_check.proofs.checking.check_behind.Goals as goal

pub returns-in-Some : goal.returns-in-Some
returns-in-Some c =
    let graph = c.args.deck.now.graph in
    let scripts = c.args.deck.now.scripts in
    let report = c.args.report.now in
    let made = c.args.pass.made in
    let log = log_of graph scripts report.calls in
    let passed : IsPassed graph scripts c.args.versions report made = record { made_is = c.requires.made; size = c.requires.size; through = c.requires.through } in
    let due = due_is graph c.graph-graph.result.now scripts c.scripts.result.now c.args.versions log c.args.pass.seats.items c.as_slice.result.now c.in_ok-due.due c.graph-graph.ensures.value c.scripts.ensures.value c.as_slice.ensures.value c.in_ok-due.ensures c.requires.stands.seated in
    let differ = subst (λ g. DifferFirst c.in_ok-due.due g c.in-Some.place) c.as_slice-3.ensures (subst (λ d. DifferFirst d c.as_slice-3.result.now c.in-Some.place) c.as_slice-2.ensures c.in-Some.ensures.some) in
    refused_wrong graph scripts c.args.versions report made c.in_ok-due.due c.in-Some.place passed due differ

pub overflow_cast-result-in-Some-first_other_final : goal.overflow_cast-result-in-Some-first_other_final
overflow_cast-result-in-Some-first_other_final c =
    let low = subst (λ given. c.in-Some-first_other_final.place ≤ length given) c.as_slice-5.ensures c.in-Some-first_other_final.ensures.some.in_given in
    let number = number_within c.args.report.now c.args.pass.made c.len.result c.in-Some-first_other_final.place c.requires.size c.len.ensures low in
    let few = c.requires.few in
    omega (arith, number, few)

pub overflow_add-result-in-Some-first_other_final-2 : goal.overflow_add-result-in-Some-first_other_final-2
overflow_add-result-in-Some-first_other_final-2 c =
    let low = subst (λ given. c.in-Some-first_other_final.place ≤ length given) c.as_slice-5.ensures c.in-Some-first_other_final.ensures.some.in_given in
    let number = number_within c.args.report.now c.args.pass.made c.len.result c.in-Some-first_other_final.place c.requires.size c.len.ensures low in
    let few = c.requires.few in
    omega (arith, number, few)

pub overflow_add-result-in-Some-first_other_final-3 : goal.overflow_add-result-in-Some-first_other_final-3
overflow_add-result-in-Some-first_other_final-3 c =
    let low = subst (λ given. c.in-Some-first_other_final.place ≤ length given) c.as_slice-5.ensures c.in-Some-first_other_final.ensures.some.in_given in
    let number = number_within c.args.report.now c.args.pass.made c.len.result c.in-Some-first_other_final.place c.requires.size c.len.ensures low in
    let few = c.requires.few in
    omega (arith, number, few)

pub returns-in-Some-first_other_final : goal.returns-in-Some-first_other_final
returns-in-Some-first_other_final c =
    let graph = c.args.deck.now.graph in
    let scripts = c.args.deck.now.scripts in
    let report = c.args.report.now in
    let made = c.args.pass.made in
    let log = log_of graph scripts report.calls in
    let passed : IsPassed graph scripts c.args.versions report made = record { made_is = c.requires.made; size = c.requires.size; through = c.requires.through } in
    let due = due_is graph c.graph-graph.result.now scripts c.scripts.result.now c.args.versions log c.args.pass.seats.items c.as_slice.result.now c.in_ok-due.due c.graph-graph.ensures.value c.scripts.ensures.value c.as_slice.ensures.value c.in_ok-due.ensures c.requires.stands.seated in
    let same = sym c.as_slice-2.ensures ∙ c.in_default.ensures.none ∙ c.as_slice-3.ensures in
    let last = c.as_slice-4.ensures ∙ last_is graph c.args.pass.machine log c.into_values-values.result c.requires.stands.graph_is c.requires.stands.machine_at c.into_values-values.ensures in
    let place = c.in-Some-first_other_final.place in
    let differ = subst (λ g. DifferFirst (zip graph.names c.as_slice-4.result.now) g place) c.as_slice-5.ensures (subst (λ (g : Graph). DifferFirst (zip g.names c.as_slice-4.result.now) c.as_slice-5.result.now place) c.graph-graph.ensures.value c.in-Some-first_other_final.ensures.some) in
    subst (λ n. IsFirstWrong graph scripts c.args.versions report (made + (n + place) + 1)) (sym c.len.ensures)
    (finals_wrong graph scripts c.args.versions report made c.in_ok-due.due c.as_slice-4.result.now place passed due same last differ)

pub returns-then-not-has_counts : goal.returns-then-not-has_counts
returns-then-not-has_counts c =
    let graph = c.args.deck.now.graph in
    let scripts = c.args.deck.now.scripts in
    let report = c.args.report.now in
    let made = c.args.pass.made in
    let log = log_of graph scripts report.calls in
    let passed : IsPassed graph scripts c.args.versions report made = record { made_is = c.requires.made; size = c.requires.size; through = c.requires.through } in
    let due = due_is graph c.graph-graph.result.now scripts c.scripts.result.now c.args.versions log c.args.pass.seats.items c.as_slice.result.now c.in_ok-due.due c.graph-graph.ensures.value c.scripts.ensures.value c.as_slice.ensures.value c.in_ok-due.ensures c.requires.stands.seated in
    let same = sym c.as_slice-2.ensures ∙ c.in_default.ensures.none ∙ c.as_slice-3.ensures in
    let last = c.as_slice-4.ensures ∙ last_is graph c.args.pass.machine log c.into_values-values.result c.requires.stands.graph_is c.requires.stands.machine_at c.into_values-values.ensures in
    let same_last = ap (λ (g : Graph). zip g.names c.as_slice-4.result.now) (sym c.graph-graph.ensures.value) ∙ c.in_default-first_other_final.ensures.none ∙ c.as_slice-5.ensures in
    let wrong = counts_wrong graph scripts c.args.versions report made c.in_ok-due.due c.as_slice-4.result.now passed due same last same_last (λ e. true≢false (sym (c.has_counts.ensures.1 (e.0, e.1 ∙ sym c.len-2.ensures)) ∙ c.if-not-has_counts.true)) in
    subst (λ n. IsFirstWrong graph scripts c.args.versions report (made + (n + c.len-then-not-has_counts-2.result) + 1)) (sym c.len-then-not-has_counts.ensures)
    (subst (λ n. IsFirstWrong graph scripts c.args.versions report (made + (length report.refused + n) + 1)) (sym c.len-then-not-has_counts-2.ensures) wrong)

pub returns : goal.returns
returns c =
    let graph = c.args.deck.now.graph in
    let scripts = c.args.deck.now.scripts in
    let report = c.args.report.now in
    let made = c.args.pass.made in
    let log = log_of graph scripts report.calls in
    let passed : IsPassed graph scripts c.args.versions report made = record { made_is = c.requires.made; size = c.requires.size; through = c.requires.through } in
    let due = due_is graph c.graph-graph.result.now scripts c.scripts.result.now c.args.versions log c.args.pass.seats.items c.as_slice.result.now c.in_ok-due.due c.graph-graph.ensures.value c.scripts.ensures.value c.as_slice.ensures.value c.in_ok-due.ensures c.requires.stands.seated in
    let same = sym c.as_slice-2.ensures ∙ c.in_default.ensures.none ∙ c.as_slice-3.ensures in
    let last = c.as_slice-4.ensures ∙ last_is graph c.args.pass.machine log c.into_values-values.result c.requires.stands.graph_is c.requires.stands.machine_at c.into_values-values.ensures in
    let same_last = ap (λ (g : Graph). zip g.names c.as_slice-4.result.now) (sym c.graph-graph.ensures.value) ∙ c.in_default-first_other_final.ensures.none ∙ c.as_slice-5.ensures in
    let counts = c.has_counts.ensures.0 c.if-not-has_counts.false in
    right_whole graph scripts c.args.versions report made c.in_ok-due.due c.as_slice-4.result.now passed due same last same_last counts.0 (counts.1 ∙ c.len-2.ensures)
