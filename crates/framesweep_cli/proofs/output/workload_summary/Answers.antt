use Rattle.std.proofs.Common.{◌∙◌}
use Rattle.framesweep_cli.proofs.Workloads.{if_summarized}
use Rattle.framesweep_cli.proofs.output.workload_summary.Goals as goal

pub returns : goal.returns
returns g c =
    if_summarized c.workload_is_separate.ensures.count c.workload_ends_alike.ensures.alike c.args.number c.into_parts-graph.result.0
    c.into_parts-graph.result.1 c.in_ok-finished.finished.log.entries c.in_ok-finished.finished.refused c.in_ok-finished.finished.finals
    c.summary.result (c.into_parts-graph.ensures.graph ∙ c.in_ok-deck.ensures.graph) (c.into_parts-graph.ensures.scripts ∙ c.in_ok-deck.ensures.scripts)
    c.in_ok-finished.ensures.legal c.in_ok-finished.ensures.merge c.in_ok-finished.ensures.finals
    c.summary.ensures.workload
