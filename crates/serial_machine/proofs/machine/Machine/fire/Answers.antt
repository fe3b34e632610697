use Rattle.std.proofs.Common.{◌≡◌, ap, ◌∙◌, map, rules, arith}
use Rattle.std.proofs.lemmas.Grind.{common_steps}
use Rattle.signal_graph.specs.declared.call.Call.TheVariants.{Fire}
use Rattle.signal_graph.specs.Values.{at}
use Rattle.signal_graph.specs.OnePass.{after_call}
use Rattle.serial_machine.specs.State.{State}
use Rattle.serial_machine.proofs.InPlace.{kept_after}
use Rattle.serial_machine.proofs.ReplyLaws.{fired_is}
use Rattle.serial_machine.proofs.machine.Machine.fire.Goals as goal

pub returns-clause-replies : goal.returns-clause-replies
returns-clause-replies c names numbers =
    let graph = c.args.self.now.graph in
    let all = c.args.self.now.all in
    let g : c.self.inside.graph.now ≡ graph = ap (λ (s : State). s.graph) c.self.view_is in
    let b : c.as_slice-2.result.now ≡ all = first_of (search rules, grind (arith, common_steps)) in
    let n : c.renew_all-counts.new.now.items ≡ after_call graph all (Fire c.args.sets.now names) = first_of (search rules, grind (arith, common_steps)) in
    fired_is c.self.inside.graph.now graph c.as_slice-2.result.now all c.renew_all-counts.new.now.items (after_call graph all (Fire c.args.sets.now names)) c.args.looks.now names
    c.renew_all-counts.result.changed c.renew_all-counts.result.evaluated c.look.result c.renew_all-counts.ensures.changed c.renew_all-counts.ensures.evaluated
    (c.look.ensures ∙ ap (λ vs. map (at vs) c.args.looks.now) c.as_slice-4.ensures.value) numbers g b n
