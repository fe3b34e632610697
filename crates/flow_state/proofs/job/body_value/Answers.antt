use Rattle.std.proofs.Common.{ℕ, List, map, Option, sym, ap, ◌∙◌, arith}
use Rattle.std.proofs.lemmas.Simd.{map-map}
use Rattle.std.specs.Borrow.{Bor}
use Rattle.std.specs.Option.{option_copied}
use Rattle.script_tree.specs.declared.value.Value.{Value}
use Rattle.script_tree.specs.Scripts.{Scripted}
use Rattle.script_tree.specs.Eval.{eval_body}
use Rattle.flow_model.specs.Machine.Words.{pick_over, body_over}
use Rattle.flow_state.specs.declared.found.Found.{Found}
use Rattle.flow_state.specs.Found.{selection_of}
use Rattle.flow_state.specs.Jobs.{read_from}
use Rattle.flow_state.proofs.JobLemmas.{all_mapped}
use Rattle.flow_state.proofs.job.body_value.Goals as goal

pub returns-after-loop-index : goal.returns-after-loop-index
returns-after-loop-index c =
    let read : ℕ → Value = read_from c.args.gathered.now in
    let sels = map selection_of c.args.found.now in
    let len = c.len-index-end.ensures in
    let row = all_mapped (λ (f : Found). pick_over read (selection_of f)) c.args.found.now c.loop-index.index c.loop-index.row (omega (arith, len)) c.loop-index.invariant ∙ sym (map-map (pick_over read) selection_of c.args.found.now) in
    c.eval_body.ensures
    ∙ ap (λ (vs : List Value). eval_body c.in-Some.script.now.tree vs) (c.as_slice.ensures ∙ row)
    ∙ ap (λ (b : Option (Bor Scripted)). body_over (option_copied b) read sels) (sym c.in-Some.is)
