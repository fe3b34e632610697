use Rattle.std.proofs.Common.{List, ℕ, ◌+◌, length, drop, sym, ap, ◌∙◌, arith}
use Rattle.std.proofs.lemmas.Grind.{common_steps}
use Rattle.signal_graph.specs.Declarations.{script_names}
use Rattle.deck_lines.specs.Inputs.{seen_after}
use Rattle.deck_lines.proofs.InputLaws.{see_part, see_all, length-seen}
use Rattle.deck_lines.proofs.inputs.different_inputs.Goals as goal

pub loop-selector-preserved : goal.loop-selector-preserved
loop-selector-preserved c =
    let parts = c.args.selectors.now in
    let k = c.loop-selector.selector-index in
    let seen = c.loop-selector.seen.items in
    let part = see_part seen parts k c.selector-item.result (omega arith) c.selector-item.is in
    let names = c.as_slice.ensures ∙ c.inputs.ensures.names in
    let after = c.in_ok-see.ensures ∙ ap (seen_after seen) names in
    c.loop-selector.invariant ∙ part ∙ ap (λ (s : List (List ℕ)). seen_after s (script_names (drop (k + 1) parts))) (sym after)

pub returns : goal.returns
returns c =
    let whole = see_all c.loop-selector.seen.items c.args.selectors.now c.loop-selector.selector-index (omega arith) c.loop-selector.invariant in
    let count = ap length whole in
    let different = length-seen (script_names c.args.selectors.now) in
    grind (arith, common_steps, count, different)
