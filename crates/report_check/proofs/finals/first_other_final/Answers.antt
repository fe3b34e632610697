use Rattle.std.proofs.Common.{arith, ◌≡◌, [], sym, ◌∙◌, subst, take, true≢false}
use Rattle.std.specs.List.{zip}
use Rattle.std.proofs.lemmas.List.{take_more_same}
use Rattle.script_tree.specs.declared.value.Fault.TheVariants.{NoChoice}
use Rattle.script_tree.specs.declared.value.Value.TheVariants.{Fault as Faulty}
use Rattle.report_check.proofs.Comparing.{differ_within, given_ends, due_ends, length_zip, zip_at, same_whole}
use Rattle.report_check.proofs.finals.first_other_final.Goals as goal

pub returns-then-place-given-clause-some : goal.returns-then-place-given-clause-some
returns-then-place-given-clause-some c =
    let names = c.args.graph.now.names in
    let values = c.args.values.now in
    let named = c.len-len.ensures.kept.named in
    let size = length_zip names values (named ∙ sym c.requires) in
    given_ends (zip names values) c.args.given.now c.loop-node.node ([], Faulty NoChoice) c.loop-node.invariant.2 (omega (arith, named, size, c.loop-node-test.true, c.loop-node.invariant.0)) c.loop-node.invariant.1 c.if-place-given.true

pub returns-then-not-is_last-clause-some : goal.returns-then-not-is_last-clause-some
returns-then-not-is_last-clause-some c =
    let names = c.args.graph.now.names in
    let values = c.args.values.now in
    let named = c.len-len.ensures.kept.named in
    let size = length_zip names values (named ∙ sym c.requires) in
    let last = c.index-given-place.result in
    let here = zip_at names values c.loop-node.node [] (Faulty NoChoice) last (omega (arith, named, c.loop-node-test.true, c.loop-node.invariant.0)) (named ∙ sym c.requires) in
    differ_within (zip names values) c.args.given.now c.loop-node.node last c.loop-node.invariant.2 (omega (arith, named, size, c.loop-node-test.true, c.loop-node.invariant.0)) c.if-place-given.false
    (λ e. true≢false (sym (c.is_last.ensures.1 (sym here ∙ e ∙ sym c.index-given-place.is)) ∙ c.if-not-is_last.true))

pub loop-node-preserved : goal.loop-node-preserved
loop-node-preserved c =
    let names = c.args.graph.now.names in
    let values = c.args.values.now in
    let named = c.len-len.ensures.kept.named in
    let size = length_zip names values (named ∙ sym c.requires) in
    let last = c.index-given-place.result in
    let here = zip_at names values c.loop-node.node [] (Faulty NoChoice) last (omega (arith, named, c.loop-node-test.true, c.loop-node.invariant.0)) (named ∙ sym c.requires) in
    let same = c.is_last.ensures.0 (c.if-not-is_last.false) in
    (c.loop-node.invariant.0, omega (arith, c.if-place-given.false), take_more_same (zip names values) c.args.given.now c.loop-node.node last (omega (arith, named, size, c.loop-node-test.true, c.loop-node.invariant.0)) c.if-place-given.false c.loop-node.invariant.2 (here ∙ same ∙ c.index-given-place.is))

pub returns-then-len-given-clause-some : goal.returns-then-len-given-clause-some
returns-then-len-given-clause-some c =
    let names = c.args.graph.now.names in
    let values = c.args.values.now in
    let named = c.len-len.ensures.kept.named in
    let size = length_zip names values (named ∙ sym c.requires) in
    let end : c.loop-node.node ≡ c.len-len.result = omega (arith, c.loop-node-test.false, c.loop-node.auto.node-end) in
    due_ends (zip names values) c.args.given.now c.len-len.result ([], Faulty NoChoice) (subst (λ n. take n (zip names values) ≡ take n c.args.given.now) end c.loop-node.invariant.2) (omega (arith, named, size, c.loop-node.invariant.0)) c.if-len-given.true

pub returns-clause-none : goal.returns-clause-none
returns-clause-none c =
    let names = c.args.graph.now.names in
    let values = c.args.values.now in
    let named = c.len-len.ensures.kept.named in
    let size = length_zip names values (named ∙ sym c.requires) in
    same_whole (zip names values) c.args.given.now c.loop-node.node c.loop-node.invariant.2 (omega (arith, named, size, c.loop-node-test.false, c.loop-node.invariant.0)) (omega (arith, c.loop-node-test.false, c.if-len-given.false))
