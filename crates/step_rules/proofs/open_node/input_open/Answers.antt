use Rattle.std.proofs.Common.{ℕ, List, find, ap, ◌∙◌}
use Rattle.flow_model.specs.Machine.State.{opens}
use Rattle.flow_model.specs.Parts.Books.{bare}
use Rattle.step_rules.proofs.Turns.{open-input, open-pick}
use Rattle.step_rules.proofs.open_node.input_open.Goals as goal

pub returns-in-Some : goal.returns-in-Some
returns-in-Some c = open-input c.args.graph.now c.args.book.now c.args.version c.args.node c.args.picked.now c.args.given c.first_open.result c.in-Some.input c.if-not-given.false (c.first_open.ensures ∙ ap (λ (xs : List ℕ). find (opens (bare c.args.book.now.book) c.args.version) xs) c.inputs.ensures) c.in-Some.is

pub returns-in-None : goal.returns-in-None
returns-in-None c = open-pick c.args.graph.now c.args.book.now c.args.version c.args.node c.args.picked.now c.args.given c.first_open.result c.first_open-in-None.result c.if-not-given.false (c.first_open.ensures ∙ ap (λ (xs : List ℕ). find (opens (bare c.args.book.now.book) c.args.version) xs) c.inputs.ensures) c.in-None.is c.first_open-in-None.ensures
