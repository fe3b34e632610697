use Rattle.std.proofs.Common.{◌∙◌}
use Rattle.script_tree.specs.Tree.{tree_of}
use Rattle.expr_script.specs.Pieces.{words_among}
use Rattle.expr_script.specs.Tokens.{names}
use Rattle.expr_script.proofs.Made.{few_kept, new_script, spells_many, spells_script}
use Rattle.expr_script.proofs.parse.parse.Goals as goal

pub tokens_of-requires-clause-few : goal.tokens_of-requires-clause-few
tokens_of-requires-clause-few c = few_kept (names c.args.atoms (words_among c.args.text.now c.args.pieces.now)) c.in_ok-inputs.inputs.names c.in_ok-inputs.inputs.more c.in_ok-inputs.ensures

pub returns-then-inputs-clause-answer : goal.returns-then-inputs-clause-answer
returns-then-inputs-clause-answer c =
    spells_many c.args.atoms (words_among c.args.text.now c.args.pieces.now) c.in_ok-inputs.inputs.names c.in_ok-inputs.inputs.more c.deref.result.now (tree_of c.in-Ok.tree)
    (record { keeps = c.in_ok-inputs.ensures; tokens_are = c.deref.ensures.value ∙ c.in_ok-tokens.ensures; spells = c.in-Ok.ensures.found; shallow = c.in-Ok.ensures.shallow; leaves = c.in-Ok.ensures.leaves })
    c.if-inputs.true

pub new-requires : goal.new-requires
new-requires c =
    (new_script c.args.atoms (words_among c.args.text.now c.args.pieces.now) c.in_ok-inputs.inputs.names c.in_ok-inputs.inputs.more c.deref.result.now (tree_of c.in-Ok.tree)
    (record { keeps = c.in_ok-inputs.ensures; tokens_are = c.deref.ensures.value ∙ c.in_ok-tokens.ensures; spells = c.in-Ok.ensures.found; shallow = c.in-Ok.ensures.shallow; leaves = c.in-Ok.ensures.leaves })
    c.if-inputs.false).1

pub returns-clause-answer : goal.returns-clause-answer
returns-clause-answer c =
    (spells_script c.args.atoms (words_among c.args.text.now c.args.pieces.now) c.in_ok-inputs.inputs.names c.in_ok-inputs.inputs.more c.deref.result.now (tree_of c.in-Ok.tree) c.new.result
    (record { keeps = c.in_ok-inputs.ensures; tokens_are = c.deref.ensures.value ∙ c.in_ok-tokens.ensures; spells = c.in-Ok.ensures.found; shallow = c.in-Ok.ensures.shallow; leaves = c.in-Ok.ensures.leaves })
    c.if-inputs.false c.new.ensures.names c.new.ensures.tree).0

pub returns-clause-atoms : goal.returns-clause-atoms
returns-clause-atoms c =
    (spells_script c.args.atoms (words_among c.args.text.now c.args.pieces.now) c.in_ok-inputs.inputs.names c.in_ok-inputs.inputs.more c.deref.result.now (tree_of c.in-Ok.tree) c.new.result
    (record { keeps = c.in_ok-inputs.ensures; tokens_are = c.deref.ensures.value ∙ c.in_ok-tokens.ensures; spells = c.in-Ok.ensures.found; shallow = c.in-Ok.ensures.shallow; leaves = c.in-Ok.ensures.leaves })
    c.if-inputs.false c.new.ensures.names c.new.ensures.tree).1
