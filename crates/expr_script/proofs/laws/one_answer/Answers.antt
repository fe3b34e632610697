use Rattle.expr_script.specs.declared.atoms.Atoms.TheVariants.{Script, Body}
use Rattle.expr_script.proofs.OneAnswer.{OneOfTokens, one_answer}
use Rattle.expr_script.proofs.laws.one_answer.Goals as goal

grammar : (c : goal.After-one_answer) → OneOfTokens
grammar c = record { one_tree = c.one_tree.ensures; shallow = c.one_answer.ensures.shallow; apart = c.one_answer.ensures.apart; one_fault = c.one_answer.ensures.one_fault; one_depth = c.one_answer.ensures.one_depth }

pub returns-clause-script : goal.returns-clause-script
returns-clause-script c = λ acc. one_answer (grammar c) (Script acc)

pub returns-clause-body : goal.returns-clause-body
returns-clause-body c = λ picks. one_answer (grammar c) (Body picks)
