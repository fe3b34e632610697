use Rattle.expr_script.specs.Pieces.{words}
use Rattle.expr_script.specs.declared.atoms.Atoms.TheVariants.{Body}
use Rattle.std.specs.Prelude.{Ok}
use Rattle.expr_script.specs.declared.faults.ScriptFault.TheVariants.{Memory}
use Rattle.expr_script.specs.Printed.{printed}
use Rattle.expr_script.proofs.OneAnswer.{script_is_no_fault}
use Rattle.expr_script.proofs.PrintedBack.{OfGrammar, spelled_formed, printed_text_spells, printed_back, printed_fewest, printed_apart, printed_no_longer, printed_short}
use Rattle.expr_script.proofs.laws.canonical_body.Goals as goal

grammar : (c : goal.After-one_answer) → OfGrammar
grammar c = record { spells = c.canonical_spells.ensures.spells; shortest = c.canonical_spells.ensures.shortest; shallowest = c.canonical_spells.ensures.shallowest; leaves = c.leaves_are_words.ensures }

pub returns-clause-formed : goal.returns-clause-formed
returns-clause-formed c = λ picks list script h. spelled_formed (grammar c) (Body picks) list script h

pub returns-clause-spells : goal.returns-clause-spells
returns-clause-spells c = λ picks script few h d. printed_text_spells (grammar c) (Body picks) script few h d

pub returns-clause-words : goal.returns-clause-words
returns-clause-words c = λ picks script few h. printed_back (Body picks) script few h

pub returns-clause-fewest : goal.returns-clause-fewest
returns-clause-fewest c = λ picks list script h. printed_fewest (grammar c) (Body picks) list script h

pub returns-clause-apart : goal.returns-clause-apart
returns-clause-apart c = λ picks script last more few h m. printed_apart (Body picks) script few h last more m

pub returns-clause-within : goal.returns-clause-within
returns-clause-within c = λ picks list script last more h. printed_no_longer (Body picks) list script h last more

pub returns-clause-short : goal.returns-clause-short
returns-clause-short c = λ picks text script h. printed_short (Body picks) text script h

pub returns-clause-again : goal.returns-clause-again
returns-clause-again c = λ picks script places answer few h d a m.
    c.one_answer.ensures.body picks (words (printed script)) places answer (Ok script) a (printed_text_spells (grammar c) (Body picks) script few h d) m (script_is_no_fault script Memory)
