use Rattle.script_grammar.proofs.Answered.{shallow_is_not_deep, fault_is_not_deep, one_fault, one_depth}
use Rattle.script_grammar.proofs.laws.one_answer.Goals as goal

pub returns : goal.returns
returns c = record { shallow = shallow_is_not_deep; apart = fault_is_not_deep; one_fault = one_fault; one_depth = one_depth }
