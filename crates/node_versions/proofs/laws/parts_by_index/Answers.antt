use Rattle.std.proofs.Common.{ap, sym, ◌∙◌, take, drop}
use Rattle.node_versions.proofs.Lists.{length-front, take-front, drop-front}
use Rattle.node_versions.proofs.laws.parts_by_index.Goals as goal

pub returns-clause-front : goal.returns-clause-front
returns-clause-front c = λ stops es. sym (take-front stops es) ∙ ap (λ n. take n es) (length-front stops es)

pub returns-clause-rest : goal.returns-clause-rest
returns-clause-rest c = λ stops es. sym (drop-front stops es) ∙ ap (λ n. drop n es) (length-front stops es)
