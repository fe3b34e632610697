use Rattle.std.proofs.Common.{ap, ◌∙◌, not}
use Rattle.flow_model.specs.Machine.State.{ended}
use Rattle.flow_model.specs.Parts.Books.{bare}
use Rattle.step_rules.proofs.Shrinking.{second_tells}
use Rattle.step_rules.proofs.lists.can_collect.Goals as goal

pub returns : goal.returns
returns c = ap not c.live.ensures ∙ second_tells (ended (bare c.args.book.now.book)) c.args.list.now.entries c.get.result.now (record { prefix = c.requires.prefix; done = c.requires.done }) c.get.ensures
