use Rattle.std.proofs.Common.{◌≡◌, rules, not}
use borrow.Author.Tests.{tests}
use Rattle.node_versions.specs.Entries.{without_out, is_edge}
use Rattle.node_versions.proofs.KeptLemmas.{kept_fewer_outs, filter-retained}
use Rattle.node_versions.proofs.Places.{replaced_outs}
use Rattle.node_versions.proofs.list.NodeList.remove_out.Goals as goal

rest : (c : goal.After-retain) → c.retain.new.self.items ≡ without_out c.self.inside.outs.items c.args.node c.args.since
rest c = filter-retained _ (λ edge. not (is_edge c.args.node c.args.since edge)) _ (λ x b t y r. (search (rules, tests), search rules, search rules)) c.self.inside.outs.items c.retain.new.self.items c.retain.ensures.filtered

pub invariant_of-self : goal.invariant_of-self
invariant_of-self c = kept_fewer_outs _ _ c.self.invariant c.retain.ensures.bound (rest c) c.retain.ensures.capacity

pub returns : goal.returns
returns c = replaced_outs _ c.args.self.now c.self.view_is c.retain.new.self.items (λ outs. without_out outs c.args.node c.args.since) (rest c)
