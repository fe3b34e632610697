use Rattle.std.proofs.Common.{◌≡◌, ◌<◌, length, false, sym, subst}
use Rattle.node_versions.specs.Entries.{Versions, has_out}
use Rattle.node_versions.proofs.KeptLemmas.{kept_more_outs}
use Rattle.node_versions.proofs.list.NodeList.add_out.Goals as goal

pub invariant_of-self : goal.invariant_of-self
invariant_of-self c =
    kept_more_outs _ c.args.node c.args.since c.self.invariant
    (subst (λ (v : Versions). length v.outs < v.outs_room) (sym c.self.view_is) c.requires.room)
    (subst (λ (v : Versions). has_out v.outs c.args.node c.args.since ≡ false) (sym c.self.view_is) c.requires.new_edge)
    c.push_reserved.ensures.items c.push_reserved.ensures.capacity
