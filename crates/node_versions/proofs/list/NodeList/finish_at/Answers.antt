use Rattle.node_versions.specs.Entries.{version_at}
use Rattle.node_versions.proofs.Places.{frame_no_done}
use Rattle.node_versions.proofs.list.NodeList.finish_at.Goals as goal

pub set_state_at-requires-clause-no_done : goal.set_state_at-requires-clause-no_done
set_state_at-requires-clause-no_done c = frame_no_done c.args.self.now.entries (version_at c.args.self.now.entries c.args.own) c.requires.frame
