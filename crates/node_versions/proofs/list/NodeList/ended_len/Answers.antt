use Rattle.std.proofs.Common.{not}
use Rattle.node_versions.proofs.Collecting.{flips}
use Rattle.node_versions.proofs.list.NodeList.ended_len.Goals as goal

pub returns-clause-place : goal.returns-clause-place
returns-clause-place g c = λ test tells. c.place_of.ensures.place (λ e. not (test e)) (λ k d h b r. flips b _ (tells k d h (not b) (record { shown = r.shown; shows = r.shows; says = record { met = r.says.met } })))
