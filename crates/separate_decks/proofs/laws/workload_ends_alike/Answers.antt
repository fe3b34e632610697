use Rattle.std.proofs.Common.{arith}
use Rattle.separate_decks.specs.Workload.{workload_graph, workload_scripts}
use Rattle.separate_decks.proofs.laws.workload_ends_alike.Goals as goal

pub returns-clause-alike : goal.returns-clause-alike
returns-clause-alike c number limit enough one other left rest merge_one merge_other =
    let laws = c.workload_is_separate.ensures in
    let count = laws.count number in
    c.merges_end_alike.ensures (workload_graph number) (laws.graph number) (workload_scripts number) (laws.separate number) limit (omega (arith, count, enough)) one other left rest merge_one merge_other

pub returns-clause-serial : goal.returns-clause-serial
returns-clause-serial c number limit enough log refused merge =
    let laws = c.workload_is_separate.ensures in
    let count = laws.count number in
    c.ends_as_serial.ensures (workload_graph number) (laws.graph number) (workload_scripts number) (laws.separate number) limit (omega (arith, count, enough)) log refused merge
