use Rattle.std.proofs.Common.{◌≡◌, [], false, take, sym, ap, ◌∙◌}
use Rattle.std.specs.Prelude.{slice_set}
use Rattle.std.proofs.lemmas.List.{set-get_or}
use Rattle.signal_graph.specs.Graph.{node_at, is_source}
use Rattle.signal_graph.specs.Values.{at, picks_of}
use Rattle.signal_graph.specs.OnePass.{new_value}
use Rattle.signal_graph.proofs.GraphNodes.{can_evaluate}
use Rattle.serial_machine.specs.Between.{is_evaluated}
use Rattle.serial_machine.proofs.Resting.{rest_value, rest_picks, no_source}
use Rattle.serial_machine.proofs.pass.renew.Goals as goal

pub returns-then-not-is_evaluated : goal.returns-then-not-is_evaluated
returns-then-not-is_evaluated c =
    let graph = c.args.graph.now in
    let n = c.args.number in
    let before = c.args.before.now in
    let now = c.args.now.now.items in
    let picked = c.args.picks.now.items in
    let node : c.node-node.result.now ≡ node_at graph n = c.node-node.ensures.value in
    let plain : is_source (node_at graph n) ≡ false = sym (ap is_source node) ∙ no_source c.node-node.result.now c.in_default.not-Source in
    let earlier : take n c.deref.result.now ≡ take n now = ap (take n) c.deref.ensures.value in
    let rests : is_evaluated before (take n now) (node_at graph n) ≡ false =
    sym (c.is_evaluated.ensures ∙ ap (λ vs. is_evaluated before vs c.node-node.result.now) earlier ∙ ap (is_evaluated before (take n now)) node) ∙ c.if-not-is_evaluated.true in
    let value : c.value_at.result ≡ new_value (node_at graph n) (at now n) (at before n) before (take n now) =
    c.value_at.ensures ∙ sym (rest_value graph c.requires.graph n (at now n) before (take n now) c.requires.known c.requires.follow plain rests) in
    let same : picks_of (node_at graph n) before ≡ picks_of (node_at graph n) (take n now) =
    rest_picks graph c.requires.graph n before (take n now) c.requires.known plain rests in
    record {
      evaluated = sym rests;
      value = ap (slice_set now n) value;
      picks = sym (set-get_or picked n []) ∙ ap (slice_set picked n) (c.requires.picked ∙ same);
    }

pub step-found-requires : goal.step-found-requires
step-found-requires c = can_evaluate c.args.graph.now.names c.args.number c.node-node.result.now c.node-node.ensures.kept
