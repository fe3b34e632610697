use Rattle.std.proofs.Common.{◌<◌, ℕ, get_or, refl, sym, ap, ◌∙◌, subst, arith}
use Rattle.node_versions.specs.Entries.{Versions}
use Rattle.step_rules.specs.Points.{is_new_in}
use Rattle.step_rules.proofs.Nodes.{find-here, find-more, find-none}
use Rattle.step_rules.proofs.searches.first_new.Goals as goal
use Rattle.signal_graph.proofs.Members.{index-in}

pub loop-candidate-init : goal.loop-candidate-init
loop-candidate-init g c = (record { lists = refl; nodes = refl }, refl)

pub is_new-requires : goal.is_new-requires
is_new-requires g c = subst (λ (n : ℕ). get_or c.args.found.now c.loop-candidate.candidate-index 0 < n) (sym c.loop-candidate.invariant.0.nodes) (c.requires _ (index-in c.args.found.now c.loop-candidate.candidate-index 0 c.loop-candidate-test.true))

pub returns-then-is_new-clause-first : goal.returns-then-is_new-clause-first
returns-then-is_new-clause-first g c =
    let told = c.is_new.ensures.new ∙ ap (λ (ls : ℕ → Versions). is_new_in ls c.args.version c.args.node c.args.picked.now (get_or c.args.found.now c.loop-candidate.candidate-index 0)) c.loop-candidate.invariant.0.lists in
    find-here (is_new_in (g.L.Lists.listing_of c.args.lists.now) c.args.version c.args.node c.args.picked.now) c.args.found.now c.loop-candidate.candidate-index 0 _ c.loop-candidate-test.true c.loop-candidate.invariant.1 (sym c.if-is_new.true ∙ told)

pub returns-then-is_new-clause-lists : goal.returns-then-is_new-clause-lists
returns-then-is_new-clause-lists g c = c.is_new.ensures.lists ∙ c.loop-candidate.invariant.0.lists

pub returns-then-is_new-clause-nodes : goal.returns-then-is_new-clause-nodes
returns-then-is_new-clause-nodes g c = c.is_new.ensures.nodes ∙ c.loop-candidate.invariant.0.nodes

pub loop-candidate-preserved : goal.loop-candidate-preserved
loop-candidate-preserved g c =
    let told = c.is_new.ensures.new ∙ ap (λ (ls : ℕ → Versions). is_new_in ls c.args.version c.args.node c.args.picked.now (get_or c.args.found.now c.loop-candidate.candidate-index 0)) c.loop-candidate.invariant.0.lists in (
      record { lists = c.is_new.ensures.lists ∙ c.loop-candidate.invariant.0.lists; nodes = c.is_new.ensures.nodes ∙ c.loop-candidate.invariant.0.nodes },
      find-more (is_new_in (g.L.Lists.listing_of c.args.lists.now) c.args.version c.args.node c.args.picked.now) c.args.found.now c.loop-candidate.candidate-index 0 _ c.loop-candidate-test.true c.loop-candidate.invariant.1 (sym c.if-is_new.false ∙ told),
    )

pub returns-clause-first : goal.returns-clause-first
returns-clause-first g c = find-none (is_new_in (g.L.Lists.listing_of c.args.lists.now) c.args.version c.args.node c.args.picked.now) c.args.found.now c.loop-candidate.candidate-index _ (omega (arith, c.loop-candidate-test.false)) c.loop-candidate.invariant.1

pub returns-clause-lists : goal.returns-clause-lists
returns-clause-lists g c = c.loop-candidate.invariant.0.lists

pub returns-clause-nodes : goal.returns-clause-nodes
returns-clause-nodes g c = c.loop-candidate.invariant.0.nodes
