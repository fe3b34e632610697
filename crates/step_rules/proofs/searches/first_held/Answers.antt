use Rattle.std.proofs.Common.{◌<◌, ℕ, get_or, refl, sym, ap, ◌∙◌, subst, arith}
use Rattle.node_versions.specs.Entries.{Versions}
use Rattle.step_rules.specs.Points.{is_held_in}
use Rattle.step_rules.proofs.Nodes.{find-here, find-more, find-none}
use Rattle.step_rules.proofs.searches.first_held.Goals as goal
use Rattle.signal_graph.proofs.Members.{index-in}

pub loop-candidate-init : goal.loop-candidate-init
loop-candidate-init g c = (record { lists = refl; nodes = refl }, refl)

pub is_held-requires : goal.is_held-requires
is_held-requires g c = subst (λ (n : ℕ). get_or c.args.picked.now c.loop-candidate.candidate-index 0 < n) (sym c.loop-candidate.invariant.0.nodes) (c.requires _ (index-in c.args.picked.now c.loop-candidate.candidate-index 0 c.loop-candidate-test.true))

pub returns-then-is_held-clause-first : goal.returns-then-is_held-clause-first
returns-then-is_held-clause-first g c =
    let told = c.is_held.ensures.held ∙ ap (λ (ls : ℕ → Versions). is_held_in ls c.args.node c.args.found.now (get_or c.args.picked.now c.loop-candidate.candidate-index 0)) c.loop-candidate.invariant.0.lists in
    find-here (is_held_in (g.L.Lists.listing_of c.args.lists.now) c.args.node c.args.found.now) c.args.picked.now c.loop-candidate.candidate-index 0 _ c.loop-candidate-test.true c.loop-candidate.invariant.1 (sym c.if-is_held.true ∙ told)

pub returns-then-is_held-clause-lists : goal.returns-then-is_held-clause-lists
returns-then-is_held-clause-lists g c = c.is_held.ensures.lists ∙ c.loop-candidate.invariant.0.lists

pub returns-then-is_held-clause-nodes : goal.returns-then-is_held-clause-nodes
returns-then-is_held-clause-nodes g c = c.is_held.ensures.nodes ∙ c.loop-candidate.invariant.0.nodes

pub loop-candidate-preserved : goal.loop-candidate-preserved
loop-candidate-preserved g c =
    let told = c.is_held.ensures.held ∙ ap (λ (ls : ℕ → Versions). is_held_in ls c.args.node c.args.found.now (get_or c.args.picked.now c.loop-candidate.candidate-index 0)) c.loop-candidate.invariant.0.lists in (
      record { lists = c.is_held.ensures.lists ∙ c.loop-candidate.invariant.0.lists; nodes = c.is_held.ensures.nodes ∙ c.loop-candidate.invariant.0.nodes },
      find-more (is_held_in (g.L.Lists.listing_of c.args.lists.now) c.args.node c.args.found.now) c.args.picked.now c.loop-candidate.candidate-index 0 _ c.loop-candidate-test.true c.loop-candidate.invariant.1 (sym c.if-is_held.false ∙ told),
    )

pub returns-clause-first : goal.returns-clause-first
returns-clause-first g c = find-none (is_held_in (g.L.Lists.listing_of c.args.lists.now) c.args.node c.args.found.now) c.args.picked.now c.loop-candidate.candidate-index _ (omega (arith, c.loop-candidate-test.false)) c.loop-candidate.invariant.1

pub returns-clause-lists : goal.returns-clause-lists
returns-clause-lists g c = c.loop-candidate.invariant.0.lists

pub returns-clause-nodes : goal.returns-clause-nodes
returns-clause-nodes g c = c.loop-candidate.invariant.0.nodes
