use Rattle.std.proofs.Common.{◌<◌, ℕ, false, sym, ap, ◌∙◌, subst, drop}
use Rattle.node_versions.specs.Entries.{Versions}
use Rattle.flow_model.specs.declared.step.Step.TheVariants as step
use Rattle.flow_model.specs.Machine.Next.{first_of}
use Rattle.step_rules.specs.Points.{entered_in, reading_candidate_in, points_in}
use Rattle.step_rules.proofs.Inside.{found-fit, counted, chosen-below}
use Rattle.step_rules.proofs.Turns.{new-told, gathered-told, told, new-hit, new-miss, candidate-hit, candidate-miss, body-hit, body-miss}
use Rattle.step_rules.proofs.open_node.at_found.Goals as goal

pub first_new-requires : goal.first_new-requires
first_new-requires g c = (found-fit c.args.graph.now c.requires.whole.state c.args.book.now (g.L.Lists.listing_of c.args.lists.now) (g.L.Lists.nodes c.args.lists.now) c.requires.whole.whole c.args.version c.args.node _ c.requires.open (c.as_slice.ensures.value ∙ c.found_candidates-found.ensures))

pub entered-requires : goal.entered-requires
entered-requires g c = subst (λ (k : ℕ). c.in-Some.candidate < k) (sym c.first_new.ensures.nodes)
    (chosen-below (g.L.Lists.nodes c.args.lists.now) _ _ c.in-Some.candidate c.first_new.result (found-fit c.args.graph.now c.requires.whole.state c.args.book.now (g.L.Lists.listing_of c.args.lists.now) (g.L.Lists.nodes c.args.lists.now) c.requires.whole.whole c.args.version c.args.node _ c.requires.open (c.as_slice.ensures.value ∙ c.found_candidates-found.ensures)) c.first_new.ensures.first c.in-Some.is)

pub returns-in-Some-clause-turn : goal.returns-in-Some-clause-turn
returns-in-Some-clause-turn g c =
    c.entered.ensures.turn ∙ ap (λ (ls : ℕ → Versions). entered_in c.args.book.now ls c.args.version c.in-Some.candidate (step.Discover c.args.version c.args.node c.in-Some.candidate)) c.first_new.ensures.lists
    ∙ new-hit c.args.graph.now c.args.book.now (g.L.Lists.listing_of c.args.lists.now) c.args.version c.args.node c.in-Some.candidate (new-told (g.L.Lists.listing_of c.args.lists.now) c.args.version c.args.node c.args.picked.now c.as_slice.result.now _ c.first_new.result _ c.requires.picked (c.as_slice.ensures.value ∙ c.found_candidates-found.ensures) c.first_new.ensures.first c.in-Some.is)

pub reading_candidate-requires-clause-node : goal.reading_candidate-requires-clause-node
reading_candidate-requires-clause-node g c =
    chosen-below _ _ _ c.in-Some-first_ungathered.input c.first_ungathered.result (counted c.args.graph.now c.requires.whole.state c.args.book.now (g.L.Lists.listing_of c.args.lists.now) (g.L.Lists.nodes c.args.lists.now) c.requires.whole.whole _ (found-fit c.args.graph.now c.requires.whole.state c.args.book.now (g.L.Lists.listing_of c.args.lists.now) (g.L.Lists.nodes c.args.lists.now) c.requires.whole.whole c.args.version c.args.node _ c.requires.open (c.as_slice-2.ensures.value ∙ c.found_candidates-found.ensures))) c.first_ungathered.ensures c.in-Some-first_ungathered.is

pub reading_candidate-requires-clause-list : goal.reading_candidate-requires-clause-list
reading_candidate-requires-clause-list g c = subst (λ (k : ℕ). c.in-Some-first_ungathered.input < k) (sym c.first_new.ensures.nodes)
    (chosen-below (g.L.Lists.nodes c.args.lists.now) _ _ c.in-Some-first_ungathered.input c.first_ungathered.result (found-fit c.args.graph.now c.requires.whole.state c.args.book.now (g.L.Lists.listing_of c.args.lists.now) (g.L.Lists.nodes c.args.lists.now) c.requires.whole.whole c.args.version c.args.node _ c.requires.open (c.as_slice-2.ensures.value ∙ c.found_candidates-found.ensures)) c.first_ungathered.ensures c.in-Some-first_ungathered.is)

pub returns-in-Some-first_ungathered-clause-turn : goal.returns-in-Some-first_ungathered-clause-turn
returns-in-Some-first_ungathered-clause-turn g c =
    new-miss c.args.graph.now c.args.book.now (g.L.Lists.listing_of c.args.lists.now) c.args.version c.args.node _ (new-told (g.L.Lists.listing_of c.args.lists.now) c.args.version c.args.node c.args.picked.now c.as_slice.result.now _ c.first_new.result _ c.requires.picked (c.as_slice.ensures.value ∙ c.found_candidates-found.ensures) c.first_new.ensures.first c.in_default.is)
    (c.reading_candidate.ensures.turn ∙ ap (λ (ls : ℕ → Versions). reading_candidate_in c.args.book.now ls c.args.version c.in-Some-first_ungathered.input (step.Gather c.args.version c.args.node c.in-Some-first_ungathered.input)) c.first_new.ensures.lists
    ∙ candidate-hit c.args.graph.now c.args.book.now (g.L.Lists.listing_of c.args.lists.now) c.args.version c.args.node c.in-Some-first_ungathered.input (gathered-told c.args.book.now c.args.node c.as_slice-2.result.now _ c.first_ungathered.result _ (c.as_slice-2.ensures.value ∙ c.found_candidates-found.ensures) c.first_ungathered.ensures c.in-Some-first_ungathered.is))

pub returns-then-not-has_body_value-clause-turn : goal.returns-then-not-has_body_value-clause-turn
returns-then-not-has_body_value-clause-turn g c =
    new-miss c.args.graph.now c.args.book.now (g.L.Lists.listing_of c.args.lists.now) c.args.version c.args.node _ (new-told (g.L.Lists.listing_of c.args.lists.now) c.args.version c.args.node c.args.picked.now c.as_slice.result.now _ c.first_new.result _ c.requires.picked (c.as_slice.ensures.value ∙ c.found_candidates-found.ensures) c.first_new.ensures.first c.in_default.is)
    (candidate-miss c.args.graph.now c.args.book.now (g.L.Lists.listing_of c.args.lists.now) c.args.version c.args.node _ (gathered-told c.args.book.now c.args.node c.as_slice-2.result.now _ c.first_ungathered.result _ (c.as_slice-2.ensures.value ∙ c.found_candidates-found.ensures) c.first_ungathered.ensures c.in_default-first_ungathered.is)
    (body-hit c.args.graph.now c.args.book.now (g.L.Lists.listing_of c.args.lists.now) c.args.version c.args.node (told c.has_body_value.result _ _ c.has_body_value.ensures c.if-not-has_body_value.true)))

pub returns-clause-turn : goal.returns-clause-turn
returns-clause-turn g c =
    new-miss c.args.graph.now c.args.book.now (g.L.Lists.listing_of c.args.lists.now) c.args.version c.args.node _ (new-told (g.L.Lists.listing_of c.args.lists.now) c.args.version c.args.node c.args.picked.now c.as_slice.result.now _ c.first_new.result _ c.requires.picked (c.as_slice.ensures.value ∙ c.found_candidates-found.ensures) c.first_new.ensures.first c.in_default.is)
    (candidate-miss c.args.graph.now c.args.book.now (g.L.Lists.listing_of c.args.lists.now) c.args.version c.args.node _ (gathered-told c.args.book.now c.args.node c.as_slice-2.result.now _ c.first_ungathered.result _ (c.as_slice-2.ensures.value ∙ c.found_candidates-found.ensures) c.first_ungathered.ensures c.in_default-first_ungathered.is)
    (body-miss c.args.graph.now c.args.book.now (g.L.Lists.listing_of c.args.lists.now) c.args.version c.args.node _ (told c.has_body_value.result _ _ c.has_body_value.ensures c.if-not-has_body_value.false)
    (c.at_last.ensures.turn ∙ ap (λ (ls : ℕ → Versions). first_of (drop 10 (points_in c.args.graph.now c.args.book.now ls c.args.version false c.args.node))) c.first_new.ensures.lists)))
