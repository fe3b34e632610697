use Rattle.std.proofs.Common.{suc, [], ◌∷◌, ◌++◌, length, refl, sym, ap, ◌∙◌, subst, arith, Vec, vec_capacity}
use Rattle.flow_model.specs.Machine.Histories.{Begin}
use Rattle.flow_model.specs.Follows.Callers.{count_begins}
use Rattle.caller_fronts.specs.Tokens.{HasLooks}
use Rattle.std.specs.declared.alloc.Global.{Global}
use Rattle.script_tree.specs.declared.value.Value.{Value}
use Rattle.sweeper.specs.declared.luggage.Luggage.{Luggage}
use Rattle.sweeper.proofs.Meets.{is_met}
use Rattle.sweeper.proofs.locked.Locked.start_call.Goals as goal

pub live-requires-clause-met : goal.live-requires-clause-met
live-requires-clause-met g c =
    let j = g.J.Naming in
    let moves = c.args.self.now.moves in
    let fits = c.beginnings_make_calls.ensures.looks j.graph c.self.invariant.1.is_graph j.callers j.limit c.args.caller moves c.args.call c.requires.idle c.requires.can in
    let room = c.requires.looks.1 in
    let was = c.deref_mut.ensures.value in
    let looks = ap (λ (l : Luggage). l.looks) c.put_looks.ensures in
    let later = moves ++ Begin c.args.caller c.args.call ∷ [] in
    is_met j.graph j.callers j.limit _ (suc (count_begins moves)) (length j.graph.nodes) [] (moves ++ Begin c.args.caller c.args.call ∷ []) c.make_beginning-version.new.self.moves
    c.make_beginning-version.ensures.version (ap (λ (l : Luggage). l.out.nodes) c.put_looks.ensures ∙ ap (λ (l : Luggage). l.out.nodes) was ∙ ap (λ o. o.nodes) c.requires.nodes)
    (ap (λ (l : Luggage). l.out.size) c.put_looks.ensures ∙ ap (λ (l : Luggage). l.out.size) was ∙ ap (λ o. o.size) c.requires.nodes) c.make_beginning-version.ensures.moves refl
    (c.beginnings_make_calls.ensures.going j.graph c.self.invariant.1.is_graph j.callers j.limit c.args.caller moves c.args.call c.requires.idle c.requires.can)
    (ap (λ (v : Vec Value Global). v.items) looks ∙ c.requires.looks.0)
    (subst (λ (v : Vec Value Global). HasLooks j.graph j.callers j.limit (suc (count_begins moves)) later (vec_capacity v)) (sym looks) (omega (arith, fits, room)))
