use Rattle.std.proofs.Common.{◌≡◌, true, List, [], sym, ap, ◌∙◌, subst}
use Rattle.signal_graph.specs.declared.log.Logged.{Logged}
use Rattle.flow_model.specs.Machine.Histories.{Move, state, is_history}
use Rattle.flow_model.specs.Follows.Callers.{begun_by, logged_of}
use Rattle.caller_fronts.specs.Fronts.{RestsAtEnds}
use Rattle.sweeper.proofs.Closing.{settled-idle, settled-fronts, settled-calls, settled-longest}
use Rattle.sweeper.proofs.locked.Locked.close.Goals as goal

pub finish-requires : goal.finish-requires
finish-requires g c =
    let j = g.J.Naming in
    let moves = c.args.self.moves in
    let history = subst (λ (ms : List Move). is_history j.graph j.callers j.limit ms ≡ true) (ap (λ h. h.moves) c.self.view_is) c.self.invariant.1.history in
    let none = c.ends_leave_callers_idle.ensures.none_live j.graph c.self.invariant.1.is_graph j.callers j.limit moves history
    (λ k some le. settled-idle j.graph j.callers j.limit c.args.passes moves c.settle.ensures.passes k (c.requires k some le)) in
    subst (λ (ms : List Move). (state j.graph j.callers j.limit ms).calls ≡ []) (sym c.settle.ensures.after) none

pub returns : goal.returns
returns g c =
    let j = g.J.Naming in
    let moves = c.args.self.moves in
    let history = subst (λ (ms : List Move). is_history j.graph j.callers j.limit ms ≡ true) (ap (λ h. h.moves) c.self.view_is) c.self.invariant.1.history in
    let none = c.ends_leave_callers_idle.ensures.none_live j.graph c.self.invariant.1.is_graph j.callers j.limit moves history
    (λ k some le. settled-idle j.graph j.callers j.limit c.args.passes moves c.settle.ensures.passes k (c.requires k some le)) in
    let rests = subst (RestsAtEnds j.graph j.callers j.limit) (ap (λ h. h.moves) c.self.view_is) c.self.invariant.1.rests in
    let log = c.finish.ensures.log_is ∙ ap (λ (ms : List Move). (state j.graph j.callers j.limit ms).log) c.settle.ensures.after in record {
      moves = moves;
      history = history;
      fronts = settled-fronts j.graph j.callers j.limit c.args.passes moves c.settle.ensures.passes;
      longest = settled-longest j.graph j.callers j.limit c.args.passes moves c.self.invariant.1.some c.requires c.settle.ensures.passes history
          (λ caller front earlier move l mine. c.last_moves_are_seen.ensures.whole j.graph j.callers j.limit caller front earlier move l mine)
          (λ version earlier h. c.last_moves_are_seen.ensures.one_of j.graph c.self.invariant.1.is_graph j.callers j.limit version earlier h)
          (rests.last none);
      none_live = none;
      log_is = log;
      own_calls = settled-calls j.graph j.callers j.limit c.args.passes moves c.finish.result.log.entries c.settle.ensures.passes
          (λ k. subst (λ (l : List Logged). logged_of k l ≡ begun_by k moves) (sym log) (c.logs_have_all_calls.ensures.made j.graph j.callers j.limit moves history none k))
          (λ k front l. c.own_calls_stay.ensures j.graph j.callers j.limit k front moves l);
      legal = c.finish.ensures.legal;
      finals = c.finish.ensures.finals;
    }
