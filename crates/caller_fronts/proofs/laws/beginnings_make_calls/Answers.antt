use Rattle.std.proofs.Common.{◌≡◌, ◌≤◌, ℕ, suc, true, length, Option, sym, ap, ◌∙◌, subst, arith, true≢false}
use Rattle.std.specs.Prelude.{is_some}
use Rattle.signal_graph.specs.declared.call.Call.{Call}
use Rattle.signal_graph.specs.Machine.{looks_of}
use Rattle.flow_model.specs.Machine.State.{Core, LiveCall, call_or, live, call}
use Rattle.flow_model.specs.Machine.Steps.{begin}
use Rattle.flow_model.specs.Machine.Histories.{Begin, state}
use Rattle.flow_model.specs.Follows.Callers.{count_begins}
use Rattle.flow_model.proofs.OneStep.VersionsStayFresh.{not_begun-live}
use Rattle.flow_model.proofs.Schedules.SchedulesMakeHistories.{idle-version}
use Rattle.caller_fronts.proofs.KeysTell.{history-more}
use Rattle.caller_fronts.proofs.Beginnings.{begun-call}
use Rattle.caller_fronts.proofs.laws.beginnings_make_calls.Goals as goal

pub returns-clause-going : goal.returns-clause-going
returns-clause-going c graph is_graph callers limit caller moves asked h can =
    let s = state graph callers limit moves in
    let more = history-more graph callers limit moves (Begin caller asked) h.history can in
    let count : s.begun ≡ count_begins moves = c.callers_have_their_calls.ensures.begun graph callers limit moves h.history in
    let lawful = c.histories_are_lawful.ensures graph is_graph callers limit moves h.history in
    let found = begun-call graph s caller asked (not_begun-live s lawful.versions_are_fresh) in record {
      some = h.some;
      one_of = h.one_of;
      history = more.0;
      lives = subst (λ (q : Core). live q (suc (count_begins moves)) ≡ true) (sym more.1)
          (subst (λ (n : ℕ). live (begin graph s caller asked) (suc n) ≡ true) count (ap is_some found));
      whose = ap (λ (q : Core). (call q (suc (count_begins moves))).caller) more.1
          ∙ subst (λ (n : ℕ). (call (begin graph s caller asked) (suc n)).caller ≡ caller) count (ap (λ (o : Option LiveCall). (call_or o).caller) found);
      due = λ n i. absurd (true≢false (sym i));
    }

pub returns-clause-looks : goal.returns-clause-looks
returns-clause-looks c graph is_graph callers limit caller moves asked h can =
    let s = state graph callers limit moves in
    let more = history-more graph callers limit moves (Begin caller asked) h.history can in
    let count : s.begun ≡ count_begins moves = c.callers_have_their_calls.ensures.begun graph callers limit moves h.history in
    let lawful = c.histories_are_lawful.ensures graph is_graph callers limit moves h.history in
    let found = begun-call graph s caller asked (not_begun-live s lawful.versions_are_fresh) in
    let same : (call (begin graph s caller asked) (suc (count_begins moves))).call ≡ asked
    = subst (λ (n : ℕ). (call (begin graph s caller asked) (suc n)).call ≡ asked) count (ap (λ (o : Option LiveCall). (call_or o).call) found) in
    let whole = ap (λ (q : Core). (call q (suc (count_begins moves))).call) more.1 ∙ same in
    subst (λ (x : Call). length (looks_of x) ≤ length (looks_of asked)) (sym whole) (omega arith)

pub returns-clause-free : goal.returns-clause-free
returns-clause-free c graph callers limit caller moves h = idle-version caller (state graph callers limit moves).calls h.idle
