use Rattle.std.proofs.Common.{◌-◌, ℕ, ◌≤◌, length, Some, sym, ap, ◌∙◌, subst, vec_capacity}
use Rattle.std.specs.Prelude.{slice_get, option_map}
use Rattle.std.proofs.lemmas.Option.{same_Some}
use Rattle.signal_graph.specs.declared.log.Logged.{Logged}
use Rattle.signal_graph.specs.Machine.{looks_of_reply}
use Rattle.flow_model.specs.Machine.State.{Core}
use Rattle.flow_model.specs.Machine.Histories.{state}
use Rattle.sweeper.specs.Tokens.{last_of}
use Rattle.sweeper.proofs.LastReply.{last-get}
use Rattle.sweeper.proofs.locked.Locked.last_reply.Goals as goal

pub reply_in-requires-clause-room : goal.reply_in-requires-clause-room
reply_in-requires-clause-room g c =
    let j = g.J.Naming in
    let i = c.self.invariant.1 in
    let same = i.state_is ∙ ap (state j.graph j.callers j.limit) (ap (λ h. h.moves) c.self.view_is) in
    let log = c.log-log.ensures ∙ ap (λ b. b.log) c.book.ensures.fits.parts ∙ ap (λ (q : Core). q.log) same in
    let last = sym (last-get c.log-log.result.now.entries) ∙ ap (λ (n : ℕ). slice_get c.log-log.result.now.entries (n - 1)) (sym c.len.ensures) ∙ c.get.ensures in
    let entry = same_Some c.get.result.now c.requires.room.entry (sym last ∙ ap last_of log ∙ c.requires.room.last) in
    subst (λ (x : Logged). length (looks_of_reply x.reply) ≤ vec_capacity c.args.looks) (sym entry) c.requires.room.fits

pub returns : goal.returns
returns g c =
    let j = g.J.Naming in
    let i = c.self.invariant.1 in
    let same = i.state_is ∙ ap (state j.graph j.callers j.limit) (ap (λ h. h.moves) c.self.view_is) in
    let log = c.log-log.ensures ∙ ap (λ b. b.log) c.book.ensures.fits.parts ∙ ap (λ (q : Core). q.log) same in
    let last = sym (last-get c.log-log.result.now.entries) ∙ ap (λ (n : ℕ). slice_get c.log-log.result.now.entries (n - 1)) (sym c.len.ensures) ∙ c.get.ensures in
    ap (option_map (λ (x : Logged). x.reply)) (ap last_of (sym log) ∙ last) ∙ ap (λ r. Some r) (sym c.reply_in.ensures)
