use Rattle.std.proofs.Common.{List, length, sym, ap, ◌∙◌}
use Rattle.std.specs.List.{list_all}
use Rattle.flow_model.specs.Machine.Lists.{is_empty}
use Rattle.flow_model.specs.Parts.Books.{Book}
use Rattle.replay_run.specs.Replaying.{Caller}
use Rattle.replay_run.proofs.Seats.{over-is}
use Rattle.replay_run.proofs.replaying.Replaying.is_over.Goals as goal

pub returns-then-live_len-eq0 : goal.returns-then-live_len-eq0
returns-then-live_len-eq0 c =
    over-is c.self.inside.core.graph c.self.inside.core.state c.self.inside.callers.items c.args.self.now c.are_done.result c.self.view_is
    (ap (λ (b : Book). length b.calls) (sym c.book.ensures.fits.parts) ∙ sym c.live_len.ensures ∙ c.if-live_len-eq0.true)
    (c.are_done.ensures ∙ ap (λ (xs : List Caller). list_all (λ (x : Caller). is_empty x.thread.left) xs) c.as_slice.ensures.value)
