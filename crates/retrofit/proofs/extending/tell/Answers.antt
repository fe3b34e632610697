use Rattle.std.proofs.Common.{sym, ap, ◌∙◌}
use Rattle.retrofit.specs.Telling.{with_calls}
use Rattle.retrofit.proofs.Tells.{away-told, silent-told}
use Rattle.retrofit.proofs.extending.tell.Goals as goal
use Rattle.retrofit.proofs.extending.tell.Goals.{else-hands_on-via-then-hands_on+else-live, else-hands_on-via-else-hands_on}

pub returns-else-hands_on : goal.returns-else-hands_on
returns-else-hands_on c = elim c.else-hands_on.branch [
  | else-hands_on-via-then-hands_on+else-live w ↦ ap (with_calls c.args.book.now) (sym (away-told c.args.node c.args.entry.now c.args.book.now.book.calls (sym w.live.ensures ∙ w.if-live.false)))
  | else-hands_on-via-else-hands_on w ↦ ap (with_calls c.args.book.now) (sym (silent-told c.args.node c.args.entry.now c.args.book.now.book.calls (sym c.hands_on.ensures ∙ w.if-hands_on.false)))
]
