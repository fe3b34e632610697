use Rattle.std.proofs.Common.{◌≡◌, ◌∷◌}
use Rattle.std.proofs.lemmas.Result.{IfOk-weaker, IfErr-weaker}
use Rattle.report_text.proofs.EntryLaws.{only_fire}
use Rattle.report_text.proofs.entries.reply.Goals as goal

pub returns-in-None-clause-all : goal.returns-in-None-clause-all
returns-in-None-clause-all c = IfOk-weaker c.fire.result _ _ (λ p all. only_fire (λ after. p.2.now ≡ 10 ∷ after) c.args.text.now c.in-None.ensures all) c.fire.ensures.all

pub returns-in-None-clause-none : goal.returns-in-None-clause-none
returns-in-None-clause-none c = IfErr-weaker c.fire.result _ _ (λ stop none syntax. only_fire (λ after. ⊥) c.args.text.now c.in-None.ensures (none syntax)) c.fire.ensures.none
