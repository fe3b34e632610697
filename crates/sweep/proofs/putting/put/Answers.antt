use Rattle.std.proofs.Common.{sym, ap, subst}
use Rattle.flow_state.specs.Answers.{step_for, IsOutcome, IsAnswerStep, MakesAnswer}
use Rattle.flow_state.specs.Found.{found_of}
use Rattle.flow_state.specs.declared.found.Finding.TheVariants.{Selects}
use Rattle.flow_state.specs.declared.outcome.Answer.{Answer}
use Rattle.flow_state.specs.declared.outcome.Outcome.{Outcome}
use Rattle.sweep.proofs.Puts.{put-few, found-makes, body-makes}
use Rattle.sweep.proofs.putting.put.Goals as goal

pub put_value-requires : goal.put_value-requires
put_value-requires c =
    let a = c.args.answer in
    let at : Outcome → Answer = λ o. record { version = a.version; node = a.node; outcome = o } in
    (c.requires.0, subst (λ (o : Outcome). IsAnswerStep c.requires.0 c.args.book.now (at o)) c.in-Value.is c.requires.1)

pub count-requires-clause-few : goal.count-requires-clause-few
count-requires-clause-few c =
    let a = c.args.answer in
    put-few c.args.book.now c.keep_found.new.self a (found_of (Selects c.in-Found.list)) c.requires
    (ap (step_for a.version a.node) c.in-Found.is) c.keep_found.ensures

pub returns-in-Value : goal.returns-in-Value
returns-in-Value c graph =
    let a = c.args.answer in
    let at : Outcome → Answer = λ o. record { version = a.version; node = a.node; outcome = o } in
    subst (λ (o : Outcome). MakesAnswer graph c.args.book.now (at o) c.put_value.new.book) (sym c.in-Value.is) (c.put_value.ensures graph)

pub returns-in-Found : goal.returns-in-Found
returns-in-Found c = let a = c.args.answer in found-makes c.args.book.now c.keep_found.new.self c.count.new.self a (found_of (Selects c.in-Found.list)) (ap (step_for a.version a.node) c.in-Found.is) (λ graph s h. subst (IsOutcome graph s a.version a.node) c.in-Found.is h) c.keep_found.ensures c.count.ensures

pub returns-in-Body : goal.returns-in-Body
returns-in-Body c = let a = c.args.answer in body-makes c.args.book.now c.keep_body.new.self a c.in-Body.value (ap (step_for a.version a.node) c.in-Body.is) (λ graph s h. subst (IsOutcome graph s a.version a.node) c.in-Body.is h) c.keep_body.ensures
