use Rattle.std.proofs.Common.{◌≡◌, ◌<◌, ◌+◌, arith, sym, ap, ◌∙◌, subst, true≢false, length, take}
use Rattle.std.specs.Prelude.{slice_get, Some}
use Rattle.std.proofs.lemmas.Option.{slice_get_within}
use Rattle.report_text.specs.declared.data.CallLine.{CallLine}
use Rattle.report_check.specs.Right.{count_made, log_of, IsRightCall, IsFirstWrong}
use Rattle.report_check.specs.Standing.{Stands}
use Rattle.report_check.specs.Stopping.{AreRightCalls, StopsAt, IsThrough}
use Rattle.report_check.proofs.Judging.{right_more, stops_there, one_too_many}
use Rattle.report_check.proofs.checking.check_lines.Goals as goal

pub returns-then-place-lines : goal.returns-then-place-lines
returns-then-place-lines c =
    let graph = c.args.deck.now.graph in
    let scripts = c.args.deck.now.scripts in
    let report = c.args.report.now in
    let made = c.count_made-made.result in
    let place = c.loop-place.place in
    let lines = c.as_slice-lines.result.now in
    let made_is : made ≡ count_made graph scripts c.args.versions = c.count_made-made.ensures ∙ ap (λ g. count_made g c.scripts.result.now c.args.versions) c.graph.ensures.value ∙ ap (λ s. count_made graph s c.args.versions) c.scripts.ensures.value in
    let before : AreRightCalls graph scripts made lines place = c.loop-place.invariant.2 in
    let stops : StopsAt graph scripts made lines place = record {
      below = c.loop-place-test.true;
      within = c.loop-place.invariant.1;
      before = before;
      wrong = λ line is. absurd (let inside = slice_get_within lines place line is in let ends = c.if-place-lines.true in omega (arith, inside, ends));
    } in
    stops_there graph scripts c.args.versions report place (subst (λ m. StopsAt graph scripts m report.calls place) made_is (subst (λ ls. StopsAt graph scripts made ls place) c.as_slice-lines.ensures stops))

pub returns-then-not-branch : goal.returns-then-not-branch
returns-then-not-branch c =
    let graph = c.args.deck.now.graph in
    let scripts = c.args.deck.now.scripts in
    let report = c.args.report.now in
    let made = c.count_made-made.result in
    let place = c.loop-place.place in
    let lines = c.as_slice-lines.result.now in
    let made_is : made ≡ count_made graph scripts c.args.versions = c.count_made-made.ensures ∙ ap (λ g. count_made g c.scripts.result.now c.args.versions) c.graph.ensures.value ∙ ap (λ s. count_made graph s c.args.versions) c.scripts.ensures.value in
    let before : AreRightCalls graph scripts made lines place = c.loop-place.invariant.2 in
    let stops : StopsAt graph scripts made lines place = record {
      below = c.loop-place-test.true;
      within = c.loop-place.invariant.1;
      before = before;
      wrong = λ line is right. true≢false (sym ((c.in_ok-take.ensures.right line is).1 (subst (λ m. IsRightCall graph scripts m (log_of graph scripts (take place lines)) line) (sym c.loop-place.invariant.0) right)) ∙ c.if-not-branch.true);
    } in
    stops_there graph scripts c.args.versions report place (subst (λ m. StopsAt graph scripts m report.calls place) made_is (subst (λ ls. StopsAt graph scripts made ls place) c.as_slice-lines.ensures stops))

pub loop-place-preserved : goal.loop-place-preserved
loop-place-preserved c =
    let graph = c.args.deck.now.graph in
    let scripts = c.args.deck.now.scripts in
    let report = c.args.report.now in
    let made = c.count_made-made.result in
    let place = c.loop-place.place in
    let lines = c.as_slice-lines.result.now in
    let made_is : made ≡ count_made graph scripts c.args.versions = c.count_made-made.ensures ∙ ap (λ g. count_made g c.scripts.result.now c.args.versions) c.graph.ensures.value ∙ ap (λ s. count_made graph s c.args.versions) c.scripts.ensures.value in
    let before : AreRightCalls graph scripts made lines place = c.loop-place.invariant.2 in
    let here : (line : CallLine) → slice_get lines place ≡ Some line → IsRightCall graph scripts made (log_of graph scripts (take place lines)) line = λ line is. subst (λ m. IsRightCall graph scripts m (log_of graph scripts (take place lines)) line) c.loop-place.invariant.0 ((c.in_ok-take.ensures.right line is).0 c.if-not-branch.false) in
    let inside = c.if-place-lines.false in
    (c.in_ok-take.ensures.made ∙ c.loop-place.invariant.0, omega (arith, inside), right_more graph scripts made lines place before here, subst (λ m. Stands graph scripts m c.take.new.self.machine c.take.new.self.seats.items c.take.new.self.marks.items (log_of graph scripts (take (place + 1) lines))) c.loop-place.invariant.0 (c.in_ok-take.ensures.stands c.if-not-branch.false))

pub returns-then-lines-made : goal.returns-then-lines-made
returns-then-lines-made c =
    let graph = c.args.deck.now.graph in
    let scripts = c.args.deck.now.scripts in
    let report = c.args.report.now in
    let made = c.count_made-made.result in
    let place = c.loop-place.place in
    let lines = c.as_slice-lines.result.now in
    let made_is : made ≡ count_made graph scripts c.args.versions = c.count_made-made.ensures ∙ ap (λ g. count_made g c.scripts.result.now c.args.versions) c.graph.ensures.value ∙ ap (λ s. count_made graph s c.args.versions) c.scripts.ensures.value in
    let before : AreRightCalls graph scripts made lines place = c.loop-place.invariant.2 in
    let more = c.if-lines-made.true in
    let least = c.loop-place-test.false in
    let most = c.loop-place.auto.place-end in
    let end : place ≡ made = omega (arith, least, most) in
    let through : IsThrough graph scripts made lines = record { enough = omega (arith, more); each = subst (AreRightCalls graph scripts made lines) end before } in
    subst (λ m. IsFirstWrong graph scripts c.args.versions report (m + 1)) (sym made_is)
    (one_too_many graph scripts c.args.versions report (subst (λ m. IsThrough graph scripts m report.calls) made_is (subst (IsThrough graph scripts made) c.as_slice-lines.ensures through)) (subst (λ m. m < length report.calls) made_is (subst (λ ls. made < length ls) c.as_slice-lines.ensures more)))

pub check_behind-requires-clause-through : goal.check_behind-requires-clause-through
check_behind-requires-clause-through c =
    let graph = c.args.deck.now.graph in
    let scripts = c.args.deck.now.scripts in
    let report = c.args.report.now in
    let made = c.count_made-made.result in
    let place = c.loop-place.place in
    let lines = c.as_slice-lines.result.now in
    let made_is : made ≡ count_made graph scripts c.args.versions = c.count_made-made.ensures ∙ ap (λ g. count_made g c.scripts.result.now c.args.versions) c.graph.ensures.value ∙ ap (λ s. count_made graph s c.args.versions) c.scripts.ensures.value in
    let before : AreRightCalls graph scripts made lines place = c.loop-place.invariant.2 in
    let least = c.loop-place-test.false in
    let most = c.loop-place.auto.place-end in
    let inside = c.loop-place.invariant.1 in
    let end : place ≡ made = omega (arith, least, most) in
    let through : IsThrough graph scripts made lines = record { enough = omega (arith, inside, least); each = subst (AreRightCalls graph scripts made lines) end before } in
    subst (λ m. IsThrough graph scripts m report.calls) (sym c.loop-place.invariant.0) (subst (IsThrough graph scripts made) c.as_slice-lines.ensures through)
