use Rattle.std.proofs.Common.{◌≡◌, ◌<◌, ◌-◌, ◌+◌, ◌^◌, [], arith, sym, ap, ◌∙◌, subst, refl, true≢false, length, take}
use Rattle.signal_graph.specs.Machine.{misnamed, reply, after}
use Rattle.signal_graph.specs.Legal.{state_after}
use Rattle.call_log.specs.Made.{script_of}
use Rattle.serial_machine.specs.State.{IsAt}
use Rattle.report_check.specs.declared.seat.Seat.{Seat}
use Rattle.report_check.specs.Right.{log_of, IsRightCall}
use Rattle.report_check.specs.Standing.{seat_at, IsFree, IsNext, HasNoNext}
use Rattle.report_check.proofs.Taking.{no_next_is_wrong, free_is, right_is, answers_are, the_line, the_seat, the_script, the_call, made_fits, log_more, stands_further}
use Rattle.report_check.proofs.pass.Pass.take.Goals as goal

pub returns-in_default-clause-right : goal.returns-in_default-clause-right
returns-in_default-clause-right c = λ line is.
    let graph = c.args.deck.now.graph in
    let scripts = c.args.deck.now.scripts in
    let seats = c.args.self.now.seats.items in
    let log = log_of graph scripts (take c.args.place c.args.lines.now) in
    let found = the_line c.args.lines.now c.args.place c.index-lines-place.result line c.index-lines-place.is is in
    let none = subst (λ s. HasNoNext graph scripts s c.index-lines-place.result.caller) c.as_slice.ensures.value c.in_default.ensures.none in
    let wrong = no_next_is_wrong graph scripts c.args.self.now.made c.args.self.now.machine seats c.args.self.now.marks.items log c.index-lines-place.result c.requires.stands none in
    (λ h. absurd (true≢false (sym h)), λ right. absurd (wrong (subst (IsRightCall graph scripts c.args.self.now.made log) (sym found) right)))

pub returns-then-not-is_free-clause-right : goal.returns-then-not-is_free-clause-right
returns-then-not-is_free-clause-right c = λ line is.
    let graph = c.args.deck.now.graph in
    let scripts = c.args.deck.now.scripts in
    let made = c.args.self.now.made in
    let machine = c.args.self.now.machine in
    let seats = c.args.self.now.seats.items in
    let marks = c.args.self.now.marks.items in
    let log = log_of graph scripts (take c.args.place c.args.lines.now) in
    let found = c.index-lines-place.result in
    let stands = c.requires.stands in
    let next : IsNext graph scripts seats found.caller c.in-Some.at = subst (λ s. IsNext graph scripts s found.caller c.in-Some.at) c.as_slice.ensures.value c.in-Some.ensures.some in
    let many = stands.as_many in
    let low = next.from_one in
    let high = next.thread in
    let seat_is : c.index-seat.result.now ≡ seat_at seats (found.caller - 1) = the_seat seats (found.caller - 1) c.index-seat.result.now c.index-seat.ensures (omega (arith, many, low, high)) in
    let same = the_line c.args.lines.now c.args.place found line c.index-lines-place.is is in (
      λ h. absurd (true≢false (sym h)),
      λ right.
          let is_free = free_is graph scripts made machine seats marks log found stands (subst (IsRightCall graph scripts made log) (sym same) right) in
          let by_seat = subst (λ (s : Seat). IsFree made marks s.last found.version) (sym seat_is) is_free in
          absurd (true≢false (sym (c.is_free.ensures.1 (subst (λ m. IsFree made m c.index-seat.result.now.last found.version) (sym c.as_slice-2.ensures.value) by_seat)) ∙ c.if-not-is_free.true)),
    )

pub get-call-requires : goal.get-call-requires
get-call-requires c =
    let graph = c.args.deck.now.graph in
    let scripts = c.args.deck.now.scripts in
    let made = c.args.self.now.made in
    let machine = c.args.self.now.machine in
    let seats = c.args.self.now.seats.items in
    let marks = c.args.self.now.marks.items in
    let log = log_of graph scripts (take c.args.place c.args.lines.now) in
    let found = c.index-lines-place.result in
    let stands = c.requires.stands in
    let next : IsNext graph scripts seats found.caller c.in-Some.at = subst (λ s. IsNext graph scripts s found.caller c.in-Some.at) c.as_slice.ensures.value c.in-Some.ensures.some in
    let many = stands.as_many in
    let low = next.from_one in
    let high = next.thread in
    let seat_is : c.index-seat.result.now ≡ seat_at seats (found.caller - 1) = the_seat seats (found.caller - 1) c.index-seat.result.now c.index-seat.ensures (omega (arith, many, low, high)) in
    let script_is : script_of scripts (found.caller - 1) ≡ c.get.result.now = the_script scripts c.scripts-scripts.result.now (found.caller - 1) c.get.result.now c.scripts-scripts.ensures.value c.get.ensures in
    subst (λ calls. c.in-Some.at < length calls) script_is next.within

pub make-requires : goal.make-requires
make-requires c =
    let graph = c.args.deck.now.graph in
    let scripts = c.args.deck.now.scripts in
    let made = c.args.self.now.made in
    let machine = c.args.self.now.machine in
    let seats = c.args.self.now.seats.items in
    let marks = c.args.self.now.marks.items in
    let log = log_of graph scripts (take c.args.place c.args.lines.now) in
    let found = c.index-lines-place.result in
    let stands = c.requires.stands in
    let next : IsNext graph scripts seats found.caller c.in-Some.at = subst (λ s. IsNext graph scripts s found.caller c.in-Some.at) c.as_slice.ensures.value c.in-Some.ensures.some in
    let many = stands.as_many in
    let low = next.from_one in
    let high = next.thread in
    let seat_is : c.index-seat.result.now ≡ seat_at seats (found.caller - 1) = the_seat seats (found.caller - 1) c.index-seat.result.now c.index-seat.ensures (omega (arith, many, low, high)) in
    let script_is : script_of scripts (found.caller - 1) ≡ c.get.result.now = the_script scripts c.scripts-scripts.result.now (found.caller - 1) c.get.result.now c.scripts-scripts.ensures.value c.get.ensures in
    let call_is = the_call c.get.result.now (script_of scripts (found.caller - 1)) c.in-Some.at c.get-call.result.now script_is c.get-call.ensures in
    ap (λ g. misnamed g c.get-call.result.now) stands.graph_is ∙ ap (misnamed graph) call_is ∙ next.named

pub returns-then-not-branch-clause-right : goal.returns-then-not-branch-clause-right
returns-then-not-branch-clause-right c = λ line is.
    let graph = c.args.deck.now.graph in
    let scripts = c.args.deck.now.scripts in
    let made = c.args.self.now.made in
    let machine = c.args.self.now.machine in
    let seats = c.args.self.now.seats.items in
    let marks = c.args.self.now.marks.items in
    let log = log_of graph scripts (take c.args.place c.args.lines.now) in
    let found = c.index-lines-place.result in
    let stands = c.requires.stands in
    let next : IsNext graph scripts seats found.caller c.in-Some.at = subst (λ s. IsNext graph scripts s found.caller c.in-Some.at) c.as_slice.ensures.value c.in-Some.ensures.some in
    let many = stands.as_many in
    let low = next.from_one in
    let high = next.thread in
    let seat_is : c.index-seat.result.now ≡ seat_at seats (found.caller - 1) = the_seat seats (found.caller - 1) c.index-seat.result.now c.index-seat.ensures (omega (arith, many, low, high)) in
    let script_is : script_of scripts (found.caller - 1) ≡ c.get.result.now = the_script scripts c.scripts-scripts.result.now (found.caller - 1) c.get.result.now c.scripts-scripts.ensures.value c.get.ensures in
    let call_is = the_call c.get.result.now (script_of scripts (found.caller - 1)) c.in-Some.at c.get-call.result.now script_is c.get-call.ensures in
    let same = the_line c.args.lines.now c.args.place found line c.index-lines-place.is is in (
      λ h. absurd (true≢false (sym h)),
      λ right.
          let answers = answers_are graph scripts made machine seats marks log found c.in-Some.at c.get-call.result.now stands next call_is (subst (IsRightCall graph scripts made log) (sym same) right) in
          absurd (true≢false (sym ((c.in_ok-make.ensures.right (state_after graph log) stands.machine_at).1 (answers.0, answers.1 ∙ ap (λ g. reply g (state_after graph log) c.get-call.result.now) (sym stands.graph_is))) ∙ c.if-not-branch.true)),
    )

pub overflow_add-seat : goal.overflow_add-seat
overflow_add-seat c =
    let graph = c.args.deck.now.graph in
    let scripts = c.args.deck.now.scripts in
    let made = c.args.self.now.made in
    let machine = c.args.self.now.machine in
    let seats = c.args.self.now.seats.items in
    let marks = c.args.self.now.marks.items in
    let log = log_of graph scripts (take c.args.place c.args.lines.now) in
    let found = c.index-lines-place.result in
    let stands = c.requires.stands in
    let next : IsNext graph scripts seats found.caller c.in-Some.at = subst (λ s. IsNext graph scripts s found.caller c.in-Some.at) c.as_slice.ensures.value c.in-Some.ensures.some in
    let many = stands.as_many in
    let low = next.from_one in
    let high = next.thread in
    let seat_is : c.index-seat.result.now ≡ seat_at seats (found.caller - 1) = the_seat seats (found.caller - 1) c.index-seat.result.now c.index-seat.ensures (omega (arith, many, low, high)) in
    let script_is : script_of scripts (found.caller - 1) ≡ c.get.result.now = the_script scripts c.scripts-scripts.result.now (found.caller - 1) c.get.result.now c.scripts-scripts.ensures.value c.get.ensures in
    let size = ap length c.scripts-scripts.ensures.value in
    let counted = (c.scripts-scripts.ensures.kept.each (found.caller - 1) [] (omega (arith, size, low, high))).counted in
    let fits = made_fits graph scripts log seats c.index-seat.result.now found.caller c.in-Some.at stands.seated next seat_is (subst (λ s. length (script_of s (found.caller - 1)) < 2 ^ 32) c.scripts-scripts.ensures.value counted) in
    omega (arith, fits)

pub returns-clause-right : goal.returns-clause-right
returns-clause-right c = λ line is.
    let graph = c.args.deck.now.graph in
    let scripts = c.args.deck.now.scripts in
    let made = c.args.self.now.made in
    let machine = c.args.self.now.machine in
    let seats = c.args.self.now.seats.items in
    let marks = c.args.self.now.marks.items in
    let log = log_of graph scripts (take c.args.place c.args.lines.now) in
    let found = c.index-lines-place.result in
    let stands = c.requires.stands in
    let next : IsNext graph scripts seats found.caller c.in-Some.at = subst (λ s. IsNext graph scripts s found.caller c.in-Some.at) c.as_slice.ensures.value c.in-Some.ensures.some in
    let many = stands.as_many in
    let low = next.from_one in
    let high = next.thread in
    let seat_is : c.index-seat.result.now ≡ seat_at seats (found.caller - 1) = the_seat seats (found.caller - 1) c.index-seat.result.now c.index-seat.ensures (omega (arith, many, low, high)) in
    let script_is : script_of scripts (found.caller - 1) ≡ c.get.result.now = the_script scripts c.scripts-scripts.result.now (found.caller - 1) c.get.result.now c.scripts-scripts.ensures.value c.get.ensures in
    let call_is = the_call c.get.result.now (script_of scripts (found.caller - 1)) c.in-Some.at c.get-call.result.now script_is c.get-call.ensures in
    let free : IsFree made marks c.index-seat.result.now.last found.version = subst (λ m. IsFree made m c.index-seat.result.now.last found.version) c.as_slice-2.ensures.value (c.is_free.ensures.0 c.if-not-is_free.false) in
    let same = the_line c.args.lines.now c.args.place found line c.index-lines-place.is is in
    let answers = (c.in_ok-make.ensures.right (state_after graph log) stands.machine_at).0 c.if-not-branch.false in
    (λ h. subst (IsRightCall graph scripts made log) same (right_is graph scripts made machine seats marks log found c.in-Some.at c.get-call.result.now stands next call_is (subst (λ (s : Seat). IsFree made marks s.last found.version) seat_is free) answers.0 (answers.1 ∙ ap (λ g. reply g (state_after graph log) c.get-call.result.now) stands.graph_is)), λ right. refl)

pub returns-clause-stands : goal.returns-clause-stands
returns-clause-stands c = λ h.
    let graph = c.args.deck.now.graph in
    let scripts = c.args.deck.now.scripts in
    let made = c.args.self.now.made in
    let machine = c.args.self.now.machine in
    let seats = c.args.self.now.seats.items in
    let marks = c.args.self.now.marks.items in
    let log = log_of graph scripts (take c.args.place c.args.lines.now) in
    let found = c.index-lines-place.result in
    let stands = c.requires.stands in
    let next : IsNext graph scripts seats found.caller c.in-Some.at = subst (λ s. IsNext graph scripts s found.caller c.in-Some.at) c.as_slice.ensures.value c.in-Some.ensures.some in
    let many = stands.as_many in
    let low = next.from_one in
    let high = next.thread in
    let seat_is : c.index-seat.result.now ≡ seat_at seats (found.caller - 1) = the_seat seats (found.caller - 1) c.index-seat.result.now c.index-seat.ensures (omega (arith, many, low, high)) in
    let script_is : script_of scripts (found.caller - 1) ≡ c.get.result.now = the_script scripts c.scripts-scripts.result.now (found.caller - 1) c.get.result.now c.scripts-scripts.ensures.value c.get.ensures in
    let call_is = the_call c.get.result.now (script_of scripts (found.caller - 1)) c.in-Some.at c.get-call.result.now script_is c.get-call.ensures in
    let free : IsFree made marks c.index-seat.result.now.last found.version = subst (λ m. IsFree made m c.index-seat.result.now.last found.version) c.as_slice-2.ensures.value (c.is_free.ensures.0 c.if-not-is_free.false) in
    let grown = log_more graph scripts c.args.lines.now c.args.place found c.index-lines-place.is c.requires.within in
    let there = subst (λ g. IsAt c.make.new.self.machine (after g (state_after graph log) c.get-call.result.now)) stands.graph_is (c.in_ok-make.ensures.moves (state_after graph log) stands.machine_at c.if-not-branch.false) in
    stands_further graph scripts made machine c.make.new.self.machine seats c.make.new.self.seats.items marks c.make.new.self.marks.items log (log_of graph scripts (take (c.args.place + 1) c.args.lines.now)) found c.in-Some.at c.get-call.result.now c.index-seat.result.now
    stands next call_is seat_is free c.in_ok-make.ensures.seats c.in_ok-make.ensures.marks grown c.in_ok-make.ensures.graph there
