-- A beginning finds a slot, and what it makes.
use Rattle.std.proofs.Common.{◌≡◌, ℕ, ◌+◌, ◌<◌, ◌≤◌, true, List, length, sym, ap, ◌∙◌, subst, arith}
use Rattle.std.proofs.lemmas.Bool.{not-true, leb-true}
use Rattle.std.proofs.lemmas.List.{length-map}
use Rattle.signal_graph.specs.declared.call.Call.{Call}
use Rattle.script_tree.specs.declared.limits.TheConstants.{LOOKS}
use Rattle.script_tree.specs.declared.value.Value.{Value}
use Rattle.script_tree.proofs.Truths.{and_left, and_right}
use Rattle.signal_graph.specs.Graph.{Graph, number_of}
use Rattle.signal_graph.specs.Machine.{looks_of, misnamed}
use Rattle.flow_model.specs.Machine.State.{Core}
use Rattle.flow_model.specs.Machine.Steps.{can_begin, free_slot, has_call, sets_in, looks_in}
use Rattle.flow_model.proofs.OneStep.BegunCalls.{few-calls, slot-free, none-is}
use Rattle.flow_state.specs.Booked.{Booked, AreInside, begin_call, node_count}
use Rattle.flow_state.specs.Rooms.{Roomy, IsRoomFor}
use Rattle.flow_state.proofs.Naming.{named_inside}
use Rattle.flow_model.specs.Parts.Books.{Book, work_in}
use Rattle.flow_state.specs.Fitting.{IsBookOf}
use Rattle.framing.specs.Begins.{MakesBeginning}

pub slot_inside : (graph : Graph) (s : Core) (book : Booked) (caller : ℕ) (call : Call) → IsBookOf graph s book → can_begin graph s caller call ≡ true → free_slot book.book.callers 0 book.book.calls < book.book.callers
slot_inside graph s book caller call fits h =
    let three = and_left _ _ (and_left _ _ (and_left _ _ (and_left _ _ h))) in
    let two = and_left _ _ three in
    let first = leb-true 1 caller (and_left _ _ two) in
    let last = leb-true caller s.callers (and_right _ _ two) in
    let none = not-true (has_call caller s.calls) (and_right _ _ three) in
    let slot = slot-free graph s fits.lawful (few-calls graph s fits.lawful caller first last none) in
    let inside : free_slot s.callers 0 s.calls < s.callers = let i = slot.inside in omega (arith, i) in
    subst (λ (f : Book). free_slot f.callers 0 f.calls < f.callers) (sym fits.parts) inside

pub sets_inside : (graph : Graph) (s : Core) (book : Booked) (caller : ℕ) (call : Call) (room : Roomy) → IsBookOf graph s book
    → can_begin graph s caller call ≡ true → IsRoomFor graph call room → AreInside (node_count book) room.sets
sets_inside graph s book caller call room fits h made =
    let named = none-is (misnamed graph call) (and_right _ _ (and_left _ _ h)) in
    let works = sym (ap (λ (f : Book). length f.works) fits.parts ∙ length-map s.cells work_in ∙ fits.lawful.lists) in
    subst (λ (n : ℕ). AreInside n room.sets) works (subst (AreInside (length graph.nodes)) (sym made.sets) (named_inside graph call named))

pub looks_few : (graph : Graph) (s : Core) (caller : ℕ) (call : Call) (room : Roomy) → can_begin graph s caller call ≡ true
    → IsRoomFor graph call room → length room.looks ≤ LOOKS
looks_few graph s caller call room h made =
    let few = leb-true (length (looks_of call)) LOOKS (and_right _ _ (and_left _ _ (and_left _ _ h))) in
    let many = ap length made.looks ∙ length-map (looks_of call) (number_of graph) in
    omega (arith, few, many)

room_is : (graph : Graph) (call : Call) (room : Roomy) → IsRoomFor graph call room
    → room ≡ record { sets = sets_in graph call; looks = looks_in graph call; nodes = length graph.nodes }
room_is graph call room made = ap (λ (ss : List (ℕ × Value)). record room { sets = ss }) made.sets
    ∙ ap (λ (ns : List ℕ). record { sets = sets_in graph call; looks = ns; nodes = room.nodes }) made.looks
    ∙ ap (λ (n : ℕ). record { sets = sets_in graph call; looks = looks_in graph call; nodes = n }) made.nodes

pub begin_makes : (book new : Booked) (caller version : ℕ) (call : Call) (room : Roomy) → new ≡ begin_call room book caller call
    → version ≡ book.book.begun + 1 → MakesBeginning book caller call room new version
begin_makes book new caller version call room is v graph s fits h made = (
  is ∙ ap (λ (r : Roomy). begin_call r book caller call) (room_is graph call room made)
      ∙ ap (λ (f : Book). begin_call (record { sets = sets_in graph call; looks = looks_in graph call; nodes = length graph.nodes }) (record book { book = f }) caller call) fits.parts,
  let b = ap (λ (f : Book). f.begun) fits.parts in omega (arith, v, b),
)
