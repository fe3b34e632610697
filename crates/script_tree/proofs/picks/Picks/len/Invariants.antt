use Rattle.std.proofs.Common.{◌≡◌, length, ◌+◌, drop}
use Rattle.script_tree.specs.PickPlaces.{items_of}
use Rattle.script_tree.proofs.picks.Picks.len.Given as goal

abbrev pub invariant-loop-index : goal.invariant-loop-index
invariant-loop-index l =
    length (items_of l.self-inside.places l.self-inside.numbers) ≡ l.index + length (items_of (drop l.index l.self-inside.places) (drop l.index l.self-inside.numbers))
