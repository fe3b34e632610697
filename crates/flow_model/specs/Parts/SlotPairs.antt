-- The recorded order as it is stored: pairs of slots in place of versions.
use Rattle.std.specs.Prelude.{ℕ, Bool, true, false, not, ◌&&◌, ◌||◌, ◌==◌, List, map, Option, Some, None}
use Rattle.std.specs.List.{list_any}
use Rattle.signal_graph.specs.Graph.{is_in}
use Rattle.order_graph.specs.declared.pair.Pair.{Pair}
use Rattle.order_graph.specs.Order.{linked, is_recorded, reaches}
use Rattle.node_versions.specs.declared.entry.Entry.{Entry}
use Rattle.node_versions.specs.Entries.{front, rest, first_entry, last_entry}
use Rattle.flow_model.specs.Machine.State.{Core, LiveCall, call, live, executes, entries}
use Rattle.flow_model.specs.Machine.Changes.{stops}

-- a pair with another number for each end
abbrev pub renamed_pair : (ℕ → ℕ) → Pair → Pair
renamed_pair f p = record { from = f p.from; to = f p.to; node = p.node }

-- the pairs with another number for each end
abbrev pub renamed : (ℕ → ℕ) → List Pair → List Pair
renamed f pairs = map (renamed_pair f) pairs

-- the slot of a live call
abbrev pub slot_of : Core → ℕ → ℕ
slot_of s u = (call s u).slot

-- the recorded order, by slots
abbrev pub slot_pairs : Core → List Pair
slot_pairs s = renamed (slot_of s) s.pairs

-- ---- entering a list, by the slots of the neighbours' entries

-- the pairs with one of the left neighbour and the call, and one of the call and the right neighbour, where these live
abbrev pub link_left_by_slot : Core → ℕ → ℕ → Option Entry → List Pair → List Pair
link_left_by_slot s t m None pairs = pairs
link_left_by_slot s t m (Some e) pairs = elim (live s e.version) [ true ↦ linked pairs e.slot (slot_of s t) m | false ↦ pairs ]

abbrev pub link_right_by_slot : Core → ℕ → ℕ → Option Entry → List Pair → List Pair
link_right_by_slot s t m None pairs = pairs
link_right_by_slot s t m (Some e) pairs = elim (live s e.version) [ true ↦ linked pairs (slot_of s t) e.slot m | false ↦ pairs ]

-- the pairs of slots after one of the left neighbour and the call is recorded, and after the call has entered the node's list
abbrev pub left_linked_by_slot : Core → ℕ → ℕ → List Pair
left_linked_by_slot s t m = link_left_by_slot s t m (last_entry None (front (stops s t) (entries s m))) (slot_pairs s)

abbrev pub linked_at_by_slot : Core → ℕ → ℕ → List Pair
linked_at_by_slot s t m = link_right_by_slot s t m (first_entry (rest (stops s t) (entries s m))) (left_linked_by_slot s t m)

-- ---- what an entry's slot tells

-- A live call has the entry's slot and version.
abbrev pub entry_lives : Core → Entry → Bool
entry_lives s e = list_any (λ c. (c.slot == e.slot) && (c.version == e.version)) s.calls

-- Entry e stops a live call t, by slots.
abbrev pub stops_by_slot : Core → ℕ → Entry → Bool
stops_by_slot s t e = entry_lives s e && (reaches (slot_pairs s) (slot_of s t) e.slot || (executes s t && not (executes s e.version)))

-- ---- words of the steps, by slots

-- An entry's call has ended.
abbrev pub ended_by_slot : Core → Entry → Bool
ended_by_slot s e = not (entry_lives s e)

-- A pair leads to the call.
abbrev pub any_before_by_slot : Core → ℕ → Bool
any_before_by_slot s t = list_any (λ (p : Pair). p.to == slot_of s t) (slot_pairs s)

-- A pair leads from another call to the call.
abbrev pub recorded_by_slot : Core → ℕ → LiveCall → Bool
recorded_by_slot s t c = is_recorded (slot_pairs s) c.slot (slot_of s t)

-- A call that frames still has a pair that leads to the call.
abbrev pub is_framing_before_by_slot : Core → ℕ → LiveCall → Bool
is_framing_before_by_slot s t c = not c.executing && is_recorded (slot_pairs s) c.slot (slot_of s t)

-- An executing call after a live one wants the node.
abbrev pub presses_by_slot : Core → ℕ → ℕ → LiveCall → Bool
presses_by_slot s t n c = c.executing && reaches (slot_pairs s) (slot_of s t) c.slot && is_in n c.wanted
