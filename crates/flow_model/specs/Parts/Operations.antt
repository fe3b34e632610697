-- What the operations of node lists and of the recorded order want of their arguments, said of a state.
use Rattle.std.specs.Prelude.{◌≡◌, ℕ, ◌<◌, ◌≢◌, true, false, length, Some, None}
use Rattle.std.specs.Option.{IsSome}
use Rattle.order_graph.specs.Order.{reaches}
use Rattle.node_versions.specs.declared.entry.Entry.{Entry}
use Rattle.node_versions.specs.Entries.{HasEndedPrefix, has, up_to, before, last_done, front}
use Rattle.node_versions.specs.Entries.{rest, first_entry, last_entry, has_out, without_out}
use Rattle.flow_model.specs.Machine.State.{Core, ended, entries, outs}
use Rattle.flow_model.specs.Machine.Changes.{stops, remove_first}
use Rattle.flow_model.specs.Kept.Lawful.{IsLive}
use Rattle.flow_model.specs.Parts.SlotPairs.{slot_of, slot_pairs, left_linked_by_slot}

-- A list has an entry; a live call with an entry finds a Done at it or before, and one strictly before; the ended entries come
-- first, with a Done; and the first out-edge of a node is the one that is found there.
pub record ListsAnswer (s : Core) : Type 0 where
  pub some : (n : ℕ) → n < length s.cells → 0 < length (entries s n)
  pub done_at : (n t : ℕ) → IsLive s t → has (entries s n) t ≡ true → IsSome (last_done (up_to (entries s n) t))
  pub done_before : (n t : ℕ) → IsLive s t → has (entries s n) t ≡ true → IsSome (last_done (before (entries s n) t))
  pub ended : (n : ℕ) → n < length s.cells → HasEndedPrefix (ended s) (entries s n)
  pub remove : (n m since : ℕ) → has_out (outs s m) n since ≡ true → remove_first n (outs s m) ≡ without_out (outs s m) n since

-- Where a live call enters a list, the pairs with its neighbours are of different slots and make no cycle, one after the other.
pub record OrderTakes (s : Core) (t m : ℕ) : Type 0 where
  pub left : (e : Entry) → last_entry None (front (stops s t) (entries s m)) ≡ Some e → IsLive s e.version
      → (e.slot ≢ slot_of s t) × (reaches (slot_pairs s) (slot_of s t) e.slot ≡ false)
  pub right : (e : Entry) → first_entry (rest (stops s t) (entries s m)) ≡ Some e → IsLive s e.version
      → (slot_of s t ≢ e.slot) × (reaches (left_linked_by_slot s t m) e.slot (slot_of s t) ≡ false)

-- No chain of pairs leads to the call's slot.
abbrev pub IsFirstSlot : Core → ℕ → Type 0
IsFirstSlot s t = (x : ℕ) → reaches (slot_pairs s) x (slot_of s t) ≡ false
