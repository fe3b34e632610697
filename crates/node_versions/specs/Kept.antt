-- How a list is kept: within its rooms, for which the vectors have their capacity.
use Rattle.std.specs.Prelude.{ℕ, ◌^◌, ◌<◌, ◌≤◌, ◌≡◌, false, length}
use Rattle.std.specs.List.{position_or_len}
use Rattle.smallvec.specs.SmallVec.{SmallVec}
use Rattle.node_versions.specs.Entries.{Entry, OutEdge, is_frame, done_len, has, IsUnique, AreDifferent}

-- The rooms are numbers of 32 bits. There is an entry, and there are no more entries and out-edges than there is room for. No two entries
-- are of one call, and no out-edge is there twice. What is kept of the entries is the index of the first Frame, or how many entries there
-- are, and the index behind the last Done, and a version above which no entry's is.
pub record IsKept (entries : SmallVec Entry) (outs : SmallVec OutEdge) (room outs_room first_frame done_end newest : ℕ) : Type 0 where
  pub small : room < 2 ^ 32
  pub outs_small : outs_room < 2 ^ 32
  pub some : 0 < length entries.items
  pub fits : length entries.items ≤ room
  pub reserved : room ≤ entries.capacity
  pub unique : IsUnique entries.items
  pub outs_fit : length outs.items ≤ outs_room
  pub outs_reserved : outs_room ≤ outs.capacity
  pub different : AreDifferent outs.items
  pub frame : first_frame ≡ position_or_len (λ e. is_frame e.state) entries.items
  pub done : done_end ≡ done_len entries.items
  pub above : (t : ℕ) → newest < t → has entries.items t ≡ false
