-- How a book is kept.
use Rattle.std.specs.Prelude.{◌≡◌, ℕ, ◌+◌, ◌≤◌, true, length}
use Rattle.call_log.specs.Record.{Record}
use Rattle.flow_state.specs.Booked.{Booked}
use Rattle.flow_state.specs.Seats.{LiveCalls, has_call}
use Rattle.flow_state.specs.Shelves.{Shelved}

-- what is seen of a book
abbrev pub booked : ℕ → ℕ → ℕ → LiveCalls → Shelved → Record → Booked
booked limit begun rooms live shelves log = record {
  book = record {
    callers = live.callers;
    limit = limit;
    begun = begun;
    calls = live.calls;
    works = shelves.works;
    pairs = live.pairs;
    log = log.entries;
  };
  rooms = rooms;
  room_for = shelves.room_for;
}

-- Each node has a shelf. All calls that were begun are live or in the log, and versions count them. The log has rows for
-- the rooms that are out, for the live calls, and at least so many that nobody claims.
pub record IsKept (limit begun rooms spare : ℕ) (live : LiveCalls) (shelves : Shelved) (log : Record) : Type 0 where
  pub nodes : length shelves.works ≡ live.nodes
  pub counted : length live.calls + length log.entries ≡ begun
  pub within : begun ≤ limit
  pub few : limit ≤ 4000000
  pub known : (t : ℕ) → has_call live t ≡ true → t ≤ begun
  pub rows : rooms + spare + length live.calls ≤ log.spare
