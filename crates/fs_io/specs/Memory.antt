-- Sources and sinks in memory as contracts see them, and what a call does to them.
use Rattle.std.specs.Prelude.{◌≡◌, ℕ, ◌<◌, Bool, true, false, List, ◌++◌, length, take, drop, Contains, if◌then◌else◌, ◌||◌, nat_lt}
use Rattle.std.specs.Prelude.{Option, None, Some, Result, Ok, Err}
use Rattle.fs_io.specs.declared.fault.Failed.{Failed}
use Rattle.fs_io.specs.Count.{raised}

-- the bytes that are left, how many a call gives at most, the numbers of the calls that fail, and how many calls and faults there were
pub record Supply : Type 0 where
  pub left : List ℕ
  pub most : ℕ
  pub failing : List ℕ
  pub calls : ℕ
  pub faults : ℕ

-- the bytes that are left, and how many a call gives at most
pub record SureSupply : Type 0 where
  pub left : List ℕ
  pub most : ℕ

-- the bytes that are held, how many it holds and a call takes at most, the numbers of the calls that fail, how many calls and faults
-- there were, and whether it was flushed since the last write
pub record Store : Type 0 where
  pub held : List ℕ
  pub room : ℕ
  pub most : ℕ
  pub failing : List ℕ
  pub calls : ℕ
  pub faults : ℕ
  pub clean : Bool

-- the first bytes that came, whether more came, how many it keeps and a call takes at most, and whether it was flushed since the last
-- write
pub record SureStore : Type 0 where
  pub kept : List ℕ
  pub over : Bool
  pub room : ℕ
  pub most : ℕ
  pub clean : Bool

-- the next call is one of those that fail
abbrev pub Fails : List ℕ → ℕ → Type 0
Fails failing calls = Contains failing (raised calls)

-- a buffer after a read: the bytes that it gave, and then what was there
abbrev pub filled : List ℕ → Result ℕ Failed → List ℕ → List ℕ
filled left (Ok n) buf = take n left ++ drop n buf
filled left (Err f) buf = buf

abbrev pub after_read : Supply → Result ℕ Failed → Supply
after_read s (Ok n) = record s { left = drop n s.left; calls = raised s.calls }
after_read s (Err f) = record s { calls = raised s.calls; faults = raised s.faults }

abbrev pub after_sure_read : SureSupply → ℕ → SureSupply
after_sure_read s n = record s { left = drop n s.left }

-- a write of at least one byte comes to full room
abbrev pub IsFull : Store → List ℕ → Type 0
IsFull s bytes = (0 < length bytes) × (length s.held ≡ s.room)

abbrev pub after_write : Store → List ℕ → Result ℕ Failed → Store
after_write s bytes (Ok n) = record s { held = s.held ++ take n bytes; calls = raised s.calls; clean = false }
after_write s bytes (Err f) = record s { calls = raised s.calls; faults = raised s.faults; clean = false }

abbrev pub after_flush : {A : Type 0} → Store → Result A Failed → Store
after_flush s (Ok done) = record s { calls = raised s.calls; clean = true }
after_flush s (Err f) = record s { calls = raised s.calls; faults = raised s.faults }

-- the bytes that it took, while no more came than it keeps
abbrev pub told : SureStore → Option (List ℕ)
told s = if s.over then None else Some s.kept

-- the first bytes of all that came are kept, as many as there is room for
abbrev pub after_sure_write : SureStore → List ℕ → SureStore
after_sure_write s came =
    record s { kept = take s.room (s.kept ++ came); over = s.over || nat_lt s.room (length (s.kept ++ came)); clean = false }

abbrev pub after_sure_flush : SureStore → SureStore
after_sure_flush s = record s { clean = true }
