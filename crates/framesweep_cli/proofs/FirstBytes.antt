-- What was read of a source.
use Rattle.std.proofs.Common.{ℕ, ◌+◌, List, Option, Some, None}
use Rattle.fs_io.specs.Bytes.{GivesFirst}
use Rattle.framesweep_cli.specs.declared.reading.Reading.{Reading}
use Rattle.framesweep_cli.specs.Inputs.{most_bytes, IsInput}

pub given_first : (reading : Reading) (left after : Option (List ℕ)) (bytes : List ℕ)
    → GivesFirst (most_bytes reading + 1) left after bytes → IsInput reading left bytes
given_first reading None after bytes h = tt
given_first reading (Some old) None bytes h = absurd h
given_first reading (Some old) (Some new) bytes h = h.0
