-- What contracts see of the source, the output and standard error together.
use Rattle.fs_io.specs.States.{SourceState, SinkState}

-- all devices at one moment
pub record Devices : Type 0 where
  pub source : SourceState
  pub out : SinkState
  pub err : SinkState
