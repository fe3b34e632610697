use Rattle.std.proofs.Common.{length}
use Rattle.script_tree.specs.declared.limits.TheConstants.{VERSIONS}
use Rattle.gated_run.proofs.measured.measured.Given as goal

abbrev pub ghosts-calls_named : goal.ghosts-calls_named
ghosts-calls_named g a = record {
  table = a.writer.table;
  graph = a.graph.now;
  callers = length a.scripts.now;
  limit = VERSIONS;
}
