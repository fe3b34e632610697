use Rattle.std.proofs.Common.{length}
use Rattle.worker_gate.proofs.scripts.run_scripts.Given as goal

abbrev pub ghosts-run_named : goal.ghosts-run_named
ghosts-run_named g a = record {
  table = a.writer.table;
  graph = a.graph.now;
  callers = length a.scripts.now;
  limit = a.versions;
}
