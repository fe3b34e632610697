use Rattle.public_calls.proofs.callers.the_last_version.Given as goal

abbrev pub ghosts-one_version_is_left : goal.ghosts-one_version_is_left
ghosts-one_version_is_left g a = record {
  table = a.writer.table;
  graph = a.graph.now;
  callers = 2;
  limit = 1;
}
