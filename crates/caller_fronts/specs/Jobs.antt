-- Jobs that are out: evaluations that go on with no lock held.
use Rattle.std.specs.Prelude.{ℕ, Bool, true, false, not, ◌==◌, nat_lt, List, [], ◌∷◌, map, filter, find, Option, is_some}
use Rattle.signal_graph.specs.Graph.{Graph}
use Rattle.flow_model.specs.Machine.State.{Core}
use Rattle.flow_model.specs.Machine.Words.{is_found, found_now, body_now}
use Rattle.flow_state.specs.declared.outcome.Outcome.TheVariants as outcome
use Rattle.flow_state.specs.declared.outcome.Answer.{Answer}
use Rattle.flow_state.specs.Jobs.{outcome_in}

-- the job of a call at a node in a state: its scripts, or where something is found its body, with what that finds there
abbrev pub job_at : Graph → Core → ℕ → ℕ → Answer
job_at graph s t n = record {
  version = t;
  node = n;
  outcome = elim (is_found s n) [ true ↦ outcome.Body (body_now graph s n) | false ↦ outcome_in (found_now graph s t n) ];
}

-- the jobs of a call at nodes
abbrev pub jobs_at : Graph → Core → ℕ → List ℕ → List Answer
jobs_at graph s t nodes = map (job_at graph s t) nodes

-- the job at a node among those that are out, if there is one
abbrev pub job_of : ℕ → List Answer → Option Answer
job_of n out = find (λ (job : Answer). job.node == n) out

-- Some job at the node is out.
abbrev pub is_job_out : ℕ → List Answer → Bool
is_job_out n out = is_some (job_of n out)

-- the jobs with one more, in the order of their nodes
abbrev pub with_job : Answer → List Answer → List Answer
with_job job [] = job ∷ []
with_job job (other ∷ out) = elim (nat_lt job.node other.node) [ true ↦ job ∷ other ∷ out | false ↦ other ∷ with_job job out ]

-- the jobs without that at a node
abbrev pub without_job : ℕ → List Answer → List Answer
without_job n out = filter (λ (job : Answer). not (job.node == n)) out
