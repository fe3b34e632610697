use Rattle.caller_fronts.proofs.JobLists as lists
use Rattle.caller_fronts.proofs.laws.jobs_have_nodes.Goals as goal

pub returns-clause-out : goal.returns-clause-out
returns-clause-out c = lists.job-out

pub returns-clause-some : goal.returns-clause-some
returns-clause-some c = lists.job-some

pub returns-clause-none : goal.returns-clause-none
returns-clause-none c = lists.job-none

pub returns-clause-more : goal.returns-clause-more
returns-clause-more c = lists.job-more

pub returns-clause-less : goal.returns-clause-less
returns-clause-less c = lists.job-less

pub returns-clause-evaluate : goal.returns-clause-evaluate
returns-clause-evaluate c = lists.evaluate-right

pub returns-clause-body : goal.returns-clause-body
returns-clause-body c = lists.body-right

pub returns-clause-is_evaluate : goal.returns-clause-is_evaluate
returns-clause-is_evaluate c = lists.evaluate-is

pub returns-clause-is_body : goal.returns-clause-is_body
returns-clause-is_body c = lists.body-is
