use Rattle.flow_model.proofs.Schedules.ExamplesPlayOut.{retrofit-plays_out, other_order-plays_out, one_edge-plays_out, two_levels-plays_out, reader_in_the_past-plays_out, unconnected-plays_out, two_selectors-plays_out}
use Rattle.flow_model.proofs.laws.examples_play_out.Goals as goal

pub returns-clause-retrofit : goal.returns-clause-retrofit
returns-clause-retrofit c = retrofit-plays_out

pub returns-clause-other_order : goal.returns-clause-other_order
returns-clause-other_order c = other_order-plays_out

pub returns-clause-one_edge : goal.returns-clause-one_edge
returns-clause-one_edge c = one_edge-plays_out

pub returns-clause-two_levels : goal.returns-clause-two_levels
returns-clause-two_levels c = two_levels-plays_out

pub returns-clause-reader_in_the_past : goal.returns-clause-reader_in_the_past
returns-clause-reader_in_the_past c = reader_in_the_past-plays_out

pub returns-clause-unconnected : goal.returns-clause-unconnected
returns-clause-unconnected c = unconnected-plays_out

pub returns-clause-two_selectors : goal.returns-clause-two_selectors
returns-clause-two_selectors c = two_selectors-plays_out
