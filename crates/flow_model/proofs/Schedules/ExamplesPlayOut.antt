-- Each worked example comes out as shown, by computation.
use Rattle.std.proofs.Common.{◌≡◌, ℕ, pos, List, [], ◌∷◌, ap, refl, sym}
use Rattle.script_tree.specs.declared.value.Value.{Value}
use Rattle.script_tree.specs.declared.value.Value.TheVariants.{Int}
use Rattle.signal_graph.specs.declared.call.Reply.{Reply}
use Rattle.signal_graph.specs.declared.call.Reply.TheVariants.{Fire as Fired}
use Rattle.signal_graph.specs.declared.log.Logged.{Logged}
use Rattle.flow_model.specs.Machine.Examples.{PlaysOut, retrofit_log_with, retrofit_graph, retrofit_scripts, retrofit_schedule, retrofit_moves, retrofit_log, retrofit_finals, other_order_graph, other_order_scripts, other_order_schedule, other_order_moves, other_order_log, other_order_finals, one_edge_graph, one_edge_scripts, one_edge_schedule, one_edge_moves, one_edge_log, one_edge_finals, two_levels_graph, two_levels_scripts, two_levels_schedule, two_levels_moves, two_levels_log, two_levels_finals, reader_in_the_past_graph, reader_in_the_past_scripts, reader_in_the_past_schedule, reader_in_the_past_moves, reader_in_the_past_log, reader_in_the_past_finals, unconnected_graph, unconnected_scripts, unconnected_schedule, unconnected_moves, unconnected_log, unconnected_finals, two_selectors_graph, two_selectors_scripts, two_selectors_schedule, two_selectors_moves, two_selectors_log, two_selectors_finals}

pub retrofit-plays_out : PlaysOut retrofit_graph retrofit_scripts retrofit_schedule retrofit_moves retrofit_log retrofit_finals
retrofit-plays_out = record { moves_made = refl; is_over = refl; allowed = refl; logs = refl; legal = (refl, (refl, tt)); last = refl; finals = refl }

pub other_order-plays_out : PlaysOut other_order_graph other_order_scripts other_order_schedule other_order_moves other_order_log other_order_finals
other_order-plays_out = record { moves_made = refl; is_over = refl; allowed = refl; logs = refl; legal = (refl, (refl, tt)); last = refl; finals = refl }

pub one_edge-plays_out : PlaysOut one_edge_graph one_edge_scripts one_edge_schedule one_edge_moves one_edge_log one_edge_finals
one_edge-plays_out = record { moves_made = refl; is_over = refl; allowed = refl; logs = refl; legal = (refl, (refl, (refl, (refl, tt)))); last = refl; finals = refl }

pub two_levels-plays_out : PlaysOut two_levels_graph two_levels_scripts two_levels_schedule two_levels_moves two_levels_log two_levels_finals
two_levels-plays_out = record { moves_made = refl; is_over = refl; allowed = refl; logs = refl; legal = (refl, (refl, tt)); last = refl; finals = refl }

pub reader_in_the_past-plays_out : PlaysOut reader_in_the_past_graph reader_in_the_past_scripts reader_in_the_past_schedule reader_in_the_past_moves reader_in_the_past_log reader_in_the_past_finals
reader_in_the_past-plays_out = record { moves_made = refl; is_over = refl; allowed = refl; logs = refl; legal = (refl, (refl, tt)); last = refl; finals = refl }

pub unconnected-plays_out : PlaysOut unconnected_graph unconnected_scripts unconnected_schedule unconnected_moves unconnected_log unconnected_finals
unconnected-plays_out = record { moves_made = refl; is_over = refl; allowed = refl; logs = refl; legal = (refl, (refl, tt)); last = refl; finals = refl }

pub two_selectors-plays_out : PlaysOut two_selectors_graph two_selectors_scripts two_selectors_schedule two_selectors_moves two_selectors_log two_selectors_finals
two_selectors-plays_out = record { moves_made = refl; is_over = refl; allowed = refl; logs = refl; legal = (refl, (refl, tt)); last = refl; finals = refl }

-- the number at the first look of a reply, and of the second call of a log
abbrev number : Value → ℕ
number (Int (pos n)) = n
number v = 0

abbrev first_look : List Value → ℕ
first_look [] = 0
first_look (v ∷ vs) = number v

abbrev look_of : Reply → ℕ
look_of (Fired changed evaluated looks) = first_look looks
look_of reply = 0

abbrev second_look : List Logged → ℕ
second_look (a ∷ b ∷ log) = look_of b.reply
second_look log = 0

pub retrofit-one_look : (look : ℕ) → PlaysOut retrofit_graph retrofit_scripts retrofit_schedule retrofit_moves (retrofit_log_with look) retrofit_finals → look ≡ 22
retrofit-one_look look plays = ap second_look (sym plays.logs)
