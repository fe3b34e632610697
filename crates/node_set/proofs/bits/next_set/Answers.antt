use Rattle.std.proofs.Common.{◌+◌, ◌/◌, ◌%◌, arith}
use Rattle.script_tree.proofs.BitLemmas.{search_begins, search_more}
use Rattle.node_set.proofs.Searches.{lowest_in_word, lowest_later, none_later}
use Rattle.node_set.proofs.bits.next_set.Goals as goal

pub returns-in-Some-clause-some : goal.returns-in-Some-clause-some
returns-in-Some-clause-some c = lowest_in_word c.args.words.now c.args.from (c.args.from / 64) (c.args.from % 64) c.in-Some.bit c.requires.inside (search_begins c.args.words.now c.args.from) c.in-Some.ensures.some

pub returns-in-None-clause-none : goal.returns-in-None-clause-none
returns-in-None-clause-none c =
    none_later c.args.words.now c.args.summary.now c.args.from (c.args.from / 64 + 1) c.requires.summarizes
    (search_more c.args.words.now c.args.from (c.args.from / 64) (c.args.from % 64) (search_begins c.args.words.now c.args.from) c.in_default.ensures.none)
    c.in-None.ensures.none

pub returns-in-Some-lowest_from-clause-some : goal.returns-in-Some-lowest_from-clause-some
returns-in-Some-lowest_from-clause-some c =
    lowest_later c.args.words.now c.args.summary.now c.args.from (c.args.from / 64 + 1) c.in-Some-lowest_from.later c.requires.summarizes
    (search_more c.args.words.now c.args.from (c.args.from / 64) (c.args.from % 64) (search_begins c.args.words.now c.args.from) c.in_default.ensures.none)
    c.in-Some-lowest_from.ensures.some (let fits = c.type_inv.words c.in-Some-lowest_from.later in omega (arith, fits))
