use Rattle.std.proofs.Common.{◌≡◌, ℕ, ◌≤◌, List, length, ◌∙◌, sym, subst, rules}
use Rattle.script_tree.specs.declared.limits.TheConstants.{DECK_BYTES}
use Rattle.deck_text.specs.Appended.{appended}
use Rattle.deck_text.specs.Spelled.{SpellsDeck}
use Rattle.deck_text.proofs.Appending.{appended_is_canonical}
use Rattle.deck_text.proofs.Canonical.{Again, canonical_even, canonical_each_by_recursion, canonical_back}
use Rattle.deck_text.proofs.printer.print_deck.Goals as goal

again : (c : goal.In_ok-push_threads) → Again
again c = record { says = c.canonical_line.ensures.says; back = c.canonical_line.ensures.back; whole = c.canonical_line.ensures.whole; short = c.canonical_line.ensures.short }

pub returns-clause-text : goal.returns-clause-text
returns-clause-text c =
    let deck = c.args.deck.now in
    let kept = c.graph.ensures.kept in
    let put : c.push_threads.new.text ≡ appended deck = search rules in
    put
    ∙ appended_is_canonical c.written_value.ensures c.canonical_line.ensures.apart deck (canonical_even kept.text deck kept.spelled)
    (canonical_each_by_recursion (again c) kept.text deck kept.spelled)

pub returns-clause-back : goal.returns-clause-back
returns-clause-back c =
    let deck = c.args.deck.now in
    let kept = c.graph.ensures.kept in
    subst (λ (text : List ℕ). length text ≤ DECK_BYTES → SpellsDeck text deck) (sym (returns-clause-text c)) (canonical_back (again c) kept.text deck kept.spelled)
