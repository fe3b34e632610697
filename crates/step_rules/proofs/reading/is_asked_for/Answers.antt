use Rattle.std.proofs.Common.{◌≡◌, ℕ, ◌+◌, ◌-◌, ◌<◌, ◌≤◌, Some, sym, ap, ◌∙◌, subst, arith, refl}
use Rattle.std.specs.List.{list_any}
use Rattle.node_versions.specs.Entries.{Versions}
use Rattle.node_set.specs.Members.{first_from}
use Rattle.flow_model.specs.Machine.State.{call}
use Rattle.flow_model.specs.Parts.Books.{bare, asks_for_in}
use Rattle.step_rules.specs.Fits.{listed}
use Rattle.step_rules.proofs.OpenNodes.{all_nodes, from_in, from_above, from_more, from_found, from_over}
use Rattle.step_rules.proofs.Deciding.{open_below, open_set, few_nodes}
use Rattle.step_rules.proofs.reading.is_asked_for.Goals as goal

smaller : (n from m : ℕ) → m < n → from ≤ m → n - (m + 1) < n - from
smaller n from m h k = omega (arith, h, k)

pub loop-asking-init : goal.loop-asking-init
loop-asking-init g c =
    let b = c.args.book.now.book in
    let t = c.args.version in
    let nodes = (call (bare b) t).open_nodes in
    let test = asks_for_in c.args.graph.now b (listed (g.L.Lists.listing_of c.args.lists.now)) t c.args.node in
    record { rest = ap (list_any test) (all_nodes nodes); lists = refl; nodes = refl; bound = omega arith }

pub asks_for-requires-clause-asking : goal.asks_for-requires-clause-asking
asks_for-requires-clause-asking g c =
    let b = c.args.book.now.book in
    let t = c.args.version in
    let nodes = (call (bare b) t).open_nodes in
    let next : first_from c.loop-asking.from nodes ≡ Some c.in-Some.asking = sym c.next_open.ensures ∙ c.in-Some.is in
    let below : c.in-Some.asking < g.L.Lists.nodes c.args.lists.now =
    open_below c.args.graph.now c.args.book.now (g.L.Lists.listing_of c.args.lists.now) (g.L.Lists.nodes c.args.lists.now) t c.in-Some.asking c.requires.whole (from_in c.loop-asking.from nodes c.in-Some.asking next) in
    subst (λ (count : ℕ). c.in-Some.asking < count) (sym c.loop-asking.invariant.nodes) below

pub returns-then-asks_for-clause-asked : goal.returns-then-asks_for-clause-asked
returns-then-asks_for-clause-asked g c =
    let b = c.args.book.now.book in
    let t = c.args.version in
    let nodes = (call (bare b) t).open_nodes in
    let test = asks_for_in c.args.graph.now b (listed (g.L.Lists.listing_of c.args.lists.now)) t c.args.node in
    let next : first_from c.loop-asking.from nodes ≡ Some c.in-Some.asking = sym c.next_open.ensures ∙ c.in-Some.is in
    let set = open_set c.args.graph.now c.args.book.now (g.L.Lists.listing_of c.args.lists.now) (g.L.Lists.nodes c.args.lists.now) t c.requires.whole in
    let asks : test c.in-Some.asking ≡ c.asks_for.result =
    ap (λ (ls : ℕ → Versions). asks_for_in c.args.graph.now b (listed ls) t c.args.node c.in-Some.asking) (sym c.loop-asking.invariant.lists) ∙ sym c.asks_for.ensures.asks in
    from_found test c.loop-asking.from nodes c.in-Some.asking (list_any test nodes) set next c.loop-asking.invariant.rest (asks ∙ c.if-asks_for.true)

pub overflow_add-from : goal.overflow_add-from
overflow_add-from g c =
    let b = c.args.book.now.book in
    let t = c.args.version in
    let nodes = (call (bare b) t).open_nodes in
    let next : first_from c.loop-asking.from nodes ≡ Some c.in-Some.asking = sym c.next_open.ensures ∙ c.in-Some.is in
    let below : c.in-Some.asking < g.L.Lists.nodes c.args.lists.now =
    open_below c.args.graph.now c.args.book.now (g.L.Lists.listing_of c.args.lists.now) (g.L.Lists.nodes c.args.lists.now) t c.in-Some.asking c.requires.whole (from_in c.loop-asking.from nodes c.in-Some.asking next) in
    let few = few_nodes c.args.graph.now c.args.book.now (g.L.Lists.listing_of c.args.lists.now) (g.L.Lists.nodes c.args.lists.now) c.requires.whole in
    omega (arith, below, few)

pub loop-asking-smaller : goal.loop-asking-smaller
loop-asking-smaller g c =
    let b = c.args.book.now.book in
    let t = c.args.version in
    let nodes = (call (bare b) t).open_nodes in
    let next : first_from c.loop-asking.from nodes ≡ Some c.in-Some.asking = sym c.next_open.ensures ∙ c.in-Some.is in
    let below : c.in-Some.asking < g.L.Lists.nodes c.args.lists.now =
    open_below c.args.graph.now c.args.book.now (g.L.Lists.listing_of c.args.lists.now) (g.L.Lists.nodes c.args.lists.now) t c.in-Some.asking c.requires.whole (from_in c.loop-asking.from nodes c.in-Some.asking next) in
    smaller (g.L.Lists.nodes c.args.lists.now) c.loop-asking.from c.in-Some.asking below (from_above c.loop-asking.from nodes c.in-Some.asking next)

pub loop-asking-preserved : goal.loop-asking-preserved
loop-asking-preserved g c =
    let b = c.args.book.now.book in
    let t = c.args.version in
    let nodes = (call (bare b) t).open_nodes in
    let test = asks_for_in c.args.graph.now b (listed (g.L.Lists.listing_of c.args.lists.now)) t c.args.node in
    let next : first_from c.loop-asking.from nodes ≡ Some c.in-Some.asking = sym c.next_open.ensures ∙ c.in-Some.is in
    let below : c.in-Some.asking < g.L.Lists.nodes c.args.lists.now =
    open_below c.args.graph.now c.args.book.now (g.L.Lists.listing_of c.args.lists.now) (g.L.Lists.nodes c.args.lists.now) t c.in-Some.asking c.requires.whole (from_in c.loop-asking.from nodes c.in-Some.asking next) in
    let set = open_set c.args.graph.now c.args.book.now (g.L.Lists.listing_of c.args.lists.now) (g.L.Lists.nodes c.args.lists.now) t c.requires.whole in
    let asks : test c.in-Some.asking ≡ c.asks_for.result =
    ap (λ (ls : ℕ → Versions). asks_for_in c.args.graph.now b (listed ls) t c.args.node c.in-Some.asking) (sym c.loop-asking.invariant.lists) ∙ sym c.asks_for.ensures.asks in
    record {
      rest = from_more test c.loop-asking.from nodes c.in-Some.asking (list_any test nodes) set next c.loop-asking.invariant.rest (asks ∙ c.if-asks_for.false);
      lists = c.asks_for.ensures.lists ∙ c.loop-asking.invariant.lists;
      nodes = c.asks_for.ensures.nodes ∙ c.loop-asking.invariant.nodes;
      bound = omega (arith, below);
    }

pub returns-clause-asked : goal.returns-clause-asked
returns-clause-asked g c =
    let b = c.args.book.now.book in
    let t = c.args.version in
    let nodes = (call (bare b) t).open_nodes in
    let test = asks_for_in c.args.graph.now b (listed (g.L.Lists.listing_of c.args.lists.now)) t c.args.node in
    from_over test c.loop-asking.from nodes (list_any test nodes) (sym c.next_open.ensures ∙ c.in_default.is) c.loop-asking.invariant.rest
