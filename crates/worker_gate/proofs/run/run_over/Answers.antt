use Rattle.std.proofs.Common.{◌≡◌, ◌++◌, ◌<◌, length, ap, sym, subst, ◌∙◌}
use Rattle.std.specs.Prelude.{slice_index_or, flat_map}
use Rattle.worker_gate.specs.Scripts.{AreMade, AreBegun}
use Rattle.worker_gate.specs.Seats.{passes_of, lists_of, fronts_of, callers_of, IsServed}
use Rattle.worker_gate.proofs.Seating.{seated, none-refused, served-Each, all-taken, same-callers, are-begun, are-made}
use Rattle.worker_gate.proofs.run.run_over.Goals as goal

pub run_vec-seats-requires-clause-none : goal.run_vec-seats-requires-clause-none
run_vec-seats-requires-clause-none g c κs within = none-refused c.args.passes c.in-Ok.seats.items c.seat_all.new.seats.items c.seat_all.ensures.seats c.in-Ok.ensures.items

pub unseat_all-requires-clause-taken : goal.unseat_all-requires-clause-taken
unseat_all-requires-clause-taken g c =
    let e = c.run_vec-seats.ensures in
    let after = c.run_vec-seats.result.items in
    let long : length c.seat_all.new.seats.items ≡ length c.args.passes = seated c.args.passes c.in-Ok.seats.items c.seat_all.new.seats.items c.seat_all.ensures.seats c.in-Ok.ensures.items in
    let same : length after ≡ length c.args.passes = e.len.1 ∙ long in
    let each = served-Each g.J.Naming.graph g.J.Naming.limit c.args.passes c.args.scripts.now c.in-Ok.seats.items c.seat_all.new.seats.items after c.seat_all.ensures.seats c.in-Ok.ensures.items
    (λ i s d below. subst (λ l. IsServed g.J.Naming.graph g.J.Naming.limit (slice_index_or l i d) (slice_index_or c.seat_all.new.seats.items i s).pass (slice_index_or after i s)) c.as_slice.ensures (e.served i s d (subst (λ n. i < n) (sym (c.seat_all.new.seats.ok.0 ∙ long)) below))) in
    all-taken g.J.Naming.graph g.J.Naming.limit c.args.passes c.args.scripts.now after each same

pub returns-then-unseat_all-clause-callers : goal.returns-then-unseat_all-clause-callers
returns-then-unseat_all-clause-callers g c =
    let e = c.run_vec-seats.ensures in
    let after = c.run_vec-seats.result.items in
    let long : length c.seat_all.new.seats.items ≡ length c.args.passes = seated c.args.passes c.in-Ok.seats.items c.seat_all.new.seats.items c.seat_all.ensures.seats c.in-Ok.ensures.items in
    let same : length after ≡ length c.args.passes = e.len.1 ∙ long in
    let each = served-Each g.J.Naming.graph g.J.Naming.limit c.args.passes c.args.scripts.now c.in-Ok.seats.items c.seat_all.new.seats.items after c.seat_all.ensures.seats c.in-Ok.ensures.items
    (λ i s d below. subst (λ l. IsServed g.J.Naming.graph g.J.Naming.limit (slice_index_or l i d) (slice_index_or c.seat_all.new.seats.items i s).pass (slice_index_or after i s)) c.as_slice.ensures (e.served i s d (subst (λ n. i < n) (sym (c.seat_all.new.seats.ok.0 ∙ long)) below))) in
    let back : c.unseat_all.new.passes ≡ passes_of after = c.unseat_all.ensures.passes ∙ ap (λ l. l ++ passes_of after) c.seat_all.ensures.empty in
    ap callers_of back ∙ same-callers g.J.Naming.graph g.J.Naming.limit c.args.passes c.args.scripts.now after each same

pub returns-then-unseat_all-clause-begun : goal.returns-then-unseat_all-clause-begun
returns-then-unseat_all-clause-begun g c =
    let e = c.run_vec-seats.ensures in
    let after = c.run_vec-seats.result.items in
    let long : length c.seat_all.new.seats.items ≡ length c.args.passes = seated c.args.passes c.in-Ok.seats.items c.seat_all.new.seats.items c.seat_all.ensures.seats c.in-Ok.ensures.items in
    let same : length after ≡ length c.args.passes = e.len.1 ∙ long in
    let each = served-Each g.J.Naming.graph g.J.Naming.limit c.args.passes c.args.scripts.now c.in-Ok.seats.items c.seat_all.new.seats.items after c.seat_all.ensures.seats c.in-Ok.ensures.items
    (λ i s d below. subst (λ l. IsServed g.J.Naming.graph g.J.Naming.limit (slice_index_or l i d) (slice_index_or c.seat_all.new.seats.items i s).pass (slice_index_or after i s)) c.as_slice.ensures (e.served i s d (subst (λ n. i < n) (sym (c.seat_all.new.seats.ok.0 ∙ long)) below))) in
    let back : c.unseat_all.new.passes ≡ passes_of after = c.unseat_all.ensures.passes ∙ ap (λ l. l ++ passes_of after) c.seat_all.ensures.empty in
    subst (λ l. AreBegun g.J.Naming.graph c.args.scripts.now (fronts_of c.args.passes) (fronts_of l)) (sym back) (are-begun g.J.Naming.graph g.J.Naming.limit c.args.passes c.args.scripts.now after each same c.requires.numbered c.requires.as_many)

pub returns-else-unseat_all-clause-callers : goal.returns-else-unseat_all-clause-callers
returns-else-unseat_all-clause-callers g c =
    let e = c.run_vec-seats.ensures in
    let after = c.run_vec-seats.result.items in
    let long : length c.seat_all.new.seats.items ≡ length c.args.passes = seated c.args.passes c.in-Ok.seats.items c.seat_all.new.seats.items c.seat_all.ensures.seats c.in-Ok.ensures.items in
    let same : length after ≡ length c.args.passes = e.len.1 ∙ long in
    let each = served-Each g.J.Naming.graph g.J.Naming.limit c.args.passes c.args.scripts.now c.in-Ok.seats.items c.seat_all.new.seats.items after c.seat_all.ensures.seats c.in-Ok.ensures.items
    (λ i s d below. subst (λ l. IsServed g.J.Naming.graph g.J.Naming.limit (slice_index_or l i d) (slice_index_or c.seat_all.new.seats.items i s).pass (slice_index_or after i s)) c.as_slice.ensures (e.served i s d (subst (λ n. i < n) (sym (c.seat_all.new.seats.ok.0 ∙ long)) below))) in
    let back : c.unseat_all.new.passes ≡ passes_of after = c.unseat_all.ensures.passes ∙ ap (λ l. l ++ passes_of after) c.seat_all.ensures.empty in
    ap callers_of back ∙ same-callers g.J.Naming.graph g.J.Naming.limit c.args.passes c.args.scripts.now after each same

pub returns-else-unseat_all-clause-begun : goal.returns-else-unseat_all-clause-begun
returns-else-unseat_all-clause-begun g c =
    let e = c.run_vec-seats.ensures in
    let after = c.run_vec-seats.result.items in
    let long : length c.seat_all.new.seats.items ≡ length c.args.passes = seated c.args.passes c.in-Ok.seats.items c.seat_all.new.seats.items c.seat_all.ensures.seats c.in-Ok.ensures.items in
    let same : length after ≡ length c.args.passes = e.len.1 ∙ long in
    let each = served-Each g.J.Naming.graph g.J.Naming.limit c.args.passes c.args.scripts.now c.in-Ok.seats.items c.seat_all.new.seats.items after c.seat_all.ensures.seats c.in-Ok.ensures.items
    (λ i s d below. subst (λ l. IsServed g.J.Naming.graph g.J.Naming.limit (slice_index_or l i d) (slice_index_or c.seat_all.new.seats.items i s).pass (slice_index_or after i s)) c.as_slice.ensures (e.served i s d (subst (λ n. i < n) (sym (c.seat_all.new.seats.ok.0 ∙ long)) below))) in
    let back : c.unseat_all.new.passes ≡ passes_of after = c.unseat_all.ensures.passes ∙ ap (λ l. l ++ passes_of after) c.seat_all.ensures.empty in
    subst (λ l. AreBegun g.J.Naming.graph c.args.scripts.now (fronts_of c.args.passes) (fronts_of l)) (sym back) (are-begun g.J.Naming.graph g.J.Naming.limit c.args.passes c.args.scripts.now after each same c.requires.numbered c.requires.as_many)

pub returns-then-unseat_all-clause-made : goal.returns-then-unseat_all-clause-made
returns-then-unseat_all-clause-made g c =
    let e = c.run_vec-seats.ensures in
    let after = c.run_vec-seats.result.items in
    let long : length c.seat_all.new.seats.items ≡ length c.args.passes = seated c.args.passes c.in-Ok.seats.items c.seat_all.new.seats.items c.seat_all.ensures.seats c.in-Ok.ensures.items in
    let same : length after ≡ length c.args.passes = e.len.1 ∙ long in
    let each = served-Each g.J.Naming.graph g.J.Naming.limit c.args.passes c.args.scripts.now c.in-Ok.seats.items c.seat_all.new.seats.items after c.seat_all.ensures.seats c.in-Ok.ensures.items
    (λ i s d below. subst (λ l. IsServed g.J.Naming.graph g.J.Naming.limit (slice_index_or l i d) (slice_index_or c.seat_all.new.seats.items i s).pass (slice_index_or after i s)) c.as_slice.ensures (e.served i s d (subst (λ n. i < n) (sym (c.seat_all.new.seats.ok.0 ∙ long)) below))) in
    let back : c.unseat_all.new.passes ≡ passes_of after = c.unseat_all.ensures.passes ∙ ap (λ l. l ++ passes_of after) c.seat_all.ensures.empty in
    let laid = c.unseat_all.ensures.refused c.if-unseat_all.true ∙ ap (λ l. l ++ flat_map (λ list. list) (lists_of after)) c.new-refused.ensures in
    subst (λ l. AreMade g.J.Naming.graph g.J.Naming.limit c.args.scripts.now c.unseat_all.new.refused (fronts_of c.args.passes) (fronts_of l)) (sym back)
    (are-made g.J.Naming.graph g.J.Naming.limit c.args.passes c.args.scripts.now after c.unseat_all.new.refused each same c.requires.numbered c.requires.as_many (c.unseat_all.ensures.enough c.if-unseat_all.true) laid)
