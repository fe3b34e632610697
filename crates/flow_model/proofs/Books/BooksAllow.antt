-- Whether a step is allowed follows from the book and the listings that it reads.
use Rattle.std.proofs.Common.{◌≡◌, ℕ, Bool, true, not, ◌&&◌, ◌||◌, ◌==◌, refl, sym, ap, List, [], ◌∷◌, ◌++◌, length, nat_lt, is_some, is_none, ◌∙◌, Option, Some, None}
use Rattle.std.specs.List.{list_any, list_all}
use Rattle.std.proofs.lemmas.List.Folds.{list_any-append}
use Rattle.std.proofs.lemmas.Bool.{or_left, or_right, eq-eqb}
use Rattle.signal_graph.specs.Graph.{Graph, node_at, is_in, is_source, inputs_of, body_of}
use Rattle.signal_graph.specs.Values.{nodes_in}
use Rattle.signal_graph.proofs.Members.{in_head}
use Rattle.node_versions.specs.Entries.{is_mark, has, at, served, collected, has_out, has_node}
use Rattle.flow_model.specs.declared.step.Step.{Step}
use Rattle.flow_model.specs.declared.step.Step.TheVariants as steps
use Rattle.flow_model.specs.Machine.State.{Core, cell, entries, outs, call, ended, executes, wants}
use Rattle.flow_model.specs.Machine.Words.{is_gathered, due, can_work, at_front, touched, pressed, is_prior, prior_picks, gathered_of, picks_of_found, has_room, next_look, is_idle, is_some_of, found_candidates, is_found, is_candidate}
use Rattle.flow_model.specs.Machine.Steps.{allowed, served_look, has_room_for, all_gathered, has_body_value}
use Rattle.flow_model.specs.Kept.Lawful.{IsLawful}
use Rattle.flow_model.specs.Parts.Books.{Listing, Book, book_of, listing, bare, bare_cell, work_in, has_room_in, has_room_for_in, prior_in, at_front_in, can_work_in, touched_in, due_in, is_discovered_in, is_released_in, is_worked_out_in, asks_for_in, served_look_in, allowed_in, one_of, reads_of_step, AgreeOn}
use Rattle.flow_model.proofs.Known.OpenNodesDecide.{mark-over_open}
use Rattle.flow_model.proofs.Books.StepsChangeBooks.{bare-cell}
use Rattle.flow_model.proofs.General.AnyAndAll.{any-alike}

pub same-cell : (s : Core) (n : ℕ) → bare_cell (work_in (cell s n)) ≡ cell (bare (book_of s)) n
same-cell s n = sym (bare-cell s n)

-- A step is allowed as the book and the listings tell.
pub allowed-in : (graph : Graph) (s : Core) → IsLawful graph s → (step : Step) → allowed graph s step ≡ allowed_in graph (book_of s) (listing s) step
allowed-in graph s h (steps.Frame t n) = refl
allowed-in graph s h (steps.Start t) = refl
allowed-in graph s h (steps.Skip t n) = refl
allowed-in graph s h (steps.Gather t n m) = let e = same-cell s n in
    λ i. due graph s t n && (is_in m (inputs_of (node_at graph n)) || is_in m (nodes_in (picks_of_found (e i).found))) && not (is_some (gathered_of m (e i).gathered)) && served (entries s m) t
allowed-in graph s h (steps.Evaluate t n) = let e = same-cell s n in
    λ i. at_front graph s t n && touched graph s t n && list_all (λ m. is_some (gathered_of m (e i).gathered)) (inputs_of (node_at graph n)) && not (is_some (e i).found)
allowed-in graph s h (steps.Body t n) = let e = same-cell s n in
    λ i. at_front graph s t n && touched graph s t n && is_some (body_of (node_at graph n)) && is_some (e i).found && list_all (λ m. is_some (gathered_of m (e i).gathered)) (nodes_in (picks_of_found (e i).found)) && is_none (e i).body
allowed-in graph s h (steps.Discover t n c) = let e = same-cell s n in
    λ i. due graph s t n && is_in c (nodes_in (picks_of_found (e i).found)) && not (is_prior s t n c) && not (has_out (outs s c) n t) && has_room_for s t c
allowed-in graph s h (steps.Drop t n o) = let e = same-cell s n in
    λ i. due graph s t n && is_some (e i).found && list_all (λ m. is_some (gathered_of m (e i).gathered)) (nodes_in (picks_of_found (e i).found)) && is_prior s t n o && not (is_in o (nodes_in (picks_of_found (e i).found))) && has_node (outs s o) n && has_room_for s t o
allowed-in graph s h (steps.Resolve t n) = let e = same-cell s n in
    λ i. can_work graph s t n && not (pressed s t n) && (is_source (node_at graph n) || (touched graph s t n && (is_some (e i).found && list_all (λ m. is_some (gathered_of m (e i).gathered)) (nodes_in (picks_of_found (e i).found))
    && list_all (λ c. is_prior s t n c || has_out (outs s c) n t) (nodes_in (picks_of_found (e i).found))
    && list_all (λ o. is_in o (nodes_in (picks_of_found (e i).found)) || not (has_node (outs s o) n)) (prior_picks s t n) && (is_none (body_of (node_at graph n)) || is_some (e i).body))))
allowed-in graph s h (steps.Mark t m) = mark-over_open graph s h t m
    ∙ (λ i. executes s t && not (has (entries s m) t) && has_room s m && (list_any (λ n. due graph s t n && ((is_in m (inputs_of (node_at graph n)) && not (is_some (gathered_of m (same-cell s n i).gathered))) || (is_in m (nodes_in (picks_of_found (same-cell s n i).found)) && is_prior s t n m))) (call s t).open_nodes
    || (is_idle s t && is_some_of (next_look s t) m)))
allowed-in graph s h (steps.Look t) = go (next_look s t)
  where
    go : (o : Option ℕ) → (is_idle s t && served_look s t o) ≡ (is_idle s t && served_look_in (listing s) t o)
    go None = refl
    go (Some m) = refl
allowed-in graph s h (steps.End t) = refl
allowed-in graph s h (steps.Collect n) = refl

-- ---- no other listing is read

all-alike : (f g : ℕ → Bool) (xs : List ℕ) → ((x : ℕ) → is_in x xs ≡ true → f x ≡ g x) → list_all f xs ≡ list_all g xs
all-alike f g [] h = refl
all-alike f g (x ∷ xs) h = let a = h x (or_left _ _ (eq-eqb x x refl)) in let r = all-alike f g xs (λ y k. h y (or_right _ _ k)) in λ i. (a i) && (r i)

second-in : (n m : ℕ) (ns : List ℕ) → is_in m (n ∷ m ∷ ns) ≡ true
second-in n m ns = or_right (n == m) (is_in m (m ∷ ns)) (in_head m ns)

resolve-reads : (graph : Graph) (b : Book) (lists others : ℕ → Listing) (t n : ℕ) → AgreeOn (reads_of_step b lists (steps.Resolve t n)) lists others → is_worked_out_in graph b others t n ≡ is_worked_out_in graph b lists t n
resolve-reads graph b lists others t n h =
    let e = h n (in_head n _) in
    let d = all-alike (is_discovered_in b others t n) (is_discovered_in b lists t n) (found_candidates (bare b) n)
    (λ c k. let l = found c k in λ i. is_in c (prior_in (e i) t) || has_out (l i).outs n t) in
    let r = all-alike (is_released_in b others n) (is_released_in b lists n) (prior_in (lists n) t)
    (λ o k. let l = prior o k in λ i. is_candidate (bare b) n o || not (has_node (l i).outs n)) in
    (λ i. is_found (bare b) n && all_gathered (bare b) n (found_candidates (bare b) n) && (d i) && list_all (is_released_in b others n) (prior_in (e i) t) && has_body_value graph (bare b) n)
    ∙ (λ i. is_found (bare b) n && all_gathered (bare b) n (found_candidates (bare b) n) && list_all (is_discovered_in b lists t n) (found_candidates (bare b) n) && (r i) && has_body_value graph (bare b) n)
  where
    found : (c : ℕ) → is_in c (found_candidates (bare b) n) ≡ true → others c ≡ lists c
    found c k = h c (or_right (n == c) (is_in c (found_candidates (bare b) n ++ prior_in (lists n) t)) (list_any-append (λ y. y == c) (found_candidates (bare b) n) (prior_in (lists n) t) ∙ or_left _ _ k))

    prior : (o : ℕ) → is_in o (prior_in (lists n) t) ≡ true → others o ≡ lists o
    prior o k = h o (or_right (n == o) (is_in o (found_candidates (bare b) n ++ prior_in (lists n) t)) (list_any-append (λ y. y == o) (found_candidates (bare b) n) (prior_in (lists n) t) ∙ or_right _ _ k))

-- Where other listings agree with these on the nodes that the step reads, they tell the same.
pub reads-enough : (graph : Graph) (b : Book) (lists others : ℕ → Listing) (step : Step) → AgreeOn (reads_of_step b lists step) lists others → allowed_in graph b others step ≡ allowed_in graph b lists step
reads-enough graph b lists others (steps.Frame t n) h = ap (λ (l : Listing). wants (bare b) t n && (at is_mark l.entries t || has_room_in b l)) (h n (in_head n []))
reads-enough graph b lists others (steps.Start t) h = refl
reads-enough graph b lists others (steps.Skip t n) h = ap (λ (l : Listing). can_work_in graph b l t n && not (is_source (node_at graph n)) && not (touched_in graph b l t n) && not (pressed (bare b) t n)) (h n (in_head n []))
reads-enough graph b lists others (steps.Gather t n m) h = let e = h n (in_head n (m ∷ [])) in let f = h m (second-in n m []) in
    λ i. due_in graph b (e i) t n && (is_in m (inputs_of (node_at graph n)) || is_candidate (bare b) n m) && not (is_gathered (bare b) n m) && served (f i).entries t
reads-enough graph b lists others (steps.Evaluate t n) h = ap (λ (l : Listing). at_front_in graph b l t n && touched_in graph b l t n && all_gathered (bare b) n (inputs_of (node_at graph n)) && not (is_found (bare b) n)) (h n (in_head n []))
reads-enough graph b lists others (steps.Body t n) h = ap (λ (l : Listing). at_front_in graph b l t n && touched_in graph b l t n && is_some (body_of (node_at graph n)) && is_found (bare b) n && all_gathered (bare b) n (found_candidates (bare b) n) && is_none (cell (bare b) n).body) (h n (in_head n []))
reads-enough graph b lists others (steps.Discover t n c) h = let e = h n (in_head n (c ∷ [])) in let f = h c (second-in n c []) in
    λ i. due_in graph b (e i) t n && is_candidate (bare b) n c && not (is_in c (prior_in (e i) t)) && not (has_out (f i).outs n t) && has_room_for_in b (f i) t
reads-enough graph b lists others (steps.Drop t n o) h = let e = h n (in_head n (o ∷ [])) in let f = h o (second-in n o []) in
    λ i. due_in graph b (e i) t n && is_found (bare b) n && all_gathered (bare b) n (found_candidates (bare b) n) && is_in o (prior_in (e i) t) && not (is_candidate (bare b) n o) && has_node (f i).outs n && has_room_for_in b (f i) t
reads-enough graph b lists others (steps.Resolve t n) h = let e = h n (in_head n _) in let w = resolve-reads graph b lists others t n h in
    λ i. can_work_in graph b (e i) t n && not (pressed (bare b) t n) && (is_source (node_at graph n) || (touched_in graph b (e i) t n && (w i)))
reads-enough graph b lists others (steps.Mark t m) h =
    let e = h m (in_head m (call (bare b) t).open_nodes) in
    let a = any-alike (asks_for_in graph b others t m) (asks_for_in graph b lists t m) (call (bare b) t).open_nodes
    (λ n k. ap (λ (l : Listing). due_in graph b l t n && ((is_in m (inputs_of (node_at graph n)) && not (is_gathered (bare b) n m)) || (is_candidate (bare b) n m && is_in m (prior_in l t)))) (h n (or_right (m == n) (is_in n (call (bare b) t).open_nodes) k))) in
    λ i. executes (bare b) t && not (has (e i).entries t) && has_room_in b (e i) && ((a i) || (is_idle (bare b) t && is_some_of (next_look (bare b) t) m))
reads-enough graph b lists others (steps.Look t) h = go (next_look (bare b) t) h
  where
    go : (o : Option ℕ) → AgreeOn (one_of o) lists others → (is_idle (bare b) t && served_look_in others t o) ≡ (is_idle (bare b) t && served_look_in lists t o)
    go None k = refl
    go (Some m) k = ap (λ (l : Listing). is_idle (bare b) t && served l.entries t) (k m (in_head m []))
reads-enough graph b lists others (steps.End t) h = refl
reads-enough graph b lists others (steps.Collect n) h = ap (λ (l : Listing). nat_lt (length (collected (ended (bare b)) l.entries)) (length l.entries)) (h n (in_head n []))
