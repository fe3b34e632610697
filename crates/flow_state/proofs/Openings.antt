-- The seats and shelves at opening.
use Rattle.std.proofs.Common.{◌≡◌, ℕ, ◌+◌, ◌<◌, ◌≤◌, suc, inl, inr, List, [], ◌∷◌, ◌++◌, length, map, refl, sym, ap, ◌∙◌, subst, arith}
use Rattle.std.specs.List.{range_with_len}
use Rattle.std.proofs.lemmas.Bool.{cases_lt, false≢true}
use Rattle.std.proofs.lemmas.List.{get_or_past, length-map}
use Rattle.std.proofs.lemmas.List.FromFn.{get_or-map-range_with_len, length-map-range_with_len, map-range_with_len_more}
use Rattle.call_log.specs.Record.{Record}
use Rattle.signal_graph.specs.declared.log.Logged.{Logged}
use Rattle.signal_graph.specs.declared.node.Node.{Node}
use Rattle.signal_graph.specs.Graph.{Graph, numbers, numbers_from}
use Rattle.order_graph.specs.Order.{Order, without_pairs}
use Rattle.flow_model.specs.Machine.State.{start_cell}
use Rattle.flow_state.specs.Booked.{Booked, rooms_for, opened_book}
use Rattle.flow_model.specs.Parts.Books.{Work, no_work, work_in}
use Rattle.flow_state.specs.Shelves.{Shelved, empty_shelves}
use Rattle.flow_state.specs.Seats.{Seated, LiveCalls, no_seat, free_seat, no_calls, seat_at, AreSeats}
use Rattle.flow_state.specs.Kept.{booked, IsKept}
use Rattle.flow_state.specs.declared.seating.Tenant.{Tenant}

pub one_more : {X : Type 0} (f : ℕ → X) (n : ℕ) (xs ys : List X) (x : X) → ys ≡ xs ++ x ∷ [] → xs ≡ map f (range_with_len 0 n) → x ≡ f n → ys ≡ map f (range_with_len 0 (n + 1))
one_more f n xs ys x longer so is = longer ∙ ap (λ zs. zs ++ x ∷ []) so ∙ ap (λ y. map f (range_with_len 0 n) ++ y ∷ []) is ∙ sym (map-range_with_len_more f 0 n n (omega arith))

free_at : (P : ℕ → Seated → Type 0) (callers nodes : ℕ) (seats : List Seated) → seats ≡ map (free_seat nodes) (range_with_len 0 callers) → ((j : ℕ) → P j (free_seat nodes j)) → (j : ℕ) → j < callers → P j (seat_at seats j)
free_at P callers nodes seats e h j below = subst (P j) (sym (ap (λ (ss : List Seated). seat_at ss j) e ∙ get_or-map-range_with_len (free_seat nodes) 0 callers j j no_seat below (omega arith))) (h j)

length-free : (callers nodes : ℕ) (seats : List Seated) → seats ≡ map (free_seat nodes) (range_with_len 0 callers) → length seats ≡ callers
length-free callers nodes seats e = ap length e ∙ length-map-range_with_len (free_seat nodes) 0 callers

pub free_kept : (callers nodes capacity : ℕ) (seats : List Seated) (live : List Tenant) (order : Order) → 0 < callers → callers ≤ 256 → nodes ≤ 16384 → seats ≡ map (free_seat nodes) (range_with_len 0 callers) → live ≡ [] → order ≡ without_pairs callers → capacity ≡ callers → AreSeats callers nodes capacity seats live order
free_kept callers nodes capacity seats live order some few few_nodes e none new cap = subst (λ (xs : List Tenant). AreSeats callers nodes capacity seats xs order) (sym none) (subst (λ (o : Order). AreSeats callers nodes capacity seats [] o) (sym new) (record {
  some = some;
  few = few;
  few_nodes = few_nodes;
  count = length-free callers nodes seats e;
  tenants = tt;
  ascending = tt;
  free = λ k h. elim (cases_lt k callers) [
    | inl below ↦ free_at (λ (j : ℕ) (s : Seated). s.call.version ≡ 0) callers nodes seats e (λ _. refl) k below
    | inr past ↦ ap (λ (s : Seated). s.call.version) (get_or_past seats k no_seat (let n = length-free callers nodes seats e in omega (arith, n, past)))
  ];
  slots = free_at (λ (j : ℕ) (s : Seated). s.call.slot ≡ j) callers nodes seats e (λ _. refl);
  sizes = free_at (λ (j : ℕ) (s : Seated). s.size ≡ nodes) callers nodes seats e (λ _. refl);
  order_callers = refl;
  linked = tt;
  room = omega (arith, cap);
}))

-- ---- shelves

pub opening_seen : (graph : Graph) (callers limit : ℕ) (live : LiveCalls) (shelves : Shelved) (log : Record) → live ≡ no_calls callers (length graph.nodes) → shelves ≡ empty_shelves graph → log.entries ≡ [] → booked limit 0 0 live shelves log ≡ opened_book graph callers limit
opening_seen graph callers limit live shelves log none empty new =
    let B : Shelved → List Logged → LiveCalls → Booked = λ ss es l. record { book = record { callers = l.callers; limit = limit; begun = 0; calls = l.calls; works = ss.works; pairs = l.pairs; log = es }; rooms = 0; room_for = ss.room_for } in
    ap (λ (l : LiveCalls). B shelves log.entries l) none
    ∙ ap (λ (es : List Logged). B shelves es (no_calls callers (length graph.nodes))) new
    ∙ ap (λ (ss : Shelved). B ss [] (no_calls callers (length graph.nodes))) empty
    ∙ ap (λ (ws : List Work). B (record { works = ws; room_for = rooms_for graph }) [] (no_calls callers (length graph.nodes))) (works-empty (numbers graph))
  where
    works-empty : (ns : List ℕ) → map (λ (n : ℕ). no_work) ns ≡ map work_in (map (start_cell graph) ns)
    works-empty [] = refl
    works-empty (n ∷ ns) = ap (λ (ws : List Work). no_work ∷ ws) (works-empty ns)

pub opening_kept : (graph : Graph) (callers limit : ℕ) (live : LiveCalls) (shelves : Shelved) (log : Record) → limit ≤ 4000000 → live ≡ no_calls callers (length graph.nodes) → shelves ≡ empty_shelves graph → log.entries ≡ [] → IsKept limit 0 0 0 live shelves log
opening_kept graph callers limit live shelves log few none empty new = subst (λ (l : LiveCalls). IsKept limit 0 0 0 l shelves log) (sym none) (record {
  nodes = ap (λ (ss : Shelved). length ss.works) empty ∙ length-map (numbers graph) (λ (n : ℕ). no_work) ∙ length-numbers 0 graph.nodes;
  counted = let e = ap length new in omega (arith, e);
  within = omega arith;
  few = few;
  known = λ t h. absurd (false≢true h);
  rows = omega arith;
})
  where
    length-numbers : (n : ℕ) (nodes : List Node) → length (numbers_from n nodes) ≡ length nodes
    length-numbers n [] = refl
    length-numbers n (x ∷ xs) = ap suc (length-numbers (n + 1) xs)
