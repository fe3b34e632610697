-- Names of a call, and the nodes that they name.
use Rattle.std.proofs.Common.{◌≡◌, ℕ, zero, suc, ◌+◌, ◌<◌, Bool, true, false, ◌&&◌, List, [], ◌∷◌, ◌++◌, Some, None, length, map, get_or, drop, refl, sym, ap, ◌∙◌, arith}
use Rattle.std.specs.Prelude.{nat_lt}
use Rattle.std.proofs.lemmas.Bool.Decides.{nat_tests}
use Rattle.std.proofs.lemmas.List.{drop_more}
use Rattle.script_tree.specs.declared.value.Value.{Value}
use Rattle.signal_graph.specs.declared.call.Call.{Call}
use Rattle.signal_graph.specs.Graph.{Graph, number_of}
use Rattle.signal_graph.specs.Machine.{sets_of, names_node, names_source, first_wrong, misnamed}
use Rattle.flow_model.specs.Machine.Sets.{put, put_all}
use Rattle.flow_model.specs.Machine.Steps.{nodes_set, sets_in}
use Rattle.flow_state.specs.Booked.{AreInside}

-- ---- well-named sets

source-node : (graph : Graph) (name : List ℕ) → names_source graph name ≡ true → number_of graph name < length graph.nodes
source-node graph name h = below (number_of graph name) (length graph.nodes) (first (names_node graph name) _ h)
  where
    first : (a b : Bool) → (a && b) ≡ true → a ≡ true
    first true b h = refl
    first false b h = h

    below : (a b : ℕ) → nat_lt a b ≡ true → a < b
    below a b h = grind (arith, nat_tests)

abbrev sets_by_node : Graph → List (List ℕ × Value) → List (ℕ × Value)
sets_by_node graph sets = map (λ (set : List ℕ × Value). (number_of graph set.0, set.1)) sets

right-inside : (graph : Graph) (sets : List (List ℕ × Value)) (rest : List Bool) (n : ℕ) → first_wrong n (map (λ (s : List ℕ × Value). names_source graph s.0) sets ++ rest) ≡ None → AreInside (length graph.nodes) (sets_by_node graph sets)
right-inside graph [] rest n h = tt
right-inside graph (s ∷ ss) rest n h = go (names_source graph s.0) refl (right-inside graph ss rest (n + 1)) h
  where
    go : (b : Bool) → names_source graph s.0 ≡ b → (first_wrong (n + 1) (map (λ (s : List ℕ × Value). names_source graph s.0) ss ++ rest) ≡ None → AreInside (length graph.nodes) (sets_by_node graph ss)) → first_wrong n (b ∷ (map (λ (s : List ℕ × Value). names_source graph s.0) ss ++ rest)) ≡ None → AreInside (length graph.nodes) (sets_by_node graph (s ∷ ss))
    go true e r h = (source-node graph s.0 e, r h)
    go false e r h = absurd (not_some n h)
      where
        not_some : (n : ℕ) → Some n ≡ None → ⊥
        not_some n e = cc

pub named_inside : (graph : Graph) (call : Call) → misnamed graph call ≡ None → AreInside (length graph.nodes) (sets_in graph call)
named_inside graph call h = right-inside graph (sets_of call) _ 1 h

-- ---- putting them in

pub inside_at : (size : ℕ) (sets : List (ℕ × Value)) (i : ℕ) (d : ℕ × Value) → i < length sets → AreInside size sets → (get_or sets i d).0 < size
inside_at size [] i d h all = absurd (omega (arith, h))
inside_at size (x ∷ xs) zero d h all = all.0
inside_at size (x ∷ xs) (suc i) d h all = inside_at size xs i d (omega (arith, h)) all.1

pub put_more : (sets : List (ℕ × Value)) (i : ℕ) (d : ℕ × Value) (nodes : List ℕ) (all : List ℕ) → i < length sets → put_all (nodes_set (drop i sets)) nodes ≡ all → put_all (nodes_set (drop (i + 1) sets)) (put (get_or sets i d).0 nodes) ≡ all
put_more sets i d nodes all h so = sym (ap (λ (ss : List (ℕ × Value)). put_all (nodes_set ss) nodes) (drop_more sets i d h)) ∙ so
