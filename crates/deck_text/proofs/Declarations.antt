-- The declarations of a graph, and of a graph with one more node.
use Rattle.std.proofs.Common.{◌≡◌, ℕ, ◌+◌, ◌<◌, ◌≤◌, Bool, true, List, [], ◌∷◌, ◌++◌, length, get_or, map, refl, ap, ◌∙◌, arith, length-append}
use Rattle.std.specs.Prelude.{nat_lt, if◌then◌else◌, find, Option, Some, None}
use Rattle.std.specs.List.{All, zip}
use Rattle.std.proofs.lemmas.Bool.Decides.{nat_tests}
use Rattle.std.proofs.lemmas.List.{get_or_append_left, map_push}
use Rattle.std.proofs.lemmas.List.Elements.{All-head, All-tail, All-push, All-weaker, All-map}
use Rattle.script_tree.specs.declared.limits.TheConstants.{NODES}
use Rattle.script_tree.specs.Names.{place_in}
use Rattle.script_tree.proofs.Lists.{zip_end}
use Rattle.script_tree.proofs.NamePlaces.{place_within}
use Rattle.signal_graph.specs.declared.builder.DeclKind.{DeclKind}
use Rattle.signal_graph.specs.declared.builder.DeclKind.TheVariants as kind
use Rattle.signal_graph.specs.declared.builder.GraphFault.TheVariants as fault
use Rattle.signal_graph.specs.declared.node.Node.{Node}
use Rattle.signal_graph.specs.declared.node.Node.TheVariants as node
use Rattle.signal_graph.specs.declared.node.Selector.{Selector}
use Rattle.signal_graph.specs.Declarations.{Part, is_undeclared, names_of, names_of_part, names_of_parts, node_of, refusal, selector_of, unknown_input, with_declaration}
use Rattle.signal_graph.specs.Graph.{Graph, name_at}
use Rattle.signal_graph.specs.Tables.{is_declared}
use Rattle.signal_graph.proofs.GraphNames.{name_at_place}
use Rattle.deck_lines.specs.declared.line.Line.{Line}
use Rattle.deck_lines.specs.declared.line.Line.TheVariants.{Declares}
use Rattle.deck_text.specs.Appended.{CandidatesBelow}
use Rattle.deck_text.specs.Printed.{part_of, declared_as, declaration}

-- a declared name stands at its place, whatever names come behind
named_again : (names more : List (List ℕ)) (name : List ℕ) → is_declared names name ≡ true → get_or (names ++ more) (place_in names name) [] ≡ name
named_again names more name h =
    let within : place_in names name < length names = grind (arith, nat_tests, h) in
    get_or_append_left names more [] (place_in names name) within ∙ name_at_place names name h

-- what isn't found in two lists is in neither
none_apart : (test : List ℕ → Bool) (xs ys : List (List ℕ)) → find test (xs ++ ys) ≡ None → (find test xs ≡ None) × (find test ys ≡ None)
none_apart test [] ys h = (refl, h)
none_apart test (x ∷ xs) ys h = let rest = none_apart test xs ys in grind (arith, h, rest)

-- a graph, and one with more names
module _ (old new : Graph) (more : List (List ℕ)) (grown : new.names ≡ old.names ++ more) where
  -- old numbers keep their names
  names_kept : (ns : List ℕ) → All (λ n. n < length old.names) ns → map (name_at new) ns ≡ map (name_at old) ns
  names_kept [] h = refl
  names_kept (n ∷ ns) h =
      let within = All-head (λ n. n < length old.names) n ns h in
      let here : name_at new n ≡ name_at old n = ap (λ names. get_or names n []) grown ∙ get_or_append_left old.names more [] n within in
      let rest = names_kept ns (All-tail (λ n. n < length old.names) n ns h) in
      rw (here, rest) refl

  parts_kept : (selectors : List Selector) → All (λ s. All (λ n. n < length old.names) s.candidates) selectors → map (part_of new) selectors ≡ map (part_of old) selectors
  parts_kept [] h = refl
  parts_kept (s ∷ selectors) h =
      let here = names_kept s.candidates (All-head (λ s. All (λ n. n < length old.names) s.candidates) s selectors h) in
      let rest = parts_kept selectors (All-tail (λ s. All (λ n. n < length old.names) s.candidates) s selectors h) in
      rw (here, rest) refl

  declared_kept : (n : Node) → CandidatesBelow (length old.names) n → declared_as new n ≡ declared_as old n
  declared_kept (node.Choose selectors body inputs) h = ap (λ parts. kind.Choose parts body) (parts_kept selectors h)
  declared_kept n h = refl

  declarations_kept : (names : List (List ℕ)) (nodes : List Node) → All (CandidatesBelow (length old.names)) nodes → map (declaration new) (zip names nodes) ≡ map (declaration old) (zip names nodes)
  declarations_kept [] nodes h = refl
  declarations_kept (name ∷ names) [] h = refl
  declarations_kept (name ∷ names) (n ∷ nodes) h =
      let here = declared_kept n (All-head (CandidatesBelow (length old.names)) n nodes h) in
      let rest = declarations_kept names nodes (All-tail (CandidatesBelow (length old.names)) n nodes h) in
      rw (here, rest) refl

  -- known names are read back from their places
  names_again : (used : List (List ℕ)) → find (is_undeclared old.names) used ≡ None → map (name_at new) (map (place_in old.names) used) ≡ used
  names_again [] h = refl
  names_again (name ∷ used) h =
      let known : (is_declared old.names name ≡ true) × (find (is_undeclared old.names) used ≡ None) = (grind arith, grind arith) in
      let place = place_in old.names name in
      let here : name_at new place ≡ name = ap (λ names. get_or names place []) grown ∙ named_again old.names more name known.0 in
      let rest = names_again used known.1 in
      rw (here, rest) refl

  parts_again : (parts : List Part) → find (is_undeclared old.names) (names_of_parts parts) ≡ None → map (part_of new) (map (selector_of old.names) parts) ≡ parts
  parts_again [] h = refl
  parts_again (part ∷ parts) h =
      let known = none_apart (is_undeclared old.names) (names_of_part part) (names_of_parts parts) h in
      let here = names_again part.1 (none_apart (is_undeclared old.names) part.0.names part.1 known.0).1 in
      let rest = parts_again parts known.1 in
      rw (here, rest) refl

  -- a declaration is read back from the node that it makes
  declared_again : (k : DeclKind) → find (is_undeclared old.names) (names_of k) ≡ None → declared_as new (node_of old.names k) ≡ k
  declared_again (kind.Choose parts body) h = ap (λ ps. kind.Choose ps body) (parts_again parts h)
  declared_again k h = refl

-- there are as many names as nodes, and candidates are numbers of nodes
pub record IsInOrder (graph : Graph) : Type 0 where
  pub even : length graph.names ≡ length graph.nodes
  pub candidates : All (CandidatesBelow (length graph.names)) graph.nodes

-- candidates stay below a number that grows
still_below : (a b : ℕ) → a ≤ b → (n : Node) → CandidatesBelow a n → CandidatesBelow b n
still_below a b le (node.Choose selectors body inputs) h =
    All-weaker (λ s. All (λ m. m < a) s.candidates) (λ s. All (λ m. m < b) s.candidates)
    (λ s below. All-weaker (λ m. m < a) (λ m. m < b) (λ m k. omega (arith, k, le)) s.candidates below) selectors h
still_below a b le n h = tt

-- a new node's candidates are below the number of names with its own
new_below : (names : List (List ℕ)) (n : ℕ) → length names < n → (k : DeclKind) → CandidatesBelow n (node_of names k)
new_below names n h (kind.Choose parts body) =
    All-map (λ s. All (λ m. m < n) s.candidates) (selector_of names) parts
    (λ i d below. All-map (λ m. m < n) (place_in names) (get_or parts i d).1
    (λ j e under. omega (arith, h, place_within names (get_or (get_or parts i d).1 j e))))
new_below names n h k = tt

pub order_declared : (graph : Graph) (name : List ℕ) (k : DeclKind) → IsInOrder graph → IsInOrder (with_declaration graph name k)
order_declared graph name k h =
    let n = length (graph.names ++ name ∷ []) in
    let more_names = length-append graph.names (name ∷ []) in
    let more_nodes = length-append graph.nodes (node_of graph.names k ∷ []) in
    let even = h.even in
    let kept = All-weaker (CandidatesBelow (length graph.names)) (CandidatesBelow n) (still_below (length graph.names) n (omega (arith, more_names))) graph.nodes h.candidates in
    record {
      even = omega (arith, more_names, more_nodes, even);
      candidates = All-push (CandidatesBelow n) graph.nodes (node_of graph.names k) kept (new_below graph.names n (omega (arith, more_names)) k);
    }

abbrev pub declarations : Graph → List Line
declarations graph = map (declaration graph) (zip graph.names graph.nodes)

-- what isn't refused uses no unknown name
none_unknown : (few double : Bool) (o : Option (List ℕ)) → (if few then (if double then Some fault.DoubleName else unknown_input o) else Some fault.TooManyNodes) ≡ None → o ≡ None
none_unknown few double o h = grind (arith, h)

-- one more node is one more declaration, behind those that there were
pub one_declared : (graph : Graph) (name : List ℕ) (k : DeclKind) → IsInOrder graph → refusal graph name k ≡ None → declarations (with_declaration graph name k) ≡ declarations graph ++ Declares name k ∷ []
one_declared graph name k h r =
    let grown = with_declaration graph name k in
    let made = node_of graph.names k in
    let known = none_unknown (nat_lt (length graph.nodes) NODES) (is_declared graph.names name) (find (is_undeclared graph.names) (names_of k)) r in
    ap (map (declaration grown)) (zip_end graph.names graph.nodes name made h.even)
    ∙ map_push (declaration grown) (zip graph.names graph.nodes) (name, made)
    ∙ ap (λ ls. ls ++ declaration grown (name, made) ∷ []) (declarations_kept graph grown (name ∷ []) refl graph.names graph.nodes h.candidates)
    ∙ ap (λ d. declarations graph ++ Declares name d ∷ []) (declared_again graph grown (name ∷ []) refl k known)
