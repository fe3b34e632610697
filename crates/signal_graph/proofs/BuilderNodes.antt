-- A graph with one more declaration keeps what graphs keep.
use Rattle.std.proofs.Common.{◌≡◌, ℕ, ◌+◌, ◌<◌, ◌≤◌, ◌==◌, nat_lt, if◌then◌else◌, Bool, true, false, List, [], ◌∷◌, ◌++◌, length, map, find, get_or, Option, Some, None, refl, sym, ap, subst, ◌∙◌, arith, add-zero, zero-add, length-append}
use Rattle.std.specs.List.{AllByRecursion, list_any}
use Rattle.std.specs.Str.{bytes_eq}
use Rattle.std.specs.Cmp.Lexicographic.{bytes_decides}
use Rattle.std.proofs.lemmas.List.{get_or_append_left, length-map, map-append}
use Rattle.std.proofs.lemmas.List.Elements.{recursion_from_All}
use Rattle.std.proofs.lemmas.List.Folds.{list_any-append}
use Rattle.std.proofs.lemmas.Bool.Decides.{eqb_tells, nat_tests}
use Rattle.script_tree.specs.declared.limits.TheConstants.{NODES}
use Rattle.script_tree.specs.Names.{place_in}
use Rattle.script_tree.proofs.Lists.{all_append, all_front, all_behind}
use Rattle.signal_graph.specs.declared.node.Selector.{Selector}
use Rattle.signal_graph.specs.declared.node.Node.{Node}
use Rattle.signal_graph.specs.declared.node.Node.TheVariants as node
use Rattle.signal_graph.specs.declared.builder.DeclKind.{DeclKind}
use Rattle.signal_graph.specs.declared.builder.DeclKind.TheVariants.{Source, Signal, Fold, Choose}
use Rattle.signal_graph.specs.Graph.{Graph, IsGraph, IsNode, AreNodes, IsSelector, Kept, are_different, is_in, different_from, inputs_of_all}
use Rattle.signal_graph.proofs.GraphNames.{name_at_place}
use Rattle.signal_graph.specs.Tables.{is_declared}
use Rattle.signal_graph.specs.Declarations.{Part, IsPart, IsDeclaration, AreKept, names_of, names_of_parts, script_names, different_names_from, selector_of, node_of, is_undeclared, unknown_input, refusal, with_declaration}
use Rattle.signal_graph.specs.declared.builder.GraphFault.TheVariants.{DoubleName, TooManyNodes}

abbrev AreDeclared : List (List ℕ) → List (List ℕ) → Type 0
AreDeclared names used = AllByRecursion (λ name. is_declared names name ≡ true) used

declared_where_none_is_not : (names used : List (List ℕ)) → find (is_undeclared names) used ≡ None → AreDeclared names used
declared_where_none_is_not names [] h = tt
declared_where_none_is_not names (name ∷ used) h =
    let rest = declared_where_none_is_not names used in
    let both : (is_declared names name ≡ true) × (find (is_undeclared names) used ≡ None) = (grind arith, grind arith) in
    (both.0, rest both.1)

place_below : (names : List (List ℕ)) (name : List ℕ) → is_declared names name ≡ true → place_in names name < length names
place_below names name h = grind (arith, nat_tests)

resolves : (names more used : List (List ℕ)) → AreDeclared names used → map (λ n. get_or (names ++ more) n []) (map (place_in names) used) ≡ used
resolves names more [] h = refl
resolves names more (name ∷ used) h =
    let here : get_or (names ++ more) (place_in names name) [] ≡ name =
    get_or_append_left names more [] (place_in names name) (place_below names name h.0) ∙ name_at_place names name h.0 in
    let rest = resolves names more used h.1 in
    rw (here, rest) refl

places_below : (names used : List (List ℕ)) → AreDeclared names used → AllByRecursion (λ m. m < length names) (map (place_in names) used)
places_below names [] h = tt
places_below names (name ∷ used) h = (place_below names name h.0, places_below names used h.1)

is_selector : (names more : List (List ℕ)) (part : Part) → IsPart part → Kept part.0 → AreDeclared names (part.0.names ++ part.1)
    → IsSelector (names ++ more) (length names) (selector_of names part)
is_selector names more part h k d = record {
  some = rw length-map h.some;
  few = rw length-map h.few;
  no_acc = h.no_acc;
  no_picks = h.no_picks;
  resolves = resolves names more part.0.names (all_front _ part.0.names part.1 d);
  inputs_earlier = places_below names part.0.names (all_front _ part.0.names part.1 d);
  candidates_earlier = places_below names part.1 (all_behind _ part.0.names part.1 d);
  kept = k;
}

are_selectors : (names more : List (List ℕ)) (parts : List Part) → AllByRecursion IsPart parts → AllByRecursion (λ (part : Part). Kept part.0) parts → AreDeclared names (names_of_parts parts)
    → AllByRecursion (IsSelector (names ++ more) (length names)) (map (selector_of names) parts)
are_selectors names more [] h k d = tt
are_selectors names more (part ∷ parts) h k d = (
  is_selector names more part h.0 k.0 (all_front _ (part.0.names ++ part.1) (names_of_parts parts) d),
  are_selectors names more parts h.1 k.1 (all_behind _ (part.0.names ++ part.1) (names_of_parts parts) d),
)

-- the inputs of all selectors are the places of their scripts' names
all_inputs : (names : List (List ℕ)) (parts : List Part) → inputs_of_all (map (selector_of names) parts) ≡ map (place_in names) (script_names parts)
all_inputs names [] = refl
all_inputs names (part ∷ parts) =
    ap (λ ns. map (place_in names) part.0.names ++ ns) (all_inputs names parts) ∙ sym (map-append (place_in names) part.0.names (script_names parts))

scripts_declared : (names : List (List ℕ)) (parts : List Part) → AreDeclared names (names_of_parts parts) → AreDeclared names (script_names parts)
scripts_declared names [] h = tt
scripts_declared names (part ∷ parts) h =
    let here = all_front _ (part.0.names ++ part.1) (names_of_parts parts) h in
    all_append _ part.0.names (script_names parts) (all_front _ part.0.names part.1 here)
    (scripts_declared names parts (all_behind _ (part.0.names ++ part.1) (names_of_parts parts) h))

-- declared names are the same where their places are
same_place : (names : List (List ℕ)) (a b : List ℕ) → is_declared names a ≡ true → is_declared names b ≡ true
    → (place_in names b == place_in names a) ≡ bytes_eq a b
same_place names a b da db =
    let at_a = name_at_place names a da in
    let at_b = name_at_place names b db in
    let same : bytes_eq a b ≡ true → place_in names b ≡ place_in names a = λ e. ap (place_in names) (sym ((bytes_decides a b).0 e)) in
    let back : place_in names b ≡ place_in names a → bytes_eq a b ≡ true = λ e. (bytes_decides a b).1 (sym at_a ∙ ap (λ n. get_or names n []) (sym e) ∙ at_b) in
    grind (arith, eqb_tells, same, back)

seen_alike : (names seen : List (List ℕ)) (name : List ℕ) → is_declared names name ≡ true → AreDeclared names seen
    → is_in (place_in names name) (map (place_in names) seen) ≡ list_any (bytes_eq name) seen
seen_alike names [] name d h = refl
seen_alike names (other ∷ seen) name d h =
    let here = same_place names name other d h.0 in
    let rest = seen_alike names seen name d h.1 in
    rw (here, rest) refl

different_alike : (names seen used : List (List ℕ)) → AreDeclared names seen → AreDeclared names used
    → length (different_from (map (place_in names) seen) (map (place_in names) used)) ≡ length (different_names_from seen used)
different_alike names seen [] s u = refl
different_alike names seen (name ∷ used) s u =
    let alike = seen_alike names seen name u.0 s in
    let without = different_alike names seen used s u.1 in
    let behind = different_alike names (name ∷ seen) used (u.0, s) u.1 in
    grind (arith, alike, without, behind)

-- a declaration whose names are declared makes a node
pub is_node : (names more : List (List ℕ)) (kind : DeclKind) → IsDeclaration kind → AreKept kind → AreDeclared names (names_of kind)
    → IsNode (names ++ more) (length names) (node_of names kind)
is_node names more (Source start) h k d = h
is_node names more (Signal script) h k d = (h.0, h.1, resolves names more script.names d, places_below names script.names d, k)
is_node names more (Fold start script) h k d = (h.0, h.1, resolves names more script.names d, places_below names script.names d, k)
is_node names more (Choose parts body) h k d =
    let declared = scripts_declared names parts d in (
      rw length-map h.some,
      rw length-map h.few,
      are_selectors names more parts h.each (recursion_from_All (λ (part : Part). Kept part.0) parts k.0) d,
      rw length-map h.body,
      refl,
      rw (all_inputs names parts, different_alike names [] (script_names parts) tt declared) h.few_names,
      k.1,
    )

-- more names leave a node as it is
still_resolves : (names more : List (List ℕ)) (n : ℕ) → n ≤ length names → (inputs : List ℕ) → AllByRecursion (λ m. m < n) inputs
    → map (λ m. get_or (names ++ more) m []) inputs ≡ map (λ m. get_or names m []) inputs
still_resolves names more n within [] h = refl
still_resolves names more n within (m ∷ inputs) h =
    let here = get_or_append_left names more [] m (omega (arith, h.0)) in
    let rest = still_resolves names more n within inputs h.1 in
    rw (here, rest) refl

still_selectors : (names more : List (List ℕ)) (n : ℕ) → n ≤ length names → (selectors : List Selector) → AllByRecursion (IsSelector names n) selectors
    → AllByRecursion (IsSelector (names ++ more) n) selectors
still_selectors names more n within [] h = tt
still_selectors names more n within (selector ∷ rest) h =
    let is : IsSelector (names ++ more) n selector = record {
      some = h.0.some;
      few = h.0.few;
      no_acc = h.0.no_acc;
      no_picks = h.0.no_picks;
      resolves = still_resolves names more n within selector.inputs h.0.inputs_earlier ∙ h.0.resolves;
      inputs_earlier = h.0.inputs_earlier;
      candidates_earlier = h.0.candidates_earlier;
      kept = h.0.kept;
    } in (is, still_selectors names more n within rest h.1)

still_node : (names more : List (List ℕ)) (n : ℕ) → n ≤ length names → (old : Node) → IsNode names n old → IsNode (names ++ more) n old
still_node names more n within (node.Source start) h = h
still_node names more n within (node.Signal script inputs) h = (h.0, h.1, still_resolves names more n within inputs h.3 ∙ h.2, h.3, h.4)
still_node names more n within (node.Fold start script inputs) h = (h.0, h.1, still_resolves names more n within inputs h.3 ∙ h.2, h.3, h.4)
still_node names more n within (node.Choose selectors body inputs) h = (h.0, h.1, still_selectors names more n within selectors h.2, h.3, h.4, h.5, h.6)

still_nodes : (names more : List (List ℕ)) (k : ℕ) (nodes : List Node) → k + length nodes ≤ length names → AreNodes names k nodes → AreNodes (names ++ more) k nodes
still_nodes names more k [] within h = tt
still_nodes names more k (old ∷ rest) within h =
    (still_node names more k (omega arith) old h.0, still_nodes names more (k + 1) rest (omega arith) h.1)

AreNodes-snoc : (names : List (List ℕ)) (k : ℕ) (nodes : List Node) (new : Node) → AreNodes names k nodes → IsNode names (k + length nodes) new → AreNodes names k (nodes ++ new ∷ [])
AreNodes-snoc names k [] new h is = (rw add-zero at is, tt)
AreNodes-snoc names k (old ∷ rest) new h is =
    let further : k + length (old ∷ rest) ≡ (k + 1) + length rest = omega arith in
    (h.0, AreNodes-snoc names (k + 1) rest new h.1 (subst (λ n. IsNode names n new) further is))

-- a name that is not declared is another than each that is
are_different-snoc : (names : List (List ℕ)) (name : List ℕ) → are_different names ≡ true → is_declared names name ≡ false → are_different (names ++ name ∷ []) ≡ true
are_different-snoc [] name h absent = refl
are_different-snoc (other ∷ names) name h absent =
    let rest = are_different-snoc names name in
    let grown = list_any-append (bytes_eq other) names (name ∷ []) in
    grind (arith, nat_tests, rest, grown)

-- what is known where there is no reason to refuse a declaration
record IsFree (graph : Graph) (name : List ℕ) (kind : DeclKind) : Type 0 where
  room : length graph.nodes < NODES
  absent : is_declared graph.names name ≡ false
  known : find (is_undeclared graph.names) (names_of kind) ≡ None

free_parts : (room declared : Bool) (unknown : Option (List ℕ))
    → (if room then (if declared then Some DoubleName else unknown_input unknown) else Some TooManyNodes) ≡ None
    → (room ≡ true) × (declared ≡ false) × (unknown ≡ None)
free_parts true false None h = (refl, refl, refl)
free_parts true false (Some name) h = absurd (cc)
free_parts true true unknown h = absurd (cc)
free_parts false declared unknown h = absurd (cc)

free : (graph : Graph) (name : List ℕ) (kind : DeclKind) → refusal graph name kind ≡ None → IsFree graph name kind
free graph name kind h =
    let parts = free_parts (nat_lt (length graph.nodes) NODES) (is_declared graph.names name) (find (is_undeclared graph.names) (names_of kind)) h in
    record { room = grind (arith, nat_tests, parts); absent = parts.1; known = parts.2 }

pub is_graph_with : (graph : Graph) (name : List ℕ) (kind : DeclKind) → IsGraph graph → IsDeclaration kind → AreKept kind → refusal graph name kind ≡ None
    → IsGraph (with_declaration graph name kind)
is_graph_with graph name kind h declared kept unrefused =
    let f = free graph name kind unrefused in
    let names = graph.names in
    let nodes = graph.nodes in
    record {
      named = omega (arith, h.named, length-append names (name ∷ []), length-append nodes (node_of names kind ∷ []));
      few = omega (arith, f.room, length-append nodes (node_of names kind ∷ []));
      different_names = are_different-snoc names name h.different_names f.absent;
      nodes = AreNodes-snoc (names ++ name ∷ []) 0 nodes (node_of names kind) (still_nodes names (name ∷ []) 0 nodes (omega (arith, h.named)) h.nodes)
          (subst (λ n. IsNode (names ++ name ∷ []) n (node_of names kind)) (h.named ∙ sym (zero-add (length nodes))) (is_node names (name ∷ []) kind declared kept (declared_where_none_is_not names (names_of kind) f.known)));
    }
