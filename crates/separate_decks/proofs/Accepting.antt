-- A builder refuses none of the workload's declarations, and they make its graph.
use Rattle.std.proofs.Common.{◌≡◌, ℕ, suc, ◌+◌, ◌<◌, ◌≤◌, Bool, true, false, List, [], ◌∷◌, ◌++◌, length, refl, sym, ap, ◌∙◌, subst, arith, length-append, append_assoc, append-nil, true≢false, Some, None}
use Rattle.std.specs.Prelude.{map, find, not, ◌||◌, nat_lt, if◌then◌else◌}
use Rattle.std.specs.List.{AllByRecursion, list_any}
use Rattle.std.specs.Str.{bytes_eq}
use Rattle.std.proofs.lemmas.Bool.Decides.{Decides-ltb}
use Rattle.std.proofs.lemmas.List.Folds.{list_any-append}
use Rattle.std.proofs.lemmas.Bool.{and_parts, not-true}
use Rattle.signal_graph.specs.declared.node.Node.{Node}
use Rattle.signal_graph.specs.declared.node.Node.TheVariants.{Signal, Fold}
use Rattle.signal_graph.specs.declared.builder.DeclKind.{DeclKind}
use Rattle.signal_graph.specs.declared.builder.DeclKind.TheVariants as kinds
use Rattle.signal_graph.specs.declared.builder.GraphFault.TheVariants.{DoubleName, TooManyNodes}
use Rattle.script_tree.specs.declared.limits.TheConstants.{NODES}
use Rattle.script_tree.specs.Names.{place_in}
use Rattle.script_tree.proofs.Lists.{all_append}
use Rattle.signal_graph.specs.Declarations.{Part, IsDeclaration, names_of, names_of_parts, names_of_part, is_undeclared, unknown_input, refusal, selector_of, choose_of, node_of}
use Rattle.signal_graph.specs.Tables.{is_declared}
use Rattle.signal_graph.specs.Graph.{IsSelector, IsNode, AreNodes, are_different, no_nodes}
use Rattle.separate_decks.specs.Workload.{all_names, all_kinds, named, declared, AreAccepted, workload_declarations, workload_graph}
use Rattle.separate_decks.proofs.Naming.{length-all_names, all_different}
use Rattle.separate_decks.proofs.Declaring.{Each, Fits, nodes_fit, are_nodes, made_graph, length-all_kinds}

-- a name that is found among the first names is found there among all
first_place : (front back : List (List ℕ)) (name : List ℕ) → place_in (front ++ back) name < length front → place_in front name ≡ place_in (front ++ back) name
first_place [] back name low = absurd (omega arith)
first_place (first ∷ front) back name low = cases (bytes_eq first name) low (λ lower. first_place front back name lower)
  where
    cases : (b : Bool) → (if b then 0 else place_in (front ++ back) name + 1) < suc (length front) → (place_in (front ++ back) name < length front → place_in front name ≡ place_in (front ++ back) name) → (if b then 0 else place_in front name + 1) ≡ (if b then 0 else place_in (front ++ back) name + 1)
    cases true low later = refl
    cases false low later = ap (λ k. k + 1) (later (omega (arith, low)))

first_places : (front back names : List (List ℕ)) → AllByRecursion (λ m. m < length front) (map (place_in (front ++ back)) names) → map (place_in front) names ≡ map (place_in (front ++ back)) names
first_places front back [] h = refl
first_places front back (name ∷ names) h =
    ap (λ k. k ∷ map (place_in front) names) (first_place front back name h.0)
    ∙ ap (λ ks. place_in (front ++ back) name ∷ ks) (first_places front back names h.1)

first_selectors : (front back : List (List ℕ)) (parts : List Part) → AllByRecursion (IsSelector (front ++ back) (length front)) (map (selector_of (front ++ back)) parts) → map (selector_of front) parts ≡ map (selector_of (front ++ back)) parts
first_selectors front back [] h = refl
first_selectors front back (part ∷ parts) h =
    ap (λ ms. record { script = part.0; inputs = ms; candidates = map (place_in front) part.1 } ∷ map (selector_of front) parts) (first_places front back part.0.names h.0.inputs_earlier)
    ∙ ap (λ ms. record { script = part.0; inputs = map (place_in (front ++ back)) part.0.names; candidates = ms } ∷ map (selector_of front) parts) (first_places front back part.1 h.0.candidates_earlier)
    ∙ ap (λ rest. selector_of (front ++ back) part ∷ rest) (first_selectors front back parts h.1)

-- a declaration that uses earlier names means the same once all names are known
first_node : (front back : List (List ℕ)) (kind : DeclKind) → IsNode (front ++ back) (length front) (node_of (front ++ back) kind) → node_of front kind ≡ node_of (front ++ back) kind
first_node front back (kinds.Source start) h = refl
first_node front back (kinds.Signal script) h = ap (λ ms. Signal script ms) (first_places front back script.names h.3)
first_node front back (kinds.Fold start script) h = ap (λ ms. Fold start script ms) (first_places front back script.names h.3)
first_node front back (kinds.Choose parts body) h = ap (λ ss. choose_of ss body) (first_selectors front back parts h.2)

-- declarations one after the other make all nodes over all names
declared_all : (front back : List (List ℕ)) (nodes : List Node) (kinds : List DeclKind) → length back ≡ length kinds → AreNodes (front ++ back) (length front) (map (node_of (front ++ back)) kinds) → declared (record { names = front; nodes = nodes }) (named back kinds) ≡ record { names = front ++ back; nodes = nodes ++ map (node_of (front ++ back)) kinds }
declared_all front [] nodes [] long h = ap (λ ns. record { names = ns; nodes = nodes }) (sym (append-nil front)) ∙ ap (λ ns. record { names = front ++ []; nodes = ns }) (sym (append-nil nodes))
declared_all front [] nodes (kind ∷ kinds) long h = absurd (omega (arith, long))
declared_all front (name ∷ back) nodes [] long h = absurd (omega (arith, long))
declared_all front (name ∷ back) nodes (kind ∷ kinds) long h =
    let together = append_assoc front (name ∷ []) back in
    let next : length front + 1 ≡ length (front ++ name ∷ []) = omega (arith, length-append front (name ∷ [])) in
    let rest = subst (λ n. AreNodes (front ++ (name ∷ back)) n (map (node_of (front ++ (name ∷ back))) kinds)) next h.1 in
    let moved = subst (λ ns. AreNodes ns (length (front ++ name ∷ [])) (map (node_of ns) kinds)) (sym together) rest in
    declared_all (front ++ name ∷ []) back (nodes ++ node_of front kind ∷ []) kinds (omega (arith, long)) moved
    ∙ ap (λ ns. record { names = ns; nodes = (nodes ++ node_of front kind ∷ []) ++ map (node_of ns) kinds }) together
    ∙ ap (λ ns. record { names = front ++ (name ∷ back); nodes = ns }) (append_assoc nodes (node_of front kind ∷ []) (map (node_of (front ++ (name ∷ back))) kinds))
    ∙ ap (λ n. record { names = front ++ (name ∷ back); nodes = nodes ++ (n ∷ map (node_of (front ++ (name ∷ back))) kinds) }) (first_node front (name ∷ back) kind h.0)

pub graph_is_made : (number : ℕ) → workload_graph number ≡ made_graph number
unfolding workload_graph workload_declarations
graph_is_made number =
    let long = length-all_kinds number in
    let named = length-all_names in
    declared_all [] all_names [] (all_kinds number) (omega (arith, long, named)) (are_nodes 0 (all_kinds number) (nodes_fit number))

-- a builder knows all names that a declaration uses
known_among : (front back names : List (List ℕ)) → AllByRecursion (λ m. m < length front) (map (place_in (front ++ back)) names) → AllByRecursion (λ name. is_undeclared front name ≡ false) names
known_among front back [] h = tt
known_among front back (name ∷ names) h =
    let e = first_place front back name h.0 in
    let low = h.0 in (
      ap not ((Decides-ltb (place_in front name) (length front)).1 (omega (arith, e, low))),
      known_among front back names h.1,
    )

known_parts : (front back : List (List ℕ)) (parts : List Part) → AllByRecursion (IsSelector (front ++ back) (length front)) (map (selector_of (front ++ back)) parts) → AllByRecursion (λ name. is_undeclared front name ≡ false) (names_of_parts parts)
known_parts front back [] h = tt
known_parts front back (part ∷ parts) h =
    all_append (λ name. is_undeclared front name ≡ false) (names_of_part part) (names_of_parts parts)
    (all_append (λ name. is_undeclared front name ≡ false) part.0.names part.1 (known_among front back part.0.names h.0.inputs_earlier) (known_among front back part.1 h.0.candidates_earlier))
    (known_parts front back parts h.1)

known_names : (front back : List (List ℕ)) (kind : DeclKind) → IsNode (front ++ back) (length front) (node_of (front ++ back) kind) → AllByRecursion (λ name. is_undeclared front name ≡ false) (names_of kind)
known_names front back (kinds.Source start) h = tt
known_names front back (kinds.Signal script) h = known_among front back script.names h.3
known_names front back (kinds.Fold start script) h = known_among front back script.names h.3
known_names front back (kinds.Choose parts body) h = known_parts front back parts h.2

none_found : (test : List ℕ → Bool) (names : List (List ℕ)) → AllByRecursion (λ name. test name ≡ false) names → find test names ≡ None
none_found test [] h = refl
none_found test (name ∷ names) h = ap (λ b. if b then Some name else find test names) h.0 ∙ none_found test names h.1

second_false : (a b c : Bool) → (a || (b || c)) ≡ false → b ≡ false
second_false true b c e = absurd (true≢false e)
second_false false true c e = absurd (true≢false e)
second_false false false c e = refl

-- a name that stands behind others is none of theirs
new_name : (front back : List (List ℕ)) (name : List ℕ) → are_different (front ++ (name ∷ back)) ≡ true → place_in front name ≡ length front
new_name [] back name h = refl
new_name (first ∷ front) back name h =
    let parts = and_parts (not (list_any (bytes_eq first) (front ++ (name ∷ back)))) (are_different (front ++ (name ∷ back))) h in
    let rest = new_name front back name parts.1 in
    let other = second_false (list_any (bytes_eq first) front) (bytes_eq first name) (list_any (bytes_eq first) back) (sym (list_any-append (bytes_eq first) front (name ∷ back)) ∙ not-true (list_any (bytes_eq first) (front ++ (name ∷ back))) parts.0) in
    ap (λ b. if b then 0 else place_in front name + 1) other ∙ (omega (arith, rest))

refused_never : (front back : List (List ℕ)) (name : List ℕ) (nodes : List Node) (kind : DeclKind) → length nodes ≡ length front → length front < 216 → are_different (front ++ (name ∷ back)) ≡ true → IsNode (front ++ (name ∷ back)) (length front) (node_of (front ++ (name ∷ back)) kind) → refusal (record { names = front; nodes = nodes }) name kind ≡ None
refused_never front back name nodes kind long low different is_node =
    let place = new_name front back name different in
    ap (λ b. if b then (if is_declared front name then Some DoubleName else unknown_input (find (is_undeclared front) (names_of kind))) else Some TooManyNodes) ((Decides-ltb (length nodes) NODES).1 (omega (arith, long, low)))
    ∙ ap (λ b. if b then Some DoubleName else unknown_input (find (is_undeclared front) (names_of kind))) (decide (nat_lt (place_in front name) (length front)) (λ e. (let under = (Decides-ltb (place_in front name) (length front)).0 e in omega (arith, under, place))))
    ∙ ap unknown_input (none_found (is_undeclared front) (names_of kind) (known_names front (name ∷ back) kind is_node))
  where
    decide : (b : Bool) → (b ≡ true → ⊥) → b ≡ false
    decide true h = absurd (h refl)
    decide false h = refl

accepted_all : (front back : List (List ℕ)) (nodes : List Node) (kinds : List DeclKind) → length back ≡ length kinds → length nodes ≡ length front → length front + length back ≤ 216 → are_different (front ++ back) ≡ true → AreNodes (front ++ back) (length front) (map (node_of (front ++ back)) kinds) → AllByRecursion IsDeclaration kinds → AreAccepted (record { names = front; nodes = nodes }) (named back kinds)
accepted_all front [] nodes kinds long same few different h each = tt
accepted_all front (name ∷ back) nodes [] long same few different h each = absurd (omega (arith, long))
accepted_all front (name ∷ back) nodes (kind ∷ kinds) long same few different h each =
    let together = append_assoc front (name ∷ []) back in
    let next : length front + 1 ≡ length (front ++ name ∷ []) = omega (arith, length-append front (name ∷ [])) in
    let rest = subst (λ n. AreNodes (front ++ (name ∷ back)) n (map (node_of (front ++ (name ∷ back))) kinds)) next h.1 in
    let moved = subst (λ ns. AreNodes ns (length (front ++ name ∷ [])) (map (node_of ns) kinds)) (sym together) rest in (
      each.0,
      refused_never front back name nodes kind same (omega (arith, few)) different h.0,
      accepted_all (front ++ name ∷ []) back (nodes ++ node_of front kind ∷ []) kinds (omega (arith, long))
          (omega (arith, same, length-append nodes (node_of front kind ∷ []), next))
          (omega (arith, few, next))
          (ap are_different together ∙ different) moved each.1,
    )

are_declarations : (n : ℕ) (kinds : List DeclKind) → Each Fits n kinds → AllByRecursion IsDeclaration kinds
are_declarations n [] h = tt
are_declarations n (kind ∷ rest) h = (h.0.1, are_declarations (n + 1) rest h.1)

-- a builder refuses none of the workload's declarations
pub are_accepted : (number : ℕ) → AreAccepted no_nodes (workload_declarations number)
unfolding workload_declarations
are_accepted number =
    let long = length-all_kinds number in
    let named = length-all_names in
    accepted_all [] all_names [] (all_kinds number) (omega (arith, long, named)) refl (omega (arith, named)) all_different (are_nodes 0 (all_kinds number) (nodes_fit number)) (are_declarations 0 (all_kinds number) (nodes_fit number))
