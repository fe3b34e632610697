-- One turn of each loop of the maker, and what its functions make.
use Rattle.std.proofs.Common.{◌≡◌, ℕ, suc, ◌+◌, ◌-◌, ◌*◌, ◌<◌, false, List, [], ◌∷◌, ◌++◌, None, sym, ap, ◌∙◌, subst, arith, append_assoc, append-nil}
use Rattle.std.specs.Prelude.{◌==◌, if◌then◌else◌, pos}
use Rattle.std.proofs.lemmas.Bool.Decides.{nat_tests}
use Rattle.script_tree.specs.declared.value.Value.TheVariants.{Int}
use Rattle.script_tree.specs.Tree.{Tree}
use Rattle.script_tree.specs.Scripts.{WellFormed}
use Rattle.signal_graph.specs.declared.builder.DeclKind.{DeclKind}
use Rattle.signal_graph.specs.declared.call.Call.{Call}
use Rattle.signal_graph.specs.declared.call.Call.TheVariants.{Fire, Read}
use Rattle.signal_graph.specs.Graph.{Graph, no_nodes}
use Rattle.signal_graph.specs.Declarations.{IsDeclaration, refusal, with_declaration}
use Rattle.deck_text.specs.Kept.{IsDeck}
use Rattle.separate_decks.specs.Draws.{skip, draw}
use Rattle.separate_decks.specs.Workload.{name_of, declared, AreAccepted, workload_declarations, workload_graph, call_of, draws_of_call, calls_of, state_after_calls, threads, workload_scripts}
use Rattle.deck_maker.specs.Nodes.{kind_at, draws_at, nodes_from, state_behind}
use Rattle.deck_maker.proofs.Drawing.{skipped, later_draw}
use Rattle.deck_maker.proofs.OneByOne.{declarations_are, state_is}

less : (n m : ℕ) → m < n → n - m ≡ suc (n - (m + 1))
less n m low = omega arith

pub accepted_next : (graph : Graph) (m x : ℕ) → m < 216 → AreAccepted graph (nodes_from (216 - m) m x)
    → IsDeclaration (kind_at m x) × (refusal graph (name_of m) (kind_at m x) ≡ None)
    × AreAccepted (with_declaration graph (name_of m) (kind_at m x)) (nodes_from (216 - (m + 1)) (m + 1) (skip (draws_at m) x))
unfolding nodes_from
accepted_next graph m x low h = subst (λ n. AreAccepted graph (nodes_from n m x)) (less 216 m low) h

pub declared_next : (graph whole : Graph) (m x : ℕ) → m < 216 → declared graph (nodes_from (216 - m) m x) ≡ whole
    → declared (with_declaration graph (name_of m) (kind_at m x)) (nodes_from (216 - (m + 1)) (m + 1) (skip (draws_at m) x)) ≡ whole
unfolding nodes_from
declared_next graph whole m x low h = subst (λ n. declared graph (nodes_from n m x) ≡ whole) (less 216 m low) h

pub behind_next : (m x whole : ℕ) → m < 216 → state_behind (216 - m) m x ≡ whole → state_behind (216 - (m + 1)) (m + 1) (skip (draws_at m) x) ≡ whole
unfolding state_behind
behind_next m x whole low h = subst (λ n. state_behind n m x ≡ whole) (less 216 m low) h

pub call_next : (i n m x s : ℕ) (done whole : List Call) (call : Call) → m < n → done ++ calls_of i (n - m) x ≡ whole → call ≡ call_of i x → s ≡ skip (draws_of_call x) x
    → (done ++ call ∷ []) ++ calls_of i (n - (m + 1)) s ≡ whole
unfolding calls_of
call_next i n m x s done whole call low h e f =
    append_assoc done (call ∷ []) (calls_of i (n - (m + 1)) s)
    ∙ ap (λ c. done ++ (c ∷ calls_of i (n - (m + 1)) s)) e
    ∙ ap (λ t. done ++ (call_of i x ∷ calls_of i (n - (m + 1)) t)) f
    ∙ subst (λ k. done ++ calls_of i k x ≡ whole) (less n m low) h

pub call_state_next : (n m x s whole : ℕ) → m < n → state_after_calls (n - m) x ≡ whole → s ≡ skip (draws_of_call x) x → state_after_calls (n - (m + 1)) s ≡ whole
unfolding state_after_calls
call_state_next n m x s whole low h f = ap (state_after_calls (n - (m + 1))) f ∙ subst (λ k. state_after_calls k x ≡ whole) (less n m low) h

pub thread_next : (i x s : ℕ) (done whole : List (List Call)) (calls : List Call) → i < 8 → done ++ threads i (8 - i) x ≡ whole → calls ≡ calls_of i 500 x → s ≡ state_after_calls 500 x
    → (done ++ calls ∷ []) ++ threads (i + 1) (8 - (i + 1)) s ≡ whole
unfolding threads
thread_next i x s done whole calls low h e f =
    append_assoc done (calls ∷ []) (threads (i + 1) (8 - (i + 1)) s)
    ∙ ap (λ c. done ++ (c ∷ threads (i + 1) (8 - (i + 1)) s)) e
    ∙ ap (λ t. done ++ (calls_of i 500 x ∷ threads (i + 1) (8 - (i + 1)) t)) f
    ∙ subst (λ k. done ++ threads i k x ≡ whole) (less 8 i low) h

-- the loops' ends
pub threads_end : (i x : ℕ) (done whole : List (List Call)) → 8 - i ≡ 0 → done ++ threads i (8 - i) x ≡ whole → done ≡ whole
unfolding threads
threads_end i x done whole e h = sym (append-nil done) ∙ subst (λ k. done ++ threads i k x ≡ whole) e h

pub calls_end : (i m x : ℕ) (done whole : List Call) → 500 - m ≡ 0 → done ++ calls_of i (500 - m) x ≡ whole → done ≡ whole
unfolding calls_of
calls_end i m x done whole e h = sym (append-nil done) ∙ subst (λ k. done ++ calls_of i k x ≡ whole) e h

pub call_state_end : (m x whole : ℕ) → 500 - m ≡ 0 → state_after_calls (500 - m) x ≡ whole → x ≡ whole
unfolding state_after_calls
call_state_end m x whole e h = subst (λ k. state_after_calls k x ≡ whole) e h

pub declared_end : (graph whole : Graph) (m x : ℕ) → 216 - m ≡ 0 → declared graph (nodes_from (216 - m) m x) ≡ whole → graph ≡ whole
unfolding nodes_from
declared_end graph whole m x e h = subst (λ k. declared graph (nodes_from k m x) ≡ whole) e h

pub behind_end : (m x whole : ℕ) → 216 - m ≡ 0 → state_behind (216 - m) m x ≡ whole → x ≡ whole
unfolding state_behind
behind_end m x whole e h = subst (λ k. state_behind k m x ≡ whole) e h

-- what the builder keeps from node to node
abbrev pub IsOnItsWay : Graph → Graph → ℕ → ℕ → ℕ → Type 0
IsOnItsWay graph whole m x last =
    AreAccepted graph (nodes_from (216 - m) m x) × (declared graph (nodes_from (216 - m) m x) ≡ whole) × (state_behind (216 - m) m x ≡ last)

pub begins : (graph : Graph) (x : ℕ) → graph ≡ no_nodes → AreAccepted no_nodes (workload_declarations x) → IsOnItsWay graph (workload_graph x) 0 x (skip 560 x)
unfolding workload_graph
begins graph x e h = (
  subst (λ g. AreAccepted g (nodes_from 216 0 x)) (sym e) (subst (AreAccepted no_nodes) (declarations_are x) h),
  ap (λ g. declared g (nodes_from 216 0 x)) e ∙ sym (ap (declared no_nodes) (declarations_are x)),
  state_is x,
)

pub can_add : (graph whole : Graph) (m x last : ℕ) (name : List ℕ) (kind : DeclKind) → m < 216 → IsOnItsWay graph whole m x last → name ≡ name_of m → kind ≡ kind_at m x
    → IsDeclaration kind × (refusal graph name kind ≡ None)
can_add graph whole m x last name kind low h e f =
    let next = accepted_next graph m x low h.0 in
    (subst IsDeclaration (sym f) next.0, ap (λ n. refusal graph n kind) e ∙ ap (refusal graph (name_of m)) f ∙ next.1)

pub goes_on : (graph next whole : Graph) (m x s last : ℕ) (name : List ℕ) (kind : DeclKind) → m < 216 → IsOnItsWay graph whole m x last → name ≡ name_of m → kind ≡ kind_at m x
    → s ≡ skip (draws_at m) x → next ≡ with_declaration graph name kind → IsOnItsWay next whole (m + 1) s last
goes_on graph next whole m x s last name kind low h e f k g =
    let made = g ∙ ap (λ n. with_declaration graph n kind) e ∙ ap (with_declaration graph (name_of m)) f in
    subst (λ t. IsOnItsWay next whole (m + 1) t last) (sym k)
    (subst (λ b. IsOnItsWay b whole (m + 1) (skip (draws_at m) x) last) (sym made)
    ((accepted_next graph m x low h.0).2, declared_next graph whole m x low h.1, behind_next m x last low h.2))

-- the one call of a turn
pub read_is : (i x p s q : ℕ) → p ≡ draw x 1 4 → p ≡ 0 → s ≡ skip 1 x → q ≡ draw s 1 216 → Read (name_of q ∷ []) ≡ call_of i x
unfolding call_of
read_is i x p s q e zero_is f g =
    let looks = g ∙ ap (λ t. draw t 1 216) f ∙ later_draw x 1 1 216 in
    let first : draw x 1 4 ≡ 0 = sym e ∙ zero_is in
    ap (λ n. Read (name_of n ∷ [])) looks
    ∙ sym (ap (λ n. if n == 0 then Read (name_of (draw x 2 216) ∷ []) else Fire ((name_of (8 * i + draw x 2 8), Int (pos (draw x 3 1000))) ∷ []) (name_of (draw x 4 216) ∷ [])) first)

pub read_state : (x p s t : ℕ) → p ≡ draw x 1 4 → p ≡ 0 → s ≡ skip 1 x → t ≡ skip 1 s → t ≡ skip (draws_of_call x) x
unfolding draws_of_call
read_state x p s t e zero_is f g =
    let first : draw x 1 4 ≡ 0 = sym e ∙ zero_is in
    g ∙ ap (skip 1) f ∙ skipped x 1 1 ∙ sym (ap (λ n. skip (if n == 0 then 2 else 4) x) first)

not_zero : (n : ℕ) → (n ≡ 0 → ⊥) → (n == 0) ≡ false
not_zero n h = grind (arith, nat_tests)

pub fire_is : (i x p s a t b u q : ℕ) → p ≡ draw x 1 4 → (p ≡ 0 → ⊥) → s ≡ skip 1 x → a ≡ draw s 1 8 → t ≡ skip 1 s → b ≡ draw t 1 1000 → u ≡ skip 1 t → q ≡ draw u 1 216
    → Fire ((name_of (8 * i + a), Int (pos b)) ∷ []) (name_of q ∷ []) ≡ call_of i x
unfolding call_of
fire_is i x p s a t b u q e other f ha ft hb fu hq =
    let second = ft ∙ ap (skip 1) f ∙ skipped x 1 1 in
    let third = fu ∙ ap (skip 1) second ∙ skipped x 2 1 in
    let source = ha ∙ ap (λ y. draw y 1 8) f ∙ later_draw x 1 1 8 in
    let number = hb ∙ ap (λ y. draw y 1 1000) second ∙ later_draw x 2 1 1000 in
    let look = hq ∙ ap (λ y. draw y 1 216) third ∙ later_draw x 3 1 216 in
    let first = not_zero (draw x 1 4) (λ z. other (e ∙ z)) in
    ap (λ n. Fire ((name_of (8 * i + n), Int (pos b)) ∷ []) (name_of q ∷ [])) source
    ∙ ap (λ n. Fire ((name_of (8 * i + draw x 2 8), Int (pos n)) ∷ []) (name_of q ∷ [])) number
    ∙ ap (λ n. Fire ((name_of (8 * i + draw x 2 8), Int (pos (draw x 3 1000))) ∷ []) (name_of n ∷ [])) look
    ∙ sym (ap (λ t. if t then Read (name_of (draw x 2 216) ∷ []) else Fire ((name_of (8 * i + draw x 2 8), Int (pos (draw x 3 1000))) ∷ []) (name_of (draw x 4 216) ∷ [])) first)

pub fire_state : (x p s t u v : ℕ) → p ≡ draw x 1 4 → (p ≡ 0 → ⊥) → s ≡ skip 1 x → t ≡ skip 1 s → u ≡ skip 1 t → v ≡ skip 1 u → v ≡ skip (draws_of_call x) x
unfolding draws_of_call
fire_state x p s t u v e other f ft fu fv =
    let second = ft ∙ ap (skip 1) f ∙ skipped x 1 1 in
    let third = fu ∙ ap (skip 1) second ∙ skipped x 2 1 in
    let first = not_zero (draw x 1 4) (λ z. other (e ∙ z)) in
    fv ∙ ap (skip 1) third ∙ skipped x 3 1 ∙ sym (ap (λ t. skip (if t then 2 else 4) x) first)

-- a script of known names and a known tree is well formed
pub formed_as : (names known : List (List ℕ)) (tree like : Tree) → names ≡ known → tree ≡ like → WellFormed known like → WellFormed names tree
formed_as names known tree like e f h = subst (λ (ns : List (List ℕ)). WellFormed ns tree) (sym e) (subst (WellFormed known) (sym f) h)

-- the deck of what was made
pub scripts_made : (number x y : ℕ) (scripts : List (List Call)) → x ≡ number → y ≡ skip 560 x → scripts ≡ threads 0 8 y → scripts ≡ workload_scripts number
unfolding workload_scripts
scripts_made number x y scripts e f g = g ∙ ap (threads 0 8) (f ∙ ap (skip 560) e)

pub deck_made : (number x y : ℕ) (graph : Graph) (scripts : List (List Call)) → ((n : ℕ) → IsDeck (record { graph = workload_graph n; scripts = workload_scripts n }))
    → x ≡ number → graph ≡ workload_graph x → y ≡ skip 560 x → scripts ≡ threads 0 8 y → IsDeck (record { graph = graph; scripts = scripts })
deck_made number x y graph scripts law e g f s =
    subst (λ (cs : List (List Call)). IsDeck (record { graph = graph; scripts = cs })) (sym (scripts_made number x y scripts e f s))
    (subst (λ (b : Graph). IsDeck (record { graph = b; scripts = workload_scripts number })) (sym (g ∙ ap workload_graph e)) (law number))
