-- A list of moves may be made where each of its parts may be, and what each move keeps all moves keep.
use Rattle.std.proofs.Common.{◌≡◌, ℕ, Bool, true, false, refl, sym, List, [], ◌∷◌, ◌++◌, true≢false}
use Rattle.signal_graph.specs.declared.call.Call.{Call}
use Rattle.signal_graph.specs.Graph.{Graph, IsGraph}
use Rattle.flow_model.specs.declared.step.Step.{Step}
use Rattle.flow_model.specs.Machine.State.{Core, opening}
use Rattle.flow_model.specs.Machine.Steps.{allowed, apply, can_begin, begin}
use Rattle.flow_model.specs.Kept.Lawful.{IsLawful}
use Rattle.flow_model.specs.Machine.Histories.{Move, Begin, Make, may, after_move, after_moves, may_all, state, is_history}
use Rattle.flow_model.proofs.Opening.OpeningIsLawful.{opening-lawful}

pub may_first : (graph : Graph) (s : Core) (move : Move) (moves : List Move) → may_all graph s (move ∷ moves) ≡ true → (may graph s move ≡ true) × (may_all graph (after_move graph s move) moves ≡ true)
may_first graph s move moves h = go (may graph s move) refl h
  where
    go : (b : Bool) → may graph s move ≡ b → elim b as (λ _. Bool) [ true ↦ may_all graph (after_move graph s move) moves | false ↦ false ] ≡ true → (may graph s move ≡ true) × (may_all graph (after_move graph s move) moves ≡ true)
    go true e k = (e, k)
    go false e k = absurd (true≢false (sym k))

pub may_parts : (graph : Graph) (xs ys : List Move) (s : Core) → may_all graph s (xs ++ ys) ≡ true → (may_all graph s xs ≡ true) × (may_all graph (after_moves graph s xs) ys ≡ true)
may_parts graph [] ys s h = (refl, h)
may_parts graph (x ∷ xs) ys s h =
    let f = may_first graph s x (xs ++ ys) h in
    let r = may_parts graph xs ys (after_move graph s x) f.1 in
    (first (may graph s x) f.0 r.0, r.1)
  where
    first : (b : Bool) → b ≡ true → may_all graph (after_move graph s x) xs ≡ true → elim b as (λ _. Bool) [ true ↦ may_all graph (after_move graph s x) xs | false ↦ false ] ≡ true
    first true e k = k
    first false e k = absurd (true≢false (sym e))

pub after_parts : (graph : Graph) (xs ys : List Move) (s : Core) → after_moves graph s (xs ++ ys) ≡ after_moves graph (after_moves graph s xs) ys
after_parts graph [] ys s = refl
after_parts graph (x ∷ xs) ys s = after_parts graph xs ys (after_move graph s x)

-- ---- lawful states

-- Each move that a lawful state allows leads to a lawful one.
abbrev pub KeepsLawful : Graph → Type 0
KeepsLawful graph = (s : Core) (move : Move) → IsLawful graph s → may graph s move ≡ true → IsLawful graph (after_move graph s move)

-- What each move keeps besides holds after all of them.
pub record Reached (graph : Graph) (P : Core → Type 0) (s : Core) : Type 0 where
  pub lawful : IsLawful graph s
  pub holds : P s

pub moves-reach : (graph : Graph) → KeepsLawful graph → (P : Core → Type 0) → ((s : Core) (move : Move) → IsLawful graph s → may graph s move ≡ true → P s → P (after_move graph s move))
    → (moves : List Move) (s : Core) → IsLawful graph s → P s → may_all graph s moves ≡ true → Reached graph P (after_moves graph s moves)
moves-reach graph keeps P stays [] s h p m = record { lawful = h; holds = p }
moves-reach graph keeps P stays (move ∷ moves) s h p m =
    let f = may_first graph s move moves m in
    moves-reach graph keeps P stays moves (after_move graph s move) (keeps s move h f.0) (stays s move h f.0 p) f.1

pub moves-lawful : (graph : Graph) → KeepsLawful graph → (moves : List Move) (s : Core) → IsLawful graph s → may_all graph s moves ≡ true → IsLawful graph (after_moves graph s moves)
moves-lawful graph keeps [] s h m = h
moves-lawful graph keeps (move ∷ moves) s h m = let f = may_first graph s move moves m in moves-lawful graph keeps moves (after_move graph s move) (keeps s move h f.0) f.1

-- from what steps and beginnings keep
pub keeps_of : (graph : Graph) → ((s : Core) (step : Step) → IsLawful graph s → allowed graph s step ≡ true → IsLawful graph (apply graph s step)) → ((s : Core) (caller : ℕ) (c : Call) → IsLawful graph s → can_begin graph s caller c ≡ true → IsLawful graph (begin graph s caller c)) → KeepsLawful graph
keeps_of graph steps begins s (Begin caller c) h m = begins s caller c h m
keeps_of graph steps begins s (Make step) h m = steps s step h m

-- ---- histories

pub history-lawful : (graph : Graph) → IsGraph graph → KeepsLawful graph → (callers limit : ℕ) (moves : List Move) → is_history graph callers limit moves ≡ true → IsLawful graph (state graph callers limit moves)
history-lawful graph g keeps callers limit moves m = moves-lawful graph keeps moves (opening graph callers limit) (opening-lawful graph g callers limit) m
