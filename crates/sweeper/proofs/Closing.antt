-- What the passes tell when they come back.
use Rattle.std.proofs.Common.{◌≡◌, ◌⊎◌, inl, inr, ⊎_elim, ℕ, ◌<◌, ◌≤◌, true, false, List, [], ◌∷◌, ◌++◌, refl, sym, ◌∙◌, subst, arith}
use Rattle.std.specs.List.{AllByRecursion}
use Rattle.signal_graph.specs.declared.log.Logged.{Logged}
use Rattle.signal_graph.specs.Graph.{Graph}
use Rattle.flow_model.specs.Machine.Steps.{has_call}
use Rattle.flow_model.specs.declared.step.Step.TheVariants as steps
use Rattle.flow_model.specs.Machine.Histories.{Move, Make, state, is_history}
use Rattle.flow_model.specs.Follows.Callers.{begun_by, logged_of}
use Rattle.flow_model.specs.Follows.Others.{caller_of}
use Rattle.caller_fronts.specs.Fronts.{IsLater, IsEndLast}
use Rattle.caller_fronts.specs.Tokens.{Idle}
use Rattle.sweeper.specs.Ends.{HasPass, HasAllPasses, HasFront, Settles}

-- whose pass came back is idle
pub settled-idle : (graph : Graph) (callers limit : ℕ) (passes : List Idle) (moves : List Move) → Settles graph callers limit passes moves → (k : ℕ) → HasPass k passes
    → has_call k (state graph callers limit moves).calls ≡ false
settled-idle graph callers limit [] moves all k has = absurd has
settled-idle graph callers limit (p ∷ ps) moves all k has = ⊎_elim
    (λ (here : p.caller ≡ k). subst (λ (x : ℕ). has_call x (state graph callers limit moves).calls ≡ false) here all.0.1.idle)
    (λ (there : HasPass k ps). settled-idle graph callers limit ps moves all.1 k there)
    has

pub settled-fronts : (graph : Graph) (callers limit : ℕ) (passes : List Idle) (moves : List Move) → Settles graph callers limit passes moves
    → AllByRecursion (λ (p : Idle). IsLater graph callers limit p.caller p.front moves) passes
settled-fronts graph callers limit [] moves all = tt
settled-fronts graph callers limit (p ∷ ps) moves all = (all.0.0, settled-fronts graph callers limit ps moves all.1)

pub settled-calls : (graph : Graph) (callers limit : ℕ) (passes : List Idle) (moves : List Move) (log : List Logged) → Settles graph callers limit passes moves
    → ((k : ℕ) → logged_of k log ≡ begun_by k moves)
    → ((k : ℕ) (front : List Move) → IsLater graph callers limit k front moves → begun_by k moves ≡ begun_by k front)
    → AllByRecursion (λ (p : Idle). logged_of p.caller log ≡ begun_by p.caller p.front) passes
settled-calls graph callers limit [] moves log all made stay = tt
settled-calls graph callers limit (p ∷ ps) moves log all made stay =
    (made p.caller ∙ stay p.caller p.front all.0.0, settled-calls graph callers limit ps moves log all.1 made stay)

-- ---- the longest front

-- where a caller has seen all moves, they are the front of its pass
has-front : (graph : Graph) (callers limit : ℕ) (passes : List Idle) (moves : List Move) → Settles graph callers limit passes moves → (k : ℕ) → HasPass k passes
    → ((front : List Move) → IsLater graph callers limit k front moves → front ≡ moves) → HasFront moves passes
has-front graph callers limit [] moves all k has whole = absurd has
has-front graph callers limit (p ∷ ps) moves all k has whole = ⊎_elim
    (λ (here : p.caller ≡ k). inl (whole p.front (subst (λ (x : ℕ). IsLater graph callers limit x p.front moves) here all.0.0)))
    (λ (there : HasPass k ps). inr (has-front graph callers limit ps moves all.1 k there whole))
    has

nothing-first : (front rest : List Move) → front ++ rest ≡ [] → front ≡ []
nothing-first [] rest e = refl
nothing-first (x ∷ front) rest e = absurd (cc (e))

-- Whoever makes the last move has seen all moves.
abbrev pub IsSeen : Graph → ℕ → ℕ → Type 0
IsSeen graph callers limit = (caller : ℕ) (front earlier : List Move) (move : Move) → IsLater graph callers limit caller front (earlier ++ move ∷ [])
    → caller_of (state graph callers limit earlier) move ≡ caller → front ≡ earlier ++ move ∷ []

-- The caller of a last end is one of the callers.
abbrev pub IsOneOf : Graph → ℕ → ℕ → Type 0
IsOneOf graph callers limit = (version : ℕ) (earlier : List Move) → is_history graph callers limit (earlier ++ Make (steps.End version) ∷ []) ≡ true
    → (0 < caller_of (state graph callers limit earlier) (Make (steps.End version))) × (caller_of (state graph callers limit earlier) (Make (steps.End version)) ≤ callers)

pub settled-longest : (graph : Graph) (callers limit : ℕ) (passes : List Idle) (moves : List Move) → 1 ≤ callers → HasAllPasses callers passes → Settles graph callers limit passes moves
    → is_history graph callers limit moves ≡ true → IsSeen graph callers limit → IsOneOf graph callers limit → (moves ≡ []) ⊎ IsEndLast moves → HasFront moves passes
settled-longest graph callers limit passes moves some has all history seen one_of last = ⊎_elim
    (λ (none : moves ≡ []). has-front graph callers limit passes moves all 1 (has 1 (omega arith) some) (λ front l. nothing-first front l.rest (l.joined ∙ none) ∙ sym none))
    (λ (e : IsEndLast moves).
    let k = caller_of (state graph callers limit e.earlier) (Make (steps.End e.version)) in
    let one = one_of e.version e.earlier (subst (λ (ms : List Move). is_history graph callers limit ms ≡ true) e.split history) in
    has-front graph callers limit passes moves all k (has k one.0 one.1)
    (λ front l. seen k front e.earlier (Make (steps.End e.version)) (subst (IsLater graph callers limit k front) e.split l) refl ∙ sym e.split))
    last
