-- A sweeper that opened with all its callers' passes is closed with them: what they have made is a finished run.
use Rattle.std.proofs.Common.{◌≡◌, ℕ, zero, suc, ◌+◌, ◌<◌, inl, inr, List, [], ◌∷◌, length, get_or, refl, sym, ap, ◌∙◌, subst, arith}
use Rattle.std.specs.Prelude.{slice_index_or}
use Rattle.std.specs.List.{AllByRecursion}
use Rattle.std.proofs.lemmas.List.{length-map, get_or-map}
use Rattle.signal_graph.specs.declared.call.Call.{Call}
use Rattle.signal_graph.specs.declared.log.Logged.{Logged}
use Rattle.signal_graph.specs.declared.log.Refused.{Refused}
use Rattle.script_tree.specs.declared.value.Value.{Value}
use Rattle.signal_graph.specs.Graph.{Graph}
use Rattle.call_log.specs.Merge.{Merge}
use Rattle.flow_model.specs.Machine.Histories.{Move}
use Rattle.flow_model.specs.Follows.Callers.{begun_by, calls_of}
use Rattle.caller_fronts.specs.Fronts.{IsLater}
use Rattle.caller_fronts.specs.Tokens.{Idle}
use Rattle.caller_fronts.proofs.OwnCalls.{calls-stay}
use Rattle.sweeper.specs.Ends.{fresh, HasPass, HasAllPasses, Closes}
use Rattle.sweeper.proofs.Passes.{fresh-long}
use Rattle.worker_gate.specs.Scripts.{AreMade}
use Rattle.worker_gate.specs.Seats.{fronts_of, callers_of, AreNumbered}
use Rattle.worker_gate.proofs.Finishing.{HasAll, finished}
use Rattle.worker_gate.proofs.Seating.{no_pass, front-at}

-- ---- the passes that it opens with

caller-from : (from n k : ℕ) (d : Idle) → k < n → (get_or (fresh from n) k d).caller ≡ from + k
caller-from from zero k d below = absurd (omega (arith, below))
caller-from from (suc n) zero d below = omega arith
caller-from from (suc n) (suc k) d below = caller-from (suc from) n k d (omega (arith, below)) ∙ omega arith

front-from : (from n k : ℕ) → get_or (fronts_of (fresh from n)) k [] ≡ []
front-from from zero k = refl
front-from from (suc n) zero = refl
front-from from (suc n) (suc k) = front-from (suc from) n k

pub opened-length : (n : ℕ) (passes : List Idle) → passes ≡ fresh 1 n → length passes ≡ n
opened-length n passes is = ap length is ∙ fresh-long 1 n

pub opened-numbered : (n : ℕ) (passes : List Idle) → passes ≡ fresh 1 n → AreNumbered passes
opened-numbered n passes is k d below =
    let long = opened-length n passes is in
    ap (λ (ps : List Idle). (get_or ps k d).caller) is ∙ caller-from 1 n k d (omega (arith, below, long)) ∙ omega arith

-- ---- the passes that it is closed with

same-length : (n : ℕ) (opened passes : List Idle) → opened ≡ fresh 1 n → callers_of passes ≡ callers_of opened → length passes ≡ n
same-length n opened passes is same =
    sym (length-map passes (λ (p : Idle). p.caller)) ∙ ap length same ∙ length-map opened (λ (p : Idle). p.caller) ∙ opened-length n opened is

caller-at : (n : ℕ) (opened passes : List Idle) → opened ≡ fresh 1 n → callers_of passes ≡ callers_of opened → (k : ℕ) → k < n → (get_or passes k no_pass).caller ≡ k + 1
caller-at n opened passes is same k below =
    let long = same-length n opened passes is same in
    let first = opened-length n opened is in
    sym (get_or-map (λ (p : Idle). p.caller) passes k no_pass 0 (omega (arith, below, long)))
    ∙ ap (λ (ks : List ℕ). get_or ks k 0) same
    ∙ get_or-map (λ (p : Idle). p.caller) opened k no_pass 0 (omega (arith, below, first))
    ∙ opened-numbered n opened is k no_pass (omega (arith, below, first))

has-pass : (passes : List Idle) (k i : ℕ) → k < length passes → (get_or passes k no_pass).caller ≡ i → HasPass i passes
has-pass [] k i below is = absurd (omega (arith, below))
has-pass (p ∷ passes) zero i below is = inl is
has-pass (p ∷ passes) (suc k) i below is = inr (has-pass passes k i (omega (arith, below)) is)

pub all-passes : (n : ℕ) (opened passes : List Idle) → opened ≡ fresh 1 n → callers_of passes ≡ callers_of opened → HasAllPasses n passes
all-passes n opened passes is same zero above within = absurd (omega (arith, above))
all-passes n opened passes is same (suc k) above within =
    let long = same-length n opened passes is same in
    has-pass passes k (suc k) (omega (arith, within, long)) (caller-at n opened passes is same k (omega (arith, within)) ∙ omega arith)

-- ---- the whole

at-index : (P : Idle → Type 0) (passes : List Idle) → AllByRecursion P passes → (k : ℕ) → k < length passes → P (get_or passes k no_pass)
at-index P [] all k below = absurd (omega (arith, below))
at-index P (p ∷ passes) all zero below = all.0
at-index P (p ∷ passes) all (suc k) below = at-index P passes all.1 k (omega (arith, below))

later-HasAll : (graph : Graph) (callers limit k : ℕ) (front later : List Move) → IsLater graph callers limit k front later → HasAll k front later
later-HasAll graph callers limit k front later l = ((l.rest, sym l.joined), ap calls_of (calls-stay graph callers limit k front later l))

pub closes-Merge : (graph : Graph) (limit : ℕ) (scripts : List (List Call)) (refused : List Refused) (opened passes : List Idle) (log : List Logged) (values : List Value)
    → opened ≡ fresh 1 (length scripts) → callers_of passes ≡ callers_of opened → AreMade graph limit scripts refused (fronts_of opened) (fronts_of passes)
    → Closes graph (length scripts) limit passes log values → Merge graph scripts limit log refused
closes-Merge graph limit scripts refused opened passes log values is same made c =
    subst (λ (l : List Logged). Merge graph scripts limit l refused) (sym c.log_is)
    (finished graph limit scripts refused (fronts_of opened) (fronts_of passes) c.moves made fresh-fronts c.history c.none_live all)
  where
    fresh-fronts : (k : ℕ) → k < length scripts → calls_of (begun_by (k + 1) (slice_index_or (fronts_of opened) k [])) ≡ []
    fresh-fronts k below = ap (λ (f : List Move). calls_of (begun_by (k + 1) f)) (ap (λ (ps : List Idle). get_or (fronts_of ps) k []) is ∙ front-from 1 (length scripts) k)

    all : (k : ℕ) → k < length scripts → HasAll (k + 1) (slice_index_or (fronts_of passes) k []) c.moves
    all k below =
        let long = same-length (length scripts) opened passes is same in
        let below' : k < length passes = omega (arith, below, long) in
        subst (λ (f : List Move). HasAll (k + 1) f c.moves) (sym (front-at passes k below'))
        (subst (λ (i : ℕ). HasAll i (get_or passes k no_pass).front c.moves) (caller-at (length scripts) opened passes is same k below)
        (later-HasAll graph (length scripts) limit (get_or passes k no_pass).caller (get_or passes k no_pass).front c.moves (at-index (λ (p : Idle). IsLater graph (length scripts) limit p.caller p.front c.moves) passes c.fronts k below')))
