-- After any moves of others a caller's call lives on, and what it may evaluate it still may, with the same result.
use Rattle.std.proofs.Common.{◌≡◌, ◌≢◌, ℕ, Bool, true, false, ◌&&◌, ◌||◌, ◌==◌, refl, sym, ap, ap₂, List, [], ◌∷◌, ◌∙◌, subst, Option, Some, None}
use Rattle.std.specs.List.{AllByRecursion}
use Rattle.std.proofs.lemmas.List.Folds.{list_any-append}
use Rattle.std.proofs.lemmas.Bool.{eqb-true, eq-eqb, false_from_ne_true, both_ways, not-true}
use Rattle.script_tree.proofs.Truths.{and_left, and_right}
use Rattle.signal_graph.specs.Graph.{Graph, is_in}
use Rattle.flow_model.specs.declared.step.Step.TheVariants as steps
use Rattle.flow_model.specs.Machine.State.{Core, LiveCall, call, live}
use Rattle.flow_model.specs.Machine.Words.{is_some_of, found_now, body_now}
use Rattle.flow_model.specs.Machine.Steps.{allowed, apply, has_call, new_call}
use Rattle.flow_model.specs.Machine.Keys.{version_of_step, is_own_step}
use Rattle.flow_model.specs.Machine.Histories.{Move, Begin, Make, may, after_move, after_moves, may_all}
use Rattle.flow_model.specs.Kept.Lawful.{IsLawful}
use Rattle.flow_model.specs.Follows.Others.{is_own_move, caller_of, caller_of_version, none_by, IsKept}
use Rattle.flow_model.proofs.OneStep.WhoMayStep.{evaluate-at_front, body-at_front}
use Rattle.flow_model.proofs.Wants.WantsAreFree.{at_front-live}
use Rattle.flow_model.proofs.Others.CallsAreLeft.{others-live, others-keep, stays as kept}
use Rattle.flow_model.proofs.Histories.Moves.{KeepsLawful, may_first}
use Rattle.flow_model.proofs.General.Pigeons.{any-field}
use Rattle.flow_model.proofs.Callers.OnlyBeginningsAdd.{live_callers, step-idle}
use Rattle.flow_model.proofs.Others.EvaluationsStay.{evaluate-stays, body-stays}

-- ---- a caller's call

-- A move that is no own move of a call's caller is no own move of the call.
not_by-not_own : (s : Core) (move : Move) (t : ℕ) → (caller_of s move == (call s t).caller) ≡ false → is_own_move t move ≡ false
not_by-not_own s (Begin caller c) t h = refl
not_by-not_own s (Make step) t h = go (is_own_step step) (version_of_step step) h
  where
    go : (b : Bool) (v : Option ℕ) → (elim b as (λ _. ℕ) [ true ↦ caller_of_version s v | false ↦ 0 ] == (call s t).caller) ≡ false → (b && is_some_of v t) ≡ false
    go false v h = refl
    go true None h = refl
    go true (Some u) h = false_from_ne_true _ (λ e. both_ways _ h (eq-eqb _ _ (ap (λ (w : ℕ). (call s w).caller) (eqb-true u t e))))

kept-on : (c d e : LiveCall) → IsKept c d → IsKept d e → IsKept c e
kept-on c d e h k = record {
  caller = k.caller ∙ h.caller;
  version = k.version ∙ h.version;
  slot = k.slot ∙ h.slot;
  executing = k.executing ∙ h.executing;
  call = k.call ∙ h.call;
  sets = k.sets ∙ h.sets;
  looks = k.looks ∙ h.looks;
  changed = k.changed ∙ h.changed;
  evaluated = k.evaluated ∙ h.evaluated;
  looked = k.looked ∙ h.looked;
}

-- the moves after the first one
later : (graph : Graph) (s : Core) (move : Move) (moves : List Move) (t : ℕ) → live s t ≡ true → none_by graph (call s t).caller s (move ∷ moves) ≡ true
    → (is_own_move t move ≡ false) × (none_by graph (call (after_move graph s move) t).caller (after_move graph s move) moves ≡ true)
later graph s move moves t l n =
    let o = not_by-not_own s move t (not-true _ (and_left _ _ n)) in
    let k = others-keep graph s move t l o in
    (o, subst (λ (w : ℕ). none_by graph w (after_move graph s move) moves ≡ true) (sym k.caller) (and_right _ _ n))

pub call-found : (graph : Graph) (moves : List Move) (s : Core) (t : ℕ) → live s t ≡ true → none_by graph (call s t).caller s moves ≡ true
    → (live (after_moves graph s moves) t ≡ true) × IsKept (call s t) (call (after_moves graph s moves) t)
call-found graph [] s t l n = (l, kept (call s t))
call-found graph (move ∷ moves) s t l n =
    let f = later graph s move moves t l n in
    let q = after_move graph s move in
    let r = call-found graph moves q t (others-live graph s move t l f.0) f.1 in
    (r.0, kept-on (call s t) (call q t) (call (after_moves graph q moves) t) (others-keep graph s move t l f.0) r.1)

-- A caller without a live call still has none.
pub caller-idle : (graph : Graph) (moves : List Move) (s : Core) (k : ℕ) → may_all graph s moves ≡ true → has_call k s.calls ≡ false → none_by graph k s moves ≡ true → has_call k (after_moves graph s moves).calls ≡ false
caller-idle graph [] s k m h n = h
caller-idle graph (move ∷ moves) s k m h n =
    let f = may_first graph s move moves m in
    caller-idle graph moves (after_move graph s move) k f.1 (go move f.0 (not-true _ (and_left _ _ n))) (and_right _ _ n)
  where
    idle : is_in k (live_callers s.calls) ≡ false
    idle = sym (any-field (λ (c : LiveCall). c.caller) k s.calls) ∙ h

    go : (x : Move) → may graph s x ≡ true → (caller_of s x == k) ≡ false → has_call k (after_move graph s x).calls ≡ false
    go (Begin caller c) a ne = list_any-append (λ (x : LiveCall). x.caller == k) s.calls (new_call graph s caller c ∷ []) ∙ ap₂ (λ (x y : Bool). x || (y || false)) h ne
    go (Make step) a ne = any-field (λ (c : LiveCall). c.caller) k (apply graph s step).calls ∙ step-idle graph s step a k idle

-- ---- evaluations

-- None of the moves is this one.
abbrev IsNever : Move → List Move → Type 0
IsNever it moves = AllByRecursion (λ (move : Move). move ≢ it) moves

-- An own move of a call is none of the moves of others.
own-never : (graph : Graph) (moves : List Move) (s : Core) (t : ℕ) (it : Move) → is_own_move t it ≡ true → live s t ≡ true → none_by graph (call s t).caller s moves ≡ true → IsNever it moves
own-never graph [] s t it o l n = tt
own-never graph (move ∷ moves) s t it o l n =
    let f = later graph s move moves t l n in
    (λ e. both_ways _ f.0 (subst (λ (x : Move). is_own_move t x ≡ true) (sym e) o), own-never graph moves (after_move graph s move) t it o (others-live graph s move t l f.0) f.1)

evaluate-stays_on : (graph : Graph) → KeepsLawful graph → (moves : List Move) (s : Core) → IsLawful graph s → may_all graph s moves ≡ true → (t n : ℕ) → IsNever (Make (steps.Evaluate t n)) moves → allowed graph s (steps.Evaluate t n) ≡ true
    → (allowed graph (after_moves graph s moves) (steps.Evaluate t n) ≡ true) × (found_now graph (after_moves graph s moves) t n ≡ found_now graph s t n)
evaluate-stays_on graph keeps [] s h m t n never e = (e, refl)
evaluate-stays_on graph keeps (move ∷ moves) s h m t n never e =
    let f = may_first graph s move moves m in
    let k = evaluate-stays graph s move h f.0 t n never.0 e in
    let r = evaluate-stays_on graph keeps moves (after_move graph s move) (keeps s move h f.0) f.1 t n never.1 k.0 in
    (r.0, r.1 ∙ k.1)

body-stays_on : (graph : Graph) → KeepsLawful graph → (moves : List Move) (s : Core) → IsLawful graph s → may_all graph s moves ≡ true → (t n : ℕ) → IsNever (Make (steps.Body t n)) moves → allowed graph s (steps.Body t n) ≡ true
    → (allowed graph (after_moves graph s moves) (steps.Body t n) ≡ true) × (body_now graph (after_moves graph s moves) n ≡ body_now graph s n)
body-stays_on graph keeps [] s h m t n never e = (e, refl)
body-stays_on graph keeps (move ∷ moves) s h m t n never e =
    let f = may_first graph s move moves m in
    let k = body-stays graph s move h f.0 t n never.0 e in
    let r = body-stays_on graph keeps moves (after_move graph s move) (keeps s move h f.0) f.1 t n never.1 k.0 in
    (r.0, r.1 ∙ k.1)

-- ---- after moves of others

pub evaluate-found : (graph : Graph) → KeepsLawful graph → (s : Core) → IsLawful graph s → (moves : List Move) → may_all graph s moves ≡ true → (t n : ℕ) → none_by graph (call s t).caller s moves ≡ true → allowed graph s (steps.Evaluate t n) ≡ true
    → (allowed graph (after_moves graph s moves) (steps.Evaluate t n) ≡ true) × (found_now graph (after_moves graph s moves) t n ≡ found_now graph s t n)
evaluate-found graph keeps s h moves m t n o e =
    evaluate-stays_on graph keeps moves s h m t n (own-never graph moves s t (Make (steps.Evaluate t n)) (eq-eqb t t refl) (at_front-live graph s t n (evaluate-at_front graph s t n e)) o) e

pub body-found : (graph : Graph) → KeepsLawful graph → (s : Core) → IsLawful graph s → (moves : List Move) → may_all graph s moves ≡ true → (t n : ℕ) → none_by graph (call s t).caller s moves ≡ true → allowed graph s (steps.Body t n) ≡ true
    → (allowed graph (after_moves graph s moves) (steps.Body t n) ≡ true) × (body_now graph (after_moves graph s moves) n ≡ body_now graph s n)
body-found graph keeps s h moves m t n o e =
    body-stays_on graph keeps moves s h m t n (own-never graph moves s t (Make (steps.Body t n)) (eq-eqb t t refl) (at_front-live graph s t n (body-at_front graph s t n e)) o) e
