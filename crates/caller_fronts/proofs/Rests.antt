-- Moves after which no call lives, and who has seen the last move.
use Rattle.std.proofs.Common.{◌≡◌, ◌≢◌, ◌⊎◌, inl, inr, ⊎_elim, ℕ, Bool, true, false, ◌==◌, List, [], ◌∷◌, ◌++◌, Option, Some, refl, sym, ap, ◌∙◌, append-nil, append_assoc, subst, true≢false}
use Rattle.std.proofs.lemmas.Bool.{eq-eqb, both_ways}
use Rattle.std.specs.Prelude.{is_some}
use Rattle.std.proofs.lemmas.List.{same_from_push}
use Rattle.script_tree.proofs.Truths.{not_and_parts}
use Rattle.signal_graph.specs.declared.call.Call.{Call}
use Rattle.signal_graph.specs.Graph.{Graph}
use Rattle.flow_model.specs.declared.step.Step.{Step}
use Rattle.flow_model.specs.Machine.State.{Core, LiveCall, call_of, live, opening}
use Rattle.flow_model.specs.Machine.Steps.{apply, begin, new_call}
use Rattle.flow_model.specs.Machine.Histories.{Move, Begin, Make, after_move, after_moves, state}
use Rattle.flow_model.specs.Follows.Others.{none_by, caller_of}
use Rattle.flow_model.proofs.Histories.Moves.{after_parts}
use Rattle.flow_model.proofs.OneStep.CallsLiveOn.{Continues, IsEnd, step-continues}
use Rattle.caller_fronts.specs.Fronts.{IsLater, IsEndLast, RestsAtEnds}

-- ---- whether a call lives

pub some-live : (s : Core) (t : ℕ) → live s t ≡ true → s.calls ≢ []
some-live s t l none = true≢false (sym l ∙ ap (λ (cs : List LiveCall). is_some (call_of cs t)) none)

any-live : (s : Core) (cs : List LiveCall) → s.calls ≡ cs → cs ≢ [] → (t : ℕ) × (live s t ≡ true)
any-live s [] e some = absurd (some refl)
any-live s (c ∷ cs) e some =
    (c.version, ap (λ (l : List LiveCall). is_some (call_of l c.version)) e ∙ itself (c.version == c.version) (eq-eqb c.version c.version refl))
  where
    itself : (b : Bool) → b ≡ true → is_some (elim b as (λ _. Option LiveCall) [ true ↦ Some c | false ↦ call_of cs c.version ]) ≡ true
    itself true h = refl
    itself false h = absurd (true≢false (sym h))

pushed : (cs : List LiveCall) (x : LiveCall) → cs ++ x ∷ [] ≢ []
pushed [] x e = absurd (cc (e))
pushed (c ∷ cs) x e = absurd (cc (e))

pub begin-rests : (graph : Graph) (callers limit caller : ℕ) (moves : List Move) (call : Call) → RestsAtEnds graph callers limit (moves ++ Begin caller call ∷ [])
begin-rests graph callers limit caller moves call =
    let s = state graph callers limit moves in
    let after : state graph callers limit (moves ++ Begin caller call ∷ []) ≡ begin graph s caller call = after_parts graph moves (Begin caller call ∷ []) (opening graph callers limit) in record {
      last = λ none. absurd (pushed s.calls (new_call graph s caller call) (ap (λ (q : Core). q.calls) (sym after) ∙ none));
    }

pub step-rests : (graph : Graph) (callers limit : ℕ) (moves : List Move) (step : Step) → (state graph callers limit moves).calls ≢ []
    → RestsAtEnds graph callers limit (moves ++ Make step ∷ [])
step-rests graph callers limit moves step some =
    let s = state graph callers limit moves in
    let after : state graph callers limit (moves ++ Make step ∷ []) ≡ apply graph s step = after_parts graph moves (Make step ∷ []) (opening graph callers limit) in
    let l = any-live s s.calls refl some in record {
      last = λ none. ⊎_elim
          (λ (c : Continues s (apply graph s step)). absurd (some-live (apply graph s step) l.0 (c.lives l.0 ∙ l.1) (ap (λ (q : Core). q.calls) (sym after) ∙ none)))
          (λ (e : IsEnd step). inr (end_last moves step e))
          (step-continues graph s step);
    }
  where
    end_last : (moves : List Move) (step : Step) → IsEnd step → IsEndLast (moves ++ Make step ∷ [])
    end_last moves step e = record { earlier = moves; version = e.0; split = ap (λ (x : Step). moves ++ Make x ∷ []) e.1 }

-- ---- the last move

abbrev Ends : List Move → Type 0
Ends xs = (first : List Move) × (x : Move) × (xs ≡ first ++ x ∷ [])

ends : (xs : List Move) → (xs ≡ []) ⊎ Ends xs
ends [] = inl refl
ends (x ∷ xs) =
    inr (⊎_elim
    (λ (none : xs ≡ []). ([], x, ap (λ (l : List Move). x ∷ l) none))
    (λ (e : Ends xs). (x ∷ e.0, e.1, ap (λ (l : List Move). x ∷ l) e.2))
    (ends xs))

none-last : (graph : Graph) (k : ℕ) (s : Core) (xs : List Move) (x : Move) → none_by graph k s (xs ++ x ∷ []) ≡ true → (caller_of (after_moves graph s xs) x == k) ≡ false
none-last graph k s [] x h = (not_and_parts (caller_of s x == k) _ h).0
none-last graph k s (y ∷ ys) x h = none-last graph k (after_move graph s y) ys x (not_and_parts (caller_of s y == k) _ h).1

pub last-seen : (graph : Graph) (callers limit k : ℕ) (front earlier : List Move) (move : Move) → IsLater graph callers limit k front (earlier ++ move ∷ [])
    → caller_of (state graph callers limit earlier) move ≡ k → front ≡ earlier ++ move ∷ []
last-seen graph callers limit k front earlier move l mine = ⊎_elim
    (λ (none : l.rest ≡ []). sym (append-nil front) ∙ ap (λ (r : List Move). front ++ r) (sym none) ∙ l.joined)
    (λ (e : Ends l.rest).
    let both : front ++ e.0 ++ e.1 ∷ [] ≡ earlier ++ move ∷ [] = append_assoc front e.0 (e.1 ∷ []) ∙ ap (λ (r : List Move). front ++ r) (sym e.2) ∙ l.joined in
    let same = same_from_push (front ++ e.0) earlier e.1 move both in
    let q = after_moves graph (state graph callers limit front) e.0 in
    let other : (caller_of q e.1 == k) ≡ false
    = none-last graph k (state graph callers limit front) e.0 e.1 (subst (λ (r : List Move). none_by graph k (state graph callers limit front) r ≡ true) e.2 l.others) in
    let at : q ≡ state graph callers limit earlier = sym (after_parts graph front e.0 (opening graph callers limit)) ∙ ap (state graph callers limit) same.0 in
    let is : caller_of q e.1 ≡ k = ap (λ (s : Core). caller_of s e.1) at ∙ ap (caller_of (state graph callers limit earlier)) same.1 ∙ mine in
    absurd (both_ways _ other (eq-eqb _ k is)))
    (ends l.rest)
