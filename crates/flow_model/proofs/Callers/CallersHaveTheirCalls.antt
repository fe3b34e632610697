-- After a history each caller's logged and live calls are those that it has begun, and versions count the beginnings.
use Rattle.std.proofs.Common.{◌≡◌, ℕ, suc, ◌+◌, ◌≤◌, Bool, true, false, ◌==◌, refl, sym, ap, ap₂, arith, List, [], ◌∷◌, ◌++◌, length, true≢false, ◌∙◌, subst, append_assoc, append-nil}
use Rattle.signal_graph.specs.declared.call.Call.{Call}
use Rattle.signal_graph.specs.Graph.{Graph}
use Rattle.flow_model.specs.Machine.State.{Core, LiveCall, opening}
use Rattle.flow_model.specs.Machine.Steps.{begin}
use Rattle.flow_model.specs.Machine.Histories.{Move, Begin, Make, after_move, after_moves, may_all, state, is_history}
use Rattle.flow_model.specs.Kept.Lawful.{times}
use Rattle.flow_model.specs.Follows.Callers.{count_begins, begun_from, begun_by, live_of, made_by}
use Rattle.flow_model.proofs.OneStep.SameLengths.{step-begun}
use Rattle.flow_model.proofs.Histories.Moves.{may_first}
use Rattle.flow_model.proofs.Callers.OnlyBeginningsAdd.{IsCounted, live_callers, one_of, begun-made, step-IsCounted, step-made, step-within, begin-IsCounted}

opening-IsCounted : (graph : Graph) (callers limit : ℕ) → IsCounted (opening graph callers limit)
opening-IsCounted graph callers limit = record {
  fresh = record { distinct = λ x. omega arith; fit = λ u h. absurd (true≢false (sym h)); count = refl };
  apart = λ x. omega arith;
  fit = λ k h. absurd (true≢false (sym h));
  within = omega arith;
}

-- What a list of moves that may be made leads to.
pub record Counts (graph : Graph) (s : Core) (moves : List Move) : Type 0 where
  pub counted : IsCounted (after_moves graph s moves)
  pub made : (k : ℕ) → made_by (after_moves graph s moves) k ≡ made_by s k ++ begun_from k s.begun moves
  pub begun : (after_moves graph s moves).begun ≡ s.begun + count_begins moves
  pub callers : (after_moves graph s moves).callers ≡ s.callers
  pub limit : (after_moves graph s moves).limit ≡ s.limit

moves-count : (graph : Graph) (moves : List Move) (s : Core) → IsCounted s → may_all graph s moves ≡ true → Counts graph s moves
moves-count graph [] s h m = record { counted = h; made = λ k. sym (append-nil (made_by s k)); begun = omega arith; callers = refl; limit = refl }
moves-count graph (Begin caller c ∷ moves) s h m =
    let f = may_first graph s (Begin caller c) moves m in
    let r = moves-count graph moves (begin graph s caller c) (begin-IsCounted graph s caller c f.0 h) f.1 in
    record {
      counted = r.counted;
      made = λ k. r.made k
          ∙ ap (λ (ps : List (ℕ × Call)). ps ++ begun_from k (suc s.begun) moves) (begun-made graph s caller c k)
          ∙ append_assoc (made_by s k) (one_of k caller (suc s.begun, c)) (begun_from k (suc s.begun) moves)
          ∙ ap (λ (ps : List (ℕ × Call)). made_by s k ++ ps) (joins k (caller == k));
      begun = let e = r.begun in omega (arith, e);
      callers = r.callers;
      limit = r.limit;
    }
  where
    joins : (k : ℕ) (b : Bool) → elim b as (λ _. List (ℕ × Call)) [ true ↦ (suc s.begun, c) ∷ [] | false ↦ [] ] ++ begun_from k (suc s.begun) moves
        ≡ elim b as (λ _. List (ℕ × Call)) [ true ↦ (suc s.begun, c) ∷ begun_from k (suc s.begun) moves | false ↦ begun_from k (suc s.begun) moves ]
    joins k true = refl
    joins k false = refl
moves-count graph (Make step ∷ moves) s h m =
    let f = may_first graph s (Make step) moves m in
    let q = after_move graph s (Make step) in
    let r = moves-count graph moves q (step-IsCounted graph s step f.0 h) f.1 in
    let b = step-begun graph s step in
    let w = step-within graph s step f.0 in
    record {
      counted = r.counted;
      made = λ k. r.made k ∙ ap₂ (λ (ps : List (ℕ × Call)) (n : ℕ). ps ++ begun_from k n moves) (step-made graph s step f.0 h k) b;
      begun = r.begun ∙ ap (λ (n : ℕ). n + count_begins moves) b;
      callers = r.callers ∙ w.0;
      limit = r.limit ∙ w.1;
    }

-- ---- histories

pub history-counts : (graph : Graph) (callers limit : ℕ) (moves : List Move) → is_history graph callers limit moves ≡ true → Counts graph (opening graph callers limit) moves
history-counts graph callers limit moves h = moves-count graph moves (opening graph callers limit) (opening-IsCounted graph callers limit) h

pub history-made : (graph : Graph) (callers limit : ℕ) (moves : List Move) → is_history graph callers limit moves ≡ true → (k : ℕ) → made_by (state graph callers limit moves) k ≡ begun_by k moves
history-made graph callers limit moves h k = (history-counts graph callers limit moves h).made k

pub history-begun : (graph : Graph) (callers limit : ℕ) (moves : List Move) → is_history graph callers limit moves ≡ true → (state graph callers limit moves).begun ≡ count_begins moves
history-begun graph callers limit moves h = let e = (history-counts graph callers limit moves h).begun in omega (arith, e)

-- A caller has at most one live call.
pub history-one_live : (graph : Graph) (callers limit : ℕ) (moves : List Move) → is_history graph callers limit moves ≡ true → (k : ℕ) → length (live_of k (state graph callers limit moves).calls) ≤ 1
history-one_live graph callers limit moves h k = subst (λ (n : ℕ). n ≤ 1) (counted (state graph callers limit moves).calls) ((history-counts graph callers limit moves h).counted.apart k)
  where
    counted : (cs : List LiveCall) → times k (live_callers cs) ≡ length (live_of k cs)
    counted [] = refl
    counted (c ∷ cs) = go (c.caller == k) refl (counted cs)
      where
        go : (b : Bool) → (c.caller == k) ≡ b → times k (live_callers cs) ≡ length (live_of k cs) → times k (live_callers (c ∷ cs)) ≡ length (live_of k (c ∷ cs))
        go true e r = rw e (ap suc r)
        go false e r = rw e r
