-- The calls that a caller begins, along moves.
use Rattle.std.proofs.Common.{◌≡◌, ℕ, suc, ◌+◌, Bool, true, false, not, ◌==◌, List, [], ◌∷◌, ◌++◌, refl, sym, ap, ◌∙◌, append-nil, append_assoc, subst, arith, zero-add}
use Rattle.std.proofs.lemmas.Bool.{and_parts, and_from}
use Rattle.script_tree.proofs.Truths.{not_and_parts}
use Rattle.signal_graph.specs.declared.call.Call.{Call}
use Rattle.signal_graph.specs.Graph.{Graph}
use Rattle.flow_model.specs.Machine.State.{Core, opening}
use Rattle.flow_model.specs.Machine.Histories.{Move, Begin, Make, after_move, after_moves, state, is_history}
use Rattle.flow_model.specs.Follows.Callers.{begun_from, begun_by, count_begins}
use Rattle.flow_model.specs.Follows.Others.{none_by, caller_of}
use Rattle.flow_model.proofs.Histories.Moves.{after_parts}
use Rattle.caller_fronts.specs.Fronts.{IsLater}

-- ---- moves of others

pub none-append : (graph : Graph) (k : ℕ) (s : Core) (xs ys : List Move) → none_by graph k s xs ≡ true → none_by graph k (after_moves graph s xs) ys ≡ true
    → none_by graph k s (xs ++ ys) ≡ true
none-append graph k s [] ys h more = more
none-append graph k s (x ∷ xs) ys h more =
    let both = and_parts (not (caller_of s x == k)) _ h in
    and_from _ _ both.0 (none-append graph k (after_move graph s x) xs ys both.1 more)

-- ---- the calls that begin

pub begun-append : (k from : ℕ) (xs ys : List Move) → begun_from k from (xs ++ ys) ≡ begun_from k from xs ++ begun_from k (from + count_begins xs) ys
begun-append k from [] ys = ap (λ (n : ℕ). begun_from k n ys) (omega arith)
begun-append k from (Begin caller call ∷ xs) ys =
    let r : begun_from k (suc from) (xs ++ ys) ≡ begun_from k (suc from) xs ++ begun_from k (from + suc (count_begins xs)) ys
    = begun-append k (suc from) xs ys ∙ ap (λ (n : ℕ). begun_from k (suc from) xs ++ begun_from k n ys) (omega arith) in
    go (caller == k) r
  where
    go : (b : Bool) → begun_from k (suc from) (xs ++ ys) ≡ begun_from k (suc from) xs ++ begun_from k (from + suc (count_begins xs)) ys
        → elim b as (λ _. List (ℕ × Call)) [ true ↦ (suc from, call) ∷ begun_from k (suc from) (xs ++ ys) | false ↦ begun_from k (suc from) (xs ++ ys) ]
        ≡ elim b as (λ _. List (ℕ × Call)) [ true ↦ (suc from, call) ∷ begun_from k (suc from) xs | false ↦ begun_from k (suc from) xs ] ++ begun_from k (from + suc (count_begins xs)) ys
    go true r = ap (λ (l : List (ℕ × Call)). (suc from, call) ∷ l) r
    go false r = r
begun-append k from (Make step ∷ xs) ys = begun-append k from xs ys

none-begin : (graph : Graph) (k from : ℕ) (s : Core) (moves : List Move) → none_by graph k s moves ≡ true → begun_from k from moves ≡ []
none-begin graph k from s [] h = refl
none-begin graph k from s (Begin caller call ∷ moves) h =
    let f = not_and_parts (caller == k) _ h in
    go (caller == k) f.0 (none-begin graph k (suc from) (after_move graph s (Begin caller call)) moves f.1)
  where
    go : (b : Bool) → b ≡ false → begun_from k (suc from) moves ≡ []
        → elim b as (λ _. List (ℕ × Call)) [ true ↦ (suc from, call) ∷ begun_from k (suc from) moves | false ↦ begun_from k (suc from) moves ] ≡ []
    go true h r = absurd (cc)
    go false h r = r
none-begin graph k from s (Make step ∷ moves) h = none-begin graph k from (after_move graph s (Make step)) moves (not_and_parts (caller_of s (Make step) == k) _ h).1

pub calls-stay : (graph : Graph) (callers limit k : ℕ) (front later : List Move) → IsLater graph callers limit k front later → begun_by k later ≡ begun_by k front
calls-stay graph callers limit k front later l =
    ap (begun_by k) (sym l.joined) ∙ begun-append k 0 front l.rest
    ∙ ap (λ (n : ℕ). begun_by k front ++ begun_from k n l.rest) (zero-add (count_begins front))
    ∙ ap (λ (cs : List (ℕ × Call)). begun_by k front ++ cs) (none-begin graph k (count_begins front) (state graph callers limit front) l.rest l.others)
    ∙ append-nil (begun_by k front)

-- ---- later histories

pub later-same : (graph : Graph) (callers limit k : ℕ) (front : List Move) → is_history graph callers limit front ≡ true → IsLater graph callers limit k front front
later-same graph callers limit k front h = record { rest = []; joined = append-nil front; history = h; others = refl }

pub later-on : (graph : Graph) (callers limit k : ℕ) (front later last : List Move) → IsLater graph callers limit k front later → IsLater graph callers limit k later last
    → IsLater graph callers limit k front last
later-on graph callers limit k front later last l m = record {
  rest = l.rest ++ m.rest;
  joined = sym (append_assoc front l.rest m.rest) ∙ ap (λ (x : List Move). x ++ m.rest) l.joined ∙ m.joined;
  history = m.history;
  others = none-append graph k (state graph callers limit front) l.rest m.rest l.others
      (subst (λ (s : Core). none_by graph k s m.rest ≡ true)
      (ap (state graph callers limit) (sym l.joined) ∙ after_parts graph front l.rest (opening graph callers limit)) m.others);
}
