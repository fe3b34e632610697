-- What keys tell of the moves of a history.
use Rattle.std.proofs.Common.{◌≡◌, ℕ, zero, suc, ◌<◌, Bool, true, false, not, ◌||◌, ◌==◌, List, [], ◌∷◌, ◌++◌, refl, sym, ap, ◌∙◌, subst, arith}
use Rattle.std.proofs.lemmas.List.{map-append}
use Rattle.std.proofs.lemmas.Bool.Decides.{eqb_tells}
use Rattle.std.proofs.lemmas.Bool.{and_from}
use Rattle.signal_graph.specs.Graph.{Graph}
use Rattle.chronicle.specs.declared.entry.Entry.{Entry}
use Rattle.chronicle.specs.Entries.{events, has_key, WithoutKey, IsPrefixWithAll}
use Rattle.flow_model.specs.Machine.State.{Core, opening}
use Rattle.flow_model.specs.Machine.Histories.{Move, may, after_move, after_moves, state, is_history}
use Rattle.flow_model.specs.Follows.Others.{none_by, caller_of}
use Rattle.flow_model.proofs.Histories.Moves.{after_parts}
use Rattle.flow_model.proofs.Schedules.SchedulesMakeHistories.{may_all-more}
use Rattle.caller_fronts.specs.Fronts.{IsLater}
use Rattle.caller_fronts.specs.Keys.{AreKeyed}

pub events-append : (xs ys : List (Entry Move)) → events (xs ++ ys) ≡ events xs ++ events ys
events-append xs ys = map-append (λ (e : Entry Move). e.event) xs ys

keyed-rest : (graph : Graph) (s : Core) (xs ys : List (Entry Move)) → AreKeyed graph s (xs ++ ys) → AreKeyed graph (after_moves graph s (events xs)) ys
keyed-rest graph s [] ys k = k
keyed-rest graph s (x ∷ xs) ys k = keyed-rest graph (after_move graph s x.event) xs ys k.2

pub keyed-more : (graph : Graph) (s : Core) (xs : List (Entry Move)) (e : Entry Move) → AreKeyed graph s xs → e.first_key ≡ caller_of (after_moves graph s (events xs)) e.event → e.second_key ≡ 0
    → AreKeyed graph s (xs ++ e ∷ [])
keyed-more graph s [] e k first second = (first, second, tt)
keyed-more graph s (x ∷ xs) e k first second = (k.0, k.1, keyed-more graph (after_move graph s x.event) xs e k.2 first second)

-- an entry that is not of a key is not under it
other_key : (k : ℕ) (e : Entry Move) (c : ℕ) → 0 < k → has_key k e ≡ false → e.first_key ≡ c → (c == k) ≡ false
other_key zero e c some h is = absurd (omega (arith, some))
other_key (suc k) e c some h is = subst (λ (x : ℕ). (x == suc k) ≡ false) is (turned (suc k) e.first_key (first (suc k == e.first_key) _ h))
  where
    first : (a b : Bool) → (a || b) ≡ false → a ≡ false
    first true b h = h
    first false b h = refl

    turned : (a b : ℕ) → (a == b) ≡ false → (b == a) ≡ false
    turned a b h = grind (arith, eqb_tells)

keyed-others : (graph : Graph) (k : ℕ) (s : Core) (es : List (Entry Move)) → 0 < k → AreKeyed graph s es → WithoutKey k es → none_by graph k s (events es) ≡ true
keyed-others graph k s [] some keyed without = refl
keyed-others graph k s (e ∷ es) some keyed without =
    and_from _ _ (ap not (other_key k e (caller_of s e.event) some without.0 keyed.0)) (keyed-others graph k (after_move graph s e.event) es some keyed.2 without.1)

pub front-later : (graph : Graph) (callers limit k : ℕ) (xs ys : List (Entry Move)) → 0 < k → is_history graph callers limit (events ys) ≡ true
    → AreKeyed graph (opening graph callers limit) ys → IsPrefixWithAll k xs ys → IsLater graph callers limit k (events xs) (events ys)
front-later graph callers limit k xs ys some history keyed p = record {
  rest = events p.rest;
  joined = sym (events-append xs p.rest) ∙ ap events p.joined;
  history = history;
  others = keyed-others graph k (state graph callers limit (events xs)) p.rest some
      (keyed-rest graph (opening graph callers limit) xs p.rest (subst (AreKeyed graph (opening graph callers limit)) (sym p.joined) keyed)) p.none_left;
}

pub history-more : (graph : Graph) (callers limit : ℕ) (moves : List Move) (move : Move) → is_history graph callers limit moves ≡ true → may graph (state graph callers limit moves) move ≡ true
    → (is_history graph callers limit (moves ++ move ∷ []) ≡ true) × (state graph callers limit (moves ++ move ∷ []) ≡ after_move graph (state graph callers limit moves) move)
history-more graph callers limit moves move h m = (may_all-more graph moves (opening graph callers limit) move h m, after_parts graph moves (move ∷ []) (opening graph callers limit))
