-- What each seat says, said of all passes.
use Rattle.std.proofs.Common.{◌≡◌, ℕ, zero, suc, ◌+◌, ◌<◌, Bool, true, false, List, [], ◌∷◌, ◌++◌, length, get_or, Some, None, refl, sym, ap, ap₂, ◌∙◌, subst, arith}
use Rattle.std.specs.Prelude.{Option, flat_map, slice_index_or}
use Rattle.std.proofs.lemmas.List.{length-map, get_or-map}
use Rattle.std.proofs.lemmas.Bool.{and_parts}
use Rattle.signal_graph.specs.declared.call.Call.{Call}
use Rattle.signal_graph.specs.declared.log.Refused.{Refused}
use Rattle.signal_graph.specs.Graph.{Graph}
use Rattle.call_log.specs.Made.{script_of}
use Rattle.flow_model.specs.Machine.Histories.{Move}
use Rattle.caller_fronts.specs.Tokens.{Idle}
use Rattle.worker_gate.specs.declared.run.Seat.{Seat}
use Rattle.worker_gate.specs.Scripts.{HasMade, IsMade, HasMadeIt, AreMade, AreBegun}
use Rattle.worker_gate.specs.Seats.{fronts_of, callers_of, AreNumbered, pass_or, seats_of, passes_of, lists_of, all_enough, AllTaken, IsServed}

some_made : (graph : Graph) (limit k : ℕ) (script : List Call) (old new : List Move) (refused : List Refused) (b : Bool) → HasMadeIt graph limit k script old new refused b → (made : List Call) × HasMade graph k script made old new
some_made graph limit k script old new refused true m = (m.made, m.calls)
some_made graph limit k script old new refused false m = m

all_made : (graph : Graph) (limit k : ℕ) (script : List Call) (old new : List Move) (refused : List Refused) (b : Bool) → b ≡ true → HasMadeIt graph limit k script old new refused b → IsMade graph limit k script refused old new
all_made graph limit k script old new refused true e m = m
all_made graph limit k script old new refused false e m = absurd (cc)

abbrev pub no_pass : Idle
no_pass = record { caller = 0; front = [] }

pub front-at : (ts : List Idle) (i : ℕ) → i < length ts → get_or (fronts_of ts) i [] ≡ (get_or ts i no_pass).front
front-at ts i below = get_or-map (λ (p : Idle). p.front) ts i no_pass [] below

module _ {J : Type 0} where
  abbrev pub no_seat : Seat J
  no_seat = record { pass = None; refused = []; enough = true }

  -- each seat has made the script of the pass that was in it
  abbrev pub Each : Graph → ℕ → List Idle → List (List Call) → List (Seat J) → Type 0
  Each graph limit ts scripts seats = (i : ℕ) → i < length ts → IsServed graph limit (slice_index_or scripts i []) (Some (get_or ts i no_pass)) (get_or seats i no_seat)

  seat-at : (ts : List Idle) (i : ℕ) (s : Seat J) → i < length ts → get_or (seats_of ts) i s ≡ record { pass = Some (get_or ts i no_pass); refused = []; enough = true }
  seat-at ts i s below = get_or-map (λ (p : Idle). record { pass = Some p; refused = []; enough = true }) ts i no_pass s below

  pub seated : (ts : List Idle) (none seats : List (Seat J)) → seats ≡ none ++ seats_of ts → none ≡ [] → length seats ≡ length ts
  seated ts none seats is empty = ap length (is ∙ ap (λ (l : List (Seat J)). l ++ seats_of ts) empty) ∙ length-map ts (λ (p : Idle). record { pass = Some p; refused = []; enough = true })

  -- before the threads run nothing is refused
  pub none-refused : (ts : List Idle) (none seats : List (Seat J)) → seats ≡ none ++ seats_of ts → none ≡ [] → (k : ℕ) (d : Seat J) → k < length seats → (slice_index_or seats k d).refused ≡ []
  none-refused ts none seats is empty k d below =
      let whole : seats ≡ seats_of ts = is ∙ ap (λ (l : List (Seat J)). l ++ seats_of ts) empty in
      let count : length seats ≡ length ts = ap length whole ∙ length-map ts (λ (p : Idle). record { pass = Some p; refused = []; enough = true }) in
      ap (λ (l : List (Seat J)). (get_or l k d).refused) whole ∙ ap (λ (s : Seat J). s.refused) (seat-at ts k d (omega (arith, count, below)))

  pub served-Each : (graph : Graph) (limit : ℕ) (ts : List Idle) (scripts : List (List Call)) (none seats after : List (Seat J)) → seats ≡ none ++ seats_of ts → none ≡ []
      → ((i : ℕ) (s : Seat J) (d : List Call) → i < length ts → IsServed graph limit (slice_index_or scripts i d) (slice_index_or seats i s).pass (slice_index_or after i s)) → Each graph limit ts scripts after
  served-Each graph limit ts scripts none seats after is empty f i below =
      let whole : seats ≡ seats_of ts = is ∙ ap (λ (l : List (Seat J)). l ++ seats_of ts) empty in
      subst (λ (o : Option Idle). IsServed graph limit (slice_index_or scripts i []) o (get_or after i no_seat))
      (ap (λ (l : List (Seat J)). (get_or l i no_seat).pass) whole ∙ ap (λ (s : Seat J). s.pass) (seat-at ts i no_seat below))
      (f i no_seat [] below)

  -- ---- passes

  each-AllTaken : (seats : List (Seat J)) → ((i : ℕ) → i < length seats → (p : Idle) × ((get_or seats i no_seat).pass ≡ Some p)) → AllTaken seats
  each-AllTaken [] f = tt
  each-AllTaken (s ∷ seats) f = (f 0 (omega arith), each-AllTaken seats (λ i below. f (suc i) (omega (arith, below))))

  pub all-taken : (graph : Graph) (limit : ℕ) (ts : List Idle) (scripts : List (List Call)) (after : List (Seat J)) → Each graph limit ts scripts after → length after ≡ length ts → AllTaken after
  all-taken graph limit ts scripts after each same = each-AllTaken after (λ i below. let e = each i (omega (arith, same, below)) in (e.0, e.1))

  same-from : (ts : List Idle) (seats : List (Seat J)) → length seats ≡ length ts → ((i : ℕ) → i < length ts → (pass_or (get_or seats i no_seat).pass).caller ≡ (get_or ts i no_pass).caller) → callers_of (passes_of seats) ≡ callers_of ts
  same-from [] [] same f = refl
  same-from [] (s ∷ seats) same f = absurd (omega (arith, same))
  same-from (t ∷ ts) [] same f = absurd (omega (arith, same))
  same-from (t ∷ ts) (s ∷ seats) same f = ap₂ (λ (k : ℕ) (ks : List ℕ). k ∷ ks) (f 0 (omega arith)) (same-from ts seats (omega (arith, same)) (λ i below. f (suc i) (omega (arith, below))))

  pub same-callers : (graph : Graph) (limit : ℕ) (ts : List Idle) (scripts : List (List Call)) (after : List (Seat J)) → Each graph limit ts scripts after → length after ≡ length ts → callers_of (passes_of after) ≡ callers_of ts
  same-callers graph limit ts scripts after each same = same-from ts after same (λ i below. let e = each i below in ap (λ (o : Option Idle). (pass_or o).caller) e.1 ∙ e.2)

  -- ---- scripts

  front-after : (seats : List (Seat J)) (i : ℕ) (p : Idle) → i < length seats → (get_or seats i no_seat).pass ≡ Some p → get_or (fronts_of (passes_of seats)) i [] ≡ p.front
  front-after seats i p below is =
      let long : length (passes_of seats) ≡ length seats = length-map seats (λ (s : Seat J). pass_or s.pass) in
      front-at (passes_of seats) i (omega (arith, long, below))
      ∙ ap (λ (q : Idle). q.front) (get_or-map (λ (s : Seat J). pass_or s.pass) seats i no_seat no_pass below ∙ ap pass_or is)

  made-at : (graph : Graph) (limit : ℕ) (ts : List Idle) (scripts : List (List Call)) (after : List (Seat J)) → Each graph limit ts scripts after → length after ≡ length ts → AreNumbered ts → (k : ℕ) → k < length ts
      → HasMadeIt graph limit (k + 1) (script_of scripts k) (get_or (fronts_of ts) k []) (get_or (fronts_of (passes_of after)) k []) (get_or after k no_seat).refused (get_or after k no_seat).enough
  made-at graph limit ts scripts after each same numbered k below =
      let e = each k below in
      let s = get_or after k no_seat in
      subst (λ (c : ℕ). HasMadeIt graph limit c (script_of scripts k) (get_or (fronts_of ts) k []) (get_or (fronts_of (passes_of after)) k []) s.refused s.enough) (numbered k no_pass below)
      (subst (λ (f : List Move). HasMadeIt graph limit (get_or ts k no_pass).caller (script_of scripts k) f (get_or (fronts_of (passes_of after)) k []) s.refused s.enough) (sym (front-at ts k below))
      (subst (λ (f : List Move). HasMadeIt graph limit (get_or ts k no_pass).caller (script_of scripts k) (get_or ts k no_pass).front f s.refused s.enough) (sym (front-after after k e.0 (omega (arith, same, below)) e.1)) e.3))

  pub are-begun : (graph : Graph) (limit : ℕ) (ts : List Idle) (scripts : List (List Call)) (after : List (Seat J)) → Each graph limit ts scripts after → length after ≡ length ts → AreNumbered ts → length ts ≡ length scripts
      → AreBegun graph scripts (fronts_of ts) (fronts_of (passes_of after))
  are-begun graph limit ts scripts after each same numbered many k below =
      some_made graph limit (k + 1) (script_of scripts k) _ _ _ _ (made-at graph limit ts scripts after each same numbered k (omega (arith, many, below)))

  enough-at : (seats : List (Seat J)) (i : ℕ) → i < length seats → all_enough seats ≡ true → (get_or seats i no_seat).enough ≡ true
  enough-at [] i below all = absurd (omega (arith, below))
  enough-at (s ∷ seats) zero below all = (and_parts s.enough (all_enough seats) all).0
  enough-at (s ∷ seats) (suc i) below all = enough-at seats i (omega (arith, below)) (and_parts s.enough (all_enough seats) all).1

  pub are-made : (graph : Graph) (limit : ℕ) (ts : List Idle) (scripts : List (List Call)) (after : List (Seat J)) (refused : List Refused) → Each graph limit ts scripts after → length after ≡ length ts → AreNumbered ts → length ts ≡ length scripts
      → all_enough after ≡ true → refused ≡ flat_map (λ list. list) (lists_of after) → AreMade graph limit scripts refused (fronts_of ts) (fronts_of (passes_of after))
  are-made graph limit ts scripts after refused each same numbered many all laid = record {
    lists = lists_of after;
    as_many = let l : length (lists_of after) ≡ length after = length-map after (λ (s : Seat J). s.refused) in omega (arith, l, same, many);
    laid = laid;
    each = λ k below.
        let below' : k < length after = omega (arith, below, same, many) in
        subst (λ (rs : List Refused). IsMade graph limit (k + 1) (script_of scripts k) rs (get_or (fronts_of ts) k []) (get_or (fronts_of (passes_of after)) k []))
        (sym (get_or-map (λ (s : Seat J). s.refused) after k no_seat [] below'))
        (all_made graph limit (k + 1) (script_of scripts k) _ _ _ _ (enough-at after k below' all) (made-at graph limit ts scripts after each same numbered k (omega (arith, many, below))));
  }
