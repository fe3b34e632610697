-- Runs of a core are histories of the machine.
use Rattle.std.proofs.Common.{◌≡◌, ℕ, suc, ◌⊎◌, inl, inr, Bool, true, false, List, [], ◌∷◌, ◌++◌, nat_lt, refl, sym, ap, ◌∙◌, arith}
use Rattle.std.proofs.lemmas.Bool.{true≢false, and_parts, and_from, cases_Bool}
use Rattle.signal_graph.specs.Graph.{Graph}
use Rattle.flow_model.specs.declared.step.Step.{Step}
use Rattle.flow_model.specs.Machine.Steps.{can_begin, allowed}
use Rattle.flow_model.specs.Machine.Histories.{Move, Begin, Make, may_all, after_moves, is_history}
use Rattle.interleave_core.specs.Whole.{Whole, after}
use Rattle.interleave_core.specs.Opening.{opened_core}
use Rattle.interleave_core.specs.Rooms.{one_room_more, one_room_less, after_beginning}
use Rattle.interleave_core.specs.Runs.{Act, MakeRoom, GiveBack, BeginCall, MakeStep, can, after_acts, can_all, is_run, moves_of, acts_of}

pub record IsAtMoves (core : Whole) (acts : List Act) : Type 0 where
  pub may : may_all core.graph core.state (moves_of acts) ≡ true
  pub graph : (after_acts core acts).graph ≡ core.graph
  pub state : (after_acts core acts).state ≡ after_moves core.graph core.state (moves_of acts)

may_more : (b c : Bool) → b ≡ true → c ≡ true → elim b as (λ _. Bool) [ true ↦ c | false ↦ false ] ≡ true
may_more true c h k = k
may_more false c h k = h

pub run_moves : (acts : List Act) (core : Whole) → can_all core acts ≡ true → IsAtMoves core acts
run_moves [] core h = record { may = refl; graph = refl; state = refl }
run_moves (MakeRoom ∷ acts) core h =
    let r = run_moves acts (one_room_more core) (and_parts true _ h).1 in
    record { may = r.may; graph = r.graph; state = r.state }
run_moves (GiveBack ∷ acts) core h =
    let r = run_moves acts (one_room_less core) (and_parts (nat_lt 0 core.rooms) _ h).1 in
    record { may = r.may; graph = r.graph; state = r.state }
run_moves (BeginCall caller call ∷ acts) core h =
    let both = and_parts (can core (BeginCall caller call)) _ h in
    let r = run_moves acts (after_beginning core caller call) both.1 in
    record { may = may_more (can_begin core.graph core.state caller call) _ (and_parts (can_begin core.graph core.state caller call) _ both.0).0 r.may; graph = r.graph; state = r.state }
run_moves (MakeStep step ∷ acts) core h =
    let both = and_parts (can core (MakeStep step)) _ h in
    let r = run_moves acts (after core step) both.1 in
    record { may = may_more (allowed core.graph core.state step) _ both.0 r.may; graph = r.graph; state = r.state }

may_parts : (b c : Bool) → elim b as (λ _. Bool) [ true ↦ c | false ↦ false ] ≡ true → (b ≡ true) × (c ≡ true)
may_parts true c h = (refl, h)
may_parts false c h = absurd (true≢false (sym h))

pub moves_run : (moves : List Move) (core : Whole) → may_all core.graph core.state moves ≡ true → can_all core (acts_of moves) ≡ true
moves_run [] core h = refl
moves_run (Begin caller call ∷ moves) core h =
    let both = may_parts (can_begin core.graph core.state caller call) _ h in
    let out : nat_lt 0 (suc core.rooms) ≡ true = grind arith in
    and_from true _ refl (and_from _ _ (and_from _ _ both.0 out) (moves_run moves (after_beginning (one_room_more core) caller call) both.1))
moves_run (Make step ∷ moves) core h =
    let both = may_parts (allowed core.graph core.state step) _ h in
    and_from _ _ both.0 (moves_run moves (after core step) both.1)

pub same_moves : (moves : List Move) → moves_of (acts_of moves) ≡ moves
same_moves [] = refl
same_moves (Begin caller call ∷ moves) = ap (λ (ms : List Move). Begin caller call ∷ ms) (same_moves moves)
same_moves (Make step ∷ moves) = ap (λ (ms : List Move). Make step ∷ ms) (same_moves moves)

pub moves-append : (acts more : List Act) → moves_of (acts ++ more) ≡ moves_of acts ++ moves_of more
moves-append [] more = refl
moves-append (MakeRoom ∷ acts) more = moves-append acts more
moves-append (GiveBack ∷ acts) more = moves-append acts more
moves-append (BeginCall caller call ∷ acts) more = ap (λ (ms : List Move). Begin caller call ∷ ms) (moves-append acts more)
moves-append (MakeStep step ∷ acts) more = ap (λ (ms : List Move). Make step ∷ ms) (moves-append acts more)

-- a step twice in a run is twice in its history
pub step_twice : (first more rest : List Act) (step : Step)
    → moves_of (first ++ (MakeStep step ∷ (more ++ (MakeStep step ∷ rest)))) ≡ moves_of first ++ (Make step ∷ (moves_of more ++ (Make step ∷ moves_of rest)))
step_twice first more rest step = moves-append first _ ∙ ap (λ (ms : List Move). moves_of first ++ (Make step ∷ ms)) (moves-append more _)

-- no run has what no history has
pub no_run : (graph : Graph) (callers limit : ℕ) (acts : List Act) (moves : List Move) → moves_of acts ≡ moves
    → is_history graph callers limit moves ≡ false → is_run graph callers limit acts ≡ false
no_run graph callers limit acts moves e f = go (cases_Bool (is_run graph callers limit acts))
  where
    go : (is_run graph callers limit acts ≡ true) ⊎ (is_run graph callers limit acts ≡ false) → is_run graph callers limit acts ≡ false
    go (inl h) = absurd (true≢false (sym (run_moves acts (opened_core graph callers limit) h).may ∙ ap (is_history graph callers limit) e ∙ f))
    go (inr h) = h
