-- A history has at most 140 moves for each node, and 200 more, for each call that begins.
-- Each beginning adds so much worth, and each step takes some away.
use Rattle.std.proofs.Common.{◌≡◌, ℕ, suc, ◌+◌, ◌*◌, ◌≤◌, true, refl, ap, arith, List, [], ◌∷◌, length, map, ◌∙◌}
use Rattle.std.proofs.Math.Nat.{suc-mul, mul-add, add-mul, mul_left_comm, mul-le-mul_left}
use Rattle.std.proofs.lemmas.List.{length-map}
use Rattle.signal_graph.specs.declared.call.Call.{Call}
use Rattle.signal_graph.specs.Graph.{Graph, IsGraph, is_in}
use Rattle.node_versions.specs.Entries.{at, is_done, is_frame, is_mark}
use Rattle.flow_model.specs.declared.step.Step.{Step}
use Rattle.flow_model.specs.Machine.State.{Core, LiveCall, entries, opening}
use Rattle.flow_model.specs.Machine.Steps.{begin, apply}
use Rattle.flow_model.specs.Kept.Lawful.{IsLawful}
use Rattle.flow_model.specs.Machine.Histories.{Move, Begin, Make, after_move, after_moves, may_all, is_history}
use Rattle.flow_model.specs.Follows.Callers.{count_begins}
use Rattle.flow_model.specs.Follows.Lengths.{AreNext}
use Rattle.flow_model.proofs.Lengths.FewInputs.{HasFewInputs}
use Rattle.flow_model.proofs.Opening.OpeningLists.{opening-IsStart}
use Rattle.flow_model.proofs.Opening.OpeningIsLawful.{opening-lawful}
use Rattle.flow_model.proofs.Together.NextIsAllowed.{next-allowed}
use Rattle.flow_model.proofs.Histories.Moves.{KeepsLawful, may_first}
use Rattle.flow_model.proofs.General.Sums.{total, total-le, total-le_in, total-add, total-const, up_to, up_to-below, up_to-length}
use Rattle.flow_model.proofs.Lengths.ListWorth.{live_versions, weight, weigh-most}
use Rattle.flow_model.proofs.Lengths.WorkDone.{work}
use Rattle.flow_model.proofs.Lengths.WorkIsBounded.{work-bound, work-worth}
use Rattle.flow_model.proofs.Lengths.CallWorth.{call_worth, call_worth-most, begin-versions, begin-calls_worth}
use Rattle.flow_model.proofs.Lengths.WorthFalls.{node_worth, worth, work_done, step-falls}

-- so much for each node
const-nodes : (graph : Graph) (k : ℕ) → total (λ (n : ℕ). k) (up_to (length graph.nodes)) ≡ length graph.nodes * k
const-nodes graph k = total-const k (up_to (length graph.nodes)) ∙ ap (λ (x : ℕ). x * k) (up_to-length (length graph.nodes))

-- ---- a beginning

-- the worth that a beginning may add
abbrev pub begin_worth : Graph → ℕ
begin_worth graph = length graph.nodes * 83 + 66

begin-node : (graph : Graph) (s : Core) (caller : ℕ) (c : Call) (n : ℕ) → node_worth (begin graph s caller c) n ≤ node_worth s n + 83
begin-node graph s caller c n =
    let v = begin-versions (weight 80 (entries s n)) graph s caller c in
    let m = weigh-most 80 (at is_done (entries s n) (suc s.begun)) (at is_frame (entries s n) (suc s.begun)) (at is_mark (entries s n) (suc s.begun)) in
    omega (arith, v, m)

begin-adds : (graph : Graph) (s : Core) (caller : ℕ) (c : Call) → worth graph (begin graph s caller c) ≤ worth graph s + begin_worth graph
begin-adds graph s caller c =
    let a = total-le (node_worth (begin graph s caller c)) (λ (n : ℕ). node_worth s n + 83) (up_to (length graph.nodes)) (begin-node graph s caller c) in
    let b = total-add (node_worth s) (λ (n : ℕ). 83) (up_to (length graph.nodes)) in
    let d = const-nodes graph 83 in
    let e = begin-calls_worth graph s caller c in
    omega (arith, a, b, d, e)

-- ---- moves

-- After some moves the state is lawful, and there are no more moves than worth was there and came.
record Ends (graph : Graph) (moves : List Move) (s q : Core) : Type 0 where
  lawful : IsLawful graph q
  length : length moves + (worth graph q + work_done graph s) ≤ worth graph s + work_done graph q + count_begins moves * suc (begin_worth graph)

moves-end : (graph : Graph) → IsGraph graph → HasFewInputs graph → KeepsLawful graph → (moves : List Move) (s : Core) → IsLawful graph s → may_all graph s moves ≡ true → Ends graph moves s (after_moves graph s moves)
moves-end graph g few keeps [] s h m = record { lawful = h; length = omega arith }
moves-end graph g few keeps (Begin caller call ∷ moves) s h m =
    let a = may_first graph s (Begin caller call) moves m in
    let r = moves-end graph g few keeps moves (begin graph s caller call) (keeps s (Begin caller call) h a.0) a.1 in
    let b = begin-adds graph s caller call in
    record { lawful = r.lawful; length = begun (length moves) (count_begins moves) (begin_worth graph) (worth graph (after_moves graph (begin graph s caller call) moves)) (work_done graph s) (worth graph s) (work_done graph (after_moves graph (begin graph s caller call) moves)) (worth graph (begin graph s caller call)) r.length b }
  where
    begun : (l b x q w s v p : ℕ) → l + (q + w) ≤ p + v + b * suc x → p ≤ s + x → suc l + (q + w) ≤ s + v + suc b * suc x
    begun l b x q w s v p h k = let e = suc-mul b (suc x) in omega (arith, h, k, e)
moves-end graph g few keeps (Make step ∷ moves) s h m =
    let a = may_first graph s (Make step) moves m in
    let q = after_move graph s (Make step) in
    let r = moves-end graph g few keeps moves q (keeps s (Make step) h a.0) a.1 in
    let b = step-falls graph g few s h step a.0 in
    record { lawful = r.lawful; length = let c = r.length in omega (arith, b, c) }

-- ---- the first and the last state

-- A lawful state is worth more than the work that is done, by one a node.
lawful-worth : (graph : Graph) → IsGraph graph → HasFewInputs graph → (s : Core) → IsLawful graph s → work_done graph s + length graph.nodes ≤ worth graph s
lawful-worth graph g few s h =
    let a = total-le_in (λ (n : ℕ). work graph s n + 1) (node_worth s) (up_to (length graph.nodes)) one in
    let b = total-add (work graph s) (λ (n : ℕ). 1) (up_to (length graph.nodes)) in
    let c = const-nodes graph 1 in
    omega (arith, a, b, c)
  where
    one : (n : ℕ) → is_in n (up_to (length graph.nodes)) ≡ true → work graph s n + 1 ≤ node_worth s n
    one n i =
        let l = up_to-below n (length graph.nodes) i in
        let e = h.lists in
        let w = work-bound graph g few s h n in
        work-worth graph 80 s h n (omega (arith, l, e)) (omega (arith, w))

opening-worth : (graph : Graph) (callers limit : ℕ) → worth graph (opening graph callers limit) ≤ length graph.nodes
opening-worth graph callers limit =
    let a = total-le (node_worth (opening graph callers limit)) (λ (n : ℕ). 1) (up_to (length graph.nodes)) (λ n. let f = (opening-IsStart graph callers limit n).few in omega (arith, f)) in
    let c = const-nodes graph 1 in
    omega (arith, a, c)

-- ---- the bound

small : (n b : ℕ) → b * suc (n * 83 + 66) ≤ b * (140 * n + 200)
small n b = mul-le-mul_left b (omega arith)

pub history-length : (graph : Graph) → IsGraph graph → HasFewInputs graph → KeepsLawful graph → (callers limit : ℕ) (moves : List Move) → is_history graph callers limit moves ≡ true → length moves ≤ count_begins moves * (140 * length graph.nodes + 200)
history-length graph g few keeps callers limit moves m =
    let s = opening graph callers limit in
    let r = moves-end graph g few keeps moves s (opening-lawful graph g callers limit) m in
    let a = r.length in
    let b = opening-worth graph callers limit in
    let c = lawful-worth graph g few (after_moves graph s moves) r.lawful in
    let d = small (length graph.nodes) (count_begins moves) in
    omega (arith, a, b, c, d)

-- ---- from any lawful state

-- A live call is worth no more than a beginning adds.
state-worth : (graph : Graph) (s : Core) → IsLawful graph s → worth graph s ≤ length graph.nodes * (s.callers + 9) + length s.calls * begin_worth graph
state-worth graph s h =
    let a = total-le (node_worth s) (λ (n : ℕ). (s.callers + 9) + length s.calls * 83) (up_to (length graph.nodes)) node in
    let b = total-add (λ (n : ℕ). s.callers + 9) (λ (n : ℕ). length s.calls * 83) (up_to (length graph.nodes)) in
    let c = const-nodes graph (s.callers + 9) in
    let d = const-nodes graph (length s.calls * 83) in
    let e = total-le call_worth (λ (x : LiveCall). 66) s.calls call_worth-most in
    let f = total-const 66 s.calls in
    let i = mul-add (length s.calls) (length graph.nodes * 83) 66 in
    let j = mul_left_comm (length graph.nodes) (length s.calls) 83 in
    omega (arith, a, b, c, d, e, f, i, j)
  where
    node : (n : ℕ) → node_worth s n ≤ (s.callers + 9) + length s.calls * 83
    node n =
        let r = h.room_is_kept.room n in
        let w = total-le (weight 80 (entries s n)) (λ (v : ℕ). 83) (live_versions s) (λ v. weigh-most 80 (at is_done (entries s n) v) (at is_frame (entries s n) v) (at is_mark (entries s n) v)) in
        let k = total-const 83 (live_versions s) in
        let l : length (live_versions s) * 83 ≡ length s.calls * 83 = ap (λ (x : ℕ). x * 83) (length-map s.calls (λ (c : LiveCall). c.version)) in
        omega (arith, r, w, k, l)

-- So many moves at most lead on from a lawful state: for each live call and each beginning, and for each entry.
pub moves-length : (graph : Graph) → IsGraph graph → HasFewInputs graph → KeepsLawful graph → (s : Core) → IsLawful graph s → (moves : List Move) → may_all graph s moves ≡ true
    → length moves ≤ (length s.calls + count_begins moves) * (140 * length graph.nodes + 200) + length graph.nodes * (s.callers + 9)
moves-length graph g few keeps s h moves m =
    let r = moves-end graph g few keeps moves s h m in
    let a = r.length in
    let b = state-worth graph s h in
    let c = lawful-worth graph g few (after_moves graph s moves) r.lawful in
    let d = small (length graph.nodes) (count_begins moves) in
    let e = live (length graph.nodes) (length s.calls) in
    let f = add-mul (length s.calls) (count_begins moves) (140 * length graph.nodes + 200) in
    omega (arith, a, b, c, d, e, f)
  where
    live : (n b : ℕ) → b * (n * 83 + 66) ≤ b * (140 * n + 200)
    live n b = mul-le-mul_left b (omega arith)

-- ---- one call alone

-- The next steps of a call are moves that may be made, none of them a beginning.
next-moves : (graph : Graph) → IsGraph graph → KeepsLawful graph → (t : ℕ) (steps : List Step) (s : Core) → IsLawful graph s → AreNext graph t s steps → may_all graph s (map Make steps) ≡ true
next-moves graph g keeps t [] s h n = refl
next-moves graph g keeps t (step ∷ steps) s h n =
    let a = next-allowed graph g s h t n.0 step n.1 in
    let r = next-moves graph g keeps t steps (apply graph s step) (keeps s (Make step) h a) n.2 in
    rw (a, may_all) r

none-begins : (steps : List Step) → count_begins (map Make steps) ≡ 0
none-begins [] = refl
none-begins (step ∷ steps) = none-begins steps

pub next-length : (graph : Graph) → IsGraph graph → HasFewInputs graph → KeepsLawful graph → (s : Core) → IsLawful graph s → (t : ℕ) (steps : List Step) → AreNext graph t s steps
    → length steps ≤ length s.calls * (140 * length graph.nodes + 200) + length graph.nodes * (s.callers + 9)
next-length graph g few keeps s h t steps n =
    let a = moves-length graph g few keeps s h (map Make steps) (next-moves graph g keeps t steps s h n) in
    let b = length-map steps Make in
    let c : (length s.calls + count_begins (map Make steps)) * (140 * length graph.nodes + 200) ≡ length s.calls * (140 * length graph.nodes + 200) = ap (λ (k : ℕ). k * (140 * length graph.nodes + 200)) (let e = none-begins steps in omega (arith, e)) in
    omega (arith, a, b, c)
