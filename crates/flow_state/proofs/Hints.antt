-- Where a hint is right.
use Rattle.std.proofs.Common.{◌≡◌, ◌≢◌, ℕ, ◌<◌, Bool, true, false, List, sym, ap, ◌∙◌, subst, refl}
use Rattle.order_graph.specs.Order.{Order}
use Rattle.flow_model.specs.Machine.State.{LiveCall}
use Rattle.flow_state.specs.declared.seating.Tenant.{Tenant}
use Rattle.flow_state.specs.Seats.{Seated, LiveCalls, find_call, has_call, version_at, call_at, live_calls, slot_in, has_version, has_slot, AreSeats}
use Rattle.flow_state.proofs.SeatLemmas.{slot_is, slot_same, calls-has}
use Rattle.flow_state.proofs.PairLemmas.{slot-version, one_slot}

-- A seat with a call's version is where it sits.
pub hint_is : (callers nodes capacity : ℕ) (seats : List Seated) (live : List Tenant) (order : Order) (t k : ℕ) (seen : LiveCalls) → AreSeats callers nodes capacity seats live order → live_calls callers nodes seats live order ≡ seen → k < callers → version_at seats k ≡ t → t ≢ 0 → (has_call seen t ≡ true) × (k ≡ (find_call seen t).slot)
hint_is callers nodes capacity seats live order t k seen kept view below is some =
    let taken : has_slot live k ≡ true = go (has_slot live k) refl in
    let there : has_version live t ≡ true = subst (λ (v : ℕ). has_version live v ≡ true) is (slot-version seats live k kept.tenants taken) in
    let at = slot_is seats live t kept.tenants there in
    let same : slot_in live t ≡ k = one_slot seats live (slot_in live t) k kept.tenants at.there taken (at.version ∙ sym is) in (
      sym (ap (λ (l : LiveCalls). has_call l t) view) ∙ calls-has seats live t kept.tenants ∙ there,
      sym (sym (ap (λ (l : LiveCalls). (find_call l t).slot) view) ∙ ap (λ (c : LiveCall). c.slot) at.call ∙ ap (λ j. (call_at seats j).slot) same ∙ kept.slots k below),
    )
  where
    go : (b : Bool) → has_slot live k ≡ b → b ≡ true
    go true e = refl
    go false e = absurd (some (sym is ∙ kept.free k e))

-- The slot that is found by a walk is the call's.
pub slot_seen : (callers nodes capacity : ℕ) (seats : List Seated) (live : List Tenant) (order : Order) (t : ℕ) (seen : LiveCalls) → AreSeats callers nodes capacity seats live order → live_calls callers nodes seats live order ≡ seen → has_call seen t ≡ true → slot_in live t ≡ (find_call seen t).slot
slot_seen callers nodes capacity seats live order t seen kept view has =
    let there : has_version live t ≡ true = sym (calls-has seats live t kept.tenants) ∙ ap (λ (l : LiveCalls). has_call l t) view ∙ has in
    slot_same callers nodes capacity seats live order t (find_call seen t).slot seen kept view there refl
