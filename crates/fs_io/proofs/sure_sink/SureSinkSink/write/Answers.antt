use Rattle.std.proofs.Common.{◌≡◌, ◌+◌, ◌-◌, ◌<◌, ◌≤◌, ℕ, List, ◌++◌, length, take, Bool, true, false, nat_lt, ◌∙◌, take-take, arith}
use Rattle.std.proofs.lemmas.Grind.{common_steps}
use Rattle.std.proofs.Math.Seq.{take-append-add}
use Rattle.std.proofs.lemmas.Bool.Decides.{nat_tests}
use Rattle.std.specs.Prelude.{◌||◌}
use Rattle.fs_io.specs.Memory.{SureStore}
use Rattle.fs_io.proofs.sure_sink.SureSinkSink.write.Goals as goal

abbrev store : List ℕ → Bool → ℕ → ℕ → SureStore
store kept over room most = record { kept = kept; over = over; room = room; most = most; clean = false }

-- what is kept of bytes that are more than there is room for
kept_front : (kept bytes : List ℕ) (room n k : ℕ) → length kept ≤ room → n ≤ length bytes → k ≡ room - length kept → k < n → kept ++ take k bytes ≡ take room (kept ++ take n bytes)
kept_front kept bytes room n k h few e less =
    let r : room ≡ length kept + k = omega arith in
    let whole = take-append-add kept (take n bytes) k in
    let part : take k (take n bytes) ≡ take k bytes = take-take k n bytes (omega arith) in
    cc

came_over : (over : Bool) (kept bytes : List ℕ) (room n k : ℕ) → length kept ≤ room → n ≤ length bytes → k ≡ room - length kept → k < n → true ≡ (over || nat_lt room (length (kept ++ take n bytes)))
came_over over kept bytes room n k h few e less = grind (arith, common_steps, nat_tests)

-- stores with the same parts
same_store : (a b : List ℕ) (x y : Bool) (room most : ℕ) → a ≡ b → x ≡ y → store a x room most ≡ store b y room most
same_store a b x y room most e f = cc

pub returns-then-kept-n-clause-after : goal.returns-then-kept-n-clause-after
returns-then-kept-n-clause-after c =
    let s = c.self.inside in
    let n = c.min-n.result in
    let few : length s.kept.items ≤ s.room = omega (arith, c.self.invariant.0, s.kept.ok.0) in
    let room : c.min-kept.result ≡ s.room - length s.kept.items = omega (arith, s.kept.ok.0) in
    let items = rw c.unwrap.ensures at c.extend_from_slice.ensures.items in
    let kept = kept_front s.kept.items c.args.bytes.now s.room n c.min-kept.result few (omega arith) room c.if-kept-n.true in
    let over = came_over s.is_over s.kept.items c.args.bytes.now s.room n c.min-kept.result few (omega arith) room c.if-kept-n.true in
    rw (← c.self.view_is) (same_store _ _ _ _ _ _ (items ∙ kept) over)
