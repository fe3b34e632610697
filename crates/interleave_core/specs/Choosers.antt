-- For how many nodes each node is a candidate, while nodes are gone over one after the other. Beside each count stands a mark:
-- one more than the last node that counts there.
use Rattle.std.specs.Prelude.{◌≡◌, ℕ, ◌+◌, ◌≤◌, Bool, true, false, ◌&&◌, not, ◌==◌, List, length}
use Rattle.flow_state.specs.Seats.{one_if, count_at}

-- Marks are of nodes below n, and a count is no more than the nodes up to the last that counts.
pub record IsUpTo (n : ℕ) (counts marks : List ℕ) : Type 0 where
  pub within : (m : ℕ) → count_at marks m ≤ n
  pub counted : (m : ℕ) → count_at counts m ≤ count_at marks m

-- A node is counted once at each node that passes the test.
pub record Tells (n : ℕ) (test : ℕ → Bool) (counts marks new_counts new_marks : List ℕ) : Type 0 where
  pub counts_size : length new_counts ≡ length counts
  pub marks_size : length new_marks ≡ length marks
  pub count : (m : ℕ) → count_at new_counts m ≡ count_at counts m + one_if (test m && not (count_at marks m == n + 1))
  pub mark : (m : ℕ) → count_at new_marks m ≡ elim (test m) [ true ↦ n + 1 | false ↦ count_at marks m ]
