-- Where two lists differ first.
use Rattle.std.specs.Prelude.{◌≡◌, ◌≢◌, ℕ, ◌≤◌, List, length, take, slice_get}

-- the two lists agree before a place, which neither ends before, and differ there
pub record DifferFirst {X : Type 0} (due given : List X) (place : ℕ) : Type 0 where
  pub in_due : place ≤ length due
  pub in_given : place ≤ length given
  pub before : take place due ≡ take place given
  pub there : slice_get due place ≢ slice_get given place
