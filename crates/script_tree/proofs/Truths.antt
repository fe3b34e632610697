-- What && and || say of their parts, beside what std has.
use Rattle.std.proofs.Common.{◌≡◌, Bool, true, false, not, ◌&&◌, ◌||◌, refl, true≢false}
use Rattle.std.proofs.lemmas.Bool.{and_parts, false≢true}

pub and_left : (x y : Bool) → (x && y) ≡ true → x ≡ true
and_left x y h = (and_parts x y h).0

pub and_right : (x y : Bool) → (x && y) ≡ true → y ≡ true
and_right x y h = (and_parts x y h).1

pub not_and_parts : (x y : Bool) → (not x && y) ≡ true → (x ≡ false) × (y ≡ true)
not_and_parts true y h = absurd (false≢true h)
not_and_parts false y h = (refl, h)

-- where the first fails the second holds
pub or_later : (x y : Bool) → (x || y) ≡ true → x ≡ false → y ≡ true
or_later true y h e = absurd (true≢false e)
or_later false y h e = h
