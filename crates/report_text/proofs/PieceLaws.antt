-- Where a piece ends, and what prints as it.
use Rattle.std.proofs.Common.{◌≡◌, ℕ, suc, ◌+◌, ◌<◌, Bool, true, false, true≢false, List, [], ◌∷◌, take, drop, refl, sym, ap, ◌∙◌, arith}
use Rattle.std.specs.Prelude.{◌^◌, decimal, ℤ, pos, FitsSigned, Result, Ok, Err, IsTrue}
use Rattle.std.specs.Str.Parse.{ParsesUnsigned, ParsesSigned}
use Rattle.std.specs.Int.{w64}
use Rattle.std.specs.Fmt.{signed_decimal}
use Rattle.std.specs.Str.{IsUtf8}
use Rattle.std.specs.List.{list_all, prefix_len}
use Rattle.std.proofs.lemmas.Str.{IsUtf8-from_ascii}
use Rattle.std.proofs.lemmas.Fmt.{IsAscii-decimal, IsAscii-signed, parse-decimal, parse-signed_decimal}
use Rattle.report_text.specs.Pieces.{is_inner, Ends}

-- a number's text is UTF-8
pub decimal_is_utf8 : (n : ℕ) (text : List ℕ) → n < 2 ^ 32 → text ≡ decimal n → IsUtf8 text
decimal_is_utf8 n text h e = let big : n < 2 ^ 64 = omega (arith, h) in rw e (IsUtf8-from_ascii (decimal n) (IsAscii-decimal n big))

-- what stands behind a piece begins with no byte of one
ends_from : (b : ℕ) (bs : List ℕ) (v : Bool) → is_inner b ≡ v → Ends (drop (prefix_len is_inner bs) bs) → Ends (drop (prefix_len is_inner (b ∷ bs)) (b ∷ bs))
ends_from b bs true e h = rw e (let n : 1 + prefix_len is_inner bs ≡ suc (prefix_len is_inner bs) = omega arith in rw n h)
ends_from b bs false e h = rw e e

pub ends_behind : (text : List ℕ) → Ends (drop (prefix_len is_inner text) text)
ends_behind [] = tt
ends_behind (b ∷ bs) = ends_from b bs (is_inner b) refl (ends_behind bs)

-- the bytes of a piece are bytes within one
inner_from : (b : ℕ) (bs : List ℕ) (v : Bool) → is_inner b ≡ v → list_all is_inner (take (prefix_len is_inner bs) bs) ≡ true → list_all is_inner (take (prefix_len is_inner (b ∷ bs)) (b ∷ bs)) ≡ true
inner_from b bs true e h = rw e (let n : 1 + prefix_len is_inner bs ≡ suc (prefix_len is_inner bs) = omega arith in rw n (rw e h))
inner_from b bs false e h = rw e refl

pub inner_taken : (text : List ℕ) → list_all is_inner (take (prefix_len is_inner text) text) ≡ true
inner_taken [] = refl
inner_taken (b ∷ bs) = inner_from b bs (is_inner b) refl (inner_taken bs)

is_good : {A E : Type 0} → Result A E → Bool
is_good (Ok x) = true
is_good (Err e) = false

good_or : {A E : Type 0} → A → Result A E → A
good_or d (Ok x) = x
good_or d (Err e) = d

-- what a number prints as is read as that number
pub number_not_refused : {E : Type 0} (n : ℕ) (text s : List ℕ) (e : E) → n < 2 ^ 32 → s ≡ text → text ≡ decimal n → ParsesUnsigned 32 10 s (Err e) → ⊥
unfolding is_good
number_not_refused n text s e h same is p =
    let big : n < 2 ^ 64 = omega (arith, h) in
    true≢false (sym (ap is_good (parse-decimal 32 n s (Err e) h big (same ∙ is) p)))

pub number_alone : {E : Type 0} (n m : ℕ) (text s : List ℕ) (r : Result ℕ E) → n < 2 ^ 32 → s ≡ text → text ≡ decimal n → ParsesUnsigned 32 10 s r → r ≡ Ok m → text ≡ decimal m
unfolding good_or
number_alone n m text s r h same is p got =
    let big : n < 2 ^ 64 = omega (arith, h) in
    is ∙ ap (λ x. decimal (good_or 0 x)) (sym (parse-decimal 32 n s r h big (same ∙ is) p) ∙ got)

-- the same of numbers with a sign
pub int_is_utf8 : (z : ℤ) (text : List ℕ) → FitsSigned w64 z → text ≡ signed_decimal z → IsUtf8 text
int_is_utf8 z text h e = rw e (IsUtf8-from_ascii (signed_decimal z) (IsAscii-signed z h.sfits))

pub int_not_refused : {E : Type 0} (z : ℤ) (text s : List ℕ) (e : E) → FitsSigned w64 z → s ≡ text → text ≡ signed_decimal z → ParsesSigned w64 10 s (Err e) → ⊥
unfolding is_good
int_not_refused z text s e h same is p = true≢false (sym (ap is_good (parse-signed_decimal w64 z s (Err e) h h.sfits (same ∙ is) p)))

pub int_alone : {E : Type 0} (z m : ℤ) (text s : List ℕ) (r : Result ℤ E) → FitsSigned w64 z → s ≡ text → text ≡ signed_decimal z → ParsesSigned w64 10 s r → r ≡ Ok m → text ≡ signed_decimal m
unfolding good_or
int_alone z m text s r h same is p got =
    is ∙ ap (λ x. signed_decimal (good_or (pos 0) x)) (sym (parse-signed_decimal w64 z s r h h.sfits (same ∙ is) p) ∙ got)

pub not_so : (r : Bool) → r ≡ false → IsTrue r → ⊥
not_so r is_not so = true≢false (sym so ∙ is_not)

pub ruleset piece_laws = (ends_behind)
