-- A fact of a decimal digit, from the ten of them.
use Rattle.std.proofs.Common.{◌≡◌, ℕ, zero, suc, ◌+◌, ◌-◌, ◌≤◌, sym, subst, arith}

module _ (P : ℕ → Type 0) (h0 : P 48) (h1 : P 49) (h2 : P 50) (h3 : P 51) (h4 : P 52) (h5 : P 53) (h6 : P 54) (h7 : P 55) (h8 : P 56)
    (h9 : P 57) where
  from_zero : (k d : ℕ) → d ≡ k + 48 → k ≤ 9 → P d
  from_zero zero d e low = subst P (sym e) h0
  from_zero (suc zero) d e low = subst P (sym e) h1
  from_zero (suc (suc zero)) d e low = subst P (sym e) h2
  from_zero (suc (suc (suc zero))) d e low = subst P (sym e) h3
  from_zero (suc (suc (suc (suc zero)))) d e low = subst P (sym e) h4
  from_zero (suc (suc (suc (suc (suc zero))))) d e low = subst P (sym e) h5
  from_zero (suc (suc (suc (suc (suc (suc zero)))))) d e low = subst P (sym e) h6
  from_zero (suc (suc (suc (suc (suc (suc (suc zero))))))) d e low = subst P (sym e) h7
  from_zero (suc (suc (suc (suc (suc (suc (suc (suc zero)))))))) d e low = subst P (sym e) h8
  from_zero (suc (suc (suc (suc (suc (suc (suc (suc (suc zero))))))))) d e low = subst P (sym e) h9
  from_zero (suc (suc (suc (suc (suc (suc (suc (suc (suc (suc k)))))))))) d e low = absurd (omega (arith, low))

  pub by_digit : (d : ℕ) → 48 ≤ d → d ≤ 57 → P d
  by_digit d low high = from_zero (d - 48) d (omega (arith, low)) (omega (arith, low, high))
