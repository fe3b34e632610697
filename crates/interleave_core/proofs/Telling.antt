-- How tallies are told.
use Rattle.std.proofs.Common.{◌≡◌, ℕ, ◌+◌, ◌<◌, ◌≤◌, ◌⊎◌, inl, inr, Bool, true, false, not, ◌&&◌, ◌||◌, ◌==◌, List, length, set, get_or, refl, sym, ap, ◌∙◌, subst, arith, length-set}
use Rattle.std.proofs.lemmas.Bool.Decides.{eqb_tells}
use Rattle.std.proofs.lemmas.Bool.{eqb-true, eqb-false, cases_Bool}
use Rattle.std.proofs.lemmas.List.{get_or-set_same, get_or-set_other}
use Rattle.interleave_core.specs.Choosers.{IsUpTo, Tells}
use Rattle.flow_state.specs.Seats.{one_if, count_at}

pub tells_none : (n : ℕ) (test : ℕ → Bool) (counts marks : List ℕ) → ((m : ℕ) → test m ≡ false) → Tells n test counts marks counts marks
tells_none n test counts marks f = record {
  counts_size = refl;
  marks_size = refl;
  count = λ m. let e = f m in rw e (omega arith);
  mark = λ m. let e = f m in rw e refl;
}

pub tells_by : (n : ℕ) (p q : ℕ → Bool) (a b c d : List ℕ) → ((m : ℕ) → p m ≡ q m) → Tells n p a b c d → Tells n q a b c d
tells_by n p q a b c d same t = record {
  counts_size = t.counts_size;
  marks_size = t.marks_size;
  count = λ m. t.count m ∙ ap (λ (x : Bool). count_at a m + one_if (x && not (count_at b m == n + 1))) (same m);
  mark = λ m. t.mark m ∙ ap (λ (x : Bool). elim x as (λ _. ℕ) [ true ↦ n + 1 | false ↦ count_at b m ]) (same m);
}

pub tells_more : (n : ℕ) (p q : ℕ → Bool) (a b c d e f : List ℕ) → Tells n p a b c d → Tells n q c d e f
    → Tells n (λ m. p m || q m) a b e f
tells_more n p q a b c d e f t u = record {
  counts_size = u.counts_size ∙ t.counts_size;
  marks_size = u.marks_size ∙ t.marks_size;
  count = λ m. count (p m) (q m) (count_at a m) (count_at b m) (count_at c m) (count_at d m) (count_at e m) (t.count m) (t.mark m) (u.count m);
  mark = λ m. mark (p m) (q m) (count_at b m) (count_at d m) (count_at f m) (t.mark m) (u.mark m);
}
  where
    mark : (x y : Bool) (b d f : ℕ) → d ≡ elim x as (λ _. ℕ) [ true ↦ n + 1 | false ↦ b ]
        → f ≡ elim y as (λ _. ℕ) [ true ↦ n + 1 | false ↦ d ] → f ≡ elim (x || y) as (λ _. ℕ) [ true ↦ n + 1 | false ↦ b ]
    mark true true b d f h k = k
    mark true false b d f h k = k ∙ h
    mark false true b d f h k = k
    mark false false b d f h k = k ∙ h

    marked : (n : ℕ) → (n + 1 == n + 1) ≡ true
    marked n = grind (arith, eqb_tells)

    count : (x y : Bool) (a b c d e : ℕ) → c ≡ a + one_if (x && not (b == n + 1)) → d ≡ elim x as (λ _. ℕ) [ true ↦ n + 1 | false ↦ b ]
        → e ≡ c + one_if (y && not (d == n + 1)) → e ≡ a + one_if ((x || y) && not (b == n + 1))
    count true true a b c d e g h k =
        let z : one_if (not (d == n + 1)) ≡ 0 = ap (λ (d : ℕ). one_if (not (d == n + 1))) h
        ∙ ap (λ (x : Bool). one_if (not x)) (marked n) in
        omega (arith, g, k, z)
    count true false a b c d e g h k = omega (arith, g, k)
    count false true a b c d e g h k = let z : one_if (not (d == n + 1)) ≡ one_if (not (b == n + 1)) = ap (λ (d : ℕ). one_if (not (d == n + 1))) h in omega (arith, g, k, z)
    count false false a b c d e g h k = omega (arith, g, k)

-- one node is counted where it was not
number_set : (ns : List ℕ) (c m x : ℕ) → c < length ns
    → count_at (set ns c x) m ≡ elim (c == m) as (λ _. ℕ) [ true ↦ x | false ↦ count_at ns m ]
number_set ns c m x h = go (cases_Bool (c == m))
  where
    go : ((c == m) ≡ true) ⊎ ((c == m) ≡ false)
        → count_at (set ns c x) m ≡ elim (c == m) as (λ _. ℕ) [ true ↦ x | false ↦ count_at ns m ]
    go (inl e) = let same : c ≡ m = eqb-true c m e in rw e (subst (λ (k : ℕ). get_or (set ns c x) k 0 ≡ x) same (get_or-set_same ns c x 0 h))
    go (inr e) = rw e (get_or-set_other ns c m x 0 (λ same. eqb-false c m e (sym same)))

pub tells_one : (n c mark count : ℕ) (counts marks : List ℕ) → c < length counts → length marks ≡ length counts → mark ≡ n + 1
    → count ≡ count_at counts c + 1 → (count_at marks c == n + 1) ≡ false
    → Tells n (λ m. c == m) counts marks (set counts c count) (set marks c mark)
tells_one n c mark count counts marks h same is more new = record {
  counts_size = length-set counts c count;
  marks_size = length-set marks c mark;
  count = λ m. number_set counts c m count h ∙ counted m (cases_Bool (c == m));
  mark = λ m. number_set marks c m mark (omega (arith, h, same))
      ∙ ap (λ (x : ℕ). elim (c == m) as (λ _. ℕ) [ true ↦ x | false ↦ count_at marks m ]) is;
}
  where
    counted : (m : ℕ) → ((c == m) ≡ true) ⊎ ((c == m) ≡ false)
        → elim (c == m) as (λ _. ℕ) [ true ↦ count | false ↦ count_at counts m ] ≡ count_at counts m + one_if ((c == m) && not (count_at marks m == n + 1))
    counted m (inl e) = let here : c ≡ m = eqb-true c m e in
        let f : (count_at marks m == n + 1) ≡ false = subst (λ (k : ℕ). (count_at marks k == n + 1) ≡ false) here new in
        let g : count ≡ count_at counts m + 1 = subst (λ (k : ℕ). count ≡ count_at counts k + 1) here more in
        rw e (rw f g)
    counted m (inr e) = rw e (omega arith)

-- it counts already
pub tells_again : (n c : ℕ) (counts marks : List ℕ) → (count_at marks c == n + 1) ≡ true
    → Tells n (λ m. c == m) counts marks counts marks
tells_again n c counts marks there = record {
  counts_size = refl;
  marks_size = refl;
  count = λ m. counted m (cases_Bool (c == m));
  mark = λ m. marked m (cases_Bool (c == m));
}
  where
    counted : (m : ℕ) → ((c == m) ≡ true) ⊎ ((c == m) ≡ false)
        → count_at counts m ≡ count_at counts m + one_if ((c == m) && not (count_at marks m == n + 1))
    counted m (inl e) = let here : c ≡ m = eqb-true c m e in
        let f : (count_at marks m == n + 1) ≡ true = subst (λ (k : ℕ). (count_at marks k == n + 1) ≡ true) here there in
        rw e (rw f (omega arith))
    counted m (inr e) = rw e (omega arith)

    marked : (m : ℕ) → ((c == m) ≡ true) ⊎ ((c == m) ≡ false)
        → count_at marks m ≡ elim (c == m) as (λ _. ℕ) [ true ↦ n + 1 | false ↦ count_at marks m ]
    marked m (inl e) = let here : c ≡ m = eqb-true c m e in
        rw e (subst (λ (k : ℕ). count_at marks k ≡ n + 1) here (grind (arith, eqb_tells, there)))
    marked m (inr e) = rw e refl

-- ---- bounds

pub up_to_told : (n : ℕ) (test : ℕ → Bool) (a b c d : List ℕ) → IsUpTo (n + 1) a b → Tells n test a b c d → IsUpTo (n + 1) c d
up_to_told n test a b c d u t = record {
  within = λ m. within (test m) (count_at b m) (count_at d m) (u.within m) (t.mark m);
  counted = λ m. counted (test m) (count_at a m) (count_at b m) (count_at c m) (count_at d m) (u.within m) (u.counted m) (t.count m) (t.mark m);
}
  where
    within : (x : Bool) (b d : ℕ) → b ≤ n + 1 → d ≡ elim x as (λ _. ℕ) [ true ↦ n + 1 | false ↦ b ] → d ≤ n + 1
    within true b d h e = omega (arith, h, e)
    within false b d h e = omega (arith, h, e)

    counted : (x : Bool) (a b c d : ℕ) → b ≤ n + 1 → a ≤ b → c ≡ a + one_if (x && not (b == n + 1))
        → d ≡ elim x as (λ _. ℕ) [ true ↦ n + 1 | false ↦ b ] → c ≤ d
    counted true a b c d h k e f = go (cases_Bool (b == n + 1))
      where
        go : ((b == n + 1) ≡ true) ⊎ ((b == n + 1) ≡ false) → c ≤ d
        go (inl g) = let z : one_if (not (b == n + 1)) ≡ 0 = ap (λ (x : Bool). one_if (not x)) g in omega (arith, e, f, h, k, z)
        go (inr g) = let z : one_if (not (b == n + 1)) ≡ 1 = ap (λ (x : Bool). one_if (not x)) g in
            let less : b < n + 1 = grind (arith, eqb_tells, g, h) in omega (arith, e, f, less, k, z)
    counted false a b c d h k e f = omega (arith, e, f, k)

pub up_to_next : (n : ℕ) (a b : List ℕ) → IsUpTo n a b → IsUpTo (n + 1) a b
up_to_next n a b u = record { within = λ m. let h = u.within m in omega (arith, h); counted = u.counted }
