-- What prefixes of lists have in common.
use Rattle.std.proofs.Common.{◌≡◌, ◌⊎◌, ℕ, ◌+◌, ◌≤◌, List, [], ◌∷◌, ◌++◌, length, map, refl, sym, ap, ◌∙◌, inl, inr, ⊎_elim, arith, append_assoc, append-nil, length-append}
use Rattle.std.proofs.lemmas.List.{map-append, append_cancel_left}
use Rattle.chronicle.specs.Prefixes.{IsPrefix}

module _ {A : Type 0} where
  pub prefix_refl : (xs : List A) → IsPrefix xs xs
  prefix_refl xs = record { rest = []; joined = append-nil xs }

  pub prefix_empty : (xs : List A) → IsPrefix [] xs
  prefix_empty xs = record { rest = xs; joined = refl }

  pub prefix_trans : (xs ys zs : List A) → IsPrefix xs ys → IsPrefix ys zs → IsPrefix xs zs
  prefix_trans xs ys zs p q = record { rest = p.rest ++ q.rest; joined = sym (append_assoc xs p.rest q.rest) ∙ ap (λ l. l ++ q.rest) p.joined ∙ q.joined }

  pub prefix-append : (xs ys : List A) → IsPrefix xs (xs ++ ys)
  prefix-append xs ys = record { rest = ys; joined = refl }

  pub prefix-push : (xs ys : List A) (y : A) → IsPrefix xs ys → IsPrefix xs (ys ++ y ∷ [])
  prefix-push xs ys y p = prefix_trans xs ys (ys ++ y ∷ []) p (prefix-append ys (y ∷ []))

  -- a prefix is no longer than the list
  pub length-prefix : (xs ys : List A) → IsPrefix xs ys → length xs ≤ length ys
  length-prefix xs ys p = omega (arith, length-append xs p.rest, ap length p.joined)

  nothing_more : (l : List A) (n : ℕ) → n + length l ≡ n → l ≡ []
  nothing_more [] n is = refl
  nothing_more (x ∷ xs) n is = absurd (omega (arith, is))

  -- a prefix of the same length is the list
  pub prefix_whole : (xs ys : List A) → IsPrefix xs ys → length ys ≤ length xs → xs ≡ ys
  prefix_whole xs ys p short =
      let count : length xs + length p.rest ≡ length xs = omega (arith, length-append xs p.rest, ap length p.joined, short) in
      sym (append-nil xs) ∙ ap (λ l. xs ++ l) (sym (nothing_more p.rest (length xs) count)) ∙ p.joined

  -- two lists that are each a prefix of the other are the same
  pub prefix_antisym : (xs ys : List A) → IsPrefix xs ys → IsPrefix ys xs → xs ≡ ys
  prefix_antisym xs ys p q = prefix_whole xs ys p (length-prefix ys xs q)

  cons_head : (x y : A) (xs ys : List A) → x ∷ xs ≡ y ∷ ys → x ≡ y
  cons_head x y xs ys is = ap (λ (l : List A). first x l) is
    where
      first : A → List A → A
      first d [] = d
      first d (z ∷ zs) = z

  cons_tail : (x y : A) (xs ys : List A) → x ∷ xs ≡ y ∷ ys → xs ≡ ys
  cons_tail x y xs ys is = ap (λ (l : List A). others l) is
    where
      others : List A → List A
      others [] = []
      others (z ∷ zs) = zs

  side_by_side : (xs ys more less : List A) → xs ++ more ≡ ys ++ less → IsPrefix xs ys ⊎ IsPrefix ys xs
  side_by_side [] ys more less is = inl (prefix_empty ys)
  side_by_side (x ∷ xs) [] more less is = inr (prefix_empty (x ∷ xs))
  side_by_side (x ∷ xs) (y ∷ ys) more less is =
      let head : x ≡ y = cons_head x y (xs ++ more) (ys ++ less) is in
      ⊎_elim
      (λ (p : IsPrefix xs ys). inl (record { rest = p.rest; joined = λ i. head i ∷ p.joined i }))
      (λ (p : IsPrefix ys xs). inr (record { rest = p.rest; joined = λ i. sym head i ∷ p.joined i }))
      (side_by_side xs ys more less (cons_tail x y (xs ++ more) (ys ++ less) is))

  -- of two prefixes of one list, one is a prefix of the other
  pub prefixes_of_one : (xs ys zs : List A) → IsPrefix xs zs → IsPrefix ys zs → IsPrefix xs ys ⊎ IsPrefix ys xs
  prefixes_of_one xs ys zs p q = side_by_side xs ys p.rest q.rest (p.joined ∙ sym q.joined)

  -- and the one that is no longer is a prefix of the one that is no shorter
  pub shorter_prefix : (xs ys zs : List A) → IsPrefix xs zs → IsPrefix ys zs → length xs ≤ length ys → IsPrefix xs ys
  shorter_prefix xs ys zs p q short =
      ⊎_elim
      (λ (r : IsPrefix xs ys). r)
      (λ (r : IsPrefix ys xs). let same : ys ≡ xs = prefix_whole ys xs r short in record { rest = []; joined = append-nil xs ∙ sym same })
      (prefixes_of_one xs ys zs p q)

  -- a list has one rest behind each prefix
  pub one_rest : (xs ys : List A) (p q : IsPrefix xs ys) → p.rest ≡ q.rest
  one_rest xs ys p q = append_cancel_left xs p.rest q.rest (p.joined ∙ sym q.joined)

module _ {A B : Type 0} where
  pub prefix-map : (f : A → B) (xs ys : List A) → IsPrefix xs ys → IsPrefix (map f xs) (map f ys)
  prefix-map f xs ys p = record { rest = map f p.rest; joined = sym (map-append f xs p.rest) ∙ ap (map f) p.joined }
