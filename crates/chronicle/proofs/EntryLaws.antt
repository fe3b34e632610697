-- What follows a note in the writer's list.
use Rattle.std.proofs.Common.{◌≡◌, ℕ, zero, suc, ◌<◌, true, false, List, [], ◌∷◌, ◌++◌, refl, sym, ap, ◌∙◌, arith, append_assoc, append-nil}
use Rattle.std.specs.Prelude.{◌==◌}
use Rattle.std.specs.List.{AllByRecursion}
use Rattle.std.proofs.lemmas.List.{map-append}
use Rattle.std.proofs.lemmas.List.Elements.{filter-append}
use Rattle.std.proofs.lemmas.Bool.{or_parts}
use Rattle.chronicle.specs.declared.entry.Entry.{Entry}
use Rattle.chronicle.specs.Entries.{events, has_key, entries_of, WithoutKey, IsPrefixWithAll}
use Rattle.chronicle.specs.Keys.{is_out}
use Rattle.chronicle.specs.Prefixes.{IsPrefix}
use Rattle.chronicle.proofs.KeyLaws.{out_apart}
use Rattle.chronicle.proofs.PrefixLaws.{prefix-map}

module _ {E : Type 0} where
  -- an entry that is not one of a key above 0 has other keys
  pub other_keys : (k : ℕ) (e : Entry E) → 0 < k → has_key k e ≡ false → ((k == e.first_key) ≡ false) × ((k == e.second_key) ≡ false)
  other_keys zero e above is = absurd (omega arith)
  other_keys (suc k) e above is = or_parts (suc k == e.first_key) (suc k == e.second_key) is

  -- an entry whose keys are in is not one of a key that is out
  pub has_key-in : (out : List ℕ) (k : ℕ) (e : Entry E) → is_out k out ≡ true → is_out e.first_key out ≡ false → is_out e.second_key out ≡ false → has_key k e ≡ false
  has_key-in out zero e at one two = refl
  has_key-in out (suc k) e at one two = rw (out_apart out (suc k) e.first_key at one, out_apart out (suc k) e.second_key at two) refl

  pub without-append : (k : ℕ) (xs ys : List (Entry E)) → WithoutKey k xs → WithoutKey k ys → WithoutKey k (xs ++ ys)
  without-append k [] ys one two = two
  without-append k (x ∷ xs) ys one two = (one.0, without-append k xs ys one.1 two)

  -- the key 0 belongs to no entry
  pub without-zero : (xs : List (Entry E)) → WithoutKey 0 xs
  without-zero [] = tt
  without-zero (x ∷ xs) = (refl, without-zero xs)

  pub entries_of-without : (k : ℕ) (xs : List (Entry E)) → WithoutKey k xs → entries_of k xs ≡ []
  entries_of-without k [] none = refl
  entries_of-without k (x ∷ xs) none = rw none.0 (entries_of-without k xs none.1)

  pub entries_of-append : (k : ℕ) (xs ys : List (Entry E)) → entries_of k (xs ++ ys) ≡ entries_of k xs ++ entries_of k ys
  entries_of-append k xs ys = filter-append (has_key k) xs ys

  -- what holds of each entry of the longer list holds of each behind the prefix
  pub all_behind : (P : Entry E → Type 0) (xs ys : List (Entry E)) → AllByRecursion P (xs ++ ys) → AllByRecursion P ys
  all_behind P [] ys all = all
  all_behind P (x ∷ xs) ys all = all_behind P xs ys all.1

  -- and of each within it
  pub all_within : (P : Entry E → Type 0) (xs ys : List (Entry E)) → AllByRecursion P (xs ++ ys) → AllByRecursion P xs
  all_within P [] ys all = tt
  all_within P (x ∷ xs) ys all = (all.0, all_within P xs ys all.1)

  pub all_push : (P : Entry E → Type 0) (xs : List (Entry E)) (e : Entry E) → AllByRecursion P xs → P e → AllByRecursion P (xs ++ e ∷ [])
  all_push P [] e all one = (one, tt)
  all_push P (x ∷ xs) e all one = (all.0, all_push P xs e all.1 one)

  -- a note that is met at once has the whole list
  pub with_all_refl : (k : ℕ) (xs : List (Entry E)) → IsPrefixWithAll k xs xs
  with_all_refl k xs = record { rest = []; joined = append-nil xs; none_left = tt }

  pub with_all_trans : (k : ℕ) (xs ys zs : List (Entry E)) → IsPrefixWithAll k xs ys → IsPrefixWithAll k ys zs → IsPrefixWithAll k xs zs
  with_all_trans k xs ys zs p q = record {
    rest = p.rest ++ q.rest;
    joined = sym (append_assoc xs p.rest q.rest) ∙ ap (λ l. l ++ q.rest) p.joined ∙ q.joined;
    none_left = without-append k p.rest q.rest p.none_left q.none_left;
  }

  pub with_all-push : (k : ℕ) (xs ys : List (Entry E)) (e : Entry E) → IsPrefixWithAll k xs ys → has_key k e ≡ false → IsPrefixWithAll k xs (ys ++ e ∷ [])
  with_all-push k xs ys e p other = with_all_trans k xs ys (ys ++ e ∷ []) p (record { rest = e ∷ []; joined = refl; none_left = (other, tt) })

  -- a prefix has all entries of the key 0
  pub with_all-zero : (xs ys : List (Entry E)) → IsPrefix xs ys → IsPrefixWithAll 0 xs ys
  with_all-zero xs ys p = record { rest = p.rest; joined = p.joined; none_left = without-zero p.rest }

  pub prefix-with_all : (k : ℕ) (xs ys : List (Entry E)) → IsPrefixWithAll k xs ys → IsPrefix xs ys
  prefix-with_all k xs ys p = record { rest = p.rest; joined = p.joined }

  -- the entries of the note's key are the same in both lists
  pub entries_of-with_all : (k : ℕ) (xs ys : List (Entry E)) → IsPrefixWithAll k xs ys → entries_of k ys ≡ entries_of k xs
  entries_of-with_all k xs ys p =
      ap (entries_of k) (sym p.joined) ∙ entries_of-append k xs p.rest ∙ ap (λ l. entries_of k xs ++ l) (entries_of-without k p.rest p.none_left) ∙ append-nil (entries_of k xs)

  -- what happened in the longer list is what happened in the shorter one, and then the rest
  pub events-with_all : (k : ℕ) (xs ys : List (Entry E)) (p : IsPrefixWithAll k xs ys) → events xs ++ events p.rest ≡ events ys
  events-with_all k xs ys p = sym (map-append (λ (e : Entry E). e.event) xs p.rest) ∙ ap events p.joined

  pub events-append : (xs ys : List (Entry E)) → events (xs ++ ys) ≡ events xs ++ events ys
  events-append xs ys = map-append (λ (e : Entry E). e.event) xs ys

  pub prefix-events : (xs ys : List (Entry E)) → IsPrefix xs ys → IsPrefix (events xs) (events ys)
  prefix-events xs ys p = prefix-map (λ (e : Entry E). e.event) xs ys p
