-- The index of a table of names, with one more name.
use Rattle.std.proofs.Common.{zero, suc, get_or, add-one, IfSome, IfNone, ◌≡◌, ℕ, ◌+◌, if◌then◌else◌, Bool, true, false, List, [], ◌∷◌, ◌++◌, length, Option, Some, None, refl, sym, ap, subst, ◌∙◌, arith, ◌<◌, nat_lt, length-append, unwrap_or, zero-add}
use Rattle.std.specs.Cmp.Lexicographic.{nat_list_eq_equiv, bytes_decides}
use Rattle.std.specs.Str.{bytes_eq}
use Rattle.std.specs.HashMap.{HashMap, get_by, UpdatesBy}
use Rattle.std.specs.Map.{lookup, IsKeyTest, AreApart, KeepsOthers}
use Rattle.std.specs.Global.{Vec}
use Rattle.script_tree.specs.declared.limits.TheConstants.{NODES}
use Rattle.script_tree.specs.Names.{place_in}
use Rattle.script_tree.proofs.NamePlaces.{place_within}
use Rattle.std.proofs.lemmas.Bool.Decides.{nat_tests}
use Rattle.signal_graph.specs.Tables.{found_from, is_declared, IsTable}

apart : (bs cs ks : List ℕ) → bytes_eq bs cs ≡ false → bytes_eq bs ks ≡ true → bytes_eq cs ks ≡ false
apart bs cs ks n y = nat_list_eq_equiv.symm cs ks ∙ sym (nat_list_eq_equiv.congr bs ks cs y) ∙ n

other_entries : {K X : Type 0} (eq : K → K → Bool) (test : K → Bool) (old new : List (K × X)) → KeepsOthers eq test old new → (other : K → Bool) → IsKeyTest eq other → AreApart test other → lookup other new ≡ lookup other old
unfolding KeepsOthers
other_entries eq test old new h = h

-- the index finds the new key's bytes, and all else as before
pub found_after : {S : Type 0} (m n : HashMap (Vec ℕ) ℕ S) (key : Vec ℕ) (w : Option ℕ)
    → UpdatesBy (λ x y. bytes_eq x.items y.items) (λ y. bytes_eq key.items y.items) m n w
    → (name : List ℕ) → get_by (λ k. bytes_eq name k.items) n ≡ (if bytes_eq key.items name then w else get_by (λ k. bytes_eq name k.items) m)
found_after m n key w h name =
    let other : bytes_eq key.items name ≡ false → get_by (λ k. bytes_eq name k.items) n ≡ get_by (λ k. bytes_eq name k.items) m =
    λ e. other_entries _ _ _ _ h.3 _ (λ x y. nat_list_eq_equiv.congr name x.items y.items) (λ k. apart key.items name k.items e) in
    let here : bytes_eq key.items name ≡ true → get_by (λ k. bytes_eq name k.items) n ≡ w =
    λ e. subst (λ l. get_by (λ k. bytes_eq l k.items) n ≡ w) ((bytes_decides key.items name).0 e) h.1 in
    grind (arith, other, here)

-- a table with one more name, which it has not yet
pub found_from-snoc : (n : ℕ) (names : List (List ℕ)) (new name : List ℕ) → found_from n names new ≡ None
    → found_from n (names ++ new ∷ []) name ≡ (if bytes_eq new name then Some (n + length names) else found_from n names name)
found_from-snoc n [] new name absent = grind arith
found_from-snoc n (other ∷ names) new name absent =
    let rest = found_from-snoc (n + 1) names new name in
    let same : bytes_eq new name ≡ true → bytes_eq other new ≡ bytes_eq other name = λ e. ap (bytes_eq other) ((bytes_decides new name).0 e) in
    grind (arith, rest, same)

-- the first entry with a name, where it is in the table, stands at its place
pub found_at_place : (n : ℕ) (names : List (List ℕ)) (name : List ℕ)
    → found_from n names name ≡ (if nat_lt (place_in names name) (length names) then Some (n + place_in names name) else None)
found_at_place n [] name = refl
found_at_place n (other ∷ names) name =
    let rest = found_at_place (n + 1) names name in grind (arith, nat_tests, rest)

-- the place of a name from the answer of the index
pub place_of_found : (names : List (List ℕ)) (name : List ℕ) → unwrap_or (if is_declared names name then Some (place_in names name) else None) (length names) ≡ place_in names name
place_of_found names name = let within = place_within names name in grind (arith, nat_tests, within)

-- what the index of a table finds
pub index_finds : {S : Type 0} (names : List (List ℕ)) (numbers : HashMap (Vec ℕ) ℕ S) → IsTable names numbers → (name : List ℕ)
    → get_by (λ key. bytes_eq name key.items) numbers ≡ (if is_declared names name then Some (place_in names name) else None)
index_finds names numbers table name = table.finds name ∙ found_at_place 0 names name ∙ rw zero-add refl

-- a table and its index, both with one more name
pub IsTable-snoc : {S : Type 0} (names more : List (List ℕ)) (new : List ℕ) (m n : HashMap (Vec ℕ) ℕ S) (key : Vec ℕ) (count : ℕ)
    → IsTable names m → more ≡ names ++ new ∷ [] → key.items ≡ new → count ≡ length names → length names < NODES → is_declared names new ≡ false
    → UpdatesBy (λ x y. bytes_eq x.items y.items) (λ y. bytes_eq key.items y.items) m n (Some count)
    → IsTable more n
IsTable-snoc names more new m n key count table grown same counted room absent updates = record {
  few = rw grown (omega (arith, length-append names (new ∷ [])));
  finds = λ name. let after = found_after m n key (Some count) updates name in
      let before = table.finds name in
      let nowhere : found_from 0 names new ≡ None = found_at_place 0 names new ∙ rw absent refl in
      let grows = found_from-snoc 0 names new name nowhere in
      rw grown (grind (arith, after, before, grows));
}

-- a declared name stands at its place
pub name_at_place : (names : List (List ℕ)) (name : List ℕ) → is_declared names name ≡ true → get_or names (place_in names name) [] ≡ name
name_at_place [] name h = absurd (grind (arith, nat_tests))
name_at_place (other ∷ names) name h =
    let rest = name_at_place names name in
    let same = (bytes_decides other name).0 in
    elim (bytes_eq other name) as (λ b. bytes_eq other name ≡ b → get_or (other ∷ names) (if b then 0 else place_in names name + 1) [] ≡ name) [
      | true ↦ λ e. same e
      | false ↦ λ e. rw add-one (rest (grind (arith, nat_tests)))
    ] refl

-- no name of a table is one that is not declared
pub no_name_at : (names : List (List ℕ)) (name : List ℕ) → is_declared names name ≡ false → (m : ℕ) → m < length names → get_or names m [] ≡ name → ⊥
no_name_at [] name absent m below same = omega arith
no_name_at (other ∷ names) name absent zero below same =
    let here = (bytes_decides other name).1 same in grind (arith, nat_tests, here)
no_name_at (other ∷ names) name absent (suc m) below same =
    let rest : is_declared names name ≡ false = grind (arith, nat_tests) in
    no_name_at names name rest m (omega arith) same

-- what an answer of a look-up says of the names by their numbers
pub found_has_name : (names : List (List ℕ)) (name : List ℕ) (r : Option ℕ) → r ≡ (if is_declared names name then Some (place_in names name) else None)
    → IfSome r (λ n. get_or names n [] ≡ name)
found_has_name names name r is =
    elim (is_declared names name) as (λ b. is_declared names name ≡ b → r ≡ (if b then Some (place_in names name) else None) → IfSome r (λ n. get_or names n [] ≡ name)) [
      | true ↦ λ declared found. rw found (name_at_place names name declared)
      | false ↦ λ declared found. rw found tt
    ] refl is

pub none_has_name : (names : List (List ℕ)) (name : List ℕ) (r : Option ℕ) → r ≡ (if is_declared names name then Some (place_in names name) else None)
    → IfNone r ((m : ℕ) → m < length names → get_or names m [] ≡ name → ⊥)
none_has_name names name r is =
    elim (is_declared names name) as (λ b. is_declared names name ≡ b → r ≡ (if b then Some (place_in names name) else None) → IfNone r ((m : ℕ) → m < length names → get_or names m [] ≡ name → ⊥)) [
      | true ↦ λ declared found. rw found tt
      | false ↦ λ declared found. rw found (no_name_at names name declared)
    ] refl is
