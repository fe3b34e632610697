-- The last Done of a list, seen from its end.
use Rattle.std.proofs.Common.{◌≡◌, ◌<◌, true, false, List, [], ◌∷◌, ◌++◌, length, refl, sym, ap, ◌∙◌, arith, Some, None, subst, append-nil, append_assoc}
use Rattle.std.specs.List.{slice_get}
use Rattle.node_versions.specs.Entries.{Entry, is_done, last_done}
use Rattle.node_versions.proofs.Lists.{last_done-append}

pub last_done-push_done : (es : List Entry) (e : Entry) → is_done e.state ≡ true → last_done (es ++ e ∷ []) ≡ Some e
last_done-push_done es e h = let r = last_done-append es (e ∷ []) in grind (arith, r, h)

pub last_done-push_other : (es : List Entry) (e : Entry) → is_done e.state ≡ false → last_done (es ++ e ∷ []) ≡ last_done es
last_done-push_other es e h = let r = last_done-append es (e ∷ []) in grind (arith, r, h)

get_behind : (xs ys : List Entry) (e : Entry) → slice_get (xs ++ e ∷ ys) (length xs) ≡ Some e
get_behind [] ys e = refl
get_behind (x ∷ xs) ys e = get_behind xs ys e

length_behind : (xs ys : List Entry) (e : Entry) → length xs < length (xs ++ e ∷ ys)
length_behind [] ys e = omega arith
length_behind (x ∷ xs) ys e = omega (arith, length_behind xs ys e)

-- the last Done of a list is that of the part `rest`, behind which the list goes on
pub record IsSearched (es rest : List Entry) : Type 0 where
  pub more : List Entry
  pub list : es ≡ rest ++ more
  pub same : last_done rest ≡ last_done es

pub start : (es : List Entry) → IsSearched es es
start es = record { more = []; list = sym (append-nil es); same = refl }

pub longer : (es rest front more : List Entry) (e : Entry) → es ≡ rest ++ more → rest ≡ front ++ e ∷ [] → es ≡ front ++ e ∷ more
longer es rest front more e h k = h ∙ ap (λ (xs : List Entry). xs ++ more) k ∙ append_assoc front (e ∷ []) more

pub step : (es rest front : List Entry) (e : Entry) → IsSearched es rest → rest ≡ front ++ e ∷ [] → is_done e.state ≡ false → IsSearched es front
step es rest front e s k h = record {
  more = e ∷ s.more;
  list = longer es rest front s.more e s.list k;
  same = sym (last_done-push_other front e h) ∙ sym (ap last_done k) ∙ s.same;
}

pub found : (es rest front : List Entry) (e : Entry) → IsSearched es rest → rest ≡ front ++ e ∷ [] → is_done e.state ≡ true → (length front < length es) × (slice_get es (length front) ≡ last_done es)
found es rest front e s k h =
    let list = longer es rest front s.more e s.list k in (
      subst (λ (xs : List Entry). length front < length xs) (sym list) (length_behind front s.more e),
      ap (λ (xs : List Entry). slice_get xs (length front)) list ∙ get_behind front s.more e ∙ sym (last_done-push_done front e h) ∙ sym (ap last_done k) ∙ s.same,
    )

pub none : (es : List Entry) → IsSearched es [] → last_done es ≡ None
none es s = sym s.same
