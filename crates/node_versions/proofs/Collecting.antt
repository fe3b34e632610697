-- What stays of a list whose ended entries are its first ones.
use Rattle.std.proofs.Common.{◌≡◌, ℕ, ◌+◌, ◌<◌, ◌≤◌, Bool, true, false, not, List, [], ◌∷◌, ◌++◌, length, get_or, take, drop, refl, sym, ap, ap₂, ◌∙◌, arith, subst, cond, zero, suc, Option, Some, None, true≢false, length-take}
use Rattle.std.specs.List.{filter, slice_get, remove_range, cons_option}
use Rattle.std.specs.Option.{is_some}
use Rattle.std.proofs.lemmas.Option.{slice_get-get_or}
use Rattle.node_versions.specs.Entries.{Versions, with_entries, Entry, is_done, last_done, collected, ended_len, EndedIsPrefix, HasEndedPrefix}

abbrev live : (Entry → Bool) → List Entry → List Entry
live ended es = filter (λ e. not (ended e)) es

none_ended : (ended : Entry → Bool) (es : List Entry) → filter ended es ≡ [] → live ended es ≡ es
none_ended ended [] h = refl
none_ended ended (e ∷ es) h = let r = none_ended ended es in grind (arith, h, r)

pub parts : (ended : Entry → Bool) (es : List Entry) → EndedIsPrefix ended es → (filter ended es ≡ take (ended_len ended es) es) × (live ended es ≡ drop (ended_len ended es) es)
parts ended [] h = (refl, refl)
parts ended (e ∷ es) h = go (ended e) h (parts ended es)
  where
    n : ℕ
    n = ended_len ended es

    go : (b : Bool) → elim b as (λ _. Type 0) [ true ↦ EndedIsPrefix ended es | false ↦ filter ended es ≡ [] ]
        → (EndedIsPrefix ended es → (filter ended es ≡ take n es) × (live ended es ≡ drop n es))
        → (cond b (e ∷ filter ended es) (filter ended es) ≡ take (cond (not (not b)) (1 + n) 0) (e ∷ es)) × (cond (not b) (e ∷ live ended es) (live ended es) ≡ drop (cond (not (not b)) (1 + n) 0) (e ∷ es))
    go true k r =
        let more : 1 + n ≡ suc n = omega arith in
        let told = r k in
        (ap (λ (xs : List Entry). e ∷ xs) told.0 ∙ ap (λ m. take m (e ∷ es)) (sym more), told.1 ∙ ap (λ m. drop m (e ∷ es)) (sym more))
    go false k r = (k, ap (λ (xs : List Entry). e ∷ xs) (none_ended ended es k))

get_of_part : (n : ℕ) (es : List Entry) (k : ℕ) (d : Entry) → slice_get (take n es) k ≡ Some d → slice_get es k ≡ Some d
get_of_part zero es k d h = cc
get_of_part (suc n) [] k d h = h
get_of_part (suc n) (e ∷ es) zero d h = h
get_of_part (suc n) (e ∷ es) (suc k) d h = get_of_part n es k d h

pub cut_before : (es ys : List Entry) (k : ℕ) (d : Entry) → slice_get es k ≡ Some d → drop k (take (k + 1) es ++ ys) ≡ d ∷ ys
cut_before [] ys k d h = cc
cut_before (e ∷ es) ys zero d h = grind (arith, h)
cut_before (e ∷ es) ys (suc k) d h =
    let more : suc k + 1 ≡ suc (k + 1) = omega arith in
    ap (λ m. drop (suc k) (take m (e ∷ es) ++ ys)) more ∙ cut_before es ys k d h

pub cut-collected : (ended : Entry → Bool) (es : List Entry) (n k : ℕ) → EndedIsPrefix ended es → n ≡ ended_len ended es → k < length (take n es) → slice_get (take n es) k ≡ last_done (take n es)
    → remove_range (remove_range es (k + 1) n) 0 k ≡ collected ended es
cut-collected ended [] n k prefix e below found = absurd (omega (arith, below, length-take {A = Entry} n []))
cut-collected ended (x ∷ xs) n k prefix e below found =
    let es = x ∷ xs in
    let is = slice_get-get_or (take n es) k x below in
    let split = parts ended es prefix in
    let last = sym is ∙ found ∙ ap (λ m. last_done (take m es)) e ∙ ap last_done (sym split.0) in
    cut_before es (drop n es) k _ (get_of_part n es k _ is) ∙ ap₂ (λ (o : Option Entry) (ys : List Entry). cons_option o ys) last (ap (λ m. drop m es) e ∙ sym split.1)

-- Where one of the ended entries is Done, the search finds one.
pub none_found : (ended : Entry → Bool) (es : List Entry) (n : ℕ) → HasEndedPrefix ended es → n ≡ ended_len ended es → last_done (take n es) ≡ None → ⊥
none_found ended es n has e none =
    let split = parts ended es has.prefix in
    let nothing = ap last_done split.0 ∙ ap (λ m. last_done (take m es)) (sym e) ∙ none in
    absurd (true≢false (sym has.done ∙ ap is_some nothing))

pub flips : (b t : Bool) → not b ≡ t → b ≡ not t
flips b t h = grind (arith, h)

-- The list as it is seen after it was cut.
pub seen_cut : (old now : Versions) → old ≡ now → (ended : Entry → Bool) (n k : ℕ) → HasEndedPrefix ended now.entries → n ≡ ended_len ended now.entries
    → (k < length (take n old.entries)) × (slice_get (take n old.entries) k ≡ last_done (take n old.entries))
    → (new : List Entry) → new ≡ remove_range (remove_range old.entries (k + 1) n) 0 k → with_entries old new ≡ with_entries now (collected ended now.entries)
seen_cut old now is ended n k has place found new cut =
    let prefix = subst (λ (v : Versions). EndedIsPrefix ended v.entries) (sym is) has.prefix in
    let count = place ∙ ap (λ (v : Versions). ended_len ended v.entries) (sym is) in
    ap (with_entries old) (cut ∙ cut-collected ended old.entries n k prefix count found.0 found.1) ∙ ap (λ (v : Versions). with_entries v (collected ended v.entries)) is

-- ---- the last Done of the first entries

-- The last Done of the first n entries stands at the index k.
pub record IsLastDoneOf (es : List Entry) (n k : ℕ) : Type 0 where
  pub below : k < n
  pub entry : Entry
  pub at : slice_get es k ≡ Some entry
  pub done : is_done entry.state ≡ true
  pub found : (k < length (take n es)) × (slice_get (take n es) k ≡ last_done (take n es))

pub last_is_done : (es : List Entry) (d : Entry) → last_done es ≡ Some d → is_done d.state ≡ true
last_is_done [] d h = cc
last_is_done (e ∷ es) d h = let r = last_is_done es d in grind (arith, h, r)

part_of_get : (n : ℕ) (es : List Entry) (k : ℕ) (d : Entry) → k < n → slice_get es k ≡ Some d → slice_get (take n es) k ≡ Some d
part_of_get zero es k d lt h = absurd (omega (arith, lt))
part_of_get (suc n) [] k d lt h = h
part_of_get (suc n) (e ∷ es) zero d lt h = h
part_of_get (suc n) (e ∷ es) (suc k) d lt h = part_of_get n es k d (omega (arith, lt)) h

pub last_done_of : (es part : List Entry) (n m k : ℕ) → m ≤ n → part ≡ take m es → last_done part ≡ last_done (take n es) → k < length part → slice_get part k ≡ last_done part → IsLastDoneOf es n k
last_done_of es [] n m k le is last below at = absurd (omega (arith, below))
last_done_of es (x ∷ xs) n m k le is last below at =
    let part = x ∷ xs in
    let get = slice_get-get_or part k x below in
    let e = get_or part k x in
    let short = ap length is ∙ length-take m es in
    let whole = get_of_part m es k e (ap (λ (ys : List Entry). slice_get ys k) (sym is) ∙ get) in
    let in_n : k < n = omega (arith, short, below, le) in
    let again = part_of_get n es k e in_n whole in record {
      below = in_n;
      entry = e;
      at = whole;
      done = last_is_done part e (sym at ∙ get);
      found = (omega (arith, short, below, le, length-take n es), again ∙ sym get ∙ at ∙ last);
    }
