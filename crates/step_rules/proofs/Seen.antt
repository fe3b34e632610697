-- What the code finds of a list by indexes.
use Rattle.std.proofs.Common.{◌≡◌, ℕ, ◌+◌, ◌<◌, ◌≤◌, Bool, true, false, not, ◌||◌, ◌==◌, cond, List, [], ◌∷◌, length, take, drop, nat_lt, refl, sym, ap, ◌∙◌, arith, subst, zero, suc, Option, Some, None, true≢false}
use Rattle.std.specs.List.{position_or_len, position, slice_get}
use Rattle.std.proofs.lemmas.Bool.Decides.{eqb_tells, nat_tests}
use Rattle.std.proofs.lemmas.Bool.{eqb-true}
use Rattle.script_tree.proofs.Lists.{drop_got}
use Rattle.node_versions.specs.declared.entry.Entry.{Entry}
use Rattle.node_versions.specs.declared.entry.State.{State}
use Rattle.node_versions.specs.Entries.{is_mark, is_frame, has, at, behind, before, IsUnique, is_of, first_open, OutEdge, has_out, has_node, is_edge}
use Rattle.node_versions.proofs.Places.{place, has-place, take-before, has_at_place}
use Rattle.node_versions.proofs.Indexes.{opens, entry_at_index}
use Rattle.flow_model.specs.Machine.Next.{blocked, blocked_by, kept_if}
use Rattle.flow_model.proofs.Together.WorkIsAllowed.{first_open-has}
use Rattle.step_rules.specs.Sights.{sight_of}

-- where the first Frame stands below an index, and where it doesn't
pub open_below : (es : List Entry) (n : ℕ) → first_open (take n es) ≡ elim (nat_lt (position_or_len opens es) n) as (λ _. Option ℕ) [ true ↦ first_open es | false ↦ None ]
open_below es zero = grind (arith, nat_tests)
open_below [] (suc n) = grind (arith, nat_tests)
open_below (e ∷ es) (suc n) = go (is_frame e.state) (open_below es n)
  where
    p : ℕ
    p = position_or_len opens es

    zero-below : true ≡ nat_lt 0 (suc n)
    zero-below = grind (arith, nat_tests)

    go : (b : Bool) → first_open (take n es) ≡ elim (nat_lt p n) as (λ _. Option ℕ) [ true ↦ first_open es | false ↦ None ]
        → elim b as (λ _. Option ℕ) [ true ↦ Some e.version | false ↦ first_open (take n es) ]
        ≡ elim (nat_lt (cond (not b) (1 + p) 0) (suc n)) as (λ _. Option ℕ) [ true ↦ elim b as (λ _. Option ℕ) [ true ↦ Some e.version | false ↦ first_open es ] | false ↦ None ]
    go true r = ap {A = Bool} (λ k. elim k as (λ _. Option ℕ) [ true ↦ Some e.version | false ↦ None ]) zero-below
    go false r = r ∙ ap {A = Bool} (λ k. elim k as (λ _. Option ℕ) [ true ↦ first_open es | false ↦ None ]) (grind (arith, nat_tests))

no_behind : (es : List Entry) (t u : ℕ) → has es u ≡ false → behind es t u ≡ false
no_behind [] t u h = refl
no_behind (e ∷ es) t u h = let r = no_behind es t u in grind (arith, h, r)

-- without an entry nothing stands before it
pub blocked-none : (es : List Entry) (t : ℕ) → has es t ≡ false → blocked es t ≡ None
blocked-none es t h = go (first_open es)
  where
    go : (o : Option ℕ) → blocked_by es t o ≡ None
    go None = refl
    go (Some v) = ap (λ b. kept_if b v) (no_behind es v t h)

-- an entry's own version is not among the others
own-version : (es : List Entry) (v t : ℕ) → has es v ≡ false → (v == t) ≡ true → has es t ≡ false
own-version es v t q k = subst (λ u. has es u ≡ false) (eqb-true v t k) q

-- the first Frame's call in the rest is not the first entry's
other-version : (es : List Entry) (v u : ℕ) → has es v ≡ false → has es u ≡ true → (v == u) ≡ false
other-version es v u q h = go (v == u) refl
  where
    go : (b : Bool) → (v == u) ≡ b → (v == u) ≡ false
    go true k = absurd (true≢false (sym h ∙ own-version es v u q k))
    go false k = k

-- of two tests, whether the second stands behind the first where the first entry is of neither
abbrev Behind : Bool → List Entry → ℕ → ℕ → Bool
Behind b es u t = elim b as (λ _. Bool) [ true ↦ has es t | false ↦ behind es u t ]

-- a Frame that stands before the entry is the first Frame of what stands before it
pub blocked-before : (es : List Entry) (t : ℕ) → IsUnique es → has es t ≡ true → blocked es t ≡ first_open (before es t)
blocked-before [] t q h = absurd (true≢false (sym h))
blocked-before (e ∷ es) t q h = go (is_frame e.state) (e.version == t) refl h (blocked-before es t q.1) ∙ parts (e.version == t)
  where
    v : ℕ
    v = e.version

    Here : Bool → Bool → Option ℕ
    Here b c = elim c as (λ _. Option ℕ) [ true ↦ None | false ↦ elim b as (λ _. Option ℕ) [ true ↦ Some v | false ↦ first_open (before es t) ] ]

    parts : (c : Bool) → Here (is_frame e.state) c ≡ first_open (elim c as (λ _. List Entry) [ true ↦ [] | false ↦ e ∷ before es t ])
    parts true = refl
    parts false = refl

    own : (v == v) ≡ true
    own = grind (arith, eqb_tells)

    at_own : (c : Bool) → has es t ≡ c → kept_if (Behind (v == v) es v t) v ≡ kept_if c v
    at_own c k = ap (λ b. kept_if (Behind b es v t) v) own ∙ ap (λ b. kept_if b v) k

    passed : (o : Option ℕ) → has es t ≡ false → blocked_by (e ∷ es) t o ≡ None
    passed None k = refl
    passed (Some u) k = ap (λ b. kept_if b u) (none (v == u))
      where
        none : (b : Bool) → Behind b es u t ≡ false
        none true = k
        none false = no_behind es u t k

    before_it : (o : Option ℕ) → first_open es ≡ o → blocked_by (e ∷ es) t o ≡ blocked_by es t o
    before_it None k = refl
    before_it (Some u) k = ap (λ b. kept_if (Behind b es u t) u) (other-version es v u q.0 (first_open-has es u k))

    go : (b c : Bool) → (v == t) ≡ c → (c || has es t) ≡ true → (has es t ≡ true → blocked es t ≡ first_open (before es t))
        → blocked_by (e ∷ es) t (elim b as (λ _. Option ℕ) [ true ↦ Some v | false ↦ first_open es ]) ≡ Here b c
    go true true k h r = at_own false (own-version es v t q.0 k)
    go true false k h r = at_own true h
    go false true k h r = passed (first_open es) (own-version es v t q.0 k)
    go false false k h r = before_it (first_open es) refl ∙ r h

-- the first Frame's call, where that Frame stands before the entry's index
pub blocked-at : (es : List Entry) (t i : ℕ) → IsUnique es → i ≡ place es t → i < length es → first_open (take i es) ≡ blocked es t
blocked-at es t i q at h =
    let r = has-place es t in
    ap (λ n. first_open (take n es)) at ∙ ap first_open (take-before es t) ∙ sym (blocked-before es t q (grind (arith, nat_tests, r, at, h)))

-- the entry of an index is a Mark where the call's is
pub at-index : (es : List Entry) (t i : ℕ) (e : Entry) (test : State → Bool) → i ≡ place es t → slice_get es i ≡ Some e → test e.state ≡ at test es t
at-index es t i e test is h = sym ((entry_at_index es t i is).state e test h)

-- ---- indexes that are found

found-first : (p n i : ℕ) → cond (nat_lt p n) (Some p) None ≡ Some i → p ≡ i
found-first p n i h = go (nat_lt p n) h
  where
    go : (b : Bool) → cond b (Some p) None ≡ Some i → p ≡ i
    go true h = grind (arith, h)
    go false h = cc

pub found-at : (test : Entry → Bool) (es : List Entry) (i : ℕ) → position test es ≡ Some i → i ≡ position_or_len test es
found-at test es i h = sym (found-first (position_or_len test es) (length es) i h)

-- where there is a first Frame at an index, and where there is none
pub below-found : (es : List Entry) (i n : ℕ) (v : ℕ) → Some i ≡ position opens es → first_open es ≡ Some v → i < n → Some v ≡ first_open (take n es)
below-found es i n v at is h =
    let p = found-at opens es i (sym at) in
    let r : nat_lt (position_or_len opens es) n ≡ true = grind (arith, nat_tests, p, h) in
    sym is ∙ sym (ap {A = Bool} (λ k. elim k as (λ _. Option ℕ) [ true ↦ first_open es | false ↦ None ]) r) ∙ sym (open_below es n)

pub below-late : (es : List Entry) (i n : ℕ) → Some i ≡ position opens es → n ≤ i → None ≡ first_open (take n es)
below-late es i n at h =
    let p = found-at opens es i (sym at) in
    let r : nat_lt (position_or_len opens es) n ≡ false = grind (arith, nat_tests, p, h) in
    sym (ap {A = Bool} (λ k. elim k as (λ _. Option ℕ) [ true ↦ first_open es | false ↦ None ]) r) ∙ sym (open_below es n)

pub below-none : (es : List Entry) (n : ℕ) → first_open es ≡ None → None ≡ first_open (take n es)
below-none es n is = sym (open_below es n ∙ go (nat_lt (position_or_len opens es) n))
  where
    go : (b : Bool) → elim b as (λ _. Option ℕ) [ true ↦ first_open es | false ↦ None ] ≡ None
    go true = is
    go false = refl

-- ---- out-edges

-- what is found from an index on
pub out-here : (outs : List OutEdge) (i n t : ℕ) (edge : OutEdge) → slice_get outs i ≡ Some edge
    → has_out (drop i outs) n t ≡ (is_edge n t edge || has_out (drop (i + 1) outs) n t)
out-here outs i n t edge h = ap (λ (xs : List OutEdge). has_out xs n t) (drop_got outs i edge h)

pub node-here : (outs : List OutEdge) (i n : ℕ) (edge : OutEdge) → slice_get outs i ≡ Some edge
    → has_node (drop i outs) n ≡ ((edge.0 == n) || has_node (drop (i + 1) outs) n)
node-here outs i n edge h = ap (λ (xs : List OutEdge). has_node xs n) (drop_got outs i edge h)

-- ---- what a list says of a call

pub absent-sight : (es : List Entry) (t n : ℕ) (o : Option ℕ) → n ≡ length es → o ≡ first_open es → false ≡ has es t
    → record { len = n; has = false; is_mark = false; first_open = o; blocked = None } ≡ sight_of es t
absent-sight es t n o len first h = λ i. record {
  len = len i;
  has = h i;
  is_mark = no_mark es t h i;
  first_open = first i;
  blocked = sym (blocked-none es t (sym h)) i;
}
  where
    no_mark : (es : List Entry) (t : ℕ) → false ≡ has es t → false ≡ at is_mark es t
    no_mark [] t h = refl
    no_mark (e ∷ es) t h = let r = no_mark es t in grind (arith, h, r)

pub present-sight : (es : List Entry) (t i n : ℕ) (m : Bool) (e : Entry) (o b : Option ℕ) → IsUnique es → i ≡ position_or_len (is_of t) es → i < length es
    → n ≡ length es → m ≡ is_mark e.state → slice_get es i ≡ Some e → o ≡ first_open es → b ≡ first_open (take i es)
    → record { len = n; has = true; is_mark = m; first_open = o; blocked = b } ≡ sight_of es t
present-sight es t i n m e o b q at h len mark get first below = λ j. record {
  len = len j;
  has = sym (has_at_place es t i at h) j;
  is_mark = (mark ∙ at-index es t i e is_mark at get) j;
  first_open = first j;
  blocked = (below ∙ blocked-at es t i q at h) j;
}
