-- What lists end with.
use Rattle.std.proofs.Common.{◌≡◌, ℕ, zero, suc, ◌+◌, ◌<◌, ◌⊎◌, inl, inr, Bool, true, false, ◌==◌, List, [], ◌∷◌, Option, Some, None, length, map, get_or, refl, sym, ap, ◌∙◌, subst, arith}
use Rattle.std.specs.Prelude.{slice_get}
use Rattle.std.specs.Option.{IsSome, option_or}
use Rattle.std.proofs.lemmas.Bool.{true≢false, false≢true, or_left, or_right, eqb-true, eq-eqb, cases_Bool}
use Rattle.std.proofs.lemmas.List.{get_or_default}
use Rattle.std.proofs.lemmas.Option.{get_or_from_slice_get}
use Rattle.script_tree.specs.declared.value.Value.{Value}
use Rattle.signal_graph.specs.Graph.{Graph}
use Rattle.node_versions.specs.declared.entry.Entry.{Entry}
use Rattle.node_versions.specs.Entries.{Versions, IsUnique, has, at, is_done, last_done, only_done, state_of as state_in, value_of, up_to}
use Rattle.flow_model.specs.Machine.State.{Core, Cell, entries}
use Rattle.flow_model.specs.Machine.Histories.{last_values}
use Rattle.flow_model.specs.Parts.Books.{Work}
use Rattle.flow_state.specs.Booked.{Booked}
use Rattle.flow_state.specs.Fitting.{list_of}
use Rattle.interleave_core.specs.Whole.{cells_of, state_of, IsWhole}
use Rattle.step_rules.specs.Sights.{no_versions, list_at}
use Rattle.interleave_core.specs.Ending.{HasLastValue, HaveLastValues, last_value}
use Rattle.interleave_core.proofs.Fits.{list_fits, all_nodes}

-- ---- the call of the last entry finds the last Done

pub record IsLast (es : List Entry) (v : ℕ) : Type 0 where
  pub has_entry : has es v ≡ true
  pub all : up_to es v ≡ es

only_one : (x : Entry) → IsLast (x ∷ []) x.version
only_one x = let t = eq-eqb x.version x.version refl in record {
  has_entry = or_left _ _ t;
  all = ap (λ (b : Bool). elim b as (λ _. List Entry) [ true ↦ x ∷ [] | false ↦ x ∷ [] ]) t;
}

pub last_is : (es : List Entry) (i : ℕ) (e : Entry) → IsUnique es → i + 1 ≡ length es → slice_get es i ≡ Some e → IsLast es e.version
last_is [] i e u h got = absurd (omega (arith, h))
last_is (x ∷ []) zero e u h got = subst (λ (y : Entry). IsLast (x ∷ []) y.version) (get_or_from_slice_get (x ∷ []) 0 e e got) (only_one x)
last_is (x ∷ y ∷ es) zero e u h got = absurd (omega (arith, h))
last_is (x ∷ xs) (suc i) e u h got = go (cases_Bool (x.version == e.version)) (last_is xs i e u.1 (omega (arith, h)) got)
  where
    go : ((x.version == e.version) ≡ true) ⊎ ((x.version == e.version) ≡ false) → IsLast xs e.version → IsLast (x ∷ xs) e.version
    go (inl t) r = absurd (true≢false (sym r.has_entry ∙ subst (λ (v : ℕ). has xs v ≡ false) (eqb-true x.version e.version t) u.0))
    go (inr f) r = record {
      has_entry = or_right _ _ r.has_entry;
      all = ap (λ (b : Bool). elim b as (λ _. List Entry) [ true ↦ x ∷ [] | false ↦ x ∷ up_to xs e.version ]) f
          ∙ ap (λ (ys : List Entry). x ∷ ys) r.all;
    }

-- ---- each list has a Done

pub done_some : (es : List Entry) (u : ℕ) → at is_done es u ≡ true → IsSome (last_done es)
done_some [] u h = absurd (false≢true h)
done_some (e ∷ es) u h = go (e.version == u) h (done_some es u)
  where
    first : (o : Option Entry) (b : Bool) → b ≡ true
        → IsSome (option_or o (elim b as (λ _. Option Entry) [ true ↦ Some e | false ↦ None ]))
    first (Some x) b d = refl
    first None true d = refl
    first None false d = d

    rest : (o p : Option Entry) → IsSome o → IsSome (option_or o p)
    rest (Some x) p s = refl
    rest None p s = absurd (false≢true s)

    go : (b : Bool) → elim b as (λ _. Bool) [ true ↦ is_done e.state | false ↦ at is_done es u ] ≡ true
        → (at is_done es u ≡ true → IsSome (last_done es)) → IsSome (last_done (e ∷ es))
    go true d further = first (last_done es) (is_done e.state) d
    go false d further = rest (last_done es) (only_done e) (further d)

pub have_last_values : (graph : Graph) (book : Booked) (lists : List Versions) → IsWhole graph book lists → HaveLastValues lists
have_last_values graph book lists kept n below =
    let s : Core = state_of book.book lists in
    let is : list_at lists n ≡ list_of graph s n = list_fits graph book lists n (list_at lists n) kept below (get_or_default lists n no_versions (list_at lists n) below) in
    let many = kept.lawful.lists in
    let all = all_nodes graph book lists kept in
    let done = kept.lawful.ended_is_prefix.done n (omega (arith, below, many, all)) in
    subst HasLastValue (sym is) (record { unique = kept.lawful.one_entry n; done = done_some (entries s n) done.0 done.2 })

pub last_at : (lists : List Versions) (n : ℕ) (list : Versions) → HaveLastValues lists → n < length lists → list ≡ get_or lists n list
    → HasLastValue list
last_at lists n list have below is = subst HasLastValue (sym (is ∙ get_or_default lists n list no_versions below)) (have n below)

-- ---- the values of all lists

values_are : (ws : List Work) (ls : List Versions) → length ls ≡ length ws
    → map last_value ls ≡ map (λ (c : Cell). value_of (state_in (last_done c.entries))) (cells_of ws ls)
values_are [] [] h = refl
values_are [] (l ∷ ls) h = absurd (omega (arith, h))
values_are (w ∷ ws) [] h = refl
values_are (w ∷ ws) (l ∷ ls) h = ap (λ (vs : List Value). last_value l ∷ vs) (values_are ws ls (omega (arith, h)))

pub last_values_are : (graph : Graph) (book : Booked) (lists : List Versions) → IsWhole graph book lists
    → map last_value lists ≡ last_values (state_of book.book lists)
last_values_are graph book lists kept = values_are book.book.works lists kept.many

pub some_length : (es : List Entry) → IsSome (last_done es) → 0 < length es
some_length [] h = absurd (false≢true h)
some_length (e ∷ es) h = omega arith
