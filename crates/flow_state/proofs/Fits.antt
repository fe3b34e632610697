-- What a lawful state says of the book and the lists that fit it.
use Rattle.std.proofs.Common.{◌≡◌, ℕ, suc, ◌<◌, Bool, true, false, ◌==◌, List, [], ◌∷◌, Option, Some, None, length, map, refl, sym, ap, ◌∙◌, subst, arith, true≢false}
use Rattle.std.specs.Option.{IsSome, is_some, option_or}
use Rattle.std.proofs.Math.ListN.{get_or-map}
use Rattle.std.proofs.lemmas.Bool.{eqb-true, eq-eqb, false_from_ne_true, both_ways}
use Rattle.signal_graph.specs.Graph.{Graph}
use Rattle.node_versions.specs.declared.entry.Entry.{Entry}
use Rattle.node_versions.specs.Entries.{is_frame, is_done, has, at, behind, before, up_to, last_done, only_done}
use Rattle.node_versions.proofs.Places.{at-has}
use Rattle.flow_model.specs.Machine.State.{Core, Cell, cell, no_cell, entries, live}
use Rattle.flow_model.specs.Machine.Words.{heads}
use Rattle.flow_model.specs.Kept.Lawful.{IsLawful}
use Rattle.flow_model.proofs.OneList.StatesAndPlaces.{first_open-frame}
use Rattle.flow_model.proofs.OrderStays.NoFrameBeforeDones.{head-first}
use Rattle.flow_model.proofs.OrderStays.OpenNodesHaveFrames.{entry-there}
use Rattle.flow_state.specs.Booked.{Booked, live_in, node_count, work_at}
use Rattle.flow_model.specs.Parts.Books.{work_in, Book}
use Rattle.flow_state.specs.Fitting.{IsBookOf}

-- ---- the book

pub length-works : (cs : List Cell) → length (map work_in cs) ≡ length cs
length-works [] = refl
length-works (c ∷ cs) = ap suc (length-works cs)

pub fits_live : (graph : Graph) (s : Core) (book : Booked) (t : ℕ) → IsBookOf graph s book → live s t ≡ true → live_in book t ≡ true
fits_live graph s book t fits h = subst (λ (f : Book). live_in (record book { book = f }) t ≡ true) (sym fits.parts) h

pub fits_node : (graph : Graph) (s : Core) (book : Booked) (n : ℕ) → IsBookOf graph s book → n < length s.cells → n < node_count book
fits_node graph s book n fits h = subst (λ (f : Book). n < node_count (record book { book = f })) (sym fits.parts) (let l = length-works s.cells in omega (arith, l, h))

pub same_work : (graph : Graph) (s : Core) (book : Booked) (n : ℕ) → IsBookOf graph s book → work_at book n ≡ work_in (cell s n)
same_work graph s book n fits = ap (λ (f : Book). work_at (record book { book = f }) n) fits.parts ∙ get_or-map work_in s.cells n no_cell

-- ---- Dones before an entry

or_left_some : {A : Type 0} (x y : Option A) → IsSome x → IsSome (option_or x y)
or_left_some (Some a) y h = refl
or_left_some None y h = absurd (true≢false (sym h))

more_some : {A : Type 0} (x z y : Option A) → (IsSome x → IsSome z) → IsSome (option_or x y) → IsSome (option_or z y)
more_some (Some a) z y go h = or_left_some z y (go refl)
more_some None (Some b) y go h = refl
more_some None None y go h = h

abbrev with_first : Bool → Entry → List Entry → List Entry
with_first b e es = elim b [ true ↦ [] | false ↦ e ∷ es ]

done_some : (e : Entry) (es : List Entry) → is_done e.state ≡ true → IsSome (last_done (e ∷ es))
done_some e es h = go (last_done es) (only_done e) (ap (λ (b : Bool). is_some (elim b as (λ _. Option Entry) [ true ↦ Some e | false ↦ None ])) h)
  where
    go : (x y : Option Entry) → IsSome y → IsSome (option_or x y)
    go (Some a) y k = refl
    go None y k = k

done_before : (es : List Entry) (t u : ℕ) → (u == t) ≡ false → at is_done es u ≡ true → behind es t u ≡ false → IsSome (last_done (before es t))
done_before [] t u other done after = absurd (true≢false (sym done))
done_before (e ∷ es) t u other done after = go (e.version == t) refl (e.version == u) refl done after (done_before es t u other)
  where
    go : (a : Bool) → (e.version == t) ≡ a → (b : Bool) → (e.version == u) ≡ b → elim b [ true ↦ is_done e.state | false ↦ at is_done es u ] ≡ true → elim a [ true ↦ has es u | false ↦ behind es t u ] ≡ false → (at is_done es u ≡ true → behind es t u ≡ false → IsSome (last_done (before es t))) → IsSome (last_done (with_first a e (before es t)))
    go true i true j d k r = absurd (both_ways _ other (eq-eqb u t (sym (eqb-true e.version u j) ∙ eqb-true e.version t i)))
    go true i false j d k r = absurd (both_ways _ k (at-has is_done es u d))
    go false i true j d k r = done_some e (before es t) d
    go false i false j d k r = or_left_some _ _ (r d k)

done_up_to : (es : List Entry) (t : ℕ) → IsSome (last_done (before es t)) → IsSome (last_done (up_to es t))
done_up_to [] t h = h
done_up_to (e ∷ es) t h = go (e.version == t) (done_up_to es t) h
  where
    go : (a : Bool) → (IsSome (last_done (before es t)) → IsSome (last_done (up_to es t))) → IsSome (last_done (with_first a e (before es t))) → IsSome (last_done (elim a [ true ↦ e ∷ [] | false ↦ e ∷ up_to es t ]))
    go true r k = absurd (true≢false (sym k))
    go false r k = more_some (last_done (before es t)) (last_done (up_to es t)) (only_done e) r k

-- Some call that has ended has a Done in each list, before the entries of live calls.
pub lawful_before : (graph : Graph) (s : Core) (n t : ℕ) → IsLawful graph s → live s t ≡ true → has (entries s n) t ≡ true → IsSome (last_done (before (entries s n) t))
lawful_before graph s n t lawful alive here =
    let d = lawful.ended_is_prefix.done n (entry-there s n t here) in
    let other = false_from_ne_true (d.0 == t) (λ e. both_ways _ d.1 (subst (λ (u : ℕ). live s u ≡ true) (sym (eqb-true d.0 t e)) alive)) in
    done_before (entries s n) t d.0 other d.2 (false_from_ne_true _ (λ b. both_ways _ (lawful.ended_is_prefix.prefix n t d.0 b d.1) alive))

pub lawful_up_to : (graph : Graph) (s : Core) (n t : ℕ) → IsLawful graph s → live s t ≡ true → has (entries s n) t ≡ true → IsSome (last_done (up_to (entries s n) t))
lawful_up_to graph s n t lawful alive here = done_up_to (entries s n) t (lawful_before graph s n t lawful alive here)

-- ---- the first open call of a list

pub heads_frame : (graph : Graph) (s : Core) (n t : ℕ) → IsLawful graph s → heads s t n ≡ true → at is_frame (entries s n) t ≡ true
heads_frame graph s n t lawful h = first_open-frame (entries s n) t (lawful.one_entry n) (head-first (entries s n) t h)

pub heads_has : (graph : Graph) (s : Core) (n t : ℕ) → IsLawful graph s → heads s t n ≡ true → has (entries s n) t ≡ true
heads_has graph s n t lawful h = at-has is_frame (entries s n) t (heads_frame graph s n t lawful h)
