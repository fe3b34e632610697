-- A call enters a list: what the code needs, and what it makes.
use Rattle.std.proofs.Common.{◌≡◌, ℕ, ◌+◌, Bool, true, false, not, ◌==◌, ◌||◌, ◌&&◌, List, ◌∷◌, ◌++◌, Option, Some, None, take, drop, refl, sym, ap, ◌∙◌, arith}
use Rattle.std.specs.Prelude.{insert}
use Rattle.std.specs.List.{position_or_len}
use Rattle.std.proofs.lemmas.Bool.{eq-eqb, true≢false}
use Rattle.signal_graph.specs.Graph.{Graph}
use Rattle.order_graph.specs.declared.pair.Pair.{Pair}
use Rattle.order_graph.specs.Order.{reaches, linked}
use Rattle.order_graph.proofs.Reaching.{reaches-linked}
use Rattle.node_versions.specs.declared.entry.State.{State}
use Rattle.node_versions.specs.declared.entry.Entry.{Entry}
use Rattle.node_versions.specs.Entries.{Versions, has, front, rest, placed, with_entries}
use Rattle.flow_model.specs.Machine.State.{Core, Cell, live, executes, entries}
use Rattle.flow_model.specs.Machine.Changes.{stops, stops_call, first_version, last_version, link_left, link_right, linked_at, new_entry, place_entry}
use Rattle.flow_model.proofs.OrderStays.AfterEachStep.{lawful-Standing}
use Rattle.flow_model.proofs.OneList.Entering.{enter-Standing}
use Rattle.flow_model.proofs.OneList.InOrder.{front-goes, front-has, rest-has, last-has}
use Rattle.flow_model.proofs.OneList.InOrder.{first-has}
use Rattle.flow_model.proofs.Books.StepsChangeBooks.{kept-works}
use Rattle.flow_model.specs.Kept.Lawful.{ended_before}
use Rattle.flow_state.specs.Booked.{Booked, live_in, call_in, stops_in}
use Rattle.flow_model.specs.Parts.Books.{Work, book_of, Book}
use Rattle.flow_state.specs.Fitting.{IsBookOf, choosers}
use Rattle.flow_state.proofs.OneCell.{cell-changed}
use Rattle.entering.specs.Entering.{CanEnter, Enters, stops_entry, link_if, link_before, link_behind, CanLinkBefore, CanLinkBehind}
use Rattle.entering.proofs.Places.{place-same, take-front, drop-rest}

-- ---- the same words of a book and of its state

stop_words : (r e l x t : Bool) → t ≡ true → (r || (e && (l && not x))) ≡ ((r || (not t && l)) || (e && (l && not x)))
stop_words r e l x t h = grind (arith, h)

pub stops-same : (graph : Graph) (s : Core) (book : Booked) (t : ℕ) → IsBookOf graph s book → live s t ≡ true → (e : Entry) → stops_entry book t e ≡ stops s t e
stops-same graph s book t fits lt e =
    ap (λ (f : Book). stops_in (record book { book = f }) t e.version) fits.parts
    ∙ stop_words (reaches s.pairs t e.version) (executes s t) (live s e.version) (executes s e.version) (live s t) lt

-- What the place of a call is: the parts of the list before and behind it.
pub record IsPlace (s : Core) (n t : ℕ) (es : List Entry) (place : ℕ) : Type 0 where
  pub before : take place es ≡ front (stops s t) (entries s n)
  pub behind : drop place es ≡ rest (stops s t) (entries s n)

pub place-is : (graph : Graph) (s : Core) (book : Booked) (n : ℕ) (list : Versions) (t place : ℕ) → CanEnter graph s book n list t → place ≡ position_or_len (stops_entry book t) list.entries → IsPlace s n t list.entries place
place-is graph s book n list t place can e =
    let es : list.entries ≡ entries s n = ap (λ (l : Versions). l.entries) can.is_list in
    let p : place ≡ position_or_len (stops s t) (entries s n) = e ∙ place-same (stops_entry book t) (stops s t) list.entries (stops-same graph s book t can.fits can.is_live) ∙ ap (position_or_len (stops s t)) es in
    record {
      before = ap (λ k. take k list.entries) p ∙ ap (take (position_or_len (stops s t) (entries s n))) es ∙ take-front (stops s t) (entries s n);
      behind = ap (λ k. drop k list.entries) p ∙ ap (drop (position_or_len (stops s t) (entries s n))) es ∙ drop-rest (stops s t) (entries s n);
    }

-- ---- the pairs can be recorded

no_stop : (r t l x : Bool) → ((r || (not t && l)) || x) ≡ false → r ≡ false
no_stop true t l x h = absurd (true≢false h)
no_stop false t l x h = refl

pub can_link_left : (graph : Graph) (s : Core) (book : Booked) (n : ℕ) (list : Versions) (t place : ℕ) (left : Option ℕ) → CanEnter graph s book n list t → IsPlace s n t list.entries place → left ≡ last_version None (take place list.entries) → CanLinkBefore book left t
can_link_left graph s book n list t place left can at is = go left (is ∙ ap (last_version None) at.before)
  where
    go : (l : Option ℕ) → l ≡ last_version None (front (stops s t) (entries s n)) → CanLinkBefore book l t
    go None e = tt
    go (Some u) e = λ lu.
        let there = last-has (front (stops s t) (entries s n)) u (sym e) in (
          (λ same. true≢false (sym (front-has (stops_call s t) (entries s n) u there) ∙ ap (has (entries s n)) same ∙ can.no_entry)),
          ap (λ (f : Book). reaches f.pairs t u) can.fits.parts ∙ no_stop (reaches s.pairs t u) (live s t) (live s u) _ (front-goes (stops_call s t) (entries s n) u there),
        )

away_from : (r rvt same : Bool) (whole : Bool) → whole ≡ (r || ((same || rvt) && (true || r))) → whole ≡ false → rvt ≡ false
away_from r rvt same whole e h = grind (arith, e, h)

-- no chain leads back from the right neighbour
pub right_away : (s : Core) (t n v : ℕ) (state : State) (ps : List Pair) → (right : Option ℕ) → right ≡ Some v → live s v ≡ true → ((u : ℕ) → reaches (link_right s t n right ps) u u ≡ false) → reaches ps v t ≡ false
right_away s t n v state ps right e lv free =
    let pairs : link_right s t n right ps ≡ linked ps t v n = ap (λ (r : Option ℕ). link_right s t n r ps) e ∙ ap (λ (b : Bool). elim b [ true ↦ linked ps t v n | false ↦ ps ]) lv in
    let whole = ap (λ (qs : List Pair). reaches qs v v) pairs ∙ reaches-linked ps t v n v v ∙ ap (λ b. reaches ps v v || (((v == t) || reaches ps v t) && (b || reaches ps v v))) (eq-eqb v v refl) in
    away_from (reaches ps v v) (reaches ps v t) (v == t) (reaches (link_right s t n right ps) v v) whole (free v)

-- the flow with other pairs
abbrev with_pairs_of : Booked → Core → List Pair → Booked
with_pairs_of book s ps = record book { book = record (book_of s) { pairs = ps } }

left-linked : (graph : Graph) (s : Core) (book : Booked) (t n : ℕ) (left : Option ℕ) → IsBookOf graph s book → link_before book left t n ≡ with_pairs_of book s (link_left s t n left s.pairs)
left-linked graph s book t n left fits = ap (λ (f : Book). link_before (record book { book = f }) left t n) fits.parts ∙ go left
  where
    by : (b : Bool) (u : ℕ) → link_if b (with_pairs_of book s s.pairs) u t n ≡ with_pairs_of book s (elim b [ true ↦ linked s.pairs u t n | false ↦ s.pairs ])
    by true u = refl
    by false u = refl

    go : (l : Option ℕ) → link_before (with_pairs_of book s s.pairs) l t n ≡ with_pairs_of book s (link_left s t n l s.pairs)
    go None = refl
    go (Some u) = by (live s u) u

right-linked : (s : Core) (book : Booked) (t n : ℕ) (ps : List Pair) (right : Option ℕ) → link_behind (with_pairs_of book s ps) right t n ≡ with_pairs_of book s (link_right s t n right ps)
right-linked s book t n ps None = refl
right-linked s book t n ps (Some u) = by (live s u)
  where
    by : (b : Bool) → link_if b (with_pairs_of book s ps) t u n ≡ with_pairs_of book s (elim b [ true ↦ linked ps t u n | false ↦ ps ])
    by true = refl
    by false = refl

pub can_link_right : (graph : Graph) (s : Core) (book between : Booked) (n : ℕ) (list : Versions) (t place : ℕ) (state : State) (left right : Option ℕ) → CanEnter graph s book n list t → IsPlace s n t list.entries place → left ≡ last_version None (take place list.entries) → right ≡ first_version (drop place list.entries) → between ≡ link_before book left t n → CanLinkBehind between right t
can_link_right graph s book between n list t place state left right can at l_is r_is is = go right (r_is ∙ ap first_version at.behind)
  where
    l : Option ℕ
    l = last_version None (front (stops s t) (entries s n))

    pairs : between ≡ with_pairs_of book s (link_left s t n (last_version None (front (stops s t) (entries s n))) s.pairs)
    pairs = is ∙ ap (λ (x : Option ℕ). link_before book x t n) (l_is ∙ ap (last_version None) at.before) ∙ left-linked graph s book t n (last_version None (front (stops s t) (entries s n))) can.fits

    go : (r : Option ℕ) → r ≡ first_version (rest (stops s t) (entries s n)) → CanLinkBehind between r t
    go None e = tt
    go (Some v) e = λ lv.
        let there = rest-has (stops_call s t) (entries s n) v (first-has (rest (stops s t) (entries s n)) v (sym e)) in
        let lives : live s v ≡ true = sym (ap (λ (b : Booked). live_in b v) pairs) ∙ lv in
        let after = enter-Standing s (ended_before s.log) t n state (lawful-Standing graph s can.fits.lawful) can.is_live can.no_entry in (
          (λ same. true≢false (sym there ∙ ap (has (entries s n)) (sym same) ∙ can.no_entry)),
          ap (λ (b : Booked). reaches b.book.pairs v t) pairs
              ∙ right_away s t n v state (link_left s t n (last_version None (front (stops s t) (entries s n))) s.pairs) (first_version (rest (stops s t) (entries s n))) (sym e) lives after.order.no_cycle,
        )

-- ---- what the entry makes

pub enters : (book between new : Booked) (n : ℕ) (list new_list : Versions) (t place slot : ℕ) (state : State) (left right : Option ℕ)
    → place ≡ position_or_len (stops_entry book t) list.entries → left ≡ last_version None (take place list.entries) → right ≡ first_version (drop place list.entries) → slot ≡ (call_in book t).slot
    → between ≡ link_before book left t n → new ≡ link_behind between right t n → new_list ≡ with_entries list (insert list.entries place (record { version = t; slot = slot; state = state }))
    → Enters book n list t state new new_list
enters book between new n list new_list t place slot state left right p_is l_is r_is s_is b_is n_is e_is graph s can =
    let at = place-is graph s book n list t place can p_is in
    let l : left ≡ last_version None (front (stops s t) (entries s n)) = l_is ∙ ap (last_version None) at.before in
    let r : right ≡ first_version (rest (stops s t) (entries s n)) = r_is ∙ ap first_version at.behind in
    let ps : List Pair = link_left s t n (last_version None (front (stops s t) (entries s n))) s.pairs in
    let e : record { version = t; slot = slot; state = state } ≡ new_entry s t state = ap (λ (k : ℕ). record { version = t; slot = k; state = state }) (s_is ∙ ap (λ (f : Book). (call_in (record book { book = f }) t).slot) can.fits.parts) in (
      n_is ∙ ap (λ (b : Booked). link_behind b right t n) (b_is ∙ ap (λ (x : Option ℕ). link_before book x t n) l ∙ left-linked graph s book t n (last_version None (front (stops s t) (entries s n))) can.fits)
          ∙ ap (λ (x : Option ℕ). link_behind (with_pairs_of book s ps) x t n) r
          ∙ right-linked s book t n ps (first_version (rest (stops s t) (entries s n)))
          ∙ ap (λ (ws : List Work). record book { book = record (book_of s) { works = ws; pairs = linked_at s t n } }) (sym (kept-works n (place_entry s t state) (λ c. refl) s.cells)),
      e_is
          ∙ ap (λ (es : List Entry). with_entries list (es ++ record { version = t; slot = slot; state = state } ∷ drop place list.entries)) at.before
          ∙ ap (λ (es : List Entry). with_entries list (front (stops s t) (entries s n) ++ record { version = t; slot = slot; state = state } ∷ es)) at.behind
          ∙ ap (λ (x : Entry). with_entries list (front (stops s t) (entries s n) ++ x ∷ rest (stops s t) (entries s n))) e
          ∙ ap (λ (v : Versions). with_entries v (placed (stops s t) (new_entry s t state) (entries s n))) can.is_list
          ∙ ap (λ (c : Cell). record { entries = c.entries; outs = c.outs; room = s.callers + 9; outs_room = choosers graph n }) (sym (cell-changed n (place_entry s t state) s.cells can.node)),
    )
