-- Behind an entry that stops a call all do.
use Rattle.std.proofs.Common.{◌≡◌, ℕ, suc, ◌+◌, Bool, true, false, not, ◌||◌, ◌&&◌, cond, List, [], ◌∷◌, Option, Some, None, length, take, take_all, refl, sym, ap, ◌∙◌, subst, arith, true≢false}
use Rattle.std.specs.List.{position_or_len}
use Rattle.std.proofs.lemmas.Bool.{or_left, or_right, eq-eqb}
use Rattle.signal_graph.specs.Graph.{Graph}
use Rattle.order_graph.specs.Order.{reaches}
use Rattle.order_graph.proofs.Reaching.{reaches-join}
use Rattle.node_versions.specs.declared.entry.Entry.{Entry}
use Rattle.node_versions.specs.declared.entry.State.TheVariants.{Mark}
use Rattle.node_versions.specs.Entries.{Versions, rest, AllStop, StopsToTheEnd}
use Rattle.node_versions.proofs.Places.{one_more}
use Rattle.flow_model.specs.Machine.State.{Core, live, executes}
use Rattle.flow_model.specs.Machine.Changes.{stops, stops_call, last_version}
use Rattle.flow_model.specs.Kept.Lawful.{ended_before}
use Rattle.flow_model.proofs.OneList.Entering.{Standing, Comes, comes_by, stop-live}
use Rattle.flow_model.proofs.OneList.InOrder.{Ascends, Each}
use Rattle.flow_model.proofs.OrderStays.AfterEachStep.{lawful-Standing}
use Rattle.flow_state.specs.Booked.{Booked, live_in, stops_in}
use Rattle.flow_model.specs.Parts.Books.{Book}
use Rattle.entering.specs.Entering.{CanEnter, stops_entry, lives_in, link_if, link_before}
use Rattle.entering.proofs.Entrances.{stops-same}

-- ---- in a list of which each call is before those behind it

-- The test goes on: what stands behind an entry that stops, stops.
abbrev GoesOn : (ℕ → ℕ → Type 0) → (Entry → Bool) → Type 0
GoesOn R test = (d e : Entry) → test d ≡ true → R d.version e.version → test e ≡ true

all-stop : (R : ℕ → ℕ → Type 0) (test : Entry → Bool) → GoesOn R test → (d : Entry) → test d ≡ true → (es : List Entry) → Each (R d.version) es → AllStop test es
all-stop R test on d stops [] h = tt
all-stop R test on d stops (e ∷ es) h =
    (on d e stops (h e.version (or_left _ _ (eq-eqb e.version e.version refl))), all-stop R test on d stops es (λ u k. h u (or_right _ _ k)))

pub to_the_end : (R : ℕ → ℕ → Type 0) (test : Entry → Bool) → GoesOn R test → (es : List Entry) → Ascends R es → StopsToTheEnd test es
to_the_end R test on [] h = tt
to_the_end R test on (e ∷ es) h = go (test e) refl (to_the_end R test on es h.1)
  where
    go : (b : Bool) → test e ≡ b → StopsToTheEnd test es → AllStop test (elim b as (λ _. List Entry) [ true ↦ e ∷ es | false ↦ rest test es ])
    go true k r = (k, all-stop R test on e k es h.0)
    go false k r = r

-- ---- in a lawful state

-- What comes after a call that stops a live one stops that too: both are live, the order is passed on, and after a framing
-- call no other executes.
still_stops : (tu tv uv lt lu lv xt xu xv old : Bool) → lt ≡ true → lu ≡ true → (tu ≡ true → uv ≡ true → tv ≡ true)
    → ((lu && not xu) ≡ true → xv ≡ true → uv ≡ false)
    → ((tu || (not lt && lu)) || (xt && (lu && not xu))) ≡ true
    → comes_by lv (uv || (not lu && lv)) (not lu) old ≡ true
    → ((tv || (not lt && lv)) || (xt && (lv && not xv))) ≡ true
still_stops tu tv uv lt lu lv xt xu xv old t u trans apart stops comes = grind (arith, t, u, trans, apart, stops, comes)

stops-on : (s : Core) (old : ℕ → ℕ → Bool) (t u v : ℕ) → Standing s old → live s t ≡ true → stops_call s t u ≡ true → Comes s old u v → stops_call s t v ≡ true
stops-on s old t u v stands lives stop comes =
    still_stops (reaches s.pairs t u) (reaches s.pairs t v) (reaches s.pairs u v) (live s t) (live s u) (live s v) (executes s t) (executes s u) (executes s v) (old u v)
    lives (stop-live s t u stands.pairs_live lives stop) (reaches-join s.pairs t u v) (stands.order.apart u v) stop comes

pub entries-stop : (graph : Graph) (s : Core) (book : Booked) (n : ℕ) (list : Versions) (t : ℕ) → CanEnter graph s book n list t → StopsToTheEnd (stops_entry book t) list.entries
entries-stop graph s book n list t can =
    let stands = lawful-Standing graph s can.fits.lawful in
    let same = stops-same graph s book t can.fits can.is_live in
    to_the_end (Comes s (ended_before s.log)) (stops_entry book t)
    (λ d e stop comes. same e ∙ stops-on s (ended_before s.log) t d.version e.version stands can.is_live (sym (same d) ∙ stop) comes)
    list.entries (subst (Ascends (Comes s (ended_before s.log))) (sym (ap (λ (l : Versions). l.entries) can.is_list)) (stands.lists n))

-- ---- behind a call that has ended

-- the last of entries that all stop does
last-stops : (p : ℕ → Bool) (v : ℕ) (es : List Entry) → p v ≡ true → AllStop (λ e. p e.version) es → ((u : ℕ) → last_version (Some v) es ≡ Some u → p u ≡ false) → ⊥
last-stops p v [] here all h = true≢false (sym here ∙ h v refl)
last-stops p v (e ∷ es) here all h = last-stops p e.version es all.0 all.1 h

-- Where the last entry doesn't stop, none does.
none-stops : (p : ℕ → Bool) (seen : Option ℕ) (es : List Entry) → StopsToTheEnd (λ e. p e.version) es → ((u : ℕ) → last_version seen es ≡ Some u → p u ≡ false) → length es ≡ position_or_len (λ (e : Entry). p e.version) es
none-stops p seen [] to_end h = refl
none-stops p seen (e ∷ es) to_end h = go (p e.version) refl to_end (λ k. none-stops p (Some e.version) es k h)
  where
    test : Entry → Bool
    test e = p e.version

    go : (b : Bool) → p e.version ≡ b → AllStop test (elim b as (λ _. List Entry) [ true ↦ e ∷ es | false ↦ rest test es ]) → (StopsToTheEnd test es → length es ≡ position_or_len test es)
        → suc (length es) ≡ cond (not b) (1 + position_or_len test es) 0
    go true is k r = absurd (last-stops p e.version es is k.1 h)
    go false is k r = ap suc (r k) ∙ sym (one_more (position_or_len test es))

-- A call that has ended stops none that lives.
ended-stops : (graph : Graph) (s : Core) (book : Booked) (n : ℕ) (list : Versions) (t u : ℕ) → CanEnter graph s book n list t → live_in book u ≡ false → stops_in book t u ≡ false
ended-stops graph s book n list t u can ended = go (stops_call s t u) refl
  where
    same : stops_in book t u ≡ stops_call s t u
    same = stops-same graph s book t can.fits can.is_live (record { version = u; slot = 0; state = Mark })

    over : live s u ≡ false
    over = sym (ap (λ (f : Book). live_in (record book { book = f }) u) can.fits.parts) ∙ ended

    go : (b : Bool) → stops_call s t u ≡ b → stops_in book t u ≡ false
    go true is = absurd (true≢false (sym (stop-live s t u (lawful-Standing graph s can.fits.lawful).pairs_live can.is_live is) ∙ over))
    go false is = same ∙ is

pub end-is_place : (graph : Graph) (s : Core) (book : Booked) (n : ℕ) (list : Versions) (t place : ℕ) (last : Option ℕ) → CanEnter graph s book n list t → place ≡ length list.entries
    → last ≡ last_version None (take place list.entries) → lives_in book last ≡ false → place ≡ position_or_len (stops_entry book t) list.entries
end-is_place graph s book n list t place last can end is ended = end ∙ none-stops (stops_in book t) None list.entries (entries-stop graph s book n list t can) (λ u k. ended-stops graph s book n list t u can (over u k))
  where
    whole : take place list.entries ≡ list.entries
    whole = take_all place list.entries (omega (arith, end))

    over : (u : ℕ) → last_version None list.entries ≡ Some u → live_in book u ≡ false
    over u k = sym (ap (lives_in book) (is ∙ ap (last_version None) whole ∙ k)) ∙ ended

-- nothing is recorded behind a call that has ended
pub links-none : (book : Booked) (last : Option ℕ) (t n : ℕ) → lives_in book last ≡ false → book ≡ link_before book last t n
links-none book None t n ended = refl
links-none book (Some u) t n ended = sym (ap (λ b. link_if b book u t n) ended)
