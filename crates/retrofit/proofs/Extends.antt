-- What the second part of Discover asks and makes.
use Rattle.std.proofs.Common.{◌≡◌, ℕ, zero, suc, ◌+◌, ◌<◌, ◌≤◌, Bool, true, false, List, [], ◌∷◌, length, map, drop, get_or, refl, sym, ap, ap₂, ◌∙◌, subst, arith, true≢false, Some}
use Rattle.std.proofs.lemmas.List.{length-map, drop_all}
use Rattle.std.proofs.lemmas.Option.{slice_get-get_or}
use Rattle.std.specs.Prelude.{slice_index_or, slice_get}
use Rattle.signal_graph.specs.Graph.{Graph}
use Rattle.node_versions.specs.declared.entry.Entry.{Entry}
use Rattle.node_versions.specs.declared.entry.State.TheVariants as modes
use Rattle.node_versions.specs.Entries.{Versions, IsUnique, IsEntryAt, has, first_open}
use Rattle.flow_model.specs.declared.step.Step.TheVariants.{Discover}
use Rattle.flow_model.specs.Machine.State.{Core, Cell, LiveCall, no_cell, entries}
use Rattle.flow_model.specs.Machine.Words.{is_some_of}
use Rattle.flow_model.specs.Machine.Changes.{ensure_mark, enter, place_entry, add_edge, tell_call}
use Rattle.flow_model.specs.Machine.Steps.{apply}
use Rattle.flow_model.proofs.OneStep.WhoMayStep.{discover-due, at_front-heads}
use Rattle.flow_model.proofs.OneStep.WhoMayStep.{due-can_work}
use Rattle.flow_model.proofs.OneStep.WhoMayStep.{can_work-at_front}
use Rattle.flow_model.proofs.OneStep.BegunCalls.{calls-distinct}
use Rattle.flow_model.proofs.OneStep.SameLengths.{change_at-length}
use Rattle.flow_state.specs.Booked.{Booked, node_count}
use Rattle.flow_model.specs.Parts.Books.{book_of, work_in, Book}
use Rattle.flow_state.proofs.ListRests.{drop-at}
use Rattle.flow_state.specs.Joining.{joined, IsJoined, IsJoinedOf, MakesTold}
use Rattle.retrofit.specs.Telling.{with_calls, told_by, told_one}
use Rattle.retrofit.proofs.Tells.{AreApart, apart, told_rest, rest-tells, none-tells}

-- ---- the state between

joined-calls : (s : Core) (t n m : ℕ) → (joined s t n m).calls ≡ s.calls
joined-calls s t n m = go (has (entries s m) t)
  where
    go : (b : Bool) → (elim b as (λ _. Core) [ true ↦ s | false ↦ enter s t m modes.Mark ]).calls ≡ s.calls
    go true = refl
    go false = refl

joined-length : (s : Core) (t n m : ℕ) → length (joined s t n m).cells ≡ length s.cells
joined-length s t n m = change_at-length m (add_edge n t) (ensure_mark s t m).cells ∙ go (has (entries s m) t)
  where
    go : (b : Bool) → length (elim b as (λ _. Core) [ true ↦ s | false ↦ enter s t m modes.Mark ]).cells ≡ length s.cells
    go true = refl
    go false = change_at-length m (place_entry s t modes.Mark) s.cells

open-inside : (cs : List Cell) (n t : ℕ) → is_some_of (first_open (slice_index_or cs n no_cell).entries) t ≡ true → n < length cs
open-inside [] n t h = absurd (true≢false (sym h))
open-inside (c ∷ cs) zero t h = omega arith
open-inside (c ∷ cs) (suc n) t h = let r = open-inside cs n t h in omega (arith, r)

node-inside : (graph : Graph) (s : Core) (t n m : ℕ) (book : Booked) (list : Versions) → IsJoinedOf graph s t n m book list → n < node_count book
node-inside graph s t n m book list h =
    let heads = at_front-heads graph s t n (can_work-at_front graph s t n (due-can_work graph s t n (discover-due graph s t n m h.allowed))) in
    let inside = open-inside s.cells n t heads in
    let count = ap (λ (f : Book). length f.works) h.parts ∙ length-map (joined s t n m).cells work_in ∙ joined-length s t n m in
    omega (arith, inside, count)

all-apart : (graph : Graph) (s : Core) (t n m : ℕ) (book : Booked) (list : Versions) → IsJoinedOf graph s t n m book list → AreApart book.book.calls
all-apart graph s t n m book list h =
    subst AreApart (sym (ap (λ (f : Book). f.calls) h.parts ∙ joined-calls s t n m)) (apart s.calls (calls-distinct s h.lawful.versions_are_fresh))

-- ---- the loop

-- the node stays inside
pub inside-still : (graph : Graph) (t n m : ℕ) (book now : Booked) (list : Versions) → IsJoined graph t n m book list → now ≡ with_calls book now.book.calls → n < node_count now
inside-still graph t n m book now list h made =
    let count = ap node_count made in
    let inside = node-inside graph h.state t n m book list h.fits in
    omega (arith, count, inside)

pub one-more : (n t i : ℕ) (e : Entry) (es : List Entry) (book now new : Booked) (left : List LiveCall) → slice_get es i ≡ Some e → new ≡ told_one now n e
    → (told_rest n (drop i es) now.book.calls ≡ left) × (now ≡ with_calls book now.book.calls)
    → (told_rest n (drop (i + 1) es) new.book.calls ≡ left) × (new ≡ with_calls book new.book.calls)
one-more n t i e es book now new left at_i made so =
    let more : i + 1 ≡ suc i = omega arith in
    let calls = ap (λ (b : Booked). b.book.calls) made in (
      ap₂ (λ j cs. told_rest n (drop j es) cs) more calls ∙ sym (ap (λ (xs : List Entry). told_rest n xs now.book.calls) (drop-at es i e at_i)) ∙ so.0,
      made ∙ ap (λ (b : Booked). with_calls b (told_by n e now.book.calls)) so.1 ∙ ap (with_calls book) (sym calls),
    )

-- ---- the step

made-of : (graph : Graph) (t n m : ℕ) (book new : Booked) (list : Versions) → new ≡ with_calls book (map (tell_call list.entries t n) book.book.calls)
    → (s : Core) → IsJoinedOf graph s t n m book list → new ≡ record book { book = book_of (apply graph s (Discover t n m)) }
made-of graph t n m book new list made s h = made ∙ ap₂ (λ (f : Book) (v : Versions). record book { book = record f { calls = map (tell_call v.entries t n) f.calls } }) h.parts h.is_list

no_entry : Entry
no_entry = record { version = 0; slot = 0; state = modes.Mark }

pub makes-told : (t n own i : ℕ) (book new : Booked) (list : Versions) → IsUnique list.entries → own < length list.entries → IsEntryAt list.entries t own → length list.entries ≤ i
    → (told_rest n (drop i list.entries) new.book.calls ≡ told_rest n (drop (own + 1) list.entries) book.book.calls) × (new ≡ with_calls book new.book.calls)
    → (graph : Graph) (m : ℕ) → MakesTold graph t n m book list new
makes-told t n own i book new list once inside own_entry over so graph m s h =
    let es = list.entries in
    let e = get_or es own no_entry in
    let at_own = slice_get-get_or es own no_entry inside in
    let more : own + 1 ≡ suc own = omega arith in
    let told = rest-tells n t own e es book.book.calls (all-apart graph s t n m book list h) once at_own (own_entry.version e at_own) in
    let calls = sym (ap (λ (xs : List Entry). told_rest n xs new.book.calls) (drop_all i es over)) ∙ so.0 ∙ ap (λ j. told_rest n (drop j es) book.book.calls) more ∙ told in
    (made-of graph t n m book new list (so.1 ∙ ap (with_calls book) calls) s h, h.is_list)

pub makes-none : (t n : ℕ) (book : Booked) (list : Versions) → has list.entries t ≡ false → (graph : Graph) (m : ℕ) → MakesTold graph t n m book list book
makes-none t n book list away graph m s h = (made-of graph t n m book book list (ap (with_calls book) (none-tells n t list.entries book.book.calls away)) s h, h.is_list)
