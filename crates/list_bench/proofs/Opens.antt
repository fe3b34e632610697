-- A list that opens with a Done has a value for each of its calls, and goes on to open with one.
use Rattle.std.proofs.Common.{◌≡◌, ℕ, Bool, true, false, not, List, [], ◌∷◌, length, refl, sym, ap, subst, Option, Some, None, IsTrue, arith, ◌==◌, true≢false}
use Rattle.std.specs.List.{insert, filter, cons_option, slice_get}
use Rattle.std.proofs.lemmas.Bool.Decides.{eqb_tells}
use Rattle.std.specs.Option.{IsSome, option_or}
use Rattle.node_versions.specs.declared.entry.Entry.{Entry}
use Rattle.node_versions.specs.Entries.{Versions, with_entries, is_done, last_done, only_done, up_to, before, EndedIsPrefix, HasEndedPrefix, collected}
use Rattle.list_bench.specs.Opened.{OpensWithDone, IsOpened}

some_or : (o : Option Entry) (e : Entry) → IsTrue (is_done e.state) → IsSome (option_or o (only_done e))
some_or (Some d) e h = refl
some_or None e h = rw (h, only_done) refl

has_done : (es : List Entry) → OpensWithDone es → IsSome (last_done es)
has_done [] h = absurd h
has_done (e ∷ es) h = some_or (last_done es) e h

opens_up_to : (es : List Entry) (t : ℕ) → OpensWithDone es → OpensWithDone (up_to es t)
opens_up_to [] t h = h
opens_up_to (e ∷ es) t h = go (e.version == t)
  where
    go : (b : Bool) → OpensWithDone (elim b [ true ↦ e ∷ [] | false ↦ e ∷ up_to es t ])
    go true = h
    go false = h

pub done_up_to : (size : ℕ) (list : Versions) (t : ℕ) → IsOpened size list → IsSome (last_done (up_to list.entries t))
done_up_to size list t h = has_done (up_to list.entries t) (opens_up_to list.entries t h.opens)

opens_longer : (es : List Entry) (e : Entry) → OpensWithDone es → OpensWithDone (insert es (length es) e)
opens_longer [] e h = absurd h
opens_longer (d ∷ es) e h = h

pub opened_longer : (size : ℕ) (list : Versions) (e : Entry) → IsOpened size list → IsOpened size (with_entries list (insert list.entries (length list.entries) e))
opened_longer size list e h = record { room = h.room; opens = opens_longer list.entries e h.opens }

-- the test that all calls have ended
abbrev pub all : Entry → Bool
all e = true

all_ended : (es : List Entry) → EndedIsPrefix all es
all_ended [] = tt
all_ended (e ∷ es) = all_ended es

all_filtered : (es : List Entry) → filter all es ≡ es
all_filtered [] = refl
all_filtered (e ∷ es) = ap (λ (xs : List Entry). e ∷ xs) (all_filtered es)

pub can_collect : (size : ℕ) (list : Versions) → IsOpened size list → HasEndedPrefix all list.entries
can_collect size list h = record {
  prefix = all_ended list.entries;
  done = subst (λ (xs : List Entry). IsSome (last_done xs)) (sym (all_filtered list.entries)) (has_done list.entries h.opens);
}

is_last_done : (es : List Entry) (d : Entry) → last_done es ≡ Some d → IsTrue (is_done d.state)
is_last_done [] d h = grind (arith, h)
is_last_done (e ∷ es) d h = let r = is_last_done es d in grind (arith, h, r)

opens_first : (o : Option Entry) (xs : List Entry) → IsSome o → ((d : Entry) → o ≡ Some d → IsTrue (is_done d.state)) → OpensWithDone (cons_option o xs)
opens_first None xs h k = absurd (true≢false (sym h))
opens_first (Some d) xs h k = k d refl

pub opened_collected : (size : ℕ) (list : Versions) → IsOpened size list → IsOpened size (with_entries list (collected all list.entries))
opened_collected size list h = record {
  room = h.room;
  opens = opens_first (last_done (filter all list.entries)) (filter (λ e. not (all e)) list.entries) (can_collect size list h).done (is_last_done (filter all list.entries));
}

before_done : (es : List Entry) (t : ℕ) (d : Entry) → OpensWithDone es → slice_get es 0 ≡ Some d → (d.version ≡ t → ⊥) → IsSome (last_done (before es t))
before_done [] t d h at other = absurd h
before_done (e ∷ es) t d h at other = go (e.version == t) refl
  where
    go : (b : Bool) → (e.version == t) ≡ b → IsSome (last_done (elim b [ true ↦ [] | false ↦ e ∷ before es t ]))
    go true k = absurd (other (grind (arith, eqb_tells, k, at)))
    go false k = some_or (last_done (before es t)) e h

pub done_before : (size : ℕ) (list : Versions) (t : ℕ) (d : Entry) → IsOpened size list → slice_get list.entries 0 ≡ Some d → (d.version ≡ t → ⊥) → IsSome (last_done (before list.entries t))
done_before size list t d h at other = before_done list.entries t d h.opens at other

pub ruleset opens_laws = (done_up_to, done_before, opened_longer)
