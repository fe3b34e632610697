-- What a collection asks and makes.
use Rattle.std.proofs.Common.{◌≡◌, ℕ, ◌<◌, Bool, true, false, not, List, [], ◌∷◌, refl, sym, ap, ap₂, ◌∙◌, subst, arith, true≢false}
use Rattle.std.proofs.lemmas.Bool.Decides.{eqb_tells}
use Rattle.std.specs.List.{filter}
use Rattle.std.specs.Option.{is_some}
use Rattle.std.specs.Prelude.{nat_lt}
use Rattle.signal_graph.specs.Graph.{Graph}
use Rattle.node_versions.specs.declared.entry.Entry.{Entry}
use Rattle.node_versions.specs.Entries.{Versions, HasEndedPrefix, at, is_done, last_done, collected, with_entries}
use Rattle.flow_model.specs.declared.step.Step.TheVariants.{Collect}
use Rattle.flow_model.specs.Machine.State.{Cell, call_of, ended, live, entries}
use Rattle.std.specs.Prelude.{is_some}
use Rattle.flow_model.specs.Machine.Steps.{allowed, collect}
use Rattle.flow_model.proofs.OneList.InOrder.{on_calls}
use Rattle.flow_model.proofs.Known.ListsAnswer.{prefix-of}
use Rattle.flow_state.specs.Booked.{Booked, live_in, with_book}
use Rattle.flow_model.specs.Parts.Books.{Book}
use Rattle.flow_state.proofs.OneCell.{cell-inside, cell-changed, book-same}
use Rattle.flow_state.specs.Fitting.{IsListStep, MakesList, list_of}

-- ---- the ended entries come first

some-done : (gone : ℕ → Bool) (es : List Entry) (u : ℕ) → gone u ≡ true → at is_done es u ≡ true → is_some (last_done (filter (on_calls gone) es)) ≡ true
some-done gone [] u g h = absurd (true≢false (sym h))
some-done gone (e ∷ es) u g h = let r = some-done gone es u g in grind (arith, eqb_tells, r)

-- ---- the step

some-entry : (a b : ℕ) → nat_lt a b ≡ true → 0 < b
some-entry a b h = grind (arith, h)

flips : (a b : Bool) → (a ≡ false → b ≡ false) → not a ≡ true → not b ≡ true
flips a b f h = let k = f (grind (arith, h)) in grind (arith, k)

in-state : (graph : Graph) (book : Booked) (n : ℕ) (list : Versions) → (h : IsListStep graph book n list (Collect n)) → HasEndedPrefix (ended h.state) (entries h.state n)
in-state graph book n list h =
    let s = h.state in
    let kept = h.fits.lawful.ended_is_prefix in
    let some = kept.done n (cell-inside s.cells n (some-entry _ _ h.allowed)) in
    record {
      prefix = prefix-of (λ u. not (live s u)) (entries s n) (h.fits.lawful.one_entry n) (λ u v b. flips (live s v) (live s u) (kept.prefix n u v b));
      done = some-done (λ u. not (live s u)) (entries s n) some.0 (ap not some.1) some.2;
    }

pub ready : (graph : Graph) (book : Booked) (n : ℕ) (list : Versions) → IsListStep graph book n list (Collect n) → HasEndedPrefix (λ e. not (live_in book e.version)) list.entries
ready graph book n list h =
    subst (λ (f : Book). HasEndedPrefix (λ e. not (is_some (call_of f.calls e.version))) list.entries) (sym h.fits.parts)
    (subst (λ (v : Versions). HasEndedPrefix (ended h.state) v.entries) (sym h.is_list) (in-state graph book n list h))

pub makes : (graph : Graph) (book : Booked) (n : ℕ) (list new : Versions) → (HasEndedPrefix (λ e. not (live_in book e.version)) list.entries → new ≡ with_entries list (collected (λ e. not (live_in book e.version)) list.entries))
    → MakesList graph book n list (Collect n) book new
makes graph book n list new made s fits is_list allowed =
    let h : IsListStep graph book n list (Collect n) = record { state = s; fits = fits; is_list = is_list; allowed = allowed } in
    let some = cell-inside s.cells n (some-entry _ _ allowed) in
    let now = cell-changed n (collect s) s.cells some in
    let flow = book-same s n (collect s) (λ c. refl) in (
      ap (with_book book) (fits.parts ∙ sym flow),
      made (ready graph book n list h)
          ∙ ap₂ (λ (f : Book) (v : Versions). with_entries v (collected (λ e. not (is_some (call_of f.calls e.version))) v.entries)) fits.parts is_list
          ∙ ap (λ (c : Cell). record (list_of graph s n) { entries = c.entries; outs = c.outs }) (sym now),
    )
