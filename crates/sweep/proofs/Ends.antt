-- What an end asks and makes.
use Rattle.std.proofs.Common.{◌≡◌, ℕ, true, false, Option, Some, None, refl, sym, ap, ◌∙◌, true≢false}
use Rattle.std.proofs.lemmas.Bool.{false_from_ne_true, both_ways, not-true}
use Rattle.signal_graph.specs.Graph.{Graph}
use Rattle.order_graph.specs.Order.{is_recorded}
use Rattle.flow_model.specs.declared.step.Step.TheVariants.{End}
use Rattle.flow_model.specs.Machine.State.{Core, LiveCall, call_of, live}
use Rattle.std.specs.Prelude.{is_some}
use Rattle.script_tree.proofs.Truths.{and_right}
use Rattle.flow_model.specs.Machine.Steps.{any_before}
use Rattle.flow_model.proofs.OneStep.WhoMayStep.{end-idle, idle-executes, executes-live}
use Rattle.flow_model.proofs.OneList.CallsAndCells.{list_any-none}
use Rattle.flow_state.specs.Booked.{Booked, live_in, end_call}
use Rattle.flow_model.specs.Parts.Books.{Book}
use Rattle.flow_state.specs.Fitting.{IsBookStep, MakesBook}
use Rattle.flow_state.proofs.Fits.{fits_live}

pub end-live : (book : Booked) (t : ℕ) → (graph : Graph) × IsBookStep graph book (End t) → live_in book t ≡ true
end-live book t h = fits_live h.0 h.1.state book t h.1.fits (executes-live h.1.state t (idle-executes h.1.state t (end-idle h.0 h.1.state t h.1.allowed)))

none_recorded : (s : Core) (u t : ℕ) → any_before s t ≡ false → live s u ≡ true → is_recorded s.pairs u t ≡ false
none_recorded s u t none alive = go (call_of s.calls u) refl
  where
    go : (o : Option LiveCall) → call_of s.calls u ≡ o → is_recorded s.pairs u t ≡ false
    go None e = absurd (true≢false (sym alive ∙ ap is_some e))
    go (Some c) e = let k = list_any-none (λ c. is_recorded s.pairs c.version t) s.calls u c none e in sym (ap (λ v. is_recorded s.pairs v t) k.1) ∙ k.0

pub end-first : (book : Booked) (t : ℕ) → (graph : Graph) × IsBookStep graph book (End t) → (u : ℕ) → is_recorded book.book.pairs u t ≡ false
end-first book t h u =
    let s = h.1.state in
    let none = not-true (any_before s t) (and_right _ _ h.1.allowed) in
    ap (λ (f : Book). is_recorded f.pairs u t) h.1.fits.parts ∙ false_from_ne_true _ (λ r. both_ways _ (none_recorded s u t none (h.1.fits.lawful.entries_are_kept.pairs u t r).0) r)

pub end-makes : (book new : Booked) (t : ℕ) → new ≡ end_call book t → (graph : Graph) → MakesBook graph book (End t) new
end-makes book new t is graph s fits h = is ∙ ap (λ (f : Book). end_call (record book { book = f }) t) fits.parts
