-- What a start asks and makes.
use Rattle.std.proofs.Common.{◌≡◌, ℕ, true, sym, ap, ◌∙◌, subst}
use Rattle.script_tree.proofs.Truths.{and_left}
use Rattle.signal_graph.specs.Graph.{Graph}
use Rattle.flow_model.specs.declared.step.Step.TheVariants.{Start}
use Rattle.flow_model.specs.Machine.State.{Core, is_framing}
use Rattle.flow_model.specs.Machine.Steps.{allowed, started}
use Rattle.flow_state.specs.Booked.{Booked, live_in, on_call}
use Rattle.flow_model.specs.Parts.Books.{Book}
use Rattle.flow_model.proofs.OneStep.WhoMayStep.{is_framing-live}
use Rattle.flow_state.specs.Fitting.{IsBookStep, MakesBook}

start-frames : (graph : Graph) (s : Core) (t : ℕ) → allowed graph s (Start t) ≡ true → is_framing s t ≡ true
start-frames graph s t h = and_left (is_framing s t) _ (and_left _ _ h)

pub start-live : (book : Booked) (t : ℕ) → (graph : Graph) × IsBookStep graph book (Start t) → live_in book t ≡ true
start-live book t h = let s = h.1.state in subst (λ (f : Book). live_in (record book { book = f }) t ≡ true) (sym h.1.fits.parts) (is_framing-live s t (start-frames h.0 s t h.1.allowed))

pub start-makes : (book new : Booked) (t : ℕ) → new ≡ on_call book t started → (graph : Graph) → MakesBook graph book (Start t) new
start-makes book new t is graph s fits h = is ∙ ap (λ (f : Book). on_call (record book { book = f }) t started) fits.parts
