-- Canonical lines lead to a deck.
use Rattle.std.proofs.Common.{ℕ, ◌+◌, ◌≤◌, List, [], ◌∷◌, ◌++◌, length, refl, sym, ap, arith, subst, append_assoc, append-nil, length-append}
use Rattle.std.specs.List.{AllByRecursion}
use Rattle.script_tree.specs.declared.limits.TheConstants.{THREADS}
use Rattle.signal_graph.specs.declared.builder.DeclKind.{DeclKind}
use Rattle.signal_graph.specs.declared.call.Call.{Call}
use Rattle.signal_graph.specs.Graph.{Graph}
use Rattle.signal_graph.specs.Declarations.{with_declaration}
use Rattle.deck_lines.specs.declared.line.Line.{Line}
use Rattle.deck_lines.specs.declared.line.Line.TheVariants.{Declares, Thread, Calls}
use Rattle.deck_lines.specs.Canonical.{canonical_words, line_text}
use Rattle.deck_lines.specs.Forms.{Words}
use Rattle.deck_lines.specs.Lines.{IsLine}
use Rattle.deck_lines.specs.Texts.{line_words}
use Rattle.deck_text.specs.Decks.{Decked}
use Rattle.deck_text.specs.Kept.{IsCanonical}
use Rattle.deck_text.specs.Spelled.{Adds, Lead}
use Rattle.separate_decks.specs.Workload.{declared, AreAccepted}

-- a line that some words say is read from its canonical text
abbrev pub Back : Type 0
Back = (words : Words) (line : Line) → IsLine words line → IsLine (line_words (line_text line)) line

-- some lines lead from one deck to another
pub record IsReached (old new : Decked) : Type 0 where
  pub text : List (List ℕ)
  pub lead : Lead text old new

abbrev pub deck : Graph → List (List Call) → Decked
deck graph scripts = record { graph = graph; scripts = scripts }

one_more : Back → (line : Line) (old next new : Decked) → IsCanonical line → Adds line old next → IsReached next new → IsReached old new
one_more back line old next new h adds r = record {
  text = line_text line ∷ r.text;
  lead = (next, record { short = h.short; said = line; says = back (canonical_words line) line h.says; adds = adds }, r.lead);
}

-- the lines of declarations that a builder accepts
pub declarations_reach : Back → (graph : Graph) (ds : List (List ℕ × DeclKind)) (new : Decked) → AreAccepted graph ds → AllByRecursion (λ (d : List ℕ × DeclKind). IsCanonical (Declares d.0 d.1)) ds
    → IsReached (deck (declared graph ds) []) new → IsReached (deck graph []) new
declarations_reach back graph [] new accepted h r = r
declarations_reach back graph (d ∷ ds) new accepted h r =
    one_more back (Declares d.0 d.1) (deck graph []) (deck (with_declaration graph d.0 d.1) []) new h.0 (refl, accepted.1, refl, refl)
    (declarations_reach back (with_declaration graph d.0 d.1) ds new accepted.2 h.1 r)

-- the lines of further calls of the newest thread
calls_reach : Back → (graph : Graph) (earlier : List (List Call)) (newest calls : List Call) (new : Decked) → AllByRecursion (λ call. IsCanonical (Calls call)) calls
    → IsReached (deck graph (earlier ++ (newest ++ calls) ∷ [])) new → IsReached (deck graph (earlier ++ newest ∷ [])) new
calls_reach back graph earlier newest [] new h r = subst (λ (cs : List Call). IsReached (deck graph (earlier ++ cs ∷ [])) new) (append-nil newest) r
calls_reach back graph earlier newest (call ∷ calls) new h r =
    one_more back (Calls call) (deck graph (earlier ++ newest ∷ [])) (deck graph (earlier ++ (newest ++ call ∷ []) ∷ [])) new h.0
    (record { earlier = earlier; newest = newest; was = refl; is = refl }, refl)
    (calls_reach back graph earlier (newest ++ call ∷ []) calls new h.1
    (subst (λ (cs : List Call). IsReached (deck graph (earlier ++ cs ∷ [])) new) (sym (append_assoc newest (call ∷ []) calls)) r))

-- the lines of further threads
pub threads_reach : Back → (graph : Graph) (done scripts : List (List Call)) → IsCanonical Thread → length done + length scripts ≤ THREADS → AllByRecursion (AllByRecursion (λ call. IsCanonical (Calls call))) scripts
    → IsReached (deck graph done) (deck graph (done ++ scripts))
threads_reach back graph done [] t few h = record { text = []; lead = ap (deck graph) (append-nil done) }
threads_reach back graph done (calls ∷ scripts) t few h =
    let whole = deck graph (done ++ (calls ∷ scripts)) in
    let longer = length-append done (calls ∷ []) in
    let rest = threads_reach back graph (done ++ calls ∷ []) scripts t (omega (arith, few, longer)) h.1 in
    one_more back Thread (deck graph done) (deck graph (done ++ [] ∷ [])) whole t (omega (arith, few), refl, refl)
    (calls_reach back graph done [] calls whole h.0
    (subst (λ (cs : List (List Call)). IsReached (deck graph (done ++ calls ∷ [])) (deck graph cs)) (append_assoc done (calls ∷ []) scripts) rest))
