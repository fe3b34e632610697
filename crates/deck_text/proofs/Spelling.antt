-- Lines that lead to a deck.
use Rattle.std.proofs.Common.{length-append, ◌<◌, ◌+◌, ◌≡◌, ℕ, ◌≤◌, Bool, true, false, List, [], ◌∷◌, ◌++◌, length, refl, sym, ap, ◌∙◌, arith, subst, append_assoc, append-nil}
use Rattle.std.specs.Prelude.{◌==◌, ◌-◌, min, Option, Some, None, Result, Ok, Err, MatchOption, IfOk}
use Rattle.deck_text.specs.declared.fault.DeckFault.{DeckFault}
use Rattle.std.proofs.lemmas.Bool.Decides.{nat_tests}
use Rattle.std.proofs.lemmas.List.{nil_from_length}
use Rattle.signal_graph.specs.declared.call.Call.{Call}
use Rattle.signal_graph.specs.declared.builder.GraphFault.{GraphFault}
use Rattle.script_tree.specs.declared.limits.TheConstants.{DECK_BYTES}
use Rattle.deck_text.specs.Decks.{Decked}
use Rattle.deck_text.specs.Lines.{lines, with_line_feeds, end_of}
use Rattle.deck_text.specs.Readers.{scripts_so_far}
use Rattle.deck_text.specs.Spelled.{Joins, Extends, Lead, SpellsDeck, nothing_yet}
use Rattle.deck_text.specs.Reasons.{IsThreadless}

lead_end : (done : List (List ℕ)) (line : List ℕ) (a b c : Decked) → Lead done a b → Extends line b c → Lead (done ++ line ∷ []) a c
lead_end [] line a b c l x = (c, subst (λ (d : Decked). Extends line d c) l x, refl)
lead_end (first ∷ done) line a b c l x = (l.0, l.1, lead_end done line l.0 b c l.2 x)

-- the lines of a text before its rest, so many and within the bytes of a deck, lead to a deck
pub record Led (text rest : List ℕ) (number : ℕ) (deck : Decked) : Type 0 where
  pub done : List (List ℕ)
  pub same : lines text ≡ done ++ lines rest
  pub counted : number ≡ length done
  pub ends : end_of text done + length rest ≡ length text
  pub within : end_of text done ≤ DECK_BYTES
  pub lead : Lead done nothing_yet deck

pub led_start : (text : List ℕ) (deck : Decked) → deck ≡ nothing_yet → Led text text 0 deck
led_start text deck e = record { done = []; same = refl; counted = refl; ends = omega arith; within = omega arith; lead = e }

fed_on : (done : List (List ℕ)) (line : List ℕ) → with_line_feeds (done ++ line ∷ []) ≡ with_line_feeds done + (length line + 1)
fed_on [] line = omega arith
fed_on (first ∷ done) line = let k = fed_on done line in omega (arith, k)

-- where a line ends that isn't the first
pub next_end : (text rest line after : List ℕ) (done : List (List ℕ)) → end_of text done + length rest ≡ length text → 0 < length rest → min (length line + 1) (length rest) + length after ≡ length rest → end_of text (done ++ line ∷ []) + length after ≡ length text
next_end text rest line after done e some f = let k = fed_on done line in omega (arith, e, some, f, k)

-- so many bytes are before what is left
pub bytes_before : (text rest : List ℕ) (done : List (List ℕ)) → end_of text done + length rest ≡ length text → length text - length rest ≡ end_of text done
bytes_before text rest done e = omega (arith, e)

pub led_on : (text rest line after : List ℕ) (number : ℕ) (old new : Decked) → Led text rest number old → 0 < length rest → lines rest ≡ line ∷ lines after → min (length line + 1) (length rest) + length after ≡ length rest → length text - length after ≤ DECK_BYTES → Extends line old new → Led text after (number + 1) new
led_on text rest line after number old new l some e f w x =
    let ends = next_end text rest line after l.done l.ends some f in
    let before = bytes_before text after (l.done ++ line ∷ []) ends in
    let k = l.counted in
    let n = length-append l.done (line ∷ []) in
    record {
      done = l.done ++ line ∷ [];
      same = l.same ∙ ap (λ ls. l.done ++ ls) e ∙ sym (append_assoc l.done (line ∷ []) (lines after));
      counted = omega (arith, k, n);
      ends = ends;
      within = omega (arith, w, before);
      lead = lead_end l.done line nothing_yet old new l.lead x;
    }

pub led_end : (text rest : List ℕ) (number : ℕ) (deck : Decked) → Led text rest number deck → rest ≡ [] → Lead (lines text) nothing_yet deck
led_end text rest number deck l e = subst (λ (ls : List (List ℕ)). Lead ls nothing_yet deck) (sym (l.same ∙ ap (λ r. l.done ++ lines r) e ∙ append-nil l.done)) l.lead

-- a text whose lines are all read isn't too long
pub led_short : (text rest : List ℕ) (number : ℕ) (deck : Decked) → Led text rest number deck → length rest ≤ 0 → length text ≤ DECK_BYTES
led_short text rest number deck l h = let e = l.ends in let w = l.within in omega (arith, h, e, w)

-- no reason to refuse what was added
pub not_refused : {A : Type 0} (o : Option GraphFault) (result : Result A GraphFault) (n : A) (P : Type 0) → MatchOption o P (λ fault. result ≡ Err fault) → result ≡ Ok n → o ≡ None
not_refused None result n P m e = refl
not_refused (Some fault) result n P m e = absurd (let both : Ok n ≡ Err fault = sym e ∙ m in grind (arith, both))

pub not_begun : (begun : Bool) (threads : List (List Call)) (calls : List Call) → begun ≡ false → scripts_so_far begun threads calls ≡ []
not_begun begun threads calls e = ap (λ b. scripts_so_far b threads calls) e

pub has_begun : (begun : Bool) (threads : List (List Call)) (calls : List Call) → begun ≡ true → scripts_so_far begun threads calls ≡ threads ++ calls ∷ []
has_begun begun threads calls e = ap (λ b. scripts_so_far b threads calls) e

pub call_joins : (begun : Bool) (threads : List (List Call)) (calls new : List Call) (call : Call) → begun ≡ true → new ≡ calls ++ call ∷ [] → Joins call (scripts_so_far begun threads calls) (scripts_so_far begun threads new)
call_joins begun threads calls new call e n = record { earlier = threads; newest = calls; was = has_begun begun threads calls e; is = has_begun begun threads new e ∙ ap (λ cs. threads ++ cs ∷ []) n }

pub spelled_by : (text rest : List ℕ) (number : ℕ) (d : Decked) (result : Result Decked DeckFault) → Led text rest number d → length rest ≤ 0 → IfOk result (λ deck. deck ≡ d) → IfOk result (λ deck. 1 ≤ length deck.scripts) → IfOk result (SpellsDeck text)
spelled_by text rest number d (Ok deck) l h e s = record {
  short = led_short text rest number d l h;
  spells = record { lead = subst (Lead (lines text) nothing_yet) (sym e) (led_end text rest number d l (nil_from_length rest (omega (arith, h)))); thread = s };
}
spelled_by text rest number d (Err fault) l h e s = tt

pub none_by : (text rest : List ℕ) (number : ℕ) (d : Decked) → Led text rest number d → length rest ≤ 0 → d.scripts ≡ [] → IsThreadless text
none_by text rest number d l h e = record { short = led_short text rest number d l h; none = record { deck = d; lead = led_end text rest number d l (nil_from_length rest (omega (arith, h))); none = e } }

pub no_bytes : (rest : List ℕ) → (length rest == 0) ≡ true → length rest ≤ 0
no_bytes rest e = grind (arith, nat_tests, e)

pub ruleset led_laws = (led_start, led_on)
