-- The fault of a deck, from the lines before it and the reason of its line.
use Rattle.std.proofs.Common.{◌≡◌, ℕ, ◌+◌, ◌<◌, ◌≤◌, false, List, [], ◌∷◌, ◌++◌, length, refl, ap, ◌∙◌, arith, subst}
use Rattle.std.specs.Prelude.{◌==◌, ◌-◌, min, Result, Ok, Err, IfErr}
use Rattle.std.proofs.lemmas.Bool.Decides.{nat_tests}
use Rattle.script_tree.specs.declared.limits.TheConstants.{DECK_BYTES}
use Rattle.deck_text.specs.declared.fault.What.TheVariants.{Bytes}
use Rattle.deck_text.specs.declared.fault.DeckFault.{DeckFault}
use Rattle.deck_text.specs.declared.fault.DeckFault.TheVariants as fault
use Rattle.deck_text.specs.declared.reason.Reason.{Reason}
use Rattle.deck_text.specs.declared.reason.Reason.TheVariants.{LineTooLong, Syntax, TooMany, DoubleName, UnknownInput, Memory}
use Rattle.deck_text.specs.Decks.{Decked}
use Rattle.deck_text.specs.Faults.{fault_at, NamesLine}
use Rattle.deck_text.specs.Lines.{lines, end_of}
use Rattle.deck_text.specs.Reasons.{reasons, IsFirstOf, IsFaultyLine, IsThreadless, IsDeckFault}
use Rattle.deck_text.specs.Refused.{IsReason}
use Rattle.deck_text.proofs.Spelling.{Led, next_end, bytes_before}
use Rattle.deck_text.proofs.Refusing.{too_many_bytes}

-- the first line of what is left is refused for its first reason
faulty : (text rest line after : List ℕ) (number : ℕ) (deck : Decked) (reason : Reason) (l : Led text rest number deck) → lines rest ≡ line ∷ lines after → IsFirstOf reasons (record { deck = deck; end = end_of text (l.done ++ line ∷ []); line = line }) reason → IsFaultyLine text (number + 1) reason
faulty text rest line after number deck reason l e first = record {
  before = l.done;
  line = line;
  rest = lines after;
  cut = l.same ∙ ap (λ ls. l.done ++ ls) e;
  counted = ap (λ n. n + 1) l.counted;
  deck = deck;
  lead = l.lead;
  within = l.within;
  first = first;
}

pub bytes_fault : (text rest line after : List ℕ) (number : ℕ) (deck : Decked) → Led text rest number deck → 0 < length rest → lines rest ≡ line ∷ lines after → min (length line + 1) (length rest) + length after ≡ length rest → DECK_BYTES < length text - length after → IsFaultyLine text (number + 1) (TooMany Bytes)
bytes_fault text rest line after number deck l some e f h =
    let before = bytes_before text after (l.done ++ line ∷ []) (next_end text rest line after l.done l.ends some f) in
    faulty text rest line after number deck (TooMany Bytes) l e (too_many_bytes (record { deck = deck; end = end_of text (l.done ++ line ∷ []); line = line }) (subst (λ n. DECK_BYTES < n) before h))

by_reason : (text rest line after : List ℕ) (number : ℕ) (deck : Decked) (reason : Reason) (l : Led text rest number deck) → lines rest ≡ line ∷ lines after → IsReason (record { deck = deck; end = end_of text (l.done ++ line ∷ []); line = line }) reason → IsDeckFault text (fault_at (number + 1) reason)
by_reason text rest line after number deck LineTooLong l e h = faulty text rest line after number deck LineTooLong l e h
by_reason text rest line after number deck Syntax l e h = faulty text rest line after number deck Syntax l e h
by_reason text rest line after number deck (TooMany what) l e h = faulty text rest line after number deck (TooMany what) l e h
by_reason text rest line after number deck DoubleName l e h = faulty text rest line after number deck DoubleName l e h
by_reason text rest line after number deck UnknownInput l e h = faulty text rest line after number deck UnknownInput l e h
by_reason text rest line after number deck Memory l e h = tt

pub read_fault : (text rest line after : List ℕ) (number : ℕ) (deck : Decked) (reason : Reason) → Led text rest number deck → 0 < length rest → lines rest ≡ line ∷ lines after → min (length line + 1) (length rest) + length after ≡ length rest → length text - length after ≤ DECK_BYTES → ((end : ℕ) → end ≤ DECK_BYTES → IsReason (record { deck = deck; end = end; line = line }) reason) → IsDeckFault text (fault_at (number + 1) reason)
read_fault text rest line after number deck reason l some e f h refused =
    let before = bytes_before text after (l.done ++ line ∷ []) (next_end text rest line after l.done l.ends some f) in
    by_reason text rest line after number deck reason l e (refused (end_of text (l.done ++ line ∷ [])) (subst (λ n. n ≤ DECK_BYTES) before h))

-- at the end no line is named
pub end_fault : {A : Type 0} (text : List ℕ) (result : Result A DeckFault) → ((n : ℕ) → IfErr result (NamesLine n)) → (result ≡ Err fault.NoThread → IsThreadless text) → IfErr result (IsDeckFault text)
end_fault text (Ok deck) names never = tt
end_fault text (Err (fault.Syntax k)) names never = absurd (let n = names 0 in omega (arith, n))
end_fault text (Err (fault.DoubleName k)) names never = absurd (let n = names 0 in omega (arith, n))
end_fault text (Err (fault.UnknownInput k)) names never = absurd (let n = names 0 in omega (arith, n))
end_fault text (Err (fault.TooMany k what)) names never = absurd (let n = names 0 in omega (arith, n))
end_fault text (Err (fault.LineTooLong k)) names never = absurd (let n = names 0 in omega (arith, n))
end_fault text (Err fault.NoThread) names never = never refl
end_fault text (Err fault.Memory) names never = tt

pub has_bytes : (rest : List ℕ) → (length rest == 0) ≡ false → 0 < length rest
has_bytes rest e = grind (arith, nat_tests, e)
