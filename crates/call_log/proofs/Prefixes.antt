-- Beginnings of lists of calls, and how many calls entries have.
use Rattle.std.proofs.Common.{◌≡◌, ◌≤◌, List, [], ◌∷◌, ◌++◌, length, take, suc, refl, sym, ap, ◌∙◌, arith}
use Rattle.std.proofs.lemmas.List.{length-take, take-append-le, take_all}
use Rattle.signal_graph.specs.declared.call.Call.{Call}
use Rattle.signal_graph.specs.declared.log.Logged.{Logged}
use Rattle.call_log.specs.Made.{IsPrefix, calls_in}

pub prefix-whole : (calls : List Call) → IsPrefix calls calls
prefix-whole calls = sym (take_all (length calls) calls (omega arith))

pub prefix-length : (part whole : List Call) → IsPrefix part whole → length part ≤ length whole
prefix-length part whole p = let e : length part ≡ length (take (length part) whole) = ap length p in let t = length-take (length part) whole in omega (arith, e, t)

pub prefix-more : (part whole more : List Call) → IsPrefix part whole → IsPrefix part (whole ++ more)
prefix-more part whole more p = p ∙ sym (take-append-le (length part) whole more (prefix-length part whole p))

pub as_many : (entries : List Logged) → length (calls_in entries) ≡ length entries
as_many [] = refl
as_many (entry ∷ entries) = ap (λ n. suc n) (as_many entries)
