-- The last entry of a log.
use Rattle.std.proofs.Common.{◌≡◌, ℕ, suc, ◌-◌, List, [], ◌∷◌, ◌++◌, length, Option, Some, refl, sym, ap, ◌∙◌, arith}
use Rattle.std.specs.Prelude.{slice_get, option_map}
use Rattle.std.proofs.lemmas.Option.{same_Some}
use Rattle.signal_graph.specs.declared.call.Reply.{Reply}
use Rattle.signal_graph.specs.declared.log.Logged.{Logged}
use Rattle.node_set.specs.Members.{Members, no_members}
use Rattle.sweeper.specs.Tokens.{last_of}

pub last-more : (log : List Logged) (x : Logged) → last_of (log ++ x ∷ []) ≡ Some x
last-more [] x = refl
last-more (y ∷ []) x = refl
last-more (y ∷ z ∷ log) x = last-more (z ∷ log) x

less_one : (n : ℕ) → suc n - 1 ≡ n
less_one n = omega arith

pub last-get : (log : List Logged) → slice_get log (length log - 1) ≡ last_of log
last-get [] = refl
last-get (y ∷ []) = refl
last-get (y ∷ z ∷ log) =
    ap (slice_get (y ∷ z ∷ log)) (less_one (suc (length log)))
    ∙ ap (slice_get (z ∷ log)) (sym (less_one (length log))) ∙ last-get (z ∷ log)

pub last-reply : (o : Option Logged) (x : Logged) (r : Reply) → o ≡ Some x → option_map (λ (e : Logged). e.reply) o ≡ Some r → r ≡ x.reply
last-reply o x r is reply = same_Some r x.reply (sym reply ∙ ap (option_map (λ (e : Logged). e.reply)) is)

pub no-members : (o : Members) (size : ℕ) → o.nodes ≡ [] → o.size ≡ size → o ≡ no_members size
no-members o size n s = ap (members o.size) n ∙ ap (λ (z : ℕ). members z []) s
  where
    members : ℕ → List ℕ → Members
    members z ns = record { size = z; nodes = ns }
