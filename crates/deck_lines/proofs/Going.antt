-- Reading the parts of a line one after the other.
use Rattle.std.proofs.Common.{◌≡◌, ℕ, true, false, List, [], ◌∷◌, ◌++◌, refl, sym, ap, ◌∙◌, append_assoc}
use Rattle.std.specs.Prelude.{Option, Some, None}
use Rattle.std.specs.Option.{option_map, option_and_then}
use Rattle.expr_script.specs.declared.pieces.Piece.{Piece}
use Rattle.expr_script.specs.Pieces.{words_among, bytes_of}
use Rattle.deck_lines.specs.Forms.{Words}
use Rattle.deck_lines.specs.Cuts.{has, before, behind}
use Rattle.deck_lines.specs.Reading.{cut, each}
use Rattle.deck_lines.proofs.Cutting.{two_sides, cut_sign, cut_none}
use Rattle.deck_lines.proofs.Scanning.{pieces_lie}

-- words are what is done, and then what the rest is
pub record Going {B : Type 0} (sign : List ℕ) (f : Words → Option B) (words : Words) (done : List B) (rest : Words) : Type 0 where
  pub so_far : each f (cut sign words) ≡ option_map (λ ys. done ++ ys) (each f (cut sign rest))

cut_first : (sign : List ℕ) (rest : Words) → has sign rest ≡ true → cut sign rest ≡ before sign rest ∷ cut sign (behind sign rest)
cut_first sign rest h = let sides = two_sides sign rest h in ap (cut sign) sides.0 ∙ cut_sign sign (before sign rest) (behind sign rest) sides.1

behind_done : {B : Type 0} (done : List B) (y : B) (o : Option (List B)) → option_map (λ ys. done ++ ys) (option_map (λ ys. y ∷ ys) o) ≡ option_map (λ ys. (done ++ y ∷ []) ++ ys) o
behind_done done y None = refl
behind_done done y (Some ys) = ap Some (sym (append_assoc done (y ∷ []) ys))

nothing_done : {B : Type 0} (o : Option (List B)) → o ≡ option_map (λ ys. [] ++ ys) o
nothing_done None = refl
nothing_done (Some ys) = refl

pub going_starts : {B : Type 0} (sign : List ℕ) (f : Words → Option B) (words : Words) → Going sign f words [] words
going_starts sign f words = record { so_far = nothing_done (each f (cut sign words)) }

pub goes_on : {B : Type 0} (sign : List ℕ) (f : Words → Option B) (words : Words) (done : List B) (rest first after : Words) (y : B) → Going sign f words done rest → has sign rest ≡ true → first ≡ before sign rest → after ≡ behind sign rest → f first ≡ Some y → Going sign f words (done ++ y ∷ []) after
goes_on sign f words done rest first after y g h b a e = record {
  so_far =
      g.so_far
      ∙ ap (λ c. option_map (λ ys. done ++ ys) (each f c)) (cut_first sign rest h)
      ∙ ap (λ o. option_map (λ ys. done ++ ys) (option_and_then (λ z. option_map (λ ys. z ∷ ys) (each f (cut sign (behind sign rest)))) o)) (ap f (sym b) ∙ e)
      ∙ behind_done done y (each f (cut sign (behind sign rest)))
      ∙ ap (λ ws. option_map (λ ys. (done ++ y ∷ []) ++ ys) (each f (cut sign ws))) (sym a);
}

pub goes_wrong : {B : Type 0} (sign : List ℕ) (f : Words → Option B) (words : Words) (done : List B) (rest first : Words) → Going sign f words done rest → has sign rest ≡ true → first ≡ before sign rest → f first ≡ None → each f (cut sign words) ≡ None
goes_wrong sign f words done rest first g h b e =
    g.so_far
    ∙ ap (λ c. option_map (λ ys. done ++ ys) (each f c)) (cut_first sign rest h)
    ∙ ap (λ o. option_map (λ ys. done ++ ys) (option_and_then (λ z. option_map (λ ys. z ∷ ys) (each f (cut sign (behind sign rest)))) o)) (ap f (sym b) ∙ e)

pub goes_to_end : {B : Type 0} (sign : List ℕ) (f : Words → Option B) (words : Words) (done : List B) (rest : Words) (y : B) → Going sign f words done rest → has sign rest ≡ false → f rest ≡ Some y → each f (cut sign words) ≡ Some (done ++ y ∷ [])
goes_to_end sign f words done rest y g h e =
    g.so_far
    ∙ ap (λ c. option_map (λ ys. done ++ ys) (each f c)) (cut_none sign rest h)
    ∙ ap (λ o. option_map (λ ys. done ++ ys) (option_and_then (λ z. option_map (λ ys. z ∷ ys) (Some [])) o)) e

pub ends_wrong : {B : Type 0} (sign : List ℕ) (f : Words → Option B) (words : Words) (done : List B) (rest : Words) → Going sign f words done rest → has sign rest ≡ false → f rest ≡ None → each f (cut sign words) ≡ None
ends_wrong sign f words done rest g h e =
    g.so_far
    ∙ ap (λ c. option_map (λ ys. done ++ ys) (each f c)) (cut_none sign rest h)
    ∙ ap (λ o. option_map (λ ys. done ++ ys) (option_and_then (λ z. option_map (λ ys. z ∷ ys) (Some [])) o)) e

pub ruleset going_laws = (going_starts, goes_on, goes_wrong, goes_to_end, ends_wrong)

-- the words of a few pieces
pub no_pieces : (text : List ℕ) (pieces : List Piece) → pieces ≡ [] → words_among text pieces ≡ []
no_pieces text pieces e = ap (words_among text) e

pub some_pieces : (text : List ℕ) (pieces : List Piece) (first : Piece) (rest : List Piece) → pieces ≡ first ∷ rest → words_among text pieces ≡ bytes_of text first ∷ words_among text rest
some_pieces text pieces first rest e = ap (words_among text) e

pub ruleset piece_laws = (no_pieces, some_pieces, pieces_lie)
