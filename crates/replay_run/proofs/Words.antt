-- The first word of a text.
use Rattle.std.proofs.Common.{◌≡◌, ℕ, suc, ◌+◌, ◌<◌, ◌≤◌, Bool, true, false, not, List, [], ◌∷◌, length, map, take, drop, refl, ap, ◌∙◌, arith}
use Rattle.std.specs.Prelude.{filter}
use Rattle.std.specs.List.{slice_split, onto_first, position_or_len, before_first, after_first}
use Rattle.std.proofs.lemmas.List.Splits.{slice_split_first}
use Rattle.flow_model.specs.Machine.Lists.{is_empty}
use Rattle.replay_run.specs.Schedule.{is_cut, number_of, with_word, schedule_of}

abbrev is_word : List ℕ → Bool
is_word part = not (is_empty part)

numbered : (part : List ℕ) (parts : List (List ℕ)) → map number_of (filter is_word (part ∷ parts)) ≡ with_word part (map number_of (filter is_word parts))
numbered [] parts = refl
numbered (b ∷ bs) parts = refl

-- where words are cut at some byte
pub first_cut : (text : List ℕ) → position_or_len is_cut text < length text
    → schedule_of text ≡ with_word (take (position_or_len is_cut text) text) (schedule_of (drop (position_or_len is_cut text + 1) text))
first_cut text h = ap (λ parts. map number_of (filter is_word parts)) (slice_split_first is_cut text 0 h)
    ∙ numbered (before_first is_cut text) (slice_split is_cut (after_first is_cut text))

uncut : (text : List ℕ) → length text ≤ position_or_len is_cut text → slice_split is_cut text ≡ text ∷ []
uncut [] h = refl
uncut (b ∷ text) h = go (is_cut b) refl h (uncut text)
  where
    go : (v : Bool) → is_cut b ≡ v → length (b ∷ text) ≤ position_or_len is_cut (b ∷ text) → (length text ≤ position_or_len is_cut text → slice_split is_cut text ≡ text ∷ [])
        → slice_split is_cut (b ∷ text) ≡ (b ∷ text) ∷ []
    go true e h further = absurd (let k : suc (length text) ≤ 0 = (rw e at h) in omega (arith, k))
    go false e h further = let k : suc (length text) ≤ 1 + position_or_len is_cut text = (rw e at h) in rw e (ap (onto_first b) (further (omega (arith, k))))

-- where they are not
pub no_cut : (text : List ℕ) → length text ≤ position_or_len is_cut text → schedule_of text ≡ with_word text (schedule_of [])
no_cut text h = ap (λ parts. map number_of (filter is_word parts)) (uncut text h) ∙ numbered text []
