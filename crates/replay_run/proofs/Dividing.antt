-- Lines, and the one that divides an input.
use Rattle.std.proofs.Common.{◌≡◌, ℕ, suc, ◌+◌, ◌<◌, ◌≤◌, Bool, true, false, ◌==◌, List, [], ◌∷◌, ◌++◌, length, take, drop, refl, sym, ap, ◌∙◌, subst, arith, append_assoc, append-nil}
use Rattle.std.specs.List.{onto_first, concat, before_first, after_first, position_or_len}
use Rattle.std.proofs.Math.Seq.{take-add}
use Rattle.std.proofs.lemmas.Grind.{common_steps}
use Rattle.std.proofs.lemmas.List.{drop_all, drop-drop}
use Rattle.script_tree.proofs.Lists.{take_next, drop_next}
use Rattle.replay_run.specs.Input.{whole_lines, is_divider, deck_text, schedule_text}

abbrev is_feed : ℕ → Bool
is_feed b = b == 10

-- ---- the first line

lines_from : (b : ℕ) (text : List ℕ) (v : Bool) → is_feed b ≡ v → position_or_len is_feed (b ∷ text) < length (b ∷ text)
    → whole_lines (b ∷ text) ≡ take (position_or_len is_feed (b ∷ text) + 1) (b ∷ text) ∷ whole_lines (drop (position_or_len is_feed (b ∷ text) + 1) (b ∷ text))
lines_from b text true e h = rw e refl
lines_from b [] false e h = absurd (let k = (rw e at h) in omega (arith, k))
lines_from b (c ∷ text) false e h =
    let n = position_or_len is_feed (c ∷ text) in
    let k : 1 + n < suc (suc (length text)) = (rw e at h) in
    let r = lines_from c text (is_feed c) refl (omega (arith, k)) in
    rw e (
    ap (onto_first b) r
    ∙ ap (λ line. line ∷ whole_lines (drop (n + 1) (c ∷ text))) (sym (take_next (1 + n + 1) (n + 1) b (c ∷ text) (omega arith)))
    ∙ ap (λ rest. take (1 + n + 1) (b ∷ c ∷ text) ∷ whole_lines rest) (sym (drop_next (1 + n + 1) (n + 1) b (c ∷ text) (omega arith))))

-- a line ends behind the first line feed
pub first_line : (text : List ℕ) → position_or_len is_feed text < length text
    → whole_lines text ≡ take (position_or_len is_feed text + 1) text ∷ whole_lines (drop (position_or_len is_feed text + 1) text)
first_line [] h = absurd (omega (arith, h))
first_line (b ∷ text) h = lines_from b text (is_feed b) refl h

last_from : (b : ℕ) (text : List ℕ) (v : Bool) → is_feed b ≡ v → length (b ∷ text) ≤ position_or_len is_feed (b ∷ text) → whole_lines (b ∷ text) ≡ (b ∷ text) ∷ []
last_from b text true e h = absurd (let k : suc (length text) ≤ 0 = (rw e at h) in omega (arith, k))
last_from b [] false e h = rw e refl
last_from b (c ∷ text) false e h =
    let k : suc (suc (length text)) ≤ 1 + position_or_len is_feed (c ∷ text) = (rw e at h) in
    rw e (ap (onto_first b) (last_from c text (is_feed c) refl (omega (arith, k))))

-- or with the text
pub last_line : (text : List ℕ) → 0 < length text → length text ≤ position_or_len is_feed text → whole_lines text ≡ text ∷ []
last_line [] some h = absurd (omega (arith, some))
last_line (b ∷ text) some h = last_from b text (is_feed b) refl h

-- what a cut at the first line feed leaves before it tells where that is
pub cut_line : (text line behind : List ℕ) → line ≡ before_first is_feed text → behind ≡ after_first is_feed text → length line + length behind + 1 ≡ length text
    → whole_lines text ≡ take (length line + 1) text ∷ whole_lines (drop (length line + 1) text)
cut_line text line behind e f sum =
    let n = position_or_len is_feed text in
    let at : n ≡ length line = place n text line behind e f sum in
    subst (λ k. whole_lines text ≡ take (k + 1) text ∷ whole_lines (drop (k + 1) text)) at (first_line text (omega (arith, at, sum)))
  where
    place : (n : ℕ) (text line behind : List ℕ) → line ≡ take n text → behind ≡ drop (n + 1) text → length line + length behind + 1 ≡ length text → n ≡ length line
    place n text line behind e f sum = let a = ap length e in let b = ap length f in grind (arith, common_steps, a, b, sum)

-- a cut that finds no line feed
pub cut_none : (text : List ℕ) → 0 < length text → before_first is_feed text ≡ text → after_first is_feed text ≡ []
    → whole_lines text ≡ take (length text) text ∷ whole_lines (drop (length text) text)
cut_none text some e f =
    last_line text some (late (position_or_len is_feed text) text e) ∙ ap (λ t. t ∷ whole_lines []) (sym (whole text)) ∙ ap (λ t. take (length text) text ∷ whole_lines t) (sym (none text))
  where
    late : (n : ℕ) (text : List ℕ) → take n text ≡ text → length text ≤ n
    late n text e = let a = ap length e in grind (arith, common_steps, a)

    whole : (text : List ℕ) → take (length text) text ≡ text
    whole text = grind (arith, common_steps)

    none : (text : List ℕ) → drop (length text) text ≡ []
    none text = grind (arith, common_steps)

-- the lines of a text are the text
pub joined_lines : (text : List ℕ) → concat (whole_lines text) ≡ text
joined_lines [] = refl
joined_lines (b ∷ text) = go (is_feed b) refl (joined_lines text)
  where
    onto : (ls : List (List ℕ)) → concat (onto_first b ls) ≡ b ∷ concat ls
    onto [] = refl
    onto (l ∷ ls) = refl

    go : (v : Bool) → is_feed b ≡ v → concat (whole_lines text) ≡ text → concat (whole_lines (b ∷ text)) ≡ b ∷ text
    go true e r = rw e (ap (λ t. b ∷ t) r)
    go false e r = rw e (onto (whole_lines text) ∙ ap (λ t. b ∷ t) r)

-- ---- the line that divides

before-yes : (line : List ℕ) (ls : List (List ℕ)) → is_divider line ≡ true → before_first is_divider (line ∷ ls) ≡ []
before-yes line ls e = rw e refl

after-yes : (line : List ℕ) (ls : List (List ℕ)) → is_divider line ≡ true → after_first is_divider (line ∷ ls) ≡ ls
after-yes line ls e = rw e refl

before-no : (line : List ℕ) (ls : List (List ℕ)) → is_divider line ≡ false → before_first is_divider (line ∷ ls) ≡ line ∷ before_first is_divider ls
before-no line ls e = rw e (take_next (1 + position_or_len is_divider ls) (position_or_len is_divider ls) line ls (omega arith))

after-no : (line : List ℕ) (ls : List (List ℕ)) → is_divider line ≡ false → after_first is_divider (line ∷ ls) ≡ after_first is_divider ls
after-no line ls e = rw e (drop_next (1 + position_or_len is_divider ls + 1) (position_or_len is_divider ls + 1) line ls (omega arith))

-- where the first line divides
pub divided : (text line rest : List ℕ) → whole_lines text ≡ line ∷ whole_lines rest → is_divider line ≡ true → (deck_text text ≡ []) × (schedule_text text ≡ rest)
divided text line rest cut e = (
  ap (λ ls. concat (before_first is_divider ls)) cut ∙ ap concat (before-yes line (whole_lines rest) e),
  ap (λ ls. concat (after_first is_divider ls)) cut ∙ ap concat (after-yes line (whole_lines rest) e) ∙ joined_lines rest,
)

-- where it does not
pub not_divided : (text line rest : List ℕ) → whole_lines text ≡ line ∷ whole_lines rest → is_divider line ≡ false
    → (deck_text text ≡ line ++ deck_text rest) × (schedule_text text ≡ schedule_text rest)
not_divided text line rest cut e = (
  ap (λ ls. concat (before_first is_divider ls)) cut ∙ ap concat (before-no line (whole_lines rest) e),
  ap (λ ls. concat (after_first is_divider ls)) cut ∙ ap concat (after-no line (whole_lines rest) e),
)

-- ---- an input, as far as it is gone over

-- the deck has what is gone over, and the schedule is in what is left
pub record IsGoneOver (input : List ℕ) (start : ℕ) : Type 0 where
  pub within : start ≤ length input
  pub deck : deck_text input ≡ take start input ++ deck_text (drop start input)
  pub schedule : schedule_text input ≡ schedule_text (drop start input)

pub nothing_gone_over : (input : List ℕ) → IsGoneOver input 0
nothing_gone_over input = record { within = omega arith; deck = refl; schedule = refl }

pub line_gone_over : (input : List ℕ) (start len : ℕ) → IsGoneOver input start → len ≤ length (drop start input)
    → whole_lines (drop start input) ≡ take len (drop start input) ∷ whole_lines (drop len (drop start input))
    → is_divider (take len (drop start input)) ≡ false → IsGoneOver input (start + len)
line_gone_over input start len h fits cut e =
    let rest = drop start input in
    let r = not_divided rest (take len rest) (drop len rest) cut e in
    record {
      within = within input start len h.within fits;
      deck = h.deck ∙ ap (λ d. take start input ++ d) r.0 ∙ sym (append_assoc (take start input) (take len rest) (deck_text (drop len rest)))
          ∙ ap (λ t. t ++ deck_text (drop len rest)) (sym (take-add start len input)) ∙ ap (λ t. take (start + len) input ++ deck_text t) (drop-drop len start input);
      schedule = h.schedule ∙ r.1 ∙ ap schedule_text (drop-drop len start input);
    }
  where
    within : (input : List ℕ) (start len : ℕ) → start ≤ length input → len ≤ length (drop start input) → start + len ≤ length input
    within input start len a b = grind (arith, common_steps, a, b)

-- the same, where what is left is a slice
pub next_gone_over : (input rest : List ℕ) (start len : ℕ) → rest ≡ drop start input → IsGoneOver input start → len ≤ length rest
    → whole_lines rest ≡ take len rest ∷ whole_lines (drop len rest) → is_divider (take len rest) ≡ false → IsGoneOver input (start + len)
next_gone_over input rest start len e h fits cut other = line_gone_over input start len h (subst (λ t. len ≤ length t) e fits)
    (subst (λ t. whole_lines t ≡ take len t ∷ whole_lines (drop len t)) e cut) (subst (λ t. is_divider (take len t) ≡ false) e other)

-- where the next line divides
pub divider_found : (input rest : List ℕ) (start len : ℕ) → rest ≡ drop start input → IsGoneOver input start
    → whole_lines rest ≡ take len rest ∷ whole_lines (drop len rest) → is_divider (take len rest) ≡ true
    → (deck_text input ≡ take start input) × (schedule_text input ≡ drop len rest)
divider_found input rest start len e h cut same =
    let r = divided rest (take len rest) (drop len rest) cut same in (
      h.deck ∙ ap (λ t. take start input ++ deck_text t) (sym e) ∙ ap (λ t. take start input ++ t) r.0 ∙ append-nil (take start input),
      h.schedule ∙ ap schedule_text (sym e) ∙ r.1,
    )

pub all_gone_over : (input : List ℕ) (start : ℕ) → IsGoneOver input start → length input ≤ start → (deck_text input ≡ input) × (schedule_text input ≡ [])
all_gone_over input start h all =
    let none : drop start input ≡ [] = drop_all start input all in (
      h.deck ∙ ap (λ t. take start input ++ deck_text t) none ∙ whole input start all,
      h.schedule ∙ ap schedule_text none,
    )
  where
    whole : (input : List ℕ) (start : ℕ) → length input ≤ start → take start input ++ [] ≡ input
    whole input start a = grind (arith, common_steps, a)
