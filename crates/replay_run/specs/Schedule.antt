-- What a schedule's text says: numbers of threads.
use Rattle.std.specs.Prelude.{ℕ, Bool, not, ◌||◌, ◌&&◌, ◌==◌, nat_le, if◌then◌else◌, List, ◌∷◌, length, map, filter, Option}
use Rattle.std.specs.List.{slice_split}
use Rattle.expr_script.specs.Pieces.{is_blank}
use Rattle.expr_script.specs.Words.{is_digits, value}
use Rattle.signal_graph.specs.Machine.{first_wrong}
use Rattle.flow_model.specs.Machine.Lists.{is_empty}

-- Words are cut at blanks and at line ends.
abbrev pub is_cut : ℕ → Bool
is_cut b = is_blank b || (b == 13 || b == 10)

-- the words of a text, in their order
abbrev pub words : List ℕ → List (List ℕ)
words text = filter (λ word. not (is_empty word)) (slice_split is_cut text)

-- the number that a word is: 1 to 9 digits are one, and any other word counts as 0, which names no thread
abbrev pub number_of : List ℕ → ℕ
number_of word = if is_digits word && nat_le (length word) 9 then value 0 word else 0

-- numbers behind that of a word; what stands between two cuts may be no word
abbrev pub with_word : List ℕ → List ℕ → List ℕ
with_word part numbers = if is_empty part then numbers else number_of part ∷ numbers

-- the schedule that a text says
abbrev pub schedule_of : List ℕ → List ℕ
schedule_of text = map number_of (words text)

-- Threads are counted from 1.
abbrev pub names_thread : ℕ → ℕ → Bool
names_thread threads number = nat_le 1 number && nat_le number threads

-- the place of the first number that names no thread, counted from 1
abbrev pub first_unnamed : ℕ → List ℕ → Option ℕ
first_unnamed threads schedule = first_wrong 1 (map (names_thread threads) schedule)
