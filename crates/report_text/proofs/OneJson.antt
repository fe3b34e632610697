-- JSON texts are told apart as the data that they are of.
use Rattle.std.proofs.Common.{◌≡◌, ℕ, ◌+◌, ◌<◌, ◌≤◌, Bool, false, List, [], ◌∷◌, ◌++◌, length, map, Some, refl, sym, ap, ◌∙◌, arith}
use Rattle.std.specs.Prelude.{◌^◌, ℤ, pos, negsuc, decimal, Option, None}
use Rattle.std.specs.Fmt.{signed_decimal}
use Rattle.std.specs.List.{AllByRecursion, zip}
use Rattle.std.proofs.lemmas.List.{append_cancel_right}
use Rattle.std.proofs.lemmas.Fmt.{decimal_injective, signed_decimal_injective}
use Rattle.json.specs.Token.{Token}
use Rattle.json.specs.Lex.{tokens}
use Rattle.json.specs.Json as json
use Rattle.json.specs.Json.{Json}
use Rattle.json.specs.Print.{print, IsNumber}
use Rattle.json.specs.Tree.{json_tokens, depth, HasNumbers}
use Rattle.json.proofs.Printed.Decimals.{IsNumber-decimal, IsNumber-signed_decimal}
use Rattle.json.proofs.Printed.Tokens.{tokens-print}
use Rattle.json.proofs.Printed.Trees.{value-json_tokens, ArePrintable-json_tokens}
use Rattle.serde_json.specs.Data.{Data}
use Rattle.serde_json.specs.Find.{of_integer}
use Rattle.serde_json.specs.View.{items_of}
use Rattle.serde_json.specs.Written.{number_text, outline, items_outline, compact_text}
use Rattle.serde_json.proofs.Texts.{print-outline}
use Rattle.script_tree.specs.declared.value.Value.{Value}
use Rattle.script_tree.specs.declared.value.Value.TheVariants.{Int, Bool as Truth, Fault as Faulty}
use Rattle.script_tree.proofs.Lists.{same_first, same_rest}
use Rattle.signal_graph.specs.declared.call.Call.{Call}
use Rattle.signal_graph.specs.declared.call.Reply.{Reply}
use Rattle.signal_graph.specs.declared.call.Reply.TheVariants.{Fire as Fired, Read as Seen}
use Rattle.signal_graph.specs.declared.log.Logged.{Logged}
use Rattle.signal_graph.specs.declared.log.Refused.{Refused}
use Rattle.signal_graph.specs.declared.log.Why.{Why}
use Rattle.signal_graph.specs.declared.log.Why.TheVariants.{UnknownName, VersionsUsedUp}
use Rattle.signal_graph.specs.Graph.{Graph}
use Rattle.report_text.specs.declared.data.CallLine.{CallLine}
use Rattle.report_text.specs.Json.{value_data, look_data, list_data, reply_data, call_data, why_data, refused_data, report_data}
use Rattle.report_text.specs.Pieces.{IsValue}
use Rattle.report_text.specs.Report.{line_of}
use Rattle.report_text.specs.Printed.{IsLook, AreLooks, IsReply, IsLine, IsWhy, IsRefusal, data_of, IsReport}
use Rattle.report_text.specs.Runs.{Run, IsRun, json_text_of}
use Rattle.report_text.proofs.Determined.{one_run}
use Rattle.report_text.proofs.OneReport.{one_zip, same_look, same_line, same_refused}
use Rattle.report_text.proofs.Unique.{one_fault, numbers_differ}

-- ---- a text of JSON has one tree

abbrev value_of : Option (Json × List Token) → Json
value_of None = json.null
value_of (Some read) = read.0

-- where trees nest at most so deep, their tokens tell them apart
same_tree : (i j : Json) (deep : ℕ) → depth i ≤ deep → depth j ≤ deep → json_tokens i ≡ json_tokens j → i ≡ j
same_tree i j deep hi hj e =
    let read : Some (i, []) ≡ Some (j, []) =
    sym (value-json_tokens i deep [] hi) ∙ ap (λ ts. json.value deep (ts ++ [])) e ∙ value-json_tokens j deep [] hj in
    ap value_of read

one_tree : (i j : Json) → HasNumbers i → HasNumbers j → print (json_tokens i) ≡ print (json_tokens j) → i ≡ j
one_tree i j hi hj e =
    same_tree i j (depth i + depth j) (omega arith) (omega arith)
    (sym (tokens-print (json_tokens i) (ArePrintable-json_tokens i hi)) ∙ ap tokens e ∙ tokens-print (json_tokens j) (ArePrintable-json_tokens j hj))

one_outline : (a b : Data) → HasNumbers (outline a) → HasNumbers (outline b) → compact_text a ≡ compact_text b → outline a ≡ outline b
one_outline a b ha hb e = one_tree (outline a) (outline b) ha hb (print-outline a ∙ e ∙ sym (print-outline b))

-- ---- parts of a tree

-- the text of a number or a string
abbrev text_in : Json → List ℕ
text_in (json.number s) = s
text_in (json.string s) = s
text_in other = []

abbrev truth_in : Json → Bool
truth_in (json.boolean b) = b
truth_in other = false

-- which kind of value it is
abbrev kind_in : Json → ℕ
kind_in json.null = 0
kind_in (json.boolean b) = 1
kind_in (json.number s) = 2
kind_in (json.string s) = 3
kind_in (json.array js) = 4
kind_in (json.object ms) = 5

abbrev list_in : json.Items → List Json
list_in json.no_items = []
list_in (json.item j js) = j ∷ list_in js

abbrev items_in : Json → List Json
items_in (json.array js) = list_in js
items_in other = []

abbrev members_in : Json → json.Members
members_in (json.object ms) = ms
members_in other = json.no_members

-- the key and the value of the first member, and the members behind it
abbrev key_in : json.Members → List ℕ
key_in json.no_members = []
key_in (json.member k j ms) = k

abbrev first_in : json.Members → Json
first_in json.no_members = json.null
first_in (json.member k j ms) = j

abbrev behind_in : json.Members → json.Members
behind_in json.no_members = json.no_members
behind_in (json.member k j ms) = ms

-- ---- values and looks

integer_text : (x : ℤ) → number_text (of_integer x) ≡ signed_decimal x
integer_text (pos n) = refl
integer_text (negsuc n) = refl

one_value_json : (v u : Value) → IsValue v → IsValue u → outline (value_data v) ≡ outline (value_data u) → v ≡ u
one_value_json (Int x) (Int z) hv hu e = ap Int (signed_decimal_injective x z hv.sfits hu.sfits (sym (integer_text x) ∙ ap text_in e ∙ integer_text z))
one_value_json (Int x) (Truth b) hv hu e = absurd (numbers_differ 1 2 (omega arith) (sym (ap kind_in e)))
one_value_json (Int x) (Faulty f) hv hu e = absurd (numbers_differ 2 5 (omega arith) (ap kind_in e))
one_value_json (Truth b) (Int z) hv hu e = absurd (numbers_differ 1 2 (omega arith) (ap kind_in e))
one_value_json (Truth b) (Truth c) hv hu e = ap Truth (ap truth_in e)
one_value_json (Truth b) (Faulty f) hv hu e = absurd (numbers_differ 1 5 (omega arith) (ap kind_in e))
one_value_json (Faulty f) (Int z) hv hu e = absurd (numbers_differ 2 5 (omega arith) (sym (ap kind_in e)))
one_value_json (Faulty f) (Truth b) hv hu e = absurd (numbers_differ 1 5 (omega arith) (sym (ap kind_in e)))
one_value_json (Faulty f) (Faulty g) hv hu e = ap Faulty (one_fault f g (ap (λ j. text_in (first_in (members_in j))) e))

one_look_json : (a b : List ℕ × Value) → IsLook a → IsLook b → outline (look_data a) ≡ outline (look_data b) → a ≡ b
one_look_json a b ha hb e =
    same_look a b (ap (λ j. text_in (first_in (members_in j))) e) (one_value_json a.1 b.1 ha.1 hb.1 (ap (λ j. first_in (behind_in (members_in j))) e))

-- ---- lists

listed : {A : Type 0} (f : A → Data) (xs : List A) → list_in (items_outline (items_of (map f xs))) ≡ map (λ x. outline (f x)) xs
listed f [] = refl
listed f (x ∷ xs) = ap (λ l. outline (f x) ∷ l) (listed f xs)

one_map : {A : Type 0} (g : A → Json) (P : A → Type 0) → ((x y : A) → P x → P y → g x ≡ g y → x ≡ y) → (xs ys : List A) → AllByRecursion P xs → AllByRecursion P ys → map g xs ≡ map g ys → xs ≡ ys
one_map g P one [] [] hx hy e = refl
one_map g P one [] (y ∷ ys) hx hy e = absurd (omega (arith, ap length e))
one_map g P one (x ∷ xs) [] hx hy e = absurd (omega (arith, ap length e))
one_map g P one (x ∷ xs) (y ∷ ys) hx hy e =
    let first = one x y hx.0 hy.0 (same_first (g x) (g y) (map g xs) (map g ys) e) in
    rw first (ap (λ l. y ∷ l) (one_map g P one xs ys hx.1 hy.1 (same_rest (g x) (g y) (map g xs) (map g ys) e)))

one_list : {A : Type 0} (f : A → Data) (P : A → Type 0) → ((x y : A) → P x → P y → outline (f x) ≡ outline (f y) → x ≡ y) → (xs ys : List A) → AllByRecursion P xs → AllByRecursion P ys
    → outline (list_data f xs) ≡ outline (list_data f ys) → xs ≡ ys
one_list f P one xs ys hx hy e = one_map (λ x. outline (f x)) P one xs ys hx hy (sym (listed f xs) ∙ ap items_in e ∙ listed f ys)

one_looks_json : (xs ys : List (List ℕ × Value)) → AreLooks xs → AreLooks ys → outline (list_data look_data xs) ≡ outline (list_data look_data ys) → xs ≡ ys
one_looks_json xs ys hx hy e = one_list look_data IsLook one_look_json xs ys hx hy e

-- ---- calls

one_count : (m n : ℕ) → m < 2 ^ 32 → n < 2 ^ 32 → decimal m ≡ decimal n → m ≡ n
one_count m n hm hn e = decimal_injective m n (omega (arith, hm)) (omega (arith, hn)) e

one_reply_json : (t v s w : ℕ) (n m : List (List ℕ)) (r q : Reply) → t < 2 ^ 32 → v < 2 ^ 32 → s < 2 ^ 32 → w < 2 ^ 32 → IsReply n r → IsReply m q
    → outline (reply_data t v n r) ≡ outline (reply_data s w m q) → (t ≡ s) × (v ≡ w) × (n ≡ m) × (r ≡ q)
one_reply_json t v s w n m (Fired a b x) (Fired c d y) ht hv hs hw hr hq e =
    let changed = one_count a c hr.0 hq.0 (ap (λ j. text_in (first_in (members_in j))) e) in
    let evaluated = one_count b d hr.1 hq.1 (ap (λ j. text_in (first_in (behind_in (members_in j)))) e) in
    let looks = one_looks_json (zip n x) (zip m y) hr.3 hq.3 (ap (λ j. first_in (behind_in (behind_in (behind_in (members_in j))))) e) in
    let thread = one_count t s ht hs (ap (λ j. text_in (first_in (behind_in (behind_in (behind_in (behind_in (members_in j))))))) e) in
    let version = one_count v w hv hw (ap (λ j. text_in (first_in (behind_in (behind_in (behind_in (behind_in (behind_in (members_in j)))))))) e) in
    let parts = one_zip n m x y hr.2 hq.2 looks in
    (thread, version, parts.0, rw (changed, evaluated, parts.1) refl)
one_reply_json t v s w n m (Seen x) (Seen y) ht hv hs hw hr hq e =
    let looks = one_looks_json (zip n x) (zip m y) hr.1 hq.1 (ap (λ j. first_in (behind_in (members_in j))) e) in
    let thread = one_count t s ht hs (ap (λ j. text_in (first_in (behind_in (behind_in (members_in j))))) e) in
    let version = one_count v w hv hw (ap (λ j. text_in (first_in (behind_in (behind_in (behind_in (members_in j)))))) e) in
    let parts = one_zip n m x y hr.0 hq.0 looks in
    (thread, version, parts.0, ap Seen parts.1)
one_reply_json t v s w n m (Fired a b x) (Seen y) ht hv hs hw hr hq e = absurd (omega (arith, ap (λ j. length (key_in (members_in j))) e))
one_reply_json t v s w n m (Seen x) (Fired c d y) ht hv hs hw hr hq e = absurd (omega (arith, ap (λ j. length (key_in (members_in j))) e))

one_line_json : (a b : CallLine) → IsLine a → IsLine b → outline (call_data a) ≡ outline (call_data b) → a ≡ b
one_line_json a b ha hb e =
    let parts = one_reply_json a.caller a.version b.caller b.version a.names b.names a.reply b.reply ha.caller ha.version hb.caller hb.version ha.reply hb.reply e in
    same_line a b parts.1 parts.0 parts.3 parts.2

-- ---- refusals

one_why_json : (t n s m : ℕ) (a b : Why) → t < 2 ^ 32 → n < 2 ^ 32 → s < 2 ^ 32 → m < 2 ^ 32 → IsWhy a → IsWhy b
    → outline (why_data t n a) ≡ outline (why_data s m b) → (t ≡ s) × (n ≡ m) × (a ≡ b)
one_why_json t n s m (UnknownName p) (UnknownName q) ht hn hs hm ha hb e = (
  one_count t s ht hs (ap (λ j. text_in (first_in (behind_in (behind_in (behind_in (members_in j)))))) e),
  one_count n m hn hm (ap (λ j. text_in (first_in (members_in j))) e),
  ap UnknownName (one_count p q ha hb (ap (λ j. text_in (first_in (behind_in (members_in j)))) e)),
)
one_why_json t n s m (VersionsUsedUp p) (VersionsUsedUp q) ht hn hs hm ha hb e = (
  one_count t s ht hs (ap (λ j. text_in (first_in (behind_in (behind_in (behind_in (members_in j)))))) e),
  one_count n m hn hm (ap (λ j. text_in (first_in (members_in j))) e),
  ap VersionsUsedUp (one_count p q ha hb (ap (λ j. text_in (first_in (behind_in (members_in j)))) e)),
)
one_why_json t n s m (UnknownName p) (VersionsUsedUp q) ht hn hs hm ha hb e = absurd (omega (arith, ap (λ j. length (text_in (first_in (behind_in (behind_in (members_in j)))))) e))
one_why_json t n s m (VersionsUsedUp p) (UnknownName q) ht hn hs hm ha hb e = absurd (omega (arith, ap (λ j. length (text_in (first_in (behind_in (behind_in (members_in j)))))) e))

one_refusal_json : (a b : Refused) → IsRefusal a → IsRefusal b → outline (refused_data a) ≡ outline (refused_data b) → a ≡ b
one_refusal_json a b ha hb e =
    let parts = one_why_json a.caller a.number b.caller b.number a.why b.why ha.caller ha.number hb.caller hb.number ha.why hb.why e in
    same_refused a b parts.0 parts.1 parts.2

-- ---- each number's text is a number

count_number : (n : ℕ) → n < 2 ^ 32 → IsNumber (decimal n)
count_number n h = IsNumber-decimal n (omega (arith, h))

value_numbers : (v : Value) → IsValue v → HasNumbers (outline (value_data v))
value_numbers (Int (pos n)) h = IsNumber-decimal n (omega (arith, h.sfits))
value_numbers (Int (negsuc n)) h = let small : n < 2 ^ 63 = omega (arith, h.sfits) in IsNumber-signed_decimal (negsuc n) small
value_numbers (Truth b) h = tt
value_numbers (Faulty f) h = (tt, tt)

look_numbers : (look : List ℕ × Value) → IsLook look → HasNumbers (outline (look_data look))
look_numbers look h = (tt, (value_numbers look.1 h.1, tt))

list_numbers : {A : Type 0} (f : A → Data) (P : A → Type 0) → ((x : A) → P x → HasNumbers (outline (f x))) → (xs : List A) → AllByRecursion P xs → HasNumbers (outline (list_data f xs))
list_numbers f P each [] h = tt
list_numbers f P each (x ∷ xs) h = (each x h.0, list_numbers f P each xs h.1)

reply_numbers : (t v : ℕ) (names : List (List ℕ)) (reply : Reply) → t < 2 ^ 32 → v < 2 ^ 32 → IsReply names reply → HasNumbers (outline (reply_data t v names reply))
reply_numbers t v names (Fired a b values) ht hv h =
    let looks = list_numbers look_data IsLook look_numbers (zip names values) h.3 in
    (count_number a h.0, (count_number b h.1, (tt, (looks, (count_number t ht, (count_number v hv, tt))))))
reply_numbers t v names (Seen values) ht hv h =
    let looks = list_numbers look_data IsLook look_numbers (zip names values) h.1 in
    (tt, (looks, (count_number t ht, (count_number v hv, tt))))

line_numbers : (line : CallLine) → IsLine line → HasNumbers (outline (call_data line))
line_numbers line h = reply_numbers line.caller line.version line.names line.reply h.caller h.version h.reply

why_numbers : (t n : ℕ) (why : Why) → t < 2 ^ 32 → n < 2 ^ 32 → IsWhy why → HasNumbers (outline (why_data t n why))
why_numbers t n (UnknownName place) ht hn h = (count_number n hn, (count_number place h, (tt, (count_number t ht, tt))))
why_numbers t n (VersionsUsedUp limit) ht hn h = (count_number n hn, (count_number limit h, (tt, (count_number t ht, tt))))

refusal_numbers : (refused : Refused) → IsRefusal refused → HasNumbers (outline (refused_data refused))
refusal_numbers refused h = why_numbers refused.caller refused.number refused.why h.caller h.number h.why

-- ---- whole reports

report_numbers : (log : List Logged) (refused : List Refused) (names : List (List ℕ)) (finals : List Value) → IsReport (data_of log refused names finals) → HasNumbers (outline (report_data log refused names finals))
report_numbers log refused names finals is =
    let calls = list_numbers call_data IsLine line_numbers (map line_of log) is.calls in
    let lasts = list_numbers look_data IsLook look_numbers (zip names finals) is.finals in
    let rest = list_numbers refused_data IsRefusal refusal_numbers refused is.refused in
    (count_number (length log) is.accepted, (calls, (lasts, (rest, tt))))

pub one_run_by_json : (graph : Graph) (scripts : List (List Call)) (limit other : ℕ) (a b : Run) → IsRun graph scripts limit a → IsRun graph scripts other b
    → json_text_of graph a ≡ json_text_of graph b → a ≡ b
one_run_by_json graph scripts limit other a b is too e =
    let x = report_data a.log a.refused graph.names a.finals in
    let y = report_data b.log b.refused graph.names b.finals in
    let tree : outline x ≡ outline y = one_outline x y (report_numbers a.log a.refused graph.names a.finals is.fits) (report_numbers b.log b.refused graph.names b.finals too.fits)
    (append_cancel_right (compact_text x) (compact_text y) (10 ∷ []) e) in
    let calls = one_list call_data IsLine one_line_json (map line_of a.log) (map line_of b.log) is.fits.calls too.fits.calls (ap (λ j. first_in (behind_in (members_in j))) tree) in
    let finals = one_looks_json (zip graph.names a.finals) (zip graph.names b.finals) is.fits.finals too.fits.finals (ap (λ j. first_in (behind_in (behind_in (members_in j)))) tree) in
    let refused = one_list refused_data IsRefusal one_refusal_json a.refused b.refused is.fits.refused too.fits.refused (ap (λ j. first_in (behind_in (behind_in (behind_in (members_in j))))) tree) in
    one_run graph scripts limit other a b is too calls refused finals
