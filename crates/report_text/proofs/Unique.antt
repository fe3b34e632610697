-- A piece, a number and a value can be read from the front of a text in one way alone.
use Rattle.std.proofs.Common.{◌≡◌, ℕ, suc, ◌<◌, true, false, true≢false, List, [], ◌∷◌, ◌++◌, refl, sym, ap, ◌∙◌, append_assoc, arith, rules, codes, ⊎_elim}
use Rattle.std.specs.Prelude.{◌^◌, decimal, ℤ, pos, negsuc, FitsSigned, IsTrue, ◌==◌, nat_lt, if◌then◌else◌, Option, Some, None, IfNone}
use Rattle.std.specs.Int.{w64, IsInRange}
use Rattle.std.specs.Fmt.{signed_decimal}
use Rattle.std.specs.List.{list_all}
use Rattle.std.specs.Str.Parse.{AllDigits}
use Rattle.std.proofs.lemmas.List.{append_cancel_left}
use Rattle.std.proofs.lemmas.Bool.Decides.{eqb_tells}
use Rattle.std.proofs.lemmas.Fmt.{decimal_is_IsNumeral, decimal_injective, signed_decimal_injective}
use Rattle.std.proofs.lemmas.Str.Parse.{tells_digits}
use Rattle.script_tree.specs.Names.{is_word, is_name, starts_well}
use Rattle.script_tree.specs.Printed.{fault_text, value_text}
use Rattle.script_tree.specs.declared.value.Fault.{Fault}
use Rattle.script_tree.specs.declared.value.Fault.TheVariants.{Overflow, ZeroDivisor, Kind, NoChoice}
use Rattle.script_tree.specs.declared.value.Value.{Value}
use Rattle.script_tree.specs.declared.value.Value.TheVariants.{Int, Bool as Truth, Fault as Faulty}
use Rattle.script_tree.proofs.Truths.{and_left, and_right}
use Rattle.script_tree.proofs.Lists.{same_first, same_rest, not_empty}
use Rattle.report_text.specs.Pieces.{is_inner, Ends, IsBlankFirst, IsValue, IsPlain}
use Rattle.report_text.specs.Report.{counted, named_value}

-- a byte within one text and a byte that ends another differ
apart : (b c : ℕ) → is_inner b ≡ true → is_inner c ≡ false → b ≡ c → ⊥
apart b c inner un same = true≢false (sym inner ∙ ap is_inner same ∙ un)

pub one_piece : (x y z w : List ℕ) → list_all is_inner x ≡ true → list_all is_inner z ≡ true → Ends y → Ends w → x ++ y ≡ z ++ w → (x ≡ z) × (y ≡ w)
one_piece [] y [] w hx hz hy hw e = (refl, e)
one_piece [] [] (c ∷ z) w hx hz hy hw e = absurd (not_empty c (z ++ w) (sym e))
one_piece [] (b ∷ y) (c ∷ z) w hx hz hy hw e = absurd (apart c b (and_left (is_inner c) (list_all is_inner z) hz) hy (sym (same_first b c y (z ++ w) e)))
one_piece (b ∷ x) y [] [] hx hz hy hw e = absurd (not_empty b (x ++ y) e)
one_piece (b ∷ x) y [] (c ∷ w) hx hz hy hw e = absurd (apart b c (and_left (is_inner b) (list_all is_inner x) hx) hw (same_first b c (x ++ y) w e))
one_piece (b ∷ x) y (c ∷ z) w hx hz hy hw e =
    let rest = one_piece x y z w (and_right (is_inner b) (list_all is_inner x) hx) (and_right (is_inner c) (list_all is_inner z) hz) hy hw (same_rest b c (x ++ y) (z ++ w) e) in
    let first = same_first b c (x ++ y) (z ++ w) e in
    (rw first (ap (λ l. c ∷ l) rest.0), rest.1)

-- digits stand within a piece
inner_digit : (b : ℕ) → IsInRange 48 57 b → is_inner b ≡ true
inner_digit b h = grind (arith, eqb_tells, h)

inner_digits : (ds : List ℕ) → AllDigits 10 ds → list_all is_inner ds ≡ true
inner_digits [] h = refl
inner_digits (d ∷ ds) h = let parts = tells_digits.parts d ds h in rw (inner_digit d parts.0, inner_digits ds parts.1) refl

pub inner_decimal : (n : ℕ) → n < 2 ^ 64 → list_all is_inner (decimal n) ≡ true
inner_decimal n h = let numeral = decimal_is_IsNumeral n h in inner_digits (decimal n) (search (rules, numeral))

-- so do the bytes of a name
differs : (b c : ℕ) → is_word b ≡ true → is_word c ≡ false → (b == c) ≡ false
differs b c word un = ⊎_elim (λ t. absurd (true≢false (sym word ∙ ap is_word t.1 ∙ un))) (λ t. t.0) (eqb_tells b c)

inner_word : (b : ℕ) → is_word b ≡ true → is_inner b ≡ true
inner_word b h = rw (differs b 32 h refl, differs b 44 h refl, differs b 61 h refl, differs b 10 h refl) refl

inner_words : (bs : List ℕ) → list_all is_word bs ≡ true → list_all is_inner bs ≡ true
inner_words [] h = refl
inner_words (b ∷ bs) h = rw (inner_word b (and_left (is_word b) (list_all is_word bs) h), inner_words bs (and_right (is_word b) (list_all is_word bs) h)) refl

pub inner_name : (text : List ℕ) → IsTrue (is_name text) → list_all is_inner text ≡ true
inner_name text h = inner_words text (and_left (list_all is_word text) _ (and_right (starts_well text) _ h))

wider : (n : ℕ) → n < 2 ^ 32 → n < 2 ^ 64
wider n h = omega (arith, h)

pub one_number : (m n : ℕ) (y w : List ℕ) → m < 2 ^ 32 → n < 2 ^ 32 → Ends y → Ends w → decimal m ++ y ≡ decimal n ++ w → (m ≡ n) × (y ≡ w)
one_number m n y w hm hn hy hw e =
    let parts = one_piece (decimal m) y (decimal n) w (inner_decimal m (wider m hm)) (inner_decimal n (wider n hn)) hy hw e in
    (decimal_injective m n (wider m hm) (wider n hn) parts.0, parts.1)

-- a number with a sign
pub inner_signed : (z : ℤ) → FitsSigned w64 z → list_all is_inner (signed_decimal z) ≡ true
inner_signed (pos n) h = let big : n < 2 ^ 64 = omega (arith, h.sfits) in inner_decimal n big
inner_signed (negsuc n) h = let big : suc n < 2 ^ 64 = omega (arith, h.sfits) in inner_decimal (suc n) big

digit_first : (n b : ℕ) (bs : List ℕ) → n < 2 ^ 64 → 57 < b → decimal n ≡ b ∷ bs → ⊥
digit_first n b bs h above e =
    let numeral = decimal_is_IsNumeral n h in
    let all : AllDigits 10 (decimal n) = search (rules, numeral) in
    let range = (tells_digits.parts b bs (rw e at all)).0 in
    absurd (grind (arith, range, above))

no_letter : (z : ℤ) (b : ℕ) (bs : List ℕ) → FitsSigned w64 z → 57 < b → signed_decimal z ≡ b ∷ bs → ⊥
no_letter (pos n) b bs h above e = let big : n < 2 ^ 64 = omega (arith, h.sfits) in digit_first n b bs big above e
no_letter (negsuc n) b bs h above e = let first = same_first 45 b (decimal (suc n)) bs e in absurd (omega (arith, first, above))

-- the words for faults
inner_fault : (f : Fault) → list_all is_inner (fault_text f) ≡ true
inner_fault Overflow = refl
inner_fault ZeroDivisor = refl
inner_fault Kind = refl
inner_fault NoChoice = refl

fault_by : List ℕ → Fault
fault_by [] = Overflow
fault_by (b ∷ bs) = if b == 111 then Overflow else if b == 122 then ZeroDivisor else if b == 107 then Kind else NoChoice

fault_back : (f : Fault) → fault_by (fault_text f) ≡ f
unfolding fault_by
fault_back Overflow = refl
fault_back ZeroDivisor = refl
fault_back Kind = refl
fault_back NoChoice = refl

pub one_fault : (f g : Fault) → fault_text f ≡ fault_text g → f ≡ g
one_fault f g e = sym (fault_back f) ∙ ap fault_by e ∙ fault_back g

pub numbers_differ : (b c : ℕ) → b < c → b ≡ c → ⊥
numbers_differ b c less e = absurd (omega (arith, less, e))

below : (b c : ℕ) → nat_lt b c ≡ true → b < c
below b c e = grind (arith, e)

pub one_value : (v u : Value) (y w : List ℕ) → IsValue v → IsValue u → Ends y → Ends w → value_text v ++ y ≡ value_text u ++ w → (v ≡ u) × (y ≡ w)
one_value (Int x) (Int z) y w hv hu hy hw e =
    let parts = one_piece (signed_decimal x) y (signed_decimal z) w (inner_signed x hv) (inner_signed z hu) hy hw e in
    (ap Int (signed_decimal_injective x z hv.sfits hu.sfits parts.0), parts.1)
one_value (Int x) (Truth true) y w hv hu hy hw e =
    let parts = one_piece (signed_decimal x) y (codes "true") w (inner_signed x hv) refl hy hw e in absurd (no_letter x _ _ hv (omega arith) parts.0)
one_value (Int x) (Truth false) y w hv hu hy hw e =
    let parts = one_piece (signed_decimal x) y (codes "false") w (inner_signed x hv) refl hy hw e in absurd (no_letter x _ _ hv (omega arith) parts.0)
one_value (Int x) (Faulty f) y w hv hu hy hw e =
    let parts = one_piece (signed_decimal x) y (codes "fault") (32 ∷ (fault_text f ++ w)) (inner_signed x hv) refl hy refl e in absurd (no_letter x _ _ hv (omega arith) parts.0)
one_value (Truth true) (Int z) y w hv hu hy hw e =
    let parts = one_piece (codes "true") y (signed_decimal z) w refl (inner_signed z hu) hy hw e in absurd (no_letter z _ _ hu (omega arith) (sym parts.0))
one_value (Truth false) (Int z) y w hv hu hy hw e =
    let parts = one_piece (codes "false") y (signed_decimal z) w refl (inner_signed z hu) hy hw e in absurd (no_letter z _ _ hu (omega arith) (sym parts.0))
one_value (Truth true) (Truth true) y w hv hu hy hw e = (refl, append_cancel_left (codes "true") y w e)
one_value (Truth false) (Truth false) y w hv hu hy hw e = (refl, append_cancel_left (codes "false") y w e)
one_value (Truth true) (Truth false) y w hv hu hy hw e = absurd (numbers_differ 102 116 (omega arith) (sym (same_first 116 102 _ _ e)))
one_value (Truth false) (Truth true) y w hv hu hy hw e = absurd (numbers_differ 102 116 (omega arith) (same_first 102 116 _ _ e))
one_value (Truth true) (Faulty f) y w hv hu hy hw e = absurd (numbers_differ 102 116 (omega arith) (sym (same_first 116 102 _ _ e)))
one_value (Faulty f) (Truth true) y w hv hu hy hw e = absurd (numbers_differ 102 116 (omega arith) (same_first 102 116 _ _ e))
one_value (Truth false) (Faulty f) y w hv hu hy hw e =
    absurd (numbers_differ 108 117 (omega arith) (same_first 108 117 _ _ (same_rest 97 97 _ _ (same_rest 102 102 _ _ e))))
one_value (Faulty f) (Truth false) y w hv hu hy hw e =
    absurd (numbers_differ 108 117 (omega arith) (sym (same_first 117 108 _ _ (same_rest 97 97 _ _ (same_rest 102 102 _ _ e)))))
one_value (Faulty f) (Int z) y w hv hu hy hw e =
    let parts = one_piece (codes "fault") (32 ∷ (fault_text f ++ y)) (signed_decimal z) w refl (inner_signed z hu) refl hw e in absurd (no_letter z _ _ hu (omega arith) (sym parts.0))
one_value (Faulty f) (Faulty g) y w hv hu hy hw e =
    let parts = one_piece (fault_text f) y (fault_text g) w (inner_fault f) (inner_fault g) hy hw (append_cancel_left (codes "fault ") (fault_text f ++ y) (fault_text g ++ w) e) in
    (ap Faulty (one_fault f g parts.0), parts.1)

-- a look, or a last value: a name with a value
pub one_named : (n m : List ℕ) (v u : Value) (y w : List ℕ) → IsTrue (is_name n) → IsTrue (is_name m) → IsValue v → IsValue u → Ends y → Ends w
    → named_value (n, v) ++ y ≡ named_value (m, u) ++ w → (n ≡ m) × (v ≡ u) × (y ≡ w)
one_named n m v u y w hn hm hv hu hy hw e =
    let flat = sym (append_assoc n (codes "=" ++ value_text v) y) ∙ e ∙ append_assoc m (codes "=" ++ value_text u) w in
    let parts = one_piece n (61 ∷ (value_text v ++ y)) m (61 ∷ (value_text u ++ w)) (inner_name n hn) (inner_name m hm) refl refl flat in
    let values = one_value v u y w hv hu hy hw (same_rest 61 61 _ _ parts.1) in
    (parts.0, values.0, values.1)

-- ---- what is not read from the front of a text

pub none_weaker : {A : Type 0} (o : Option A) (P Q : Type 0) → (P → Q) → IfNone o P → IfNone o Q
none_weaker None P Q f h = f h
none_weaker (Some x) P Q f h = h

pub is_piece : (text word behind x rest : List ℕ) → text ≡ word ++ behind → list_all is_inner word ≡ true → Ends behind → list_all is_inner x ≡ true → Ends rest → text ≡ x ++ rest → word ≡ x
is_piece text word behind x rest whole hw hb hx hr e = (one_piece word behind x rest hw hx hb hr (sym whole ∙ e)).0

pub not_number : (text word behind : List ℕ) → text ≡ word ++ behind → list_all is_inner word ≡ true → Ends behind → ((n : ℕ) → n < 2 ^ 32 → word ≡ decimal n → ⊥)
    → (n : ℕ) (rest : List ℕ) → n < 2 ^ 32 → Ends rest → text ≡ decimal n ++ rest → ⊥
not_number text word behind whole hw hb none n rest h ends e = none n h (is_piece text word behind (decimal n) rest whole hw hb (inner_decimal n (wider n h)) ends e)

pub not_fault : (text word behind : List ℕ) → text ≡ word ++ behind → list_all is_inner word ≡ true → Ends behind → ((f : Fault) → word ≡ fault_text f → ⊥)
    → (f : Fault) (rest : List ℕ) → Ends rest → text ≡ fault_text f ++ rest → ⊥
not_fault text word behind whole hw hb none f rest ends e = none f (is_piece text word behind (fault_text f) rest whole hw hb (inner_fault f) ends e)

pub not_name : (text word behind : List ℕ) → text ≡ word ++ behind → list_all is_inner word ≡ true → Ends behind → is_name word ≡ false
    → (name rest : List ℕ) → IsTrue (is_name name) → Ends rest → text ≡ name ++ rest → ⊥
not_name text word behind whole hw hb none name rest h ends e =
    let same = is_piece text word behind name rest whole hw hb (inner_name name h) ends e in
    true≢false (sym h ∙ ap is_name (sym same) ∙ none)

inner_plain : (v : Value) → IsValue v → IsPlain v → list_all is_inner (value_text v) ≡ true
inner_plain (Int x) hv plain = inner_signed x hv
inner_plain (Truth true) hv plain = refl
inner_plain (Truth false) hv plain = refl
inner_plain (Faulty f) hv plain = absurd plain

pub not_plain : (text word behind : List ℕ) → text ≡ word ++ behind → list_all is_inner word ≡ true → Ends behind → ((v : Value) → IsValue v → IsPlain v → word ≡ value_text v → ⊥)
    → (v : Value) (rest : List ℕ) → IsValue v → IsPlain v → Ends rest → text ≡ value_text v ++ rest → ⊥
not_plain text word behind whole hw hb none v rest hv plain ends e =
    none v hv plain (is_piece text word behind (value_text v) rest whole hw hb (inner_plain v hv plain) ends e)

-- behind the word for faults stands a kind of fault
pub not_faulty : (text behind : List ℕ) → text ≡ codes "fault " ++ behind → ((f : Fault) (rest : List ℕ) → Ends rest → behind ≡ fault_text f ++ rest → ⊥)
    → (v : Value) (rest : List ℕ) → IsValue v → Ends rest → text ≡ value_text v ++ rest → ⊥
not_faulty text behind whole none (Int x) rest hv ends e =
    let parts = one_piece (signed_decimal x) rest (codes "fault") (32 ∷ behind) (inner_signed x hv) refl ends refl (sym e ∙ whole) in no_letter x _ _ hv (omega arith) parts.0
not_faulty text behind whole none (Truth true) rest hv ends e = numbers_differ 102 116 (omega arith) (sym (same_first 116 102 _ _ (sym e ∙ whole)))
not_faulty text behind whole none (Truth false) rest hv ends e =
    numbers_differ 108 117 (omega arith) (same_first 108 117 _ _ (same_rest 97 97 _ _ (same_rest 102 102 _ _ (sym e ∙ whole))))
not_faulty text behind whole none (Faulty f) rest hv ends e = none f rest ends (append_cancel_left (codes "fault ") behind (fault_text f ++ rest) (sym whole ∙ e))

-- a text without that word in front is of a value that is no fault
pub not_either : (text : List ℕ) → ((rest : List ℕ) → text ≡ codes "fault " ++ rest → ⊥)
    → ((v : Value) (rest : List ℕ) → IsValue v → IsPlain v → Ends rest → text ≡ value_text v ++ rest → ⊥)
    → (v : Value) (rest : List ℕ) → IsValue v → Ends rest → text ≡ value_text v ++ rest → ⊥
not_either text no_word none (Int x) rest hv ends e = none (Int x) rest hv tt ends e
not_either text no_word none (Truth b) rest hv ends e = none (Truth b) rest hv tt ends e
not_either text no_word none (Faulty f) rest hv ends e = no_word (fault_text f ++ rest) e

pub blank_ends : (label rest : List ℕ) → IsBlankFirst label → Ends (label ++ rest)
blank_ends [] rest h = absurd h
blank_ends (b ∷ bs) rest h = rw h refl

-- behind a label and a number stands one text alone
pub behind_count : (text label : List ℕ) (m n : ℕ) (behind rest : List ℕ) → m < 2 ^ 32 → n < 2 ^ 32 → Ends behind → Ends rest → text ≡ counted label m behind → text ≡ counted label n rest → (m ≡ n) × (behind ≡ rest)
behind_count text label m n behind rest hm hn hb hr first second =
    one_number m n behind rest hm hn hb hr (append_cancel_left label (decimal m ++ behind) (decimal n ++ rest) (sym first ∙ second))

-- behind the name of a look stands its value
pub behind_name : (text word behind name : List ℕ) (value : Value) (rest : List ℕ) → text ≡ word ++ behind → IsTrue (is_name word) → Ends behind → IsTrue (is_name name)
    → text ≡ named_value (name, value) ++ rest → behind ≡ codes "=" ++ (value_text value ++ rest)
behind_name text word behind name value rest whole hw hb hn e =
    (one_piece word behind name (61 ∷ (value_text value ++ rest)) (inner_name word hw) (inner_name name hn) hb refl
    (sym whole ∙ e ∙ append_assoc name (codes "=" ++ value_text value) rest)).1
