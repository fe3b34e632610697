-- Options of kinds that may be given, none twice: one after the other, each of a kind that may still be given.
use Rattle.std.proofs.Common.{◌≡◌, zero, suc, Bool, true, false, List, [], ◌∷◌, map, refl, sym, ap, true≢false, arith}
use Rattle.std.specs.Prelude.{◌≢◌, ⊤, IsTrue}
use Rattle.std.specs.List.{AllByRecursion, AllPairs}
use Rattle.std.proofs.lemmas.List.Elements.{All-from_recursion, recursion_from_All}
use Rattle.command_words.specs.declared.kinds.Kind.{Kind}
use Rattle.command_words.specs.declared.kinds.Kind.TheVariants.{Json, Versions}
use Rattle.command_words.specs.declared.kinds.Kinds.{Kinds}
use Rattle.command_words.specs.Options.{Given, kind_of, has}
use Rattle.command_words.specs.Kinds.{without}

abbrev pub AreAmong : Kinds → List Given → Type 0
AreAmong free [] = ⊤
AreAmong free (option ∷ given) = (has free (kind_of option) ≡ true) × AreAmong (without free (kind_of option)) given

-- ---- kinds without one

is_json : Kind → Bool
is_json Json = true
is_json Versions = false

json_apart : Json ≢ Versions
unfolding is_json
json_apart e = true≢false (ap is_json e)

pub without_less : (free : Kinds) (k j : Kind) → has (without free k) j ≡ true → has free j ≡ true
without_less free Json Json h = absurd (true≢false (sym h))
without_less free Json Versions h = h
without_less free Versions Json h = h
without_less free Versions Versions h = absurd (true≢false (sym h))

without_other : (free : Kinds) (k j : Kind) → has (without free k) j ≡ true → k ≢ j
without_other free Json Json h = absurd (true≢false (sym h))
without_other free Json Versions h = json_apart
without_other free Versions Json h = λ e. json_apart (sym e)
without_other free Versions Versions h = absurd (true≢false (sym h))

without_keeps : (free : Kinds) (k j : Kind) → k ≢ j → has free j ≡ true → has (without free k) j ≡ true
without_keeps free Json Json apart h = absurd (apart refl)
without_keeps free Json Versions apart h = h
without_keeps free Versions Json apart h = h
without_keeps free Versions Versions apart h = absurd (apart refl)

-- ---- no kind twice, kind by kind

abbrev NoneTwice : List Kind → Type 0
NoneTwice [] = ⊤
NoneTwice (kind ∷ kinds) = AllByRecursion (λ other. kind ≢ other) kinds × NoneTwice kinds

pub all_apart : (kinds : List Kind) → NoneTwice kinds → AllPairs (λ a b. a ≢ b) kinds
all_apart [] none i j d less within = absurd (omega (arith, within))
all_apart (x ∷ xs) none zero zero d less within = absurd (omega (arith, less))
all_apart (x ∷ xs) none zero (suc j) d less within = All-from_recursion (λ other. x ≢ other) xs none.0 j d (omega (arith, within))
all_apart (x ∷ xs) none (suc i) zero d less within = absurd (omega (arith, less))
all_apart (x ∷ xs) none (suc i) (suc j) d less within = all_apart xs none.1 i j d (omega (arith, less)) (omega (arith, within))

none_twice : (kinds : List Kind) → AllPairs (λ a b. a ≢ b) kinds → NoneTwice kinds
none_twice [] apart = tt
none_twice (x ∷ xs) apart = (
  recursion_from_All (λ other. x ≢ other) xs (λ k d within. apart zero (suc k) d (omega arith) (omega (arith, within))),
  none_twice xs (λ i j d less within. apart (suc i) (suc j) d (omega (arith, less)) (omega (arith, within))),
)

-- ---- both ways

abbrev May : Kinds → List Kind → Type 0
May free kinds = AllByRecursion (λ kind. IsTrue (has free kind)) kinds

kept : (free : Kinds) (given : List Given) → May free (map kind_of given) → NoneTwice (map kind_of given) → AreAmong free given
kept free [] may once = tt
kept free (option ∷ given) may once = (may.0, kept (without free (kind_of option)) given (fewer given once.0 may.1) once.1)
  where
    fewer : (rest : List Given) → AllByRecursion (λ other. kind_of option ≢ other) (map kind_of rest) → May free (map kind_of rest)
        → May (without free (kind_of option)) (map kind_of rest)
    fewer [] apart may = tt
    fewer (o ∷ rest) apart may = (without_keeps free (kind_of option) (kind_of o) apart.0 may.0, fewer rest apart.1 may.1)

pub among_kept : (free : Kinds) (given : List Given) → May free (map kind_of given) → AllPairs (λ a b. a ≢ b) (map kind_of given)
    → AreAmong free given
among_kept free given may once = kept free given may (none_twice (map kind_of given) once)

pub among_may : (free : Kinds) (given : List Given) → AreAmong free given → May free (map kind_of given)
among_may free [] among = tt
among_may free (option ∷ given) among = (among.0, more given (among_may (without free (kind_of option)) given among.1))
  where
    more : (rest : List Given) → May (without free (kind_of option)) (map kind_of rest) → May free (map kind_of rest)
    more [] may = tt
    more (o ∷ rest) may = (without_less free (kind_of option) (kind_of o) may.0, more rest may.1)

once : (free : Kinds) (given : List Given) → AreAmong free given → NoneTwice (map kind_of given)
once free [] among = tt
once free (option ∷ given) among = (
  apart given (among_may (without free (kind_of option)) given among.1),
  once (without free (kind_of option)) given among.1,
)
  where
    apart : (rest : List Given) → May (without free (kind_of option)) (map kind_of rest)
        → AllByRecursion (λ other. kind_of option ≢ other) (map kind_of rest)
    apart [] may = tt
    apart (o ∷ rest) may = (without_other free (kind_of option) (kind_of o) may.0, apart rest may.1)

pub among_once : (free : Kinds) (given : List Given) → AreAmong free given → AllPairs (λ a b. a ≢ b) (map kind_of given)
among_once free given among = all_apart (map kind_of given) (once free given among)
