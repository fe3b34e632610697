-- Which limit a choose goes beyond.
use Rattle.std.proofs.Common.{◌≡◌, ℕ, ◌<◌, ◌≤◌, Bool, true, false, List, [], ◌∷◌, ◌++◌, length, refl, ap, ◌∙◌, arith, subst, inl, inr}
use Rattle.std.specs.Prelude.{min, map, Option, Some, None, Ok}
use Rattle.std.specs.List.{AllByRecursion, AllZip}
use Rattle.script_tree.specs.declared.limits.TheConstants.{INPUTS, CANDIDATES, SELECTORS}
use Rattle.script_tree.specs.Scripts.{Scripted}
use Rattle.script_tree.proofs.Lists.{all_append}
use Rattle.expr_script.specs.Tokens.{script_names}
use Rattle.signal_graph.specs.declared.builder.DeclKind.TheVariants as kind
use Rattle.signal_graph.specs.Declarations as declarations
use Rattle.signal_graph.specs.Declarations.{Part, IsPart, AreParts, different_names}
use Rattle.signal_graph.specs.Graph.{BodyFits}
use Rattle.deck_lines.specs.declared.fault.Limit.TheVariants.{Levels, Inputs, Candidates, Selectors as Selecting}
use Rattle.deck_lines.specs.declared.line.Line.TheVariants.{Declares}
use Rattle.deck_lines.specs.Forms.{Words, PartForm, Choose}
use Rattle.deck_lines.specs.Limits.{selector_script, body_script, scripts_of, IsTooDeep, IsShallow, all_names, Keeps, IsBeyond}
use Rattle.deck_lines.specs.Lines.{IsReadAs, SaysPart, SaysBody}
use Rattle.deck_lines.specs.Selectors.{IsScript, HasMany, HasFew, HasRoom, Scripting, Crowding, IsSound}
use Rattle.deck_lines.proofs.Gathering.{one_before, all_shallow, scripts_are}

-- a body that is there is within all limits
body_shallow : (n : ℕ) (words : Option Words) (over : Option Scripted) → SaysBody n words over → AllByRecursion IsShallow (body_script n words)
body_shallow n None over s = tt
body_shallow n (Some words) None s = absurd s
body_shallow n (Some words) (Some over) s = (record { tree = over.tree; spells = s.tree; shallow = s.shallow }, tt)

body_few : (n : ℕ) (words : Option Words) → AllByRecursion HasFew (body_script n words)
body_few n None = tt
body_few n (Some words) = (omega arith, tt)

few_names : (forms : List PartForm) (parts : List Part) → AllZip SaysPart forms parts → AllByRecursion HasFew (map selector_script forms)
few_names [] [] z = tt
few_names [] (q ∷ parts) z = absurd z
few_names (f ∷ forms) [] z = absurd z
few_names (f ∷ forms) (q ∷ parts) z = (z.0.0.few, few_names forms parts z.1)

-- the names of the scripts are those of the words
pub same_names : (forms : List PartForm) (parts : List Part) → AllZip SaysPart forms parts → declarations.script_names parts ≡ all_names forms
same_names [] [] z = refl
same_names [] (q ∷ parts) z = absurd z
same_names (f ∷ forms) [] z = absurd z
same_names (f ∷ forms) (q ∷ parts) z = ap (λ ns. ns ++ declarations.script_names parts) z.0.0.named ∙ ap (λ ns. script_names f.0 ++ ns) (same_names forms parts z.1)

pub too_deep : (name : List ℕ) (forms : List PartForm) (words : Option Words) (over : Option Scripted) (many : Bool) (parts : List Part) → Scripting forms true many parts → SaysBody (length forms) words over → IsBeyond (Choose name forms words) Levels
too_deep name forms words over many parts s b = record {
  scripts = all_append IsScript (map selector_script forms) (body_script (length forms) words) s.0 (scripts_are (body_script (length forms) words) (body_shallow (length forms) words over b));
  beyond = one_before IsTooDeep (map selector_script forms) (body_script (length forms) words) s.1;
  before = tt;
}

shallow_all : (name : List ℕ) (forms : List PartForm) (words : Option Words) (over : Option Scripted) → AllByRecursion IsShallow (map selector_script forms) → SaysBody (length forms) words over → Keeps (Choose name forms words) Levels
shallow_all name forms words over s b = all_append IsShallow (map selector_script forms) (body_script (length forms) words) s (body_shallow (length forms) words over b)

pub too_many : (name : List ℕ) (forms : List PartForm) (words : Option Words) (over : Option Scripted) (parts : List Part) → Scripting forms false true parts → SaysBody (length forms) words over → IsBeyond (Choose name forms words) Inputs
too_many name forms words over parts s b =
    let shallow = shallow_all name forms words over s.0 b in
    record {
      scripts = scripts_are (scripts_of (Choose name forms words)) shallow;
      beyond = inl (one_before HasMany (map selector_script forms) (body_script (length forms) words) s.1);
      before = (shallow, tt);
    }

pub many_together : (name : List ℕ) (forms : List PartForm) (words : Option Words) (over : Option Scripted) (parts : List Part) (n : ℕ) → AllZip SaysPart forms parts → SaysBody (length forms) words over → n ≡ length (different_names (declarations.script_names parts)) → INPUTS < n → IsBeyond (Choose name forms words) Inputs
many_together name forms words over parts n z b e h =
    let shallow = shallow_all name forms words over (all_shallow forms parts z) b in
    record {
      scripts = scripts_are (scripts_of (Choose name forms words)) shallow;
      beyond = inr (subst (λ (k : ℕ). INPUTS < k) (e ∙ ap (λ ns. length (different_names ns)) (same_names forms parts z)) h);
      before = (shallow, tt);
    }

few_inputs : (name : List ℕ) (forms : List PartForm) (words : Option Words) (parts : List Part) (n : ℕ) → AllZip SaysPart forms parts → n ≡ length (different_names (declarations.script_names parts)) → n ≤ INPUTS → Keeps (Choose name forms words) Inputs
few_inputs name forms words parts n z e h = (
  all_append HasFew (map selector_script forms) (body_script (length forms) words) (few_names forms parts z) (body_few (length forms) words),
  subst (λ (k : ℕ). k ≤ INPUTS) (e ∙ ap (λ ns. length (different_names ns)) (same_names forms parts z)) h,
)

pub too_crowded : (name : List ℕ) (forms : List PartForm) (words : Option Words) (over : Option Scripted) (parts : List Part) (n : ℕ) → AllZip SaysPart forms parts → SaysBody (length forms) words over → n ≡ length (different_names (declarations.script_names parts)) → n ≤ INPUTS → Crowding forms true → IsBeyond (Choose name forms words) Candidates
too_crowded name forms words over parts n z b e h c =
    let shallow = shallow_all name forms words over (all_shallow forms parts z) b in
    record {
      scripts = scripts_are (scripts_of (Choose name forms words)) shallow;
      beyond = c;
      before = (shallow, (few_inputs name forms words parts n z e h, tt));
    }

pub too_long : (name : List ℕ) (forms : List PartForm) (words : Option Words) (over : Option Scripted) (parts : List Part) (n count : ℕ) → AllZip SaysPart forms parts → SaysBody (length forms) words over → n ≡ length (different_names (declarations.script_names parts)) → n ≤ INPUTS → Crowding forms false → count ≡ min (length forms) 5 → SELECTORS < count → IsBeyond (Choose name forms words) Selecting
too_long name forms words over parts n count z b e h c k l =
    let shallow = shallow_all name forms words over (all_shallow forms parts z) b in
    record {
      scripts = scripts_are (scripts_of (Choose name forms words)) shallow;
      beyond = omega (arith, k, l);
      before = (shallow, (few_inputs name forms words parts n z e h, (c, tt)));
    }

pub chosen : (name : List ℕ) (forms : List PartForm) (words : Option Words) (over : Option Scripted) (parts : List Part) (n count : ℕ) → AllZip SaysPart forms parts → SaysBody (length forms) words over → n ≡ length (different_names (declarations.script_names parts)) → n ≤ INPUTS → Crowding forms false → count ≡ min (length forms) 5 → count ≤ SELECTORS → IsReadAs (Choose name forms words) (Ok (Declares name (kind.Choose parts over)))
chosen name forms words over parts n count z b e h c k l = (
  (parts, over, z, b, refl),
  (shallow_all name forms words over (all_shallow forms parts z) b, (few_inputs name forms words parts n z e h, (c, (omega (arith, k, l), (omega arith, (omega arith, tt)))))),
)

room_of : (forms : List PartForm) (parts : List Part) → AllZip SaysPart forms parts → AllByRecursion HasRoom forms → AllByRecursion IsSound parts → AllByRecursion IsPart parts
room_of [] [] z c s = tt
room_of [] (q ∷ parts) z c s = absurd z
room_of (f ∷ forms) [] z c s = absurd z
room_of (f ∷ forms) (q ∷ parts) z c s =
    (record { some = s.0.some; few = subst (λ (l : List (List ℕ)). length l ≤ CANDIDATES) z.0.1 c.0; no_acc = s.0.no_acc; no_picks = s.0.no_picks }, room_of forms parts z.1 c.1 s.1)

pub as_many : (forms : List PartForm) (parts : List Part) → AllZip SaysPart forms parts → length forms ≡ length parts
as_many [] [] z = refl
as_many [] (q ∷ parts) z = absurd z
as_many (f ∷ forms) [] z = absurd z
as_many (f ∷ forms) (q ∷ parts) z = omega (arith, as_many forms parts z.1)

-- the choose is one of a graph
pub chosen_kept : (forms : List PartForm) (over : Option Scripted) (parts : List Part) (n count : ℕ) → AllZip SaysPart forms parts → n ≡ length (different_names (declarations.script_names parts)) → n ≤ INPUTS → Crowding forms false → AllByRecursion IsSound parts → count ≡ min (length forms) 5 → count ≤ SELECTORS → 1 ≤ length forms → BodyFits (min (length forms) SELECTORS) over → AreParts parts over
chosen_kept forms over parts n count z e h c s k l some fits =
    let same = as_many forms parts z in
    let all : min (length forms) SELECTORS ≡ length parts = omega (arith, same, k, l) in
    record {
      some = omega (arith, same, some);
      few = omega (arith, same, k, l);
      each = room_of forms parts z c s;
      body = subst (λ (m : ℕ). BodyFits m over) all fits;
      few_names = subst (λ (m : ℕ). m ≤ INPUTS) e h;
    }

pub ruleset judge_laws = (too_deep, too_many, many_together, too_crowded, too_long, chosen, chosen_kept)

-- what is gathered, by what was told of it
pub deep_ones : (forms : List PartForm) (deep many : Bool) (parts : List Part) → Scripting forms deep many parts → deep ≡ true → Scripting forms true many parts
deep_ones forms deep many parts s e = subst (λ (b : Bool). Scripting forms b many parts) e s

pub many_ones : (forms : List PartForm) (deep many : Bool) (parts : List Part) → Scripting forms deep many parts → deep ≡ false → many ≡ true → Scripting forms false true parts
many_ones forms deep many parts s e f = subst (λ (b : Bool). Scripting forms false b parts) f (subst (λ (b : Bool). Scripting forms b many parts) e s)

pub all_there : (forms : List PartForm) (deep many : Bool) (parts : List Part) → Scripting forms deep many parts → deep ≡ false → many ≡ false → AllZip SaysPart forms parts
all_there forms deep many parts s e f = subst (λ (b : Bool). Scripting forms false b parts) f (subst (λ (b : Bool). Scripting forms b many parts) e s)

pub crowd_is : (forms : List PartForm) (crowded b : Bool) → Crowding forms crowded → crowded ≡ b → Crowding forms b
crowd_is forms crowded b c e = subst (Crowding forms) e c
