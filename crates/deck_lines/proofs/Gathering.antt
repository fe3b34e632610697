-- One more selector.
use Rattle.std.proofs.Common.{◌≡◌, ℕ, ◌+◌, ◌<◌, ◌≤◌, Bool, true, false, List, [], ◌∷◌, ◌++◌, length, refl, sym, ap, ◌∙◌, arith, subst, inl, inr, length-append}
use Rattle.std.specs.Prelude.{min, map, ◌||◌, nat_lt, if◌then◌else◌, codes, Some, None, Err}
use Rattle.std.specs.Option.{option_map}
use Rattle.std.specs.List.{AllByRecursion, AllZip}
use Rattle.std.proofs.lemmas.Bool.Decides.{nat_tests}
use Rattle.script_tree.specs.declared.limits.TheConstants.{CANDIDATES, SELECTORS}
use Rattle.script_tree.specs.Scripts.{Scripted, HasNoPicks, HasNoAcc}
use Rattle.script_tree.proofs.Lists.{all_end}
use Rattle.expr_script.specs.declared.atoms.Atoms.TheVariants as atoms
use Rattle.expr_script.specs.Spelled.{SpellsScript, SpellsTooMany}
use Rattle.signal_graph.specs.Declarations.{Part}
use Rattle.deck_lines.specs.declared.fault.Limit.{Limit}
use Rattle.deck_lines.specs.declared.fault.Limit.TheVariants.{Levels, Inputs, Candidates, Selectors as Selecting, Sets, Looks}
use Rattle.deck_lines.specs.declared.fault.LineFault.TheVariants.{TooMany}
use Rattle.deck_lines.specs.declared.selectors.Selectors.{Selectors}
use Rattle.deck_lines.specs.Cuts.{has, before, behind}
use Rattle.deck_lines.specs.Reading.{names_of, part_of}
use Rattle.deck_lines.specs.Scripts.{IsScriptOf}
use Rattle.deck_lines.specs.Forms.{Words, PartForm}
use Rattle.deck_lines.specs.Limits.{Job, selector_script, IsTooDeep, IsShallow, One}
use Rattle.deck_lines.specs.Lines.{SaysPart}
use Rattle.deck_lines.specs.Selectors.{IsScript, HasMany, IsCrowded, HasRoom, Scripting, Crowding, IsSound, Gathers}

pub one_before : {A : Type 0} (P : A → Type 0) (xs ys : List A) → One P xs → One P (xs ++ ys)
one_before P [] ys o = absurd o
one_before P (x ∷ xs) ys (inl p) = inl p
one_before P (x ∷ xs) ys (inr o) = inr (one_before P xs ys o)

pub one_behind : {A : Type 0} (P : A → Type 0) (xs ys : List A) → One P ys → One P (xs ++ ys)
one_behind P [] ys o = o
one_behind P (x ∷ xs) ys o = inr (one_behind P xs ys o)

pub one_end : {A : Type 0} (P : A → Type 0) (xs : List A) (x : A) → P x → One P (xs ++ x ∷ [])
one_end P xs x p = one_behind P xs (x ∷ []) (inl p)

zip_end : (forms : List PartForm) (parts : List Part) (form : PartForm) (part : Part) → AllZip SaysPart forms parts → SaysPart form part → AllZip SaysPart (forms ++ form ∷ []) (parts ++ part ∷ [])
zip_end [] [] form part z p = (p, tt)
zip_end [] (q ∷ parts) form part z p = absurd z
zip_end (f ∷ forms) [] form part z p = absurd z
zip_end (f ∷ forms) (q ∷ parts) form part z p = (z.0, zip_end forms parts form part z.1 p)

-- the scripts of one more
jobs_end : (forms : List PartForm) (form : PartForm) → map selector_script (forms ++ form ∷ []) ≡ map selector_script forms ++ selector_script form ∷ []
jobs_end [] form = refl
jobs_end (f ∷ forms) form = ap (λ jobs. selector_script f ∷ jobs) (jobs_end forms form)

all_jobs : (P : Job → Type 0) (forms : List PartForm) (form : PartForm) → AllByRecursion P (map selector_script forms) → P (selector_script form) → AllByRecursion P (map selector_script (forms ++ form ∷ []))
all_jobs P forms form all p = subst (AllByRecursion P) (sym (jobs_end forms form)) (all_end P (map selector_script forms) (selector_script form) all p)

old_job : (P : Job → Type 0) (forms : List PartForm) (form : PartForm) → One P (map selector_script forms) → One P (map selector_script (forms ++ form ∷ []))
old_job P forms form o = subst (One P) (sym (jobs_end forms form)) (one_before P (map selector_script forms) (selector_script form ∷ []) o)

new_job : (P : Job → Type 0) (forms : List PartForm) (form : PartForm) → P (selector_script form) → One P (map selector_script (forms ++ form ∷ []))
new_job P forms form p = subst (One P) (sym (jobs_end forms form)) (one_end P (map selector_script forms) (selector_script form) p)

pub shallow_of : (form : PartForm) (script : Scripted) → SpellsScript false form.0 script → IsShallow (selector_script form)
shallow_of form script s = record { tree = script.tree; spells = s.tree; shallow = s.shallow }

pub all_shallow : (forms : List PartForm) (parts : List Part) → AllZip SaysPart forms parts → AllByRecursion IsShallow (map selector_script forms)
all_shallow [] [] z = tt
all_shallow [] (q ∷ parts) z = absurd z
all_shallow (f ∷ forms) [] z = absurd z
all_shallow (f ∷ forms) (q ∷ parts) z = (shallow_of f q.0 z.0.0, all_shallow forms parts z.1)

pub scripts_are : (jobs : List Job) → AllByRecursion IsShallow jobs → AllByRecursion IsScript jobs
scripts_are [] all = tt
scripts_are (job ∷ jobs) all = (inl all.0, scripts_are jobs all.1)

pub all_scripts : (forms : List PartForm) (deep many : Bool) (parts : List Part) → Scripting forms deep many parts → AllByRecursion IsScript (map selector_script forms)
all_scripts forms true many parts s = s.0
all_scripts forms false true parts s = scripts_are (map selector_script forms) s.0
all_scripts forms false false parts s = scripts_are (map selector_script forms) (all_shallow forms parts s)

shallow_ones : (forms : List PartForm) (many : Bool) (parts : List Part) → Scripting forms false many parts → AllByRecursion IsShallow (map selector_script forms)
shallow_ones forms true parts s = s.0
shallow_ones forms false parts s = all_shallow forms parts s

with_script : (forms : List PartForm) (deep many : Bool) (parts : List Part) (form : PartForm) (part : Part) → Scripting forms deep many parts → SaysPart form part → Scripting (forms ++ form ∷ []) deep many (parts ++ part ∷ [])
with_script forms true many parts form part s p = (all_jobs IsScript forms form s.0 (inl (shallow_of form part.0 p.0)), old_job IsTooDeep forms form s.1)
with_script forms false true parts form part s p = (all_jobs IsShallow forms form s.0 (shallow_of form part.0 p.0), old_job HasMany forms form s.1)
with_script forms false false parts form part s p = zip_end forms parts form part s p

with_deep : (forms : List PartForm) (deep many : Bool) (parts : List Part) (form : PartForm) → Scripting forms deep many parts → IsTooDeep (selector_script form) → Scripting (forms ++ form ∷ []) true many parts
with_deep forms deep many parts form s p = (all_jobs IsScript forms form (all_scripts forms deep many parts s) (inr p), new_job IsTooDeep forms form p)

with_many : (forms : List PartForm) (deep many : Bool) (parts : List Part) (form : PartForm) → Scripting forms deep many parts → SpellsTooMany (atoms.Script false) form.0 → Scripting (forms ++ form ∷ []) deep true parts
with_many forms true many parts form s p = (all_jobs IsScript forms form s.0 (inl (record { tree = p.spelled; spells = p.tree; shallow = p.shallow })), old_job IsTooDeep forms form s.1)
with_many forms false many parts form s p = (all_jobs IsShallow forms form (shallow_ones forms many parts s) (record { tree = p.spelled; spells = p.tree; shallow = p.shallow }), new_job HasMany forms form p.many)

crowd_by : (forms : List PartForm) (form : PartForm) (crowded over : Bool) → nat_lt CANDIDATES (length form.1) ≡ over → Crowding forms crowded → Crowding (forms ++ form ∷ []) (crowded || over)
crowd_by forms form true over e c = one_before IsCrowded forms (form ∷ []) c
crowd_by forms form false true e c = one_end IsCrowded forms form (grind (arith, nat_tests, e))
crowd_by forms form false false e c = all_end HasRoom forms form c (grind (arith, nat_tests, e))

count_by : (forms : List PartForm) (form : PartForm) (old new : ℕ) → old ≡ min (length forms) 5 → new ≡ (if nat_lt SELECTORS old then old else old + 1) → new ≡ min (length (forms ++ form ∷ [])) 5
count_by forms form old new e n = by_test (nat_lt SELECTORS old) refl
  where
    by_test : (t : Bool) → nat_lt SELECTORS old ≡ t → new ≡ min (length (forms ++ form ∷ [])) 5
    by_test true t =
        let full : SELECTORS < old = grind (arith, nat_tests, t) in
        let same : new ≡ old = n ∙ ap (λ b. if b then old else old + 1) t in
        omega (arith, length-append forms (form ∷ []), e, full, same)
    by_test false t =
        let room : old ≤ SELECTORS = grind (arith, nat_tests, t) in
        let same : new ≡ old + 1 = n ∙ ap (λ b. if b then old else old + 1) t in
        omega (arith, length-append forms (form ∷ []), e, room, same)

crowd_on : (forms : List PartForm) (form : PartForm) (old new : Bool) (candidates : List (List ℕ)) → form.1 ≡ candidates → Crowding forms old → new ≡ (old || nat_lt CANDIDATES (length candidates)) → Crowding (forms ++ form ∷ []) new
crowd_on forms form old new candidates same c e =
    subst (Crowding (forms ++ form ∷ [])) (sym (e ∙ ap (λ (l : List (List ℕ)). old || nat_lt CANDIDATES (length l)) (sym same))) (crowd_by forms form old (nat_lt CANDIDATES (length form.1)) refl c)

-- what one more changes in the count and the crowd
pub record Counts (candidates : List (List ℕ)) (old new : Selectors) : Type 0 where
  pub count : new.count ≡ (if nat_lt SELECTORS old.count then old.count else old.count + 1)
  pub crowded : new.crowded ≡ (old.crowded || nat_lt CANDIDATES (length candidates))

pub gathers_script : (forms : List PartForm) (form : PartForm) (candidates : List (List ℕ)) (script : Scripted) (old new : Selectors) → Gathers forms old → Counts candidates old new → new.deep ≡ old.deep → new.many ≡ old.many → new.within.items ≡ old.within.items ++ (script, candidates) ∷ []
    → SpellsScript false form.0 script → form.1 ≡ candidates → 1 ≤ length candidates → HasNoAcc script → HasNoPicks script → Gathers (forms ++ form ∷ []) new
gathers_script forms form candidates script old new g c d m w s same some a p = record {
  count = count_by forms form old.count new.count g.count c.count;
  scripts = subst (λ (l : List Part). Scripting (forms ++ form ∷ []) new.deep new.many l) (sym w)
      (subst (λ (b : Bool). Scripting (forms ++ form ∷ []) b new.many (old.within.items ++ (script, candidates) ∷ [])) (sym d)
      (subst (λ (b : Bool). Scripting (forms ++ form ∷ []) old.deep b (old.within.items ++ (script, candidates) ∷ [])) (sym m)
      (with_script forms old.deep old.many old.within.items form (script, candidates) g.scripts (s, same))));
  crowd = crowd_on forms form old.crowded new.crowded candidates same g.crowd c.crowded;
  sound = subst (AllByRecursion IsSound) (sym w) (all_end IsSound old.within.items (script, candidates) g.sound (record { some = some; no_acc = a; no_picks = p }));
}

pub gathers_deep : (forms : List PartForm) (form : PartForm) (candidates : List (List ℕ)) (old new : Selectors) → Gathers forms old → Counts candidates old new → new.deep ≡ true → new.many ≡ old.many → new.within.items ≡ old.within.items
    → IsTooDeep (selector_script form) → form.1 ≡ candidates → Gathers (forms ++ form ∷ []) new
gathers_deep forms form candidates old new g c d m w s same = record {
  count = count_by forms form old.count new.count g.count c.count;
  scripts = subst (λ (l : List Part). Scripting (forms ++ form ∷ []) new.deep new.many l) (sym w)
      (subst (λ (b : Bool). Scripting (forms ++ form ∷ []) b new.many old.within.items) (sym d)
      (subst (λ (b : Bool). Scripting (forms ++ form ∷ []) true b old.within.items) (sym m)
      (with_deep forms old.deep old.many old.within.items form g.scripts s)));
  crowd = crowd_on forms form old.crowded new.crowded candidates same g.crowd c.crowded;
  sound = subst (AllByRecursion IsSound) (sym w) g.sound;
}

pub gathers_many : (forms : List PartForm) (form : PartForm) (candidates : List (List ℕ)) (old new : Selectors) → Gathers forms old → Counts candidates old new → new.deep ≡ old.deep → new.many ≡ true → new.within.items ≡ old.within.items
    → SpellsTooMany (atoms.Script false) form.0 → form.1 ≡ candidates → Gathers (forms ++ form ∷ []) new
gathers_many forms form candidates old new g c d m w s same = record {
  count = count_by forms form old.count new.count g.count c.count;
  scripts = subst (λ (l : List Part). Scripting (forms ++ form ∷ []) new.deep new.many l) (sym w)
      (subst (λ (b : Bool). Scripting (forms ++ form ∷ []) b new.many old.within.items) (sym d)
      (subst (λ (b : Bool). Scripting (forms ++ form ∷ []) old.deep b old.within.items) (sym m)
      (with_many forms old.deep old.many old.within.items form g.scripts s)));
  crowd = crowd_on forms form old.crowded new.crowded candidates same g.crowd c.crowded;
  sound = subst (AllByRecursion IsSound) (sym w) g.sound;
}

-- a script that goes beyond a limit other than that of depth has too many names
pub many_unless_deep : (job : Job) (limit : Limit) → (limit ≡ Levels → ⊥) → IsScriptOf job.0 job.1 (Err (TooMany limit)) → SpellsTooMany job.0 job.1
many_unless_deep job Levels n h = absurd (n refl)
many_unless_deep job Inputs n h = h
many_unless_deep job Candidates n h = absurd h
many_unless_deep job Selecting n h = absurd h
many_unless_deep job Sets n h = absurd h
many_unless_deep job Looks n h = absurd h

-- the words of a selector
pub part_found : (words first last : Words) (names : List (List ℕ)) → has (codes "among") words ≡ true → first ≡ before (codes "among") words → last ≡ behind (codes "among") words → names_of last ≡ Some names → part_of words ≡ Some (first, names)
part_found words first last names h b e n =
    ap (λ t. if t then option_map (λ found. (before (codes "among") words, found)) (names_of (behind (codes "among") words)) else None) h
    ∙ ap (λ ws. option_map (λ found. (ws, found)) (names_of (behind (codes "among") words))) (sym b)
    ∙ ap (λ ws. option_map (λ found. (first, found)) (names_of ws)) (sym e)
    ∙ ap (option_map (λ found. (first, found))) n
