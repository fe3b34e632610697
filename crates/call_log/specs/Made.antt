-- What a log says of each caller, and which of a caller's calls can be made at all.
use Rattle.std.specs.Prelude.{◌≡◌, ℕ, Bool, ◌==◌, is_none, List, length, map, filter, take, sum_by, slice_index_or, []}
use Rattle.signal_graph.specs.declared.call.Call.{Call}
use Rattle.signal_graph.specs.declared.log.Logged.{Logged}
use Rattle.signal_graph.specs.Graph.{Graph}
use Rattle.signal_graph.specs.Machine.{misnamed}

-- the entries of a caller
abbrev pub entries_of : ℕ → List Logged → List Logged
entries_of caller log = filter (λ entry. entry.caller == caller) log

-- the calls of entries, and their versions
abbrev pub calls_in : List Logged → List Call
calls_in log = map (λ entry. entry.call) log

abbrev pub versions_in : List Logged → List ℕ
versions_in log = map (λ entry. entry.version) log

-- every name of a call names what it has to
abbrev pub is_well_named : Graph → Call → Bool
is_well_named graph call = is_none (misnamed graph call)

abbrev pub well_named : Graph → List Call → List Call
well_named graph calls = filter (is_well_named graph) calls

-- how many calls of all callers are well-named
abbrev pub count_well_named : Graph → List (List Call) → ℕ
count_well_named graph scripts = sum_by (λ calls. length (well_named graph calls)) scripts

-- the calls of a caller, who counts from 1
abbrev pub script_of : List (List Call) → ℕ → List Call
script_of scripts index = slice_index_or scripts index []

-- a list begins with another
abbrev pub IsPrefix : {A : Type 0} → List A → List A → Type 0
IsPrefix part whole = part ≡ take (length part) whole
