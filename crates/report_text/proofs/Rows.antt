-- Reports of worked runs, byte for byte, computed from the definition.
use Rattle.std.proofs.Common.{◌≡◌, ℕ, true, List, [], ◌∷◌, ◌++◌, refl}
use Rattle.std.specs.Prelude.{pos, negsuc, codes}
use Rattle.std.specs.Fmt.{digits}
use Rattle.script_tree.specs.declared.value.Fault.TheVariants.{Overflow, ZeroDivisor, Kind, NoChoice}
use Rattle.script_tree.specs.declared.value.Value.{Value}
use Rattle.script_tree.specs.declared.value.Value.TheVariants.{Int, Bool as Truth, Fault as Faulty}
use Rattle.signal_graph.specs.declared.call.Call.{Call}
use Rattle.signal_graph.specs.declared.call.Call.TheVariants.{Fire, Read}
use Rattle.signal_graph.specs.declared.call.Reply.{Reply}
use Rattle.signal_graph.specs.declared.call.Reply.TheVariants.{Fire as Fired, Read as Seen}
use Rattle.signal_graph.specs.declared.log.Logged.{Logged}
use Rattle.signal_graph.specs.declared.log.Refused.{Refused}
use Rattle.signal_graph.specs.declared.log.Why.{Why}
use Rattle.signal_graph.specs.declared.log.Why.TheVariants.{UnknownName, VersionsUsedUp}
use Rattle.serde_json.proofs.OnLiterals.{serde_json_on_literals}
use Rattle.report_text.specs.Report.{report_of}
use Rattle.report_text.specs.Json.{json_of}

abbrev num : ℕ → Value
num n = Int (pos n)

abbrev entry : ℕ → ℕ → Call → Reply → Logged
entry caller version call reply = record { caller = caller; version = version; call = call; reply = reply }

abbrev refused : ℕ → ℕ → Why → Refused
refused caller number why = record { caller = caller; number = number; why = why }

abbrev set : List ℕ → Value → List (List ℕ) → Call
set name value looks = Fire ((name, value) ∷ []) looks

-- a text and the end of its line
abbrev line : List ℕ → List ℕ
line text = text ++ 10 ∷ []

abbrev a : List ℕ
a = codes "a"

abbrev b : List ℕ
b = codes "b"

-- no call at all
no_call : report_of [] [] (a ∷ []) (num 1 ∷ []) ≡ line (codes "final a=1") ++ line (codes "done 0 accepted 0 refused")
unfolding digits
no_call = refl

-- a fire with a look and a read
first_run : report_of
    (entry 1 1 (set a (num 5) (b ∷ [])) (Fired 2 1 (num 6 ∷ []))
    ∷ entry 1 2 (Read (a ∷ b ∷ [])) (Seen (num 5 ∷ num 6 ∷ [])) ∷ [])
    [] (a ∷ b ∷ []) (num 5 ∷ num 6 ∷ [])
    ≡ line (codes "call 1 thread 1 fire changed 2 evaluated 1 look b=6")
    ++ (line (codes "call 2 thread 1 read a=5, b=6")
    ++ (line (codes "final a=5")
    ++ (line (codes "final b=6") ++ line (codes "done 2 accepted 0 refused"))))
unfolding digits
first_run = refl

-- a fire that looks at nothing
without_looks : report_of
    (entry 1 1 (set a (num 1) []) (Fired 0 0 []) ∷ [])
    [] (a ∷ b ∷ []) (num 1 ∷ num 2 ∷ [])
    ≡ line (codes "call 1 thread 1 fire changed 0 evaluated 0")
    ++ (line (codes "final a=1") ++ (line (codes "final b=2") ++ line (codes "done 1 accepted 0 refused")))
unfolding digits
without_looks = refl

-- a read that looks at nothing: the space behind its word stands all the same
read_of_nothing : report_of (entry 1 1 (Read []) (Seen []) ∷ []) [] [] []
    ≡ line (codes "call 1 thread 1 read ") ++ line (codes "done 1 accepted 0 refused")
unfolding digits
read_of_nothing = refl

-- the least and the largest number
extremes : report_of [] [] (a ∷ b ∷ []) (num 9223372036854775807 ∷ Int (negsuc 9223372036854775807) ∷ [])
    ≡ line (codes "final a=9223372036854775807")
    ++ (line (codes "final b=-9223372036854775808") ++ line (codes "done 0 accepted 0 refused"))
unfolding digits
extremes = refl

-- faults of every kind, in looks and as last values
faults : report_of
    (entry 1 1 (set (codes "i") (Int (negsuc 0)) (codes "d" ∷ codes "e" ∷ [])) (Fired 1 2 (Faulty NoChoice ∷ Faulty ZeroDivisor ∷ []))
    ∷ entry 1 2 (set (codes "i") (Truth true) (codes "d" ∷ [])) (Fired 3 2 (Faulty Kind ∷ [])) ∷ [])
    [] (codes "i" ∷ codes "e" ∷ codes "o" ∷ []) (Truth true ∷ Faulty ZeroDivisor ∷ Faulty Overflow ∷ [])
    ≡ line (codes "call 1 thread 1 fire changed 1 evaluated 2 look d=fault no-choice, e=fault zero-divisor")
    ++ (line (codes "call 2 thread 1 fire changed 3 evaluated 2 look d=fault kind")
    ++ (line (codes "final i=true")
    ++ (line (codes "final e=fault zero-divisor")
    ++ (line (codes "final o=fault overflow") ++ line (codes "done 2 accepted 0 refused")))))
unfolding digits
faults = refl

-- refused for their names
refused_names : report_of
    (entry 1 1 (Read (b ∷ [])) (Seen (num 2 ∷ [])) ∷ [])
    (refused 1 1 (UnknownName 1) ∷ refused 1 2 (UnknownName 2) ∷ [])
    (a ∷ b ∷ []) (num 1 ∷ num 2 ∷ [])
    ≡ line (codes "call 1 thread 1 read b=2")
    ++ (line (codes "refused thread 1 call 1 unknown name 1")
    ++ (line (codes "refused thread 1 call 2 unknown name 2")
    ++ (line (codes "final a=1") ++ (line (codes "final b=2") ++ line (codes "done 1 accepted 2 refused")))))
unfolding digits
refused_names = refl

-- refused for want of versions
refused_versions : report_of
    (entry 1 1 (set a (num 1) []) (Fired 1 0 []) ∷ [])
    (refused 1 2 (VersionsUsedUp 1) ∷ []) (a ∷ []) (num 1 ∷ [])
    ≡ line (codes "call 1 thread 1 fire changed 1 evaluated 0")
    ++ (line (codes "refused thread 1 call 2 versions used up 1")
    ++ (line (codes "final a=1") ++ line (codes "done 1 accepted 1 refused")))
unfolding digits
refused_versions = refl

-- refused for either, in two threads
refused_both : report_of
    []
    (refused 1 1 (VersionsUsedUp 0) ∷ refused 2 1 (UnknownName 12) ∷ refused 2 2 (VersionsUsedUp 0) ∷ [])
    (a ∷ []) (num 0 ∷ [])
    ≡ line (codes "refused thread 1 call 1 versions used up 0")
    ++ (line (codes "refused thread 2 call 1 unknown name 12")
    ++ (line (codes "refused thread 2 call 2 versions used up 0")
    ++ (line (codes "final a=0") ++ line (codes "done 0 accepted 3 refused"))))
unfolding digits
refused_both = refl

-- the calls of two threads, a later version first
two_threads : report_of
    (entry 2 2 (set (codes "y") (num 21) (codes "k" ∷ [])) (Fired 1 0 (num 11 ∷ []))
    ∷ entry 1 1 (set (codes "s") (num 1) (codes "k" ∷ [])) (Fired 3 2 (num 22 ∷ [])) ∷ [])
    []
    (codes "s" ∷ codes "x" ∷ codes "y" ∷ codes "d" ∷ codes "k" ∷ [])
    (num 1 ∷ num 10 ∷ num 21 ∷ num 21 ∷ num 22 ∷ [])
    ≡ line (codes "call 2 thread 2 fire changed 1 evaluated 0 look k=11")
    ++ (line (codes "call 1 thread 1 fire changed 3 evaluated 2 look k=22")
    ++ (line (codes "final s=1")
    ++ (line (codes "final x=10")
    ++ (line (codes "final y=21")
    ++ (line (codes "final d=21")
    ++ (line (codes "final k=22") ++ line (codes "done 2 accepted 0 refused")))))))
unfolding digits
two_threads = refl

-- a small dashboard, whose two threads set different sources
dashboard : report_of
    (entry 1 1 (set (codes "hall") (num 20) []) (Fired 2 3 [])
    ∷ entry 1 2 (Fire ((codes "hall", num 22) ∷ (codes "lab", num 25) ∷ []) []) (Fired 7 5 [])
    ∷ entry 1 3 (set (codes "hall") (num 24) []) (Fired 4 5 [])
    ∷ entry 2 4 (set (codes "night") (Truth true) []) (Fired 2 2 [])
    ∷ entry 2 5 (set (codes "mode") (num 1) (codes "shown" ∷ [])) (Fired 2 2 (num 25 ∷ []))
    ∷ entry 2 6 (Read (codes "alarm" ∷ [])) (Seen (Truth true ∷ [])) ∷ [])
    []
    (codes "hall" ∷ codes "lab" ∷ codes "target" ∷ codes "mode" ∷ codes "night" ∷ codes "mean" ∷ codes "worst" ∷ codes "shown" ∷ codes "limit" ∷ codes "alarm" ∷ codes "steps" ∷ [])
    (num 24 ∷ num 25 ∷ num 21 ∷ num 1 ∷ Truth true ∷ num 24 ∷ num 25 ∷ num 25 ∷ num 18 ∷ Truth true ∷ num 3 ∷ [])
    ≡ line (codes "call 1 thread 1 fire changed 2 evaluated 3")
    ++ (line (codes "call 2 thread 1 fire changed 7 evaluated 5")
    ++ (line (codes "call 3 thread 1 fire changed 4 evaluated 5")
    ++ (line (codes "call 4 thread 2 fire changed 2 evaluated 2")
    ++ (line (codes "call 5 thread 2 fire changed 2 evaluated 2 look shown=25")
    ++ (line (codes "call 6 thread 2 read alarm=true")
    ++ (line (codes "final hall=24")
    ++ (line (codes "final lab=25")
    ++ (line (codes "final target=21")
    ++ (line (codes "final mode=1")
    ++ (line (codes "final night=true")
    ++ (line (codes "final mean=24")
    ++ (line (codes "final worst=25")
    ++ (line (codes "final shown=25")
    ++ (line (codes "final limit=18")
    ++ (line (codes "final alarm=true")
    ++ (line (codes "final steps=3") ++ line (codes "done 6 accepted 0 refused")))))))))))))))))
unfolding digits
dashboard = refl

-- the same first run as JSON
first_run_as_json : json_of
    (entry 1 1 (set a (num 5) (b ∷ [])) (Fired 2 1 (num 6 ∷ []))
    ∷ entry 1 2 (Read (a ∷ b ∷ [])) (Seen (num 5 ∷ num 6 ∷ [])) ∷ [])
    [] (a ∷ b ∷ []) (num 5 ∷ num 6 ∷ [])
    ≡ line (codes "{\"accepted\":2,\"calls\":[{\"changed\":2,\"evaluated\":1,\"kind\":\"fire\",\"looks\":[{\"name\":\"b\",\"value\":6}],\"thread\":1,\"version\":1},"
    ++ (codes "{\"kind\":\"read\",\"looks\":[{\"name\":\"a\",\"value\":5},{\"name\":\"b\",\"value\":6}],\"thread\":1,\"version\":2}],"
    ++ codes "\"finals\":[{\"name\":\"a\",\"value\":5},{\"name\":\"b\",\"value\":6}],\"refused\":[]}"))
unfolding digits serde_json_on_literals
first_run_as_json = refl

-- refusals, faults and truths as JSON
refused_as_json : json_of
    []
    (refused 1 2 (UnknownName 3) ∷ refused 2 1 (VersionsUsedUp 0) ∷ [])
    (a ∷ b ∷ codes "c" ∷ []) (Truth true ∷ Faulty ZeroDivisor ∷ Int (negsuc 4) ∷ [])
    ≡ line (codes "{\"accepted\":0,\"calls\":[],"
    ++ (codes "\"finals\":[{\"name\":\"a\",\"value\":true},{\"name\":\"b\",\"value\":{\"fault\":\"zero-divisor\"}},{\"name\":\"c\",\"value\":-5}],"
    ++ codes "\"refused\":[{\"call\":2,\"place\":3,\"reason\":\"unknown name\",\"thread\":1},{\"call\":1,\"limit\":0,\"reason\":\"versions used up\",\"thread\":2}]}"))
unfolding digits serde_json_on_literals
refused_as_json = refl
