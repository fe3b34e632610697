-- Where bytes stop to be a report.
use Rattle.std.proofs.Common.{◌≡◌, ◌≢◌, ℕ, ◌+◌, List, [], ◌++◌, length, sym, ap, ◌∙◌, append_assoc, inl, inr}
use Rattle.std.specs.List.{flat_map}
use Rattle.script_tree.specs.declared.value.Value.{Value}
use Rattle.signal_graph.specs.declared.log.Refused.{Refused}
use Rattle.report_text.specs.declared.data.CallLine.{CallLine}
use Rattle.report_text.specs.declared.data.Report.{Report}
use Rattle.report_text.specs.Report.{call_line, refused_line, final_line, done_line}
use Rattle.report_text.specs.Printed.{AreLines, AreRefusals, AreLooks, IsReport, NoCall, NoRefusal, NoFinal, NoDone, Stops}

joined : (bytes a r1 b r2 c r3 : List ℕ) → bytes ≡ a ++ r1 → r1 ≡ b ++ r2 → r2 ≡ c ++ r3 → bytes ≡ a ++ (b ++ (c ++ r3))
joined bytes a r1 b r2 c r3 one two three = one ∙ ap (λ t. a ++ t) (two ∙ ap (λ t. b ++ t) three)

same_rest : {A : Type 0} (f : A → List ℕ) (xs : List A) (text rest : List ℕ) → text ≡ flat_map f xs ++ rest → xs ≡ [] → text ≡ rest
same_rest f xs text rest e none = e ∙ ap (λ l. flat_map f l ++ rest) none

pub stops_within : (bytes r1 r2 r3 : List ℕ) (calls : List CallLine) (refused : List Refused) (finals : List (List ℕ × Value)) (line : ℕ) → AreLines calls → AreRefusals refused → AreLooks finals
    → bytes ≡ flat_map call_line calls ++ r1 → r1 ≡ flat_map refused_line refused ++ r2 → r2 ≡ flat_map final_line finals ++ r3
    → NoCall r1 → NoRefusal r2 → NoFinal r3 → NoDone r3 → line ≡ length calls + length refused + length finals + 1 → Stops bytes line
stops_within bytes r1 r2 r3 calls refused finals line ac ar af one two three nc nr nf nd number =
    let at_finals : finals ≡ [] → r2 ≡ r3 = λ f. same_rest final_line finals r2 r3 three f in
    let at_refused : refused ≡ [] → finals ≡ [] → r1 ≡ r3 = λ r f. same_rest refused_line refused r1 r2 two r ∙ at_finals f in
    inl (record {
      calls = calls;
      refused = refused;
      finals = finals;
      behind = r3;
      are_calls = ac;
      are_refused = ar;
      are_finals = af;
      text = joined bytes (flat_map call_line calls) r1 (flat_map refused_line refused) r2 (flat_map final_line finals) r3 one two three;
      number = number;
      no_call = λ r f it rest is e. nc it rest is (at_refused r f ∙ e);
      no_refusal = λ f it rest is e. nr it rest is (at_finals f ∙ e);
      no_final = nf;
      no_done = nd;
    })

pub stops_behind : (bytes r1 r2 r3 r4 : List ℕ) (report : Report) (line : ℕ) → IsReport report
    → bytes ≡ flat_map call_line report.calls ++ r1 → r1 ≡ flat_map refused_line report.refused ++ r2 → r2 ≡ flat_map final_line report.finals ++ r3 → r3 ≡ done_line report.accepted report.refusals ++ r4
    → r4 ≢ [] → line ≡ length report.calls + length report.refused + length report.finals + 2 → Stops bytes line
stops_behind bytes r1 r2 r3 r4 report line is one two three four more number =
    inr (record {
      report = report;
      behind = r4;
      is_report = is;
      more = more;
      text = joined bytes (flat_map call_line report.calls) r1 (flat_map refused_line report.refused) r2 (flat_map final_line report.finals) r3 one two three
          ∙ ap (λ t. flat_map call_line report.calls ++ (flat_map refused_line report.refused ++ (flat_map final_line report.finals ++ t))) four
          ∙ sym (behind_all (flat_map call_line report.calls) (flat_map refused_line report.refused) (flat_map final_line report.finals) (done_line report.accepted report.refusals) r4);
      number = number;
    })
  where
    behind_all : (a b c d e : List ℕ) → (a ++ (b ++ (c ++ d))) ++ e ≡ a ++ (b ++ (c ++ (d ++ e)))
    behind_all a b c d e = simp append_assoc
