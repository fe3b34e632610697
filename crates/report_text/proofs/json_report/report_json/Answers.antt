use Rattle.std.proofs.Common.{◌≡◌, List, [], ◌∷◌, ◌++◌, ℕ, length, map, ap, ◌∙◌, append_assoc, codes}
use Rattle.std.specs.Prelude.{decimal}
use Rattle.std.specs.List.{zip}
use Rattle.serde_json.specs.Written.{compact_text}
use Rattle.report_text.specs.Report.{line_of}
use Rattle.report_text.specs.Json.{list_data, look_data, call_data, refused_data}
use Rattle.serde_json.proofs.OnLiterals.{serde_json_on_literals}
use Rattle.report_text.proofs.json_report.report_json.Goals as goal

-- the frame of the report with its number and its lists, printed one behind the other
joined : (k1 n k2 a k3 b k4 d t1 t2 t3 t4 t5 t6 t7 t8 t : List ℕ) → t1 ≡ k1 → t2 ≡ t1 ++ n → t3 ≡ t2 ++ k2 → t4 ≡ t3 ++ a → t5 ≡ t4 ++ k3 → t6 ≡ t5 ++ b → t7 ≡ t6 ++ k4 → t8 ≡ t7 ++ d → t ≡ t8 ++ 125 ∷ 10 ∷ []
    → t ≡ (k1 ++ (n ++ (k2 ++ (a ++ (k3 ++ (b ++ (k4 ++ (d ++ 125 ∷ [])))))))) ++ 10 ∷ []
joined k1 n k2 a k3 b k4 d t1 t2 t3 t4 t5 t6 t7 t8 t e1 e2 e3 e4 e5 e6 e7 e8 e =
    e
    ∙ ap (λ v. v ++ 125 ∷ 10 ∷ []) (e8 ∙ ap (λ v. v ++ d) (e7 ∙ ap (λ v. v ++ k4) (e6 ∙ ap (λ v. v ++ b) (e5 ∙ ap (λ v. v ++ k3) (e4 ∙ ap (λ v. v ++ a) (e3 ∙ ap (λ v. v ++ k2) (e2 ∙ ap (λ v. v ++ n) e1)))))))
    ∙ simp append_assoc

pub returns : goal.returns
unfolding serde_json_on_literals
returns c =
    let log = c.args.finished.now.log.entries in
    let looks = zip c.args.graph.now.names c.args.finished.now.finals in
    joined (codes "{\"accepted\":") (decimal (length log)) (codes ",\"calls\":") (compact_text (list_data call_data (map line_of log)))
    (codes ",\"finals\":") (compact_text (list_data look_data looks)) (codes ",\"refused\":") (compact_text (list_data refused_data c.args.finished.now.refused)) _ _ _ _ _ _ _ _ _
    (c.in_ok-extend_from_slice.ensures.ok ∙ ap (λ v. v ++ codes "{\"accepted\":") c.new-out.ensures)
    (c.in_ok-print_number.ensures.ok ∙ ap (λ n. c.extend_from_slice.new.self ++ decimal n) c.len.ensures)
    c.in_ok-extend_from_slice-2.ensures.ok
    (c.in_ok-push_calls.ensures ∙ ap (λ l. c.extend_from_slice-2.new.self ++ compact_text (list_data call_data (map line_of l))) c.as_slice.ensures)
    c.in_ok-extend_from_slice-3.ensures.ok
    (c.in_ok-push_finals.ensures ∙ ap (λ l. c.extend_from_slice-3.new.self ++ compact_text (list_data look_data (zip c.args.graph.now.names l))) c.as_slice-2.ensures)
    c.in_ok-extend_from_slice-4.ensures.ok
    (c.in_ok-push_all_refused.ensures ∙ ap (λ l. c.extend_from_slice-4.new.self ++ compact_text (list_data refused_data l)) c.as_slice-3.ensures)
    c.in_ok-extend_from_slice-5.ensures.ok
