use Rattle.std.proofs.Common.{◌≡◌, ◌∙◌, ◌∷◌, [], ◌++◌, ℕ, List, ap, sym, decimal, append_assoc, length, string_bytes}
use Rattle.std.specs.Prelude.{codes}
use Rattle.std.proofs.lemmas.List.{append-nil}
use Rattle.ir_model.specs.Graph.{names}
use Rattle.ir_trace.specs.Rows.{spaced}
use Rattle.ir_trace.specs.Written.{name_at}
use Rattle.ir_show.specs.StatsText.{node_count_line}
use Rattle.ir_show.proofs.PlanLines.{node_line}
use Rattle.ir_show.proofs.stats.push_greatest.Goals as goal

pub returns : goal.returns
returns c =
    let old = string_bytes c.args.text.now in
    let word = codes "greatest-row" in
    let name = name_at (names c.args.graph.now) c.args.u in
    let count = decimal c.len.result in
    let here : string_bytes c.push_str-2.new.self ≡ old ++ (((word ++ spaced name) ++ spaced count) ++ 10 ∷ []) =
    rw (c.in_ok-push_str-2.ensures.bytes, c.in_ok-push_next_number.ensures, c.in_ok-push_name.ensures, c.in_ok-push_str.ensures.bytes) (simp append_assoc) in
    let line : ℕ → List ℕ = λ k. node_count_line (names c.args.graph.now) word c.args.u k in
    here
    ∙ ap (λ (t : List ℕ). old ++ (((word ++ spaced name) ++ t) ++ 10 ∷ [])) (sym (append-nil (spaced count)))
    ∙ ap (λ (t : List ℕ). old ++ t) (node_line word name (count ∷ []))
    ∙ ap (λ (k : ℕ). old ++ line k) (c.len.ensures.len ∙ ap length c.row.ensures.row)
