use Rattle.std.proofs.Common.{◌≡◌, ◌++◌, ◌∷◌, ◌∙◌, ℕ, List, map, codes, string_bytes, sym, ap, subst, append_assoc}
use Rattle.std.specs.Prelude.{OnOk}
use Rattle.ir_model.specs.declared.Kind.{Kind}
use Rattle.ir_model.specs.declared.Kind.TheVariants.{Landmark}
use Rattle.ir_model.specs.Graph.{names}
use Rattle.ir_model.specs.Landmark.{AreMostLinked}
use Rattle.ir_model.specs.Topology.{Topology}
use Rattle.ir_trace.specs.Written.{name_at}
use Rattle.ir_show.specs.Drawing.{ArePlanLandmarks}
use Rattle.ir_show.specs.StatsText.{count_line}
use Rattle.ir_show.specs.Words.{line_text}
use Rattle.ir_figures.specs.FiguresText.{landmarks_text}
use Rattle.ir_figures.proofs.Results.{on_ok_then}
use Rattle.ir_figures.proofs.text.push_landmarks.Goals as goal

pub returns : goal.returns
returns c =
    let plan = c.args.plan.now in
    let t = c.in-Landmark.detour in
    let nodes = names c.args.graph.now in
    let old = string_bytes c.args.text.now in
    let landmarks : List ℕ = c.in_ok-landmarks.landmarks.items in
    let kind : plan.kind ≡ Landmark t = sym c.kind.ensures ∙ c.in-Landmark.is in
    let line : List ℕ → List ℕ = λ ls. line_text (codes "landmarks" ∷ map (name_at nodes) ls) in
    let chosen : AreMostLinked plan.topology plan.root t.landmarks landmarks =
    subst (λ (net : Topology). AreMostLinked net plan.root t.landmarks landmarks) c.topology.ensures
    (subst (λ (root : ℕ). AreMostLinked c.topology.result.now root t.landmarks landmarks) c.root.ensures c.in_ok-landmarks.ensures.chosen) in
    let told : string_bytes c.push_chosen.new.text ≡ old ++ line landmarks = c.in_ok-push_chosen.ensures ∙ ap (λ (ls : List ℕ). old ++ line ls) c.as_slice.ensures.value in
    subst (λ (k : Kind). OnOk c.push_stretch.result ((ls : List ℕ) × ArePlanLandmarks k plan ls × (string_bytes c.push_stretch.new.text ≡ old ++ landmarks_text nodes k ls))) (sym kind)
    (on_ok_then c.push_stretch.result (λ (last : string_bytes c.push_stretch.new.text ≡ string_bytes c.push_chosen.new.text ++ count_line (codes "stretch") t.stretch).
    (landmarks, chosen, last ∙ ap (λ (s : List ℕ). s ++ count_line (codes "stretch") t.stretch) told ∙ append_assoc old (line landmarks) (count_line (codes "stretch") t.stretch)))
    c.push_stretch.ensures)
