use Rattle.std.proofs.Common.{◌<◌, ◌∙◌, ℕ, List, length, sym, subst}
use Rattle.std.specs.Prelude.{slice_index}
use Rattle.ir_model.specs.Topology.{node_count}
use Rattle.ir_lanes.specs.Marks.{ArePortMarks}
use Rattle.ir_plan.proofs.ties.Ties.of.Goals as goal

pub words_of-requires : goal.words_of-requires
words_of-requires g c =
    let net = c.args.topology.now in
    let labels = c.requires in (
      c.type_bounds.sync-typeof-crew-Shared,
      subst (λ (xs : List ℕ). (d : ℕ) → d < length xs → slice_index xs d < node_count net) (sym (c.as_slice.ensures.value ∙ c.in_ok-order.ensures.items ∙ c.order.ensures))
          (λ d within. labels.node d (subst (λ (n : ℕ). d < n) labels.every_label within)),
    )

pub returns : goal.returns
returns g c =
    let same = c.in_ok-order.ensures.items ∙ c.order.ensures in
    record {
      same = same;
      marks = subst (λ (xs : List ℕ). ArePortMarks c.args.topology.now xs c.in_ok-marks.marks) (c.as_slice-3.ensures.value ∙ same) c.in_ok-marks.ensures;
    }
