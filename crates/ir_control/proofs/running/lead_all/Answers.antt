use Rattle.std.specs.Prelude.{List}
use Rattle.std.proofs.Common.{ℕ, arith, inl, inr, sym, ap, ◌∙◌, subst, get_or}
use Rattle.std.proofs.lemmas.Bool.{cases_eq}
use Rattle.std.proofs.lemmas.Option.{slice_get-get_or, get_or_from_slice_get}
use mathlib.Core.List.{IsPrefix}
use Rattle.ir_epochs.specs.declared.entry.Entry.{Entry}
use Rattle.ir_epochs.specs.Handles.{known, published}
use Rattle.ir_worker.specs.declared.node.Node.{Node}
use Rattle.ir_control.proofs.running.lead_all.Goals as goal

pub loop-k-preserved : goal.loop-k-preserved
loop-k-preserved g c = (
  c.leads.ensures.same.0 ∙ c.loop-k.invariant.0,
  c.leads.ensures.same.1 ∙ c.loop-k.invariant.1,
  λ j d lt. elim (cases_eq j c.loop-k.k) [
    | inl same ↦
        let nodes = c.args.nodes.now.items in
        let k = c.loop-k.k in
        let read = c.index.result.now in
        let within = c.loop-k-test.true in
        let many = c.len-k-end.ensures in
        let at = get_or_from_slice_get nodes k (get_or nodes k read) d (slice_get-get_or nodes k read (omega (arith, within, many))) in
        let led : IsPrefix (known read.reader) (published c.args.controller.now.writer) = subst (λ (l : List Entry). IsPrefix (known read.reader) l) c.loop-k.invariant.0 c.leads.ensures.led in
        subst (λ (n : Node). IsPrefix (known n.reader) (published c.args.controller.now.writer)) (c.index.ensures ∙ sym at ∙ ap (λ (i : ℕ). get_or nodes i d) (sym same)) led
    | inr ne ↦ c.loop-k.invariant.2 j d (omega (arith, lt, ne))
  ],
)
