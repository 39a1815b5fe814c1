use Rattle.std.proofs.Common.{◌-◌, sym, ap, ◌∙◌, arith, length, ◌<◌, get_or}
use Rattle.std.proofs.lemmas.List.{get_or-map}
use Rattle.once_cell.specs.Once.{cell_name}
use Rattle.ir_epochs.proofs.registry.Registry.register.Goals as goal

pub invariant_of-result-clause-here : goal.invariant_of-result-clause-here
invariant_of-result-clause-here c =
    let cells = c.args.self.now.cells in
    let inside : c.args.epoch - 1 < length cells = omega (arith, c.args.self.now.full, c.requires) in
    let at = get_or-map cell_name cells (c.args.epoch - 1) c.index-self-epoch.result 0 inside in
    c.of.ensures.value.0 ∙ c.in-Ok-set_as.ensures.cell ∙ c.note-note.ensures.0 ∙ sym at ∙ ap (λ l. get_or l (c.args.epoch - 1) 0) (sym c.of-in-Ok-set_as.ensures)
