use Rattle.std.proofs.Common.{◌∙◌}
use Rattle.std.proofs.lemmas.Result.{IfOk-weaker}
use Rattle.ir_model.proofs.Canonical.{canonical_fits}
use Rattle.ir_model.proofs.Fewest.{canonical_is_fewest}
use Rattle.ir_compile.proofs.MarkedStarts.{plain_stands}
use Rattle.ir_compile.proofs.canonical_row.Goals as goal

pub row_of_ports-requires : goal.row_of_ports-requires
row_of_ports-requires c =
    let stand = plain_stands c.args.n c.args.own c.as_slice.result.now c.args.ports.now c.requires (c.as_slice.ensures.value ∙ c.in_ok-plain.ensures) in
    record { own = c.requires.has_own; every = stand.every }

pub returns-clause-canonical : goal.returns-clause-canonical
returns-clause-canonical c =
    c.row_of_ports.ensures c.args.ports.now
    (plain_stands c.args.n c.args.own c.as_slice.result.now c.args.ports.now c.requires (c.as_slice.ensures.value ∙ c.in_ok-plain.ensures))

pub returns-clause-fits : goal.returns-clause-fits
returns-clause-fits c = IfOk-weaker c.row_of_ports.result _ _ (λ row is. canonical_fits _ _ _ c.requires _ is) (returns-clause-canonical c)

pub returns-clause-fewest : goal.returns-clause-fewest
returns-clause-fewest c = IfOk-weaker c.row_of_ports.result _ _ (λ row is. canonical_is_fewest _ _ _ c.requires _ is) (returns-clause-canonical c)
