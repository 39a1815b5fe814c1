use Rattle.std.proofs.Common.{◌-◌, ◌+◌, sym, subst, ℕ, arith}
use Rattle.ir_model.specs.Row.{HasPort}
use Rattle.ir_model.proofs.Rows.{HasPort-from_place, port_of_start}
use Rattle.ir_exports.specs.Before.{AreBelow}
use Rattle.ir_exports.proofs.RowStarts.{place_last, place_round}
use Rattle.ir_exports.proofs.table.port_behind.Goals as goal

pub returns-then-below-eq0-clause-port : goal.returns-then-below-eq0-clause-port
returns-then-below-eq0-clause-port c other n inside =
    let row = c.args.row.now in
    let e = c.if-below-eq0.true in
    let place = place_round row c.args.label (subst (λ (k : ℕ). AreBelow row (c.args.label + 1) k) e c.requires.below) (c.requires.some other) in
    subst (λ (p : ℕ). HasPort n row c.args.label p) (sym c.port.ensures) (subst (λ (k : ℕ). HasPort n row c.args.label (port_of_start row (k - 1))) (sym c.len-starts.ensures.len) (HasPort-from_place n row c.len-starts.ensures.ascending c.args.label _ inside place))

pub returns-clause-port : goal.returns-clause-port
returns-clause-port c other n inside =
    let row = c.args.row.now in
    let some = c.if-below-eq0.false in
    subst (λ (p : ℕ). HasPort n row c.args.label p) (sym c.port-2.ensures) (HasPort-from_place n row c.len-starts.ensures.ascending c.args.label (c.args.below - 1) inside (place_last row c.args.label c.args.below c.requires.below (omega arith)))
