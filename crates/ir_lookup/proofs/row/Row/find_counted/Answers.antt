use Rattle.std.proofs.Common.{◌<◌, ◌∙◌, ℕ, List, length, ap, sym, subst, arith}
use Rattle.std.proofs.lemmas.List.{length-map}
use Rattle.ir_model.specs.Row.{Start, HasPort}
use Rattle.ir_model.proofs.Rows.{HasPort-from_place, port_of_start}
use Rattle.ir_lookup.proofs.row.Row.find_counted.Goals as goal

pub returns-clause-port : goal.returns-clause-port
returns-clause-port c n label =
    let place = c.place_counted-place.ensures in
    let k = c.place_counted-place.result in
    let found = HasPort-from_place n _ place.ascending c.args.label k label place.place in
    let port = ap (λ (row : List Start). port_of_start row k) c.self.view_is ∙ sym c.port.ensures in
    subst (λ (row : List Start). HasPort n row c.args.label c.port.result) c.self.view_is
    (subst (λ (p : ℕ). HasPort n c.self.inside.starts c.args.label p) port found)

pub place_counted-place-requires-clause-some : goal.place_counted-place-requires-clause-some
place_counted-place-requires-clause-some c = subst (λ (row : List Start). 0 < length row) (sym c.self.view_is) c.requires

pub port-requires : goal.port-requires
port-requires c =
    let inside = c.place_counted-place.ensures.place.below in
    let every = length-map c.self.inside.starts (λ (start : Start). start.label) in
    let view = ap (λ (row : List Start). length row) c.self.view_is in
    omega (arith, inside, every, view)
