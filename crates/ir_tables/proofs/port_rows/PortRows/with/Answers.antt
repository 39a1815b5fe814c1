use Rattle.std.proofs.Common.{◌≡◌, ◌+◌, ◌∙◌, ◌++◌, ◌∷◌, [], List, length, ap, arith}
use Rattle.std.proofs.lemmas.List.{length-append}
use Rattle.ir_model.specs.declared.Hop.{Hop}
use Rattle.ir_tables.proofs.Cuts.{more_cuts}
use Rattle.ir_tables.proofs.port_rows.PortRows.with.Goals as goal

pub invariant_of-result : goal.invariant_of-result
invariant_of-result c =
    let hops : List Hop = c.self.inside.hops.items in
    let row : List Hop = c.args.row.now in
    let last : c.len.result ≡ length hops + length row = omega (arith, c.len.ensures, c.in_ok-extend_from_slice.ensures.len, c.extend_from_slice.new.self.ok.0, ap length c.in_ok-extend_from_slice.ensures.items, length-append hops row) in
    rw (c.in_ok-push.ensures.items, c.in_ok-extend_from_slice.ensures.items) (more_cuts c.self.inside.begins.items hops row c.len.result last c.self.invariant).0

pub returns : goal.returns
returns c =
    let hops : List Hop = c.self.inside.hops.items in
    let row : List Hop = c.args.row.now in
    let last : c.len.result ≡ length hops + length row = omega (arith, c.len.ensures, c.in_ok-extend_from_slice.ensures.len, c.extend_from_slice.new.self.ok.0, ap length c.in_ok-extend_from_slice.ensures.items, length-append hops row) in
    rw (c.in_ok-push.ensures.items, c.in_ok-extend_from_slice.ensures.items)
    ((more_cuts c.self.inside.begins.items hops row c.len.result last c.self.invariant).1 ∙ ap (λ (rows : List (List Hop)). rows ++ row ∷ []) c.self.view_is)
