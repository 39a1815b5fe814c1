use Rattle.std.proofs.Common.{List, length, ap, subst, arith}
use Rattle.std.proofs.lemmas.List.{length-map}
use Rattle.ir_model.specs.Row.{Start, IsAscending}
use Rattle.ir_lookup.specs.Words.{start_of}
use Rattle.ir_lookup.proofs.row.Starts.len.Goals as goal

pub returns-clause-len : goal.returns-clause-len
returns-clause-len c =
    let words = c.self.inside.words in
    let same = length-map words.items start_of in
    let view = ap (λ (row : List Start). length row) c.self.view_is in
    omega (arith, c.len.ensures, words.ok, same, view)

pub returns-clause-ascending : goal.returns-clause-ascending
returns-clause-ascending c = subst (λ (row : List Start). IsAscending row) c.self.view_is c.self.invariant
