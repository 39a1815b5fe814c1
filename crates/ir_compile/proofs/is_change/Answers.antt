use Rattle.std.proofs.Common.{ℕ, ◌&&◌, not, eqb}
use Rattle.std.specs.Prelude.{◌≢◌, ◌↔◌, IsTrue}
use Rattle.std.proofs.lemmas.Bool.{and_parts, and_from, not-true, not_from_false, eqb-false, ne_eqb}
use Rattle.ir_compile.proofs.is_change.Goals as goal

both_differ : (d own port last : ℕ) → IsTrue (not (eqb d own) && not (eqb port last)) ↔ (d ≢ own) × (port ≢ last)
both_differ d own port last = (
  λ is. let w = and_parts (not (eqb d own)) (not (eqb port last)) is in (eqb-false d own (not-true (eqb d own) w.0), eqb-false port last (not-true (eqb port last) w.1)),
  λ differ. and_from (not (eqb d own)) (not (eqb port last)) (not_from_false (eqb d own) (ne_eqb d own differ.0)) (not_from_false (eqb port last) (ne_eqb port last differ.1)),
)

pub returns : goal.returns
returns c = both_differ c.args.d c.args.own c.args.port c.args.last
