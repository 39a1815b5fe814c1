-- A packet that is at its source, the first node.
use Rattle.std.proofs.Common.{◌≡◌, ◌<◌, zero, suc, [], ◌∷◌, refl, sym, subst, ◌∙◌, arith}
use Rattle.std.proofs.lemmas.Option.{same_Some, none-some}
use Rattle.ir_model.specs.Topology.{Topology, node_count}
use Rattle.ir_core.specs.Record.{Record}
use Rattle.ir_core.specs.Entry.{fresh}
use Rattle.ir_trace.specs.Written.{IsWritable, AreWritable}

fresh_writable : (net : Topology) → 0 < node_count net → IsWritable net (fresh 0 1 0 0 1)
fresh_writable net some = record { source = some; dest = some; first = 0; last = 0; hops = (refl, (refl, some)); few = omega arith; fate = record {} }

pub lone_writable : (net : Topology) (r : Record) → 0 < node_count net → r ≡ fresh 0 1 0 0 1 → AreWritable net (r ∷ [])
lone_writable net r some e zero x h =
    let P : Record → Type 0 = λ y. IsWritable net y in subst P (sym e ∙ same_Some r x h) (fresh_writable net some)
lone_writable net r some e (suc i) x h = absurd (none-some x h)
