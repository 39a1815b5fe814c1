use Rattle.std.proofs.Common.{◌≡◌, ◌-◌, ℕ, Any, Some, Option, arith, subst, below_more}
use Rattle.ir_prefix.proofs.TableLemmas.{some_port_is_unused}
use Rattle.ir_prefix.proofs.tables.unused_port.Goals as goal

pub unreachable-requires : goal.unreachable-requires
unreachable-requires c =
    some_port_is_unused c.args.ports.now 65536 c.requires
    (λ j l. let e : 65535 - (65535 - j) ≡ j = omega arith in subst (λ p. Any (λ (o : Option ℕ). o ≡ Some p) c.args.ports.now) e (c.loop-below.invariant (65535 - j) (omega arith)))

pub loop-below-preserved : goal.loop-below-preserved
loop-below-preserved c = below_more _ _ c.loop-below.invariant (c.is_named.ensures.0 c.if-not-is_named.false)
