use Rattle.std.proofs.Common.{◌∙◌, ap, sym, arith, Option}
use Rattle.ir_prefix.specs.Joined.{is_named}
use Rattle.ir_prefix.specs.Marks.{ports_in}
use Rattle.ir_prefix.proofs.BitLemmas.{bits_name, bits_name_none}
use Rattle.ir_prefix.proofs.marks.has_port.Goals as goal

pub returns-then-port-lt63 : goal.returns-then-port-lt63
returns-then-port-lt63 c =
    c.has_bit.ensures ∙ bits_name c.args.names c.in-Some.port c.requires (omega arith) ∙ ap (λ (q : Option _). is_named (ports_in c.args.names) q) (sym c.in-Some.is)

pub returns-else-port-lt63 : goal.returns-else-port-lt63
returns-else-port-lt63 c =
    bits_name_none c.args.names c.in-Some.port c.requires (omega arith) ∙ ap (λ (q : Option _). is_named (ports_in c.args.names) q) (sym c.in-Some.is)
