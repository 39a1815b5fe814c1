use Rattle.std.proofs.Common.{◌≡◌, ◌-◌, ◌^◌, ◌∙◌, ℕ, List, length, map, nat_lt, rules, ap, subst, arith, Option, Some}
use Rattle.std.proofs.lemmas.Iterator.{items_from_collect, YieldsList-from_map, YieldsList-from_range}
use Rattle.std.specs.List.{range_with_len}
use Rattle.std.specs.Option.{unwrap_or}
use Rattle.std.specs.Prelude.{IfOk, if◌then◌else◌}
use Rattle.ir_model.specs.Compiled.{port_to}
use Rattle.ir_prefix.specs.Extended.{extended_port}
use Rattle.ir_prefix.proofs.tables.extended.Goals as goal

-- the ports of the first numbers, where those from one on have this port
abbrev ports_to : List (Option ℕ) → ℕ → ℕ → ℕ → List (Option ℕ)
ports_to ports count last numbers = map (λ (x : ℕ). if nat_lt x count then port_to ports x else Some last) (range_with_len 0 numbers)

-- they are the extended ones, where that port is what the last label goes by
extended_to : (n count unreachable last numbers : ℕ) (ports : List (Option ℕ)) → count ≡ n → last ≡ unwrap_or (port_to ports (n - 1)) unreachable
    → ports_to ports count last numbers ≡ map (extended_port n unreachable ports) (range_with_len 0 numbers)
extended_to n count unreachable last numbers ports every is =
    ap (λ (k : ℕ). ports_to ports k last numbers) every ∙ ap (λ (p : ℕ). ports_to ports n p numbers) is

pub returns : goal.returns
returns c =
    let ports : List (Option ℕ) = c.args.ports.now in
    let last : ℕ = c.unwrap_or-last.result in
    let told : IfOk c.collect.result (λ row. row.items ≡ ports_to ports (length ports) last (2 ^ c.args.bits)) =
    items_from_collect _ c.collect.ensures.ran
    (YieldsList-from_map _ (λ (x : ℕ). if nat_lt x (length ports) then port_to ports x else Some last)
    (YieldsList-from_range 0 _ (2 ^ c.args.bits) c.map.ensures.source (omega (arith, c.pow.ensures))) c.map.ensures.closure (λ x r q k. search rules)) in
    subst (λ (rows : List (Option ℕ)). IfOk c.collect.result (λ row. row.items ≡ rows))
    (extended_to c.args.n (length ports) c.args.unreachable last (2 ^ c.args.bits) ports c.requires.every c.unwrap_or-last.ensures) told
