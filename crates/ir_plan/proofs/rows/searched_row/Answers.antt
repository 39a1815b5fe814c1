use Rattle.std.proofs.Common.{List, Option, ℕ, sym, subst}
use Rattle.std.proofs.lemmas.Result.{err_from_is_err_and}
use Rattle.ir_tables.specs.FromNode.{AreLeastPorts}
use Rattle.ir_plan.proofs.rows.searched_row.Goals as goal

pub from-requires : goal.from-requires
from-requires c = record { node = c.requires.node; connected = c.requires.connected }

pub shortest_row-requires : goal.shortest_row-requires
shortest_row-requires c = record {
  labels = c.requires.labels;
  node = c.requires.node;
  ports = subst (λ (ports : List (Option ℕ)). AreLeastPorts c.args.topology.now c.args.u ports) (sym c.least_ports.ensures) c.in_ok-ways.ensures.ports;
}

pub returns : goal.returns
returns c = c.shortest_row.ensures

pub returns-in_err-ways : goal.returns-in_err-ways
returns-in_err-ways c = rw (err_from_is_err_and c.from_residual.result c.from_residual.ensures.1).1 tt
