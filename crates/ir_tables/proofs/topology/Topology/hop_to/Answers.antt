use Rattle.std.proofs.Common.{◌≡◌, ◌∙◌, sym, ap, ◌==◌, ◌≤◌, ℕ, Option, Some, None, IfSome, find}
use Rattle.std.proofs.lemmas.List.Folds.{find_at}
use Rattle.std.specs.List.{position_or_len}
use Rattle.ir_model.specs.Topology.{Topology, IsTopology, ports_of}
use Rattle.ir_model.specs.declared.Hop.{Hop}
use Rattle.ir_model.specs.declared.TheConstants.{MAX_WEIGHT}
use Rattle.ir_model.proofs.Walks.{port_facts}
use Rattle.ir_tables.proofs.topology.Topology.hop_to.Goals as goal

-- what is found is a port, and so weighs what a link may weigh
found_weight : (net : Topology) → IsTopology net → (u v : ℕ) (found : Option Hop) → found ≡ find (λ hop. hop.node == v) (ports_of net u) → IfSome found (λ hop. hop.weight ≤ MAX_WEIGHT)
found_weight net ok u v None e = tt
found_weight net ok u v (Some hop) e =
    (port_facts net ok u (position_or_len (λ hop. hop.node == v) (ports_of net u)) hop (sym (e ∙ find_at (λ hop. hop.node == v) (ports_of net u)))).bounded

pub returns-clause-weight : goal.returns-clause-weight
returns-clause-weight c =
    found_weight c.args.self.now c.invariant.ensures.topology c.args.node c.args.neighbor c.first_to.result (c.first_to.ensures ∙ ap (find (λ hop. hop.node == c.args.neighbor)) c.ports.ensures)
