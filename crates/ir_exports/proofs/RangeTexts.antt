-- The ports of a node's ranges, and how many ranges there are.
use Rattle.std.proofs.Common.{◌≡◌, ℕ, ◌+◌, ◌<◌, List, [], ◌∷◌, ◌++◌, length, get_or, ap, ◌∙◌, arith, sum_by}
use Rattle.std.specs.Prelude.{All}
use Rattle.std.specs.List.{range_with_len}
use Rattle.std.proofs.lemmas.List.{length-map}
use Rattle.std.proofs.lemmas.List.Sums.{sum_by_push}
use Rattle.ir_model.specs.Topology.{node_count, ports_of}
use Rattle.ir_model.specs.Plan.{Plan, IsPlan, by_label, table_port}
use Rattle.ir_prefix.specs.declared.ranges.LabelRange.{LabelRange}
use Rattle.ir_prefix.specs.Ranges.{TellsPorts}
use Rattle.ir_show.proofs.PlanLines.{range_more}
use Rattle.ir_exports.proofs.NodePorts.{row_port_in}

-- the ports of ranges that give the ports of a node lead somewhere
pub range_ports_in : (s : Plan) → IsPlan s → (u : ℕ) (set : List LabelRange) → u < node_count s.topology → TellsPorts (by_label s u) set
    → All (λ (r : LabelRange). r.port < length (ports_of s.topology u)) set
range_ports_in s is u set u_in tells = λ k d inside.
    let r = get_or set k d in
    row_port_in s is u r.from r.port u_in (tells.agrees k d inside r.from (omega arith, tells.filled k d inside))

-- as many ports as nodes
pub ports_many : (s : Plan) → IsPlan s → (u : ℕ) → length (by_label s u) ≡ node_count s.topology
ports_many s is u = length-map s.order (table_port s u) ∙ is.labels.every_label

-- the sum with one number more
pub count_more : (f : ℕ → ℕ) (n : ℕ) → sum_by f (range_with_len 0 (n + 1)) ≡ sum_by f (range_with_len 0 n) + f n
count_more f n =
    let last : 0 + n ≡ n = omega arith in
    ap (sum_by f) (range_more 0 n ∙ ap (λ (k : ℕ). range_with_len 0 n ++ k ∷ []) last) ∙ sum_by_push f (range_with_len 0 n) n
