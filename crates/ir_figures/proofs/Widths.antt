-- The bits of rows and tables, node by node.
use Rattle.std.proofs.Common.{◌≡◌, ℕ, ◌+◌, ◌-◌, ◌*◌, ◌<◌, ◌≤◌, length, ap, ◌∙◌, sym, arith, mul-le-mul}
use Rattle.std.specs.Prelude.{sum_by}
use Rattle.std.specs.List.{range_with_len}
use Rattle.std.proofs.lemmas.List.Sums.{sum_by_push}
use Rattle.ir_model.specs.Topology.{node_count, ports_of}
use Rattle.ir_model.specs.Plan.{Plan, IsPlan, row_in, label_in, by_label}
use Rattle.ir_plan.proofs.Standing.{short_row}
use Rattle.ir_show.proofs.PlanLines.{range_more}
use Rattle.ir_prefix.specs.Longest.{IsWidth}
use Rattle.ir_figures.specs.RowBits.{row_bits, table_bits, AreBitsBefore}

-- a number has one width
pub one_width : (n a b : ℕ) → IsWidth n a → IsWidth n b → a ≡ b
one_width n a b x y = omega (arith, x.least b y.enough, y.least a x.enough)

pub row_short : (s : Plan) → IsPlan s → (u : ℕ) → u < node_count s.topology → length (row_in s u) ≤ 32768
row_short s is u lt = omega (arith, short_row (node_count s.topology) (label_in s u) (by_label s u) (row_in s u) (is.rows u lt), is.topology.few_nodes)

-- as many bits as the width of a number that takes two bytes
pub narrow : (n a : ℕ) → n ≤ 65536 → IsWidth n a → a ≤ 16
narrow n a few w = w.least 16 (omega (arith, few))

pub light_row : (starts label port : ℕ) → starts ≤ 32768 → label ≤ 16 → port ≤ 16 → starts * (label + port) ≤ 1048576
light_row starts label port a b c = (let sum : label + port ≤ 32 = omega (arith, b, c) in let product : starts * (label + port) ≤ 32768 * 32 = mul-le-mul a sum in omega (arith, product))

pub light_table : (nodes port : ℕ) → nodes ≤ 32768 → port ≤ 16 → (nodes - 1) * port ≤ 524288
light_table nodes port a b = (let less : nodes - 1 ≤ 32768 = omega (arith, a) in let product : (nodes - 1) * port ≤ 32768 * 16 = mul-le-mul less b in omega (arith, product))

sum_more : (f : ℕ → ℕ) (u : ℕ) → sum_by f (range_with_len 0 (u + 1)) ≡ sum_by f (range_with_len 0 u) + f u
sum_more f u =
    let last : 0 + u ≡ u = omega arith in
    ap (sum_by f) (range_more 0 u) ∙ sum_by_push f (range_with_len 0 u) (0 + u) ∙ ap (λ (x : ℕ). sum_by f (range_with_len 0 u) + f x) last

-- one more node
pub bits_more : (s : Plan) (u rows tables starts label port : ℕ) → u < node_count s.topology → starts ≡ length (row_in s u) → IsWidth (node_count s.topology) label → IsWidth (length (ports_of s.topology u)) port
    → AreBitsBefore s u rows tables → AreBitsBefore s (u + 1) (rows + starts * (label + port)) (tables + (node_count s.topology - 1) * port)
bits_more s u rows tables starts label port lt row labels ports so_far bits by are =
    let one : label ≡ bits = one_width (node_count s.topology) label bits labels are.labels in
    let other : port ≡ by u = one_width (length (ports_of s.topology u)) port (by u) ports (are.ports u lt) in
    let before = so_far bits by are in
    let row_is : starts * (label + port) ≡ row_bits s bits by u = ap (λ (x : ℕ). x * (label + port)) row ∙ ap (λ (x : ℕ). length (row_in s u) * (x + port)) one ∙ ap (λ (x : ℕ). length (row_in s u) * (bits + x)) other in
    let table_is : (node_count s.topology - 1) * port ≡ table_bits s by u = ap (λ (x : ℕ). (node_count s.topology - 1) * x) other in (
      ap (λ (x : ℕ). x + starts * (label + port)) before.0 ∙ ap (λ (x : ℕ). sum_by (row_bits s bits by) (range_with_len 0 u) + x) row_is ∙ sym (sum_more (row_bits s bits by) u),
      ap (λ (x : ℕ). x + (node_count s.topology - 1) * port) before.1 ∙ ap (λ (x : ℕ). sum_by (table_bits s by) (range_with_len 0 u) + x) table_is ∙ sym (sum_more (table_bits s by) u),
    )
