-- A plan has one row of a comparison, and a network one row of full tables.
use Rattle.std.proofs.Common.{◌≡◌, ℕ, zero, suc, ◌-◌, ◌*◌, ◌<◌, ◌≤◌, ◌^◌, ◌++◌, List, [], ◌∷◌, Option, Some, None, length, refl, sym, ap, subst, ◌∙◌, ⊎_elim, arith}
use Rattle.std.specs.Prelude.{sum_by}
use Rattle.std.specs.List.{range_with_len}
use Rattle.std.proofs.Math.Nat.{pow-suc}
use Rattle.std.proofs.lemmas.Bool.{cases_lt}
use Rattle.ir_model.specs.Topology.{Topology, node_count, ports_of}
use Rattle.ir_model.specs.Plan.{Plan}
use Rattle.ir_plan.specs.declared.tour.LabelOrder.{LabelOrder}
use Rattle.ir_prefix.specs.Longest.{IsWidth}
use Rattle.ir_show.specs.declared.worst.Pair.{Pair}
use Rattle.ir_show.specs.StatsText.{sum_of_pairs, IsWorstOf}
use Rattle.ir_show.specs.Words.{line_text}
use Rattle.ir_show.proofs.Determined.{Agree, same_walks, same_distances, same_pair_sums, one_greatest, one_worst, worst_along}
use Rattle.ir_figures.specs.RowBits.{AreFewestBits, AreBitsBefore}
use Rattle.ir_figures.specs.Waits.{Waits}
use Rattle.ir_figures.specs.FiguresText.{IsRingOf}
use Rattle.ir_figures.specs.Compared.{compared_kind, labels_word, ring_word, ratio_text, count_words, stretch_words, IsRowOf, AreTableBits}
use Rattle.ir_figures.proofs.Turns.{no_ring}

-- ---- widths

next_width : (n bits : ℕ) → IsWidth n bits → 2 ^ bits < suc n → 0 < 2 ^ bits → IsWidth (suc n) (suc bits)
next_width n bits is over some = record {
  enough = (let double = pow-suc 2 bits in omega (arith, double, is.enough, over, some));
  least = λ k le. ⊎_elim
      (λ (less : bits < k). omega (arith, less))
      (λ (most : k ≤ bits). (let least = is.least k (omega (arith, le)) in let same : k ≡ bits = omega (arith, least, most) in
      let fits : suc n ≤ 2 ^ bits = subst (λ (x : ℕ). suc n ≤ 2 ^ x) same le in absurd (omega (arith, fits, over))))
      (cases_lt bits k);
}

width_from : (n : ℕ) → (bits : ℕ) × (0 < 2 ^ bits) × IsWidth n bits
width_from zero = (0, omega arith, record { enough = omega arith; least = λ k le. omega arith })
width_from (suc n) =
    let before = width_from n in ⊎_elim
    (λ (over : 2 ^ before.0 < suc n). (suc before.0, (let double = pow-suc 2 before.0 in let some = before.1 in omega (arith, double, some)), next_width n before.0 before.2 over before.1))
    (λ (fits : suc n ≤ 2 ^ before.0). (before.0, before.1, record { enough = fits; least = λ k le. before.2.least k (omega (arith, le)) }))
    (cases_lt (2 ^ before.0) (suc n))

abbrev width_of : ℕ → ℕ
width_of n = (width_from n).0

is_width : (n : ℕ) → IsWidth n (width_of n)
is_width n = (width_from n).2

-- the widths of the labels, and of the ports of each node
fewest : (s : Plan) → AreFewestBits s (width_of (node_count s.topology)) (λ u. width_of (length (ports_of s.topology u)))
fewest s = record { labels = is_width (node_count s.topology); ports = λ u lt. is_width (length (ports_of s.topology u)) }

-- ---- bits

one_bits : (s : Plan) (rows tables rows' tables' : ℕ) → AreBitsBefore s (node_count s.topology) rows tables → AreBitsBefore s (node_count s.topology) rows' tables' → rows ≡ rows'
one_bits s rows tables rows' tables' x y =
    let label = width_of (node_count s.topology) in
    let port : ℕ → ℕ = λ u. width_of (length (ports_of s.topology u)) in
    (x label port (fewest s)).0 ∙ sym (y label port (fewest s)).0

abbrev full_bits : Topology → ℕ
full_bits net = sum_by (λ u. (node_count net - 1) * width_of (length (ports_of net u))) (range_with_len 0 (node_count net))

full_bits_are : (net : Topology) (tables : ℕ) → AreTableBits net tables → tables ≡ full_bits net
full_bits_are net tables (s, is, over, rows, bits) =
    subst (λ (t : Topology). tables ≡ full_bits t) over (bits (width_of (node_count s.topology)) (λ u. width_of (length (ports_of s.topology u))) (fewest s)).1

pub one_table_bits : (net : Topology) (tables other : ℕ) → AreTableBits net tables → AreTableBits net other → tables ≡ other
one_table_bits net tables other x y = full_bits_are net tables x ∙ sym (full_bits_are net other y)

-- ---- stretches and rings

module _ (n : ℕ) (f g f' g' : ℕ → ℕ → ℕ) (walks : Agree n f f') (distances : Agree n g g') where
  same_stretches : (w v : Option Pair) → IsWorstOf n f g w → IsWorstOf n f' g' v → stretch_words n f g w ≡ stretch_words n f' g' v
  same_stretches None None x y = refl
  same_stretches None (Some q) x y = absurd (y.two (let a = y.from in let b = y.to in omega (arith, a, b, x)))
  same_stretches (Some p) None x y = absurd (x.two (let a = x.from in let b = x.to in omega (arith, a, b, y)))
  same_stretches (Some p) (Some q) x y =
      let same = one_worst n f' g' p.from p.to q.from q.to (worst_along n f g f' g' walks distances p.from p.to x) y in
      let walk : f p.from p.to ≡ f' q.from q.to = walks p.from p.to x.from x.to ∙ ap (λ (a : ℕ). f' a p.to) same.0 ∙ ap (f' q.from) same.1 in
      let distance : g p.from p.to ≡ g' q.from q.to = distances p.from p.to x.from x.to ∙ ap (λ (a : ℕ). g' a p.to) same.0 ∙ ap (g' q.from) same.1 in
      let mean : ratio_text (sum_of_pairs n f) (sum_of_pairs n g) ≡ ratio_text (sum_of_pairs n f') (sum_of_pairs n g') =
      ap (λ (over : ℕ). ratio_text over (sum_of_pairs n g)) (same_pair_sums n f f' walks) ∙ ap (ratio_text (sum_of_pairs n f')) (same_pair_sums n g g' distances) in
      let worst : ratio_text (f p.from p.to) (g p.from p.to) ≡ ratio_text (f' q.from q.to) (g' q.from q.to) =
      ap (λ (over : ℕ). ratio_text over (g p.from p.to)) walk ∙ ap (ratio_text (f' q.from q.to)) distance in
      ap (λ (t : List ℕ). t ∷ ratio_text (f p.from p.to) (g p.from p.to) ∷ []) mean ∙ ap (λ (t : List ℕ). ratio_text (sum_of_pairs n f') (sum_of_pairs n g') ∷ t ∷ []) worst

same_ring : (s : Plan) (ring other : Option (List ℕ)) → IsRingOf (Waits s) ring → IsRingOf (Waits s) other → ring_word ring ≡ ring_word other
same_ring s None None x y = refl
same_ring s None (Some nodes) without (ports, ring) = absurd (no_ring (Waits s) nodes ports without ring)
same_ring s (Some nodes) None (ports, ring) without = absurd (no_ring (Waits s) nodes ports without ring)
same_ring s (Some nodes) (Some others) x y = refl

-- ---- rows

abbrev line_of : Plan → LabelOrder → List (List ℕ) → List (List ℕ) → List ℕ → List ℕ
line_of s order counts stretches ring = line_text (compared_kind s.kind ∷ labels_word s.kind order ∷ counts ++ stretches ++ ring ∷ [])

pub one_row : (order : LabelOrder) (s : Plan) (line other : List ℕ) → IsRowOf order s line → IsRowOf order s other → line ≡ other
one_row order s line other x y =
    let n = node_count s.topology in
    let greatest = one_greatest s x.greatest y.greatest x.greatest_row y.greatest_row in
    let bits = one_bits s x.rows x.tables y.rows y.tables x.bits y.bits in
    let counts : count_words s x.greatest x.rows ≡ count_words s y.greatest y.rows =
    ap (λ (u : ℕ). count_words s u x.rows) greatest ∙ ap (count_words s y.greatest) bits in
    let stretches = same_stretches n x.walk x.distance y.walk y.distance (same_walks s x.walk y.walk x.walks y.walks) (same_distances s x.distance y.distance x.distances y.distances) x.worst y.worst x.worst_pair y.worst_pair in
    let rings = same_ring s x.ring y.ring x.ring_is y.ring_is in
    x.whole
    ∙ ap (λ (t : List (List ℕ)). line_of s order t (stretch_words n x.walk x.distance x.worst) (ring_word x.ring)) counts
    ∙ ap (λ (t : List (List ℕ)). line_of s order (count_words s y.greatest y.rows) t (ring_word x.ring)) stretches
    ∙ ap (line_of s order (count_words s y.greatest y.rows) (stretch_words n y.walk y.distance y.worst)) rings
    ∙ sym y.whole
