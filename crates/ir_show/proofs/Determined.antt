-- A plan has one text of each kind.
use Rattle.std.proofs.Common.{◌≡◌, ◌≢◌, ℕ, ◌<◌, ◌==◌, List, ◌++◌, Option, Some, None, refl, sym, ap, ◌∙◌, ⊎_elim, ◌⊎◌, arith}
use Rattle.std.specs.Prelude.{if◌then◌else◌}
use Rattle.std.proofs.lemmas.Bool.{cases_eq}
use Rattle.ir_bounds.proofs.Determined.{most_linked_same}
use Rattle.ir_model.specs.declared.Kind.{Kind}
use Rattle.ir_model.specs.declared.Kind.TheVariants.{Tree, Shortest, Compact, Landmark}
use Rattle.ir_model.specs.Graph.{Name}
use Rattle.ir_model.specs.Topology.{node_count}
use Rattle.ir_model.specs.Walk.{walk_weight}
use Rattle.ir_model.specs.Plan.{Plan, table_port}
use Rattle.ir_model.proofs.Tables.{prescribed_unique, distance_unique}
use Rattle.ir_show.specs.declared.worst.Pair.{Pair}
use Rattle.ir_show.specs.WalkText.{IsWalkOf, walk_text}
use Rattle.ir_show.specs.Drawing.{drawing, ArePlanLandmarks, IsBold, IsDrawingOf}
use Rattle.ir_show.specs.StatsText.{AreWalkWeights, ArePlanDistances, sum_from, sum_of_pairs, IsGreatestRow, IsEarlier, IsWorst, IsWorstOf, worst_line, rows_text, weights_text, IsStatsOf}
use Rattle.ir_show.proofs.StatsSums.{same_sums}

pub one_walk_text : (nodes : List Name) (s : Plan) (a b : ℕ) (text other : List ℕ) → IsWalkOf nodes s a b text → IsWalkOf nodes s a b other → text ≡ other
one_walk_text nodes s a b text other x y =
    let same : x.walk ≡ y.walk = prescribed_unique s.topology (table_port s) a b x.walk y.walk x.prescribed y.prescribed in
    x.whole ∙ ap (walk_text nodes s a b) same ∙ sym y.whole

pub one_drawing : (nodes : List Name) (s : Plan) (ends : Option (ℕ × ℕ)) (text other : List ℕ) → IsDrawingOf nodes s ends text → IsDrawingOf nodes s ends other → text ≡ other
one_drawing nodes s ends text other x y =
    x.whole ∙ ap (drawing nodes s x.landmarks) (same ends x.walk y.walk x.bold y.bold)
    ∙ ap (λ (ls : List ℕ). drawing nodes s ls y.walk) (one_choice s.kind x.landmarks y.landmarks x.landmarks_are y.landmarks_are) ∙ sym y.whole
  where
    one_choice : (k : Kind) (ls ls' : List ℕ) → ArePlanLandmarks k s ls → ArePlanLandmarks k s ls' → ls ≡ ls'
    one_choice Tree ls ls' a b = a ∙ sym b
    one_choice Shortest ls ls' a b = a ∙ sym b
    one_choice Compact ls ls' a b = a ∙ sym b
    one_choice (Landmark t) ls ls' a b = most_linked_same s.topology s.root t.landmarks ls ls' a b

    same : (ends : Option (ℕ × ℕ)) (walk walk' : List ℕ) → IsBold s ends walk → IsBold s ends walk' → walk ≡ walk'
    same None walk walk' a b = a ∙ sym b
    same (Some e) walk walk' a b = prescribed_unique s.topology (table_port s) e.0 e.1 walk walk' a b

-- weights agree on the nodes
abbrev pub Agree : ℕ → (ℕ → ℕ → ℕ) → (ℕ → ℕ → ℕ) → Type 0
Agree n f g = (u d : ℕ) → u < n → d < n → f u d ≡ g u d

pub same_walks : (s : Plan) (f g : ℕ → ℕ → ℕ) → AreWalkWeights s f → AreWalkWeights s g → Agree (node_count s.topology) f g
same_walks s f g x y = λ u d hu hd.
    let a = x u d hu hd in
    let b = y u d hu hd in
    sym a.2 ∙ ap (walk_weight s.topology) (prescribed_unique s.topology (table_port s) u d a.0 b.0 a.1 b.1) ∙ b.2

pub same_distances : (s : Plan) (f g : ℕ → ℕ → ℕ) → ArePlanDistances s f → ArePlanDistances s g → Agree (node_count s.topology) f g
same_distances s f g x y = λ u d hu hd. distance_unique s.topology u d (f u d) (g u d) (x u d hu hd) (y u d hu hd)

pub same_pair_sums : (n : ℕ) (f g : ℕ → ℕ → ℕ) → Agree n f g → sum_of_pairs n f ≡ sum_of_pairs n g
same_pair_sums n f g same =
    same_sums (sum_from n f) (sum_from n g) n
    (λ u hu. same_sums (λ d. if u == d then 0 else f u d) (λ d. if u == d then 0 else g u d) n
    (λ d hd. ap (λ (w : ℕ). if u == d then 0 else w) (same u d hu hd)))

-- one node has the first greatest row
pub one_greatest : (s : Plan) (u v : ℕ) → IsGreatestRow s u → IsGreatestRow s v → u ≡ v
one_greatest s u v x y =
    ⊎_elim (λ e. e) (λ ne. ⊎_elim
    (λ less. (let a = y.first u less in let b = x.greatest v y.node in absurd (omega (arith, a, b))))
    (λ more. (let a = x.first v more in let b = y.greatest u x.node in absurd (omega (arith, a, b))))
    (apart u v ne)) (cases_eq u v)
  where
    apart : (a b : ℕ) → a ≢ b → (a < b) ⊎ (b < a)
    apart a b ne = grind (arith, ne)

-- of two pairs that are not one the one is before the other
in_order : (a b c d : ℕ) → ((a ≡ c) × (b ≡ d)) ⊎ (IsEarlier a b c d ⊎ IsEarlier c d a b)
in_order a b c d = grind arith

-- one pair is the first worst
pub one_worst : (n : ℕ) (walk distance : ℕ → ℕ → ℕ) (a b c d : ℕ) → IsWorst n walk distance a b → IsWorst n walk distance c d → (a ≡ c) × (b ≡ d)
one_worst n walk distance a b c d x y =
    ⊎_elim (λ same. same)
    (λ apart. ⊎_elim
    (λ before. (let l = y.first a b x.from x.to x.two before in let g = x.greatest c d y.from y.to y.two in absurd (omega (arith, l, g))))
    (λ after. (let l = x.first c d y.from y.to y.two after in let g = y.greatest a b x.from x.to x.two in absurd (omega (arith, l, g))))
    apart)
    (in_order a b c d)

-- weights that agree have one worst pair
pub worst_along : (n : ℕ) (f g f' g' : ℕ → ℕ → ℕ) → Agree n f f' → Agree n g g' → (a b : ℕ) → IsWorst n f g a b → IsWorst n f' g' a b
worst_along n f g f' g' walks distances a b x = record {
  from = x.from;
  to = x.to;
  two = x.two;
  greatest = λ u d hu hd other. rw (sym (walks u d hu hd), sym (distances a b x.from x.to), sym (walks a b x.from x.to), sym (distances u d hu hd)) (x.greatest u d hu hd other);
  first = λ u d hu hd other before. rw (sym (walks u d hu hd), sym (distances a b x.from x.to), sym (walks a b x.from x.to), sym (distances u d hu hd)) (x.first u d hu hd other before);
}

module _ (nodes : List Name) (n : ℕ) (f g f' g' : ℕ → ℕ → ℕ) (walks : Agree n f f') (distances : Agree n g g') where
  same_line : (w v : Option Pair) → IsWorstOf n f g w → IsWorstOf n f' g' v → worst_line nodes f g w ≡ worst_line nodes f' g' v
  same_line None None x y = refl
  same_line None (Some q) x y = absurd (y.two (let a = y.from in let b = y.to in omega (arith, a, b, x)))
  same_line (Some p) None x y = absurd (x.two (let a = x.from in let b = x.to in omega (arith, a, b, y)))
  same_line (Some p) (Some q) x y =
      let same = one_worst n f' g' p.from p.to q.from q.to (worst_along n f g f' g' walks distances p.from p.to x) y in
      let walk : f p.from p.to ≡ f' q.from q.to = walks p.from p.to x.from x.to ∙ ap (λ (a : ℕ). f' a p.to) same.0 ∙ ap (f' q.from) same.1 in
      let distance : g p.from p.to ≡ g' q.from q.to = distances p.from p.to x.from x.to ∙ ap (λ (a : ℕ). g' a p.to) same.0 ∙ ap (g' q.from) same.1 in
      rw (walk, distance, same.0, same.1) refl

  same_weights : (w v : Option Pair) → IsWorstOf n f g w → IsWorstOf n f' g' v → weights_text nodes n f g w ≡ weights_text nodes n f' g' v
  same_weights w v x y = rw (same_pair_sums n f f' walks, same_pair_sums n g g' distances, same_line w v x y) refl

pub one_stats_text : (nodes : List Name) (s : Plan) (text other : List ℕ) → IsStatsOf nodes s text → IsStatsOf nodes s other → text ≡ other
one_stats_text nodes s text other x y =
    let n = node_count s.topology in
    let rows = ap (rows_text nodes s) (one_greatest s x.greatest y.greatest x.greatest_row y.greatest_row) in
    let weights = same_weights nodes n x.walk x.distance y.walk y.distance (same_walks s x.walk y.walk x.walks y.walks) (same_distances s x.distance y.distance x.distances y.distances) x.worst y.worst x.worst_pair y.worst_pair in
    x.whole ∙ ap (λ (t : List ℕ). t ++ weights_text nodes n x.walk x.distance x.worst) rows ∙ ap (λ (t : List ℕ). rows_text nodes s y.greatest ++ t) weights ∙ sym y.whole
