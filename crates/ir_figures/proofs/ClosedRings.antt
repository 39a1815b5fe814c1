-- What a search ends with: a ring, or numbers that rise.
use Rattle.std.proofs.Common.{◌≡◌, ℕ, ◌+◌, ◌-◌, ◌<◌, Bool, List, length, slice_index, drop, ap, sym, ◌∙◌, subst, arith, get_or-drop, length-drop}
use Rattle.ir_figures.specs.Arcs.{IsArc, IsAcyclic, IsRing}
use Rattle.ir_figures.specs.Search.{IsSearch}

-- The path from an open node on is a ring, where an arc leads from its last node to that one.
module _ (first : List ℕ) (marks : List (List Bool)) (due numbers path ring : List ℕ) (total d i : ℕ) (s : IsSearch first marks due numbers path total)
    (within : i < length path) (place : slice_index path i ≡ d) (back : IsArc first marks (slice_index path (length path - 1)) d) (rest : ring ≡ drop i path) where
  size : length ring ≡ length path - i
  size = ap length rest ∙ length-drop i path

  at_ring : (k j : ℕ) → i + k ≡ j → slice_index ring k ≡ slice_index path j
  at_ring k j e = ap (λ (xs : List ℕ). slice_index xs k) rest ∙ get_or-drop i path k 0 ∙ ap (slice_index path) e

  arc_on : (k l j m : ℕ) → i + k ≡ j → i + l ≡ m → IsArc first marks (slice_index path j) (slice_index path m) → IsArc first marks (slice_index ring k) (slice_index ring l)
  arc_on k l j m from to arc =
      subst (λ (x : ℕ). IsArc first marks x (slice_index ring l)) (sym (at_ring k j from)) (subst (λ (x : ℕ). IsArc first marks (slice_index path j) x) (sym (at_ring l m to)) arc)

  pub ring_closes : IsRing first marks ring
  ring_closes = record {
    some = omega (arith, size, within);
    nodes = λ k lt. subst (λ (x : ℕ). x < length marks) (sym (at_ring k (i + k) (omega arith))) (s.path_is.opened (i + k) (omega (arith, size, lt))).node;
    once = λ k l less lt e.
        s.path_is.once (i + k) (i + l) (omega (arith, less)) (omega (arith, size, lt)) (sym (at_ring k (i + k) (omega arith)) ∙ e ∙ at_ring l (i + l) (omega arith));
    arcs = λ k lt. arc_on k (k + 1) (i + k) (i + k + 1) (omega arith) (omega arith) (s.path_is.arcs (i + k) (omega (arith, size, lt)));
    closed = arc_on (length ring - 1) 0 (length path - 1) i (omega (arith, size, within)) (omega arith)
        (subst (λ (x : ℕ). IsArc first marks (slice_index path (length path - 1)) x) (sym place) back);
  }

pub all_done : (first : List ℕ) (marks : List (List Bool)) (due numbers path : List ℕ) (total : ℕ) → IsSearch first marks due numbers path total
    → ((x : ℕ) → x < length marks → slice_index due x ≡ 0) → IsAcyclic first marks
all_done first marks due numbers path total s done = (slice_index numbers, λ c d lt arc. s.numbered.rises c d lt (done c lt) arc)
