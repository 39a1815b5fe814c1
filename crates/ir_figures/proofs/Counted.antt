-- The port of the most intervals, port by port.
use Rattle.std.proofs.Common.{◌≡◌, ◌⊎◌, ℕ, ◌+◌, ◌<◌, ◌≤◌, length, Option, None, Some, ap, ◌∙◌, inl, inr, arith}
use Rattle.std.proofs.lemmas.Bool.{cases_eq}
use Rattle.ir_model.specs.Topology.{ports_of}
use Rattle.ir_model.specs.Plan.{Plan, row_in}
use Rattle.ir_show.specs.StatsText.{IsEarlier}
use Rattle.ir_figures.specs.declared.most.Most.{Most}
use Rattle.ir_figures.specs.Compactness.{intervals_at, HasPortNumber, IsMostBefore, AreMostBefore}

-- what is before the next port is before this one, or is this one
split : (v q u p : ℕ) → IsEarlier v q u (p + 1) → IsEarlier v q u p ⊎ ((v ≡ u) × (q ≡ p))
split v q u p (inl less) = inl (inl less)
split v q u p (inr same) = elim (cases_eq q p) [
  | inl e ↦ inr (same.0, e)
  | inr ne ↦ inl (inr (same.0, omega (arith, same.1, ne)))
]

same_count : (s : Plan) (v q u p : ℕ) → v ≡ u → q ≡ p → intervals_at (row_in s v) q ≡ intervals_at (row_in s u) p
same_count s v q u p nodes ports = ap (λ (x : ℕ). intervals_at (row_in s x) q) nodes ∙ ap (intervals_at (row_in s u)) ports

pub most_first : (s : Plan) (u p count : ℕ) → HasPortNumber s u p → count ≡ intervals_at (row_in s u) p → ((v q : ℕ) → HasPortNumber s v q → IsEarlier v q u p → ⊥)
    → IsMostBefore s u (p + 1) (record { node = u; port = p; count = count })
most_first s u p count has is none = record {
  node = has.0;
  port = has.1;
  count = is;
  greatest = λ v q there early. elim (split v q u p early) [
    | inl before ↦ absurd (none v q there before)
    | inr here ↦ omega (arith, is, same_count s v q u p here.0 here.1)
  ];
  first = λ v q there early. absurd (none v q there early);
}

pub most_next : (s : Plan) (u p count : ℕ) (most : Most) → HasPortNumber s u p → count ≡ intervals_at (row_in s u) p → most.count < count → IsMostBefore s u p most
    → IsMostBefore s u (p + 1) (record { node = u; port = p; count = count })
most_next s u p count most has is more so_far = record {
  node = has.0;
  port = has.1;
  count = is;
  greatest = λ v q there early. elim (split v q u p early) [
    | inl before ↦ omega (arith, more, so_far.greatest v q there before)
    | inr here ↦ omega (arith, is, same_count s v q u p here.0 here.1)
  ];
  first = λ v q there early. omega (arith, more, so_far.greatest v q there early);
}

pub most_stays : (s : Plan) (u p count : ℕ) (most : Most) → count ≡ intervals_at (row_in s u) p → count ≤ most.count → IsMostBefore s u p most → IsMostBefore s u (p + 1) most
most_stays s u p count most is less so_far = record {
  node = so_far.node;
  port = so_far.port;
  count = so_far.count;
  greatest = λ v q there early. elim (split v q u p early) [
    | inl before ↦ so_far.greatest v q there before
    | inr here ↦ omega (arith, is, less, same_count s v q u p here.0 here.1)
  ];
  first = so_far.first;
}

-- what is before the ports of the next node is before the end of this one's
within : (s : Plan) (v q u p : ℕ) → p ≡ length (ports_of s.topology u) → HasPortNumber s v q → IsEarlier v q (u + 1) 0 → IsEarlier v q u p
within s v q u p end there (inl less) = elim (cases_eq v u) [
  | inl e ↦ inr (e, omega (arith, end, there.1, ap (λ (x : ℕ). length (ports_of s.topology x)) e))
  | inr ne ↦ inl (omega (arith, less, ne))
]
within s v q u p end there (inr same) = absurd (omega (arith, same.1))

pub node_done : (s : Plan) (u p : ℕ) (best : Option Most) → p ≡ length (ports_of s.topology u) → AreMostBefore s u p best → AreMostBefore s (u + 1) 0 best
node_done s u p None end so_far = λ v q there early. so_far v q there (within s v q u p end there early)
node_done s u p (Some most) end so_far = record {
  node = so_far.node;
  port = so_far.port;
  count = so_far.count;
  greatest = λ v q there early. so_far.greatest v q there (within s v q u p end there early);
  first = so_far.first;
}
