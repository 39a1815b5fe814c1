-- The worst of the pairs of nodes, pair by pair.
use Rattle.std.proofs.Common.{◌≡◌, ◌≢◌, ℕ, ◌+◌, ◌*◌, ◌<◌, ◌≤◌, ◌⊎◌, ⊎_elim, inl, inr, Option, Some, None, refl, ap, sym, subst, arith}
use Rattle.std.specs.Option.{option_map, IfSome}
use Rattle.std.proofs.Math.Nat.{mul-le-mul_left, mul-lt-mul_of_pos_left, lt_of_mul-lt-mul_left}
use Rattle.std.proofs.lemmas.Bool.{cases_eq, cases_lt}
use Rattle.ir_show.specs.declared.worst.Weighed.{Weighed}
use Rattle.ir_show.specs.StatsText.{IsEarlier, IsWorstOf}
use Rattle.ir_show.specs.Before.{ArePositive, IsWeighed, IsWorse, IsSeen, IsWorstPair, IsWorstBefore}

-- what is no greater a multiple than one that is less than another is less than the other
below_less : (w δ w1 δ1 w2 δ2 : ℕ) → 0 < δ → 0 < δ1 → w * δ1 ≤ w1 * δ → w1 * δ2 < w2 * δ1 → w * δ2 < w2 * δ
below_less w δ w1 δ1 w2 δ2 some some1 le less =
    let low : δ2 * (w * δ1) ≤ δ2 * (w1 * δ) = mul-le-mul_left δ2 le in
    let high : δ * (w1 * δ2) < δ * (w2 * δ1) = mul-lt-mul_of_pos_left less some in
    let all : δ1 * (w * δ2) < δ1 * (w2 * δ) = omega (arith, low, high) in
    lt_of_mul-lt-mul_left δ1 all

-- what is no greater a multiple than one of two that are as great is no greater than the other, and less if less
below_tied : (w δ w1 δ1 w2 δ2 : ℕ) → 0 < δ1 → w * δ1 ≤ w1 * δ → w1 * δ2 ≡ w2 * δ1 → w * δ2 ≤ w2 * δ
below_tied w δ w1 δ1 w2 δ2 some1 le tied =
    ⊎_elim (λ (more : w2 * δ < w * δ2).
    (let low : δ2 * (w * δ1) ≤ δ2 * (w1 * δ) = mul-le-mul_left δ2 le in
    let high : δ1 * (w2 * δ) < δ1 * (w * δ2) = mul-lt-mul_of_pos_left more some1 in
    let same : δ * (w1 * δ2) ≡ δ * (w2 * δ1) = ap (λ (x : ℕ). δ * x) tied in
    absurd (omega (arith, low, high, same))))
    (λ le. le) (cases_lt (w2 * δ) (w * δ2))

less_tied : (w δ w1 δ1 w2 δ2 : ℕ) → 0 < δ2 → w * δ1 < w1 * δ → w1 * δ2 ≡ w2 * δ1 → w * δ2 < w2 * δ
less_tied w δ w1 δ1 w2 δ2 some2 less tied =
    let low : δ2 * (w * δ1) < δ2 * (w1 * δ) = mul-lt-mul_of_pos_left less some2 in
    let same : δ * (w1 * δ2) ≡ δ * (w2 * δ1) = ap (λ (x : ℕ). δ * x) tied in
    let all : δ1 * (w * δ2) < δ1 * (w2 * δ) = omega (arith, low, same) in
    lt_of_mul-lt-mul_left δ1 all

-- a pair looked at before the next one is the present one or is looked at before it
before_next : (u d x y : ℕ) → IsSeen u d (x + 1) y → IsSeen u d x y ⊎ ((u ≡ x) × (d ≡ y))
before_next u d x y e =
    ⊎_elim (λ less. inl (inl less))
    (λ same. ⊎_elim (λ (eq : u ≡ x). inr (eq, same.0)) (λ (ne : u ≢ x). inl (inr (same.0, omega (arith, same.1, ne)))) (cases_eq u x))
    e

-- one that is before a second is not after it, and before a third if the second is
not_itself : (u d x y : ℕ) → u ≡ x → d ≡ y → IsEarlier u d x y → ⊥
not_itself u d x y e f h = ⊎_elim (λ less. omega (arith, less, e)) (λ same. omega (arith, same.1, f)) h

earlier_still : (u d a b x y : ℕ) → IsEarlier u d a b → IsEarlier a b x y → IsEarlier u d x y
earlier_still u d a b x y e f = grind (arith, e, f)

-- x, y is worse than a, b
abbrev IsWorseBy : (ℕ → ℕ → ℕ) → (ℕ → ℕ → ℕ) → ℕ → ℕ → ℕ → ℕ → Type 0
IsWorseBy walk distance x y a b =
    (walk a b * distance x y < walk x y * distance a b) ⊎ ((walk a b * distance x y ≡ walk x y * distance a b) × IsEarlier x y a b)

module _ (n : ℕ) (walk distance : ℕ → ℕ → ℕ) where
  products : (p q : Weighed) → IsWeighed walk distance p → IsWeighed walk distance q → q.walk * p.distance ≡ walk q.ends.from q.ends.to * distance p.ends.from p.ends.to
  products p q e f = rw (f.0, e.1) refl

  pub worse_by : (p q : Weighed) → IsWeighed walk distance p → IsWeighed walk distance q → IsWorse p q → IsWorseBy walk distance p.ends.from p.ends.to q.ends.from q.ends.to
  worse_by p q e f worse =
      let low = products p q e f in
      let high = products q p f e in
      ⊎_elim (λ more. inl (omega (arith, low, high, more))) (λ tied. inr (omega (arith, low, high, tied.0), tied.1)) worse

  pub as_weighed : (p q : Weighed) → IsWeighed walk distance p → IsWeighed walk distance q → IsWorseBy walk distance p.ends.from p.ends.to q.ends.from q.ends.to → IsWorse p q
  as_weighed p q e f worse =
      let low = products p q e f in
      let high = products q p f e in
      ⊎_elim (λ more. inl (omega (arith, low, high, more))) (λ tied. inr (omega (arith, low, high, tied.0), tied.1)) worse

  same_pair : (u d x y : ℕ) → u ≡ x → d ≡ y → walk u d * distance x y ≤ walk x y * distance u d
  same_pair u d x y e f =
      let P : ℕ → ℕ → Type 0 = λ a b. walk a b * distance x y ≤ walk x y * distance a b in
      subst (λ a. P a d) (sym e) (subst (λ b. P x b) (sym f) (omega arith))

  -- a pair of one node is passed over
  pub passes : (x y : ℕ) → x ≡ y → (best : Option Weighed) → IsWorstBefore n walk distance x y best → IsWorstBefore n walk distance (x + 1) y best
  passes x y one None none = λ u d hu hd other e. ⊎_elim (λ b. none u d hu hd other b) (λ same. other (omega (arith, same.0, same.1, one))) (before_next u d x y e)
  passes x y one (Some p) is = (
    record {
      from = is.0.from;
      to = is.0.to;
      two = is.0.two;
      greatest = λ u d hu hd other e. ⊎_elim (λ b. is.0.greatest u d hu hd other b) (λ same. absurd (other (omega (arith, same.0, same.1, one)))) (before_next u d x y e);
      first = λ u d hu hd other e f. ⊎_elim (λ b. is.0.first u d hu hd other b f) (λ same. absurd (other (omega (arith, same.0, same.1, one)))) (before_next u d x y e);
    },
    is.1,
  )

  -- the first pair of two nodes is the worst so far
  pub begins : (x y : ℕ) → x < n → y < n → x ≢ y → IsWorstBefore n walk distance x y None → IsWorstPair n walk distance (x + 1) y x y
  begins x y hx hy two none = record {
    from = hx;
    to = hy;
    two = two;
    greatest = λ u d hu hd other e. ⊎_elim (λ b. absurd (none u d hu hd other b)) (λ same. same_pair u d x y same.0 same.1) (before_next u d x y e);
    first = λ u d hu hd other e f. ⊎_elim (λ b. absurd (none u d hu hd other b)) (λ same. absurd (not_itself u d x y same.0 same.1 f)) (before_next u d x y e);
  }

  -- a worse pair takes the place
  pub takes : ArePositive n distance → (x y a b : ℕ) → x < n → y < n → x ≢ y → IsWorstPair n walk distance x y a b → IsWorseBy walk distance x y a b → IsWorstPair n walk distance (x + 1) y x y
  takes positive x y a b hx hy two is worse = record {
    from = hx;
    to = hy;
    two = two;
    greatest = λ u d hu hd other e. ⊎_elim (λ b. seen u d hu hd other b worse) (λ same. same_pair u d x y same.0 same.1) (before_next u d x y e);
    first = λ u d hu hd other e f. ⊎_elim (λ b. less u d hu hd other b f worse) (λ same. absurd (not_itself u d x y same.0 same.1 f)) (before_next u d x y e);
  }
    where
      some : 0 < distance a b
      some = positive a b is.from is.to is.two

      far : (u d : ℕ) → u < n → d < n → u ≢ d → IsSeen u d x y → walk a b * distance x y < walk x y * distance a b → walk u d * distance x y < walk x y * distance u d
      far u d hu hd other e more = below_less (walk u d) (distance u d) (walk a b) (distance a b) (walk x y) (distance x y) (positive u d hu hd other) some (is.greatest u d hu hd other e) more

      seen : (u d : ℕ) → u < n → d < n → u ≢ d → IsSeen u d x y → IsWorseBy walk distance x y a b → walk u d * distance x y ≤ walk x y * distance u d
      seen u d hu hd other e (inl more) = (let l = far u d hu hd other e more in omega (arith, l))
      seen u d hu hd other e (inr tied) = below_tied (walk u d) (distance u d) (walk a b) (distance a b) (walk x y) (distance x y) some (is.greatest u d hu hd other e) tied.0

      less : (u d : ℕ) → u < n → d < n → u ≢ d → IsSeen u d x y → IsEarlier u d x y → IsWorseBy walk distance x y a b → walk u d * distance x y < walk x y * distance u d
      less u d hu hd other e f (inl more) = far u d hu hd other e more
      less u d hu hd other e f (inr tied) =
          less_tied (walk u d) (distance u d) (walk a b) (distance a b) (walk x y) (distance x y) (positive x y hx hy two) (is.first u d hu hd other e (earlier_still u d x y a b f tied.1)) tied.0

  -- a pair that is not worse leaves it
  pub keeps : (x y a b : ℕ) → IsWorstPair n walk distance x y a b → (IsWorseBy walk distance x y a b → ⊥) → IsWorstPair n walk distance (x + 1) y a b
  keeps x y a b is no_worse = record {
    from = is.from;
    to = is.to;
    two = is.two;
    greatest = λ u d hu hd other e. ⊎_elim (λ f. is.greatest u d hu hd other f) (λ same. present u d same.0 same.1) (before_next u d x y e);
    first = λ u d hu hd other e f. ⊎_elim (λ g. is.first u d hu hd other g f) (λ same. tie u d same.0 same.1 f) (before_next u d x y e);
  }
    where
      no_more : walk x y * distance a b ≤ walk a b * distance x y
      no_more = ⊎_elim (λ (more : walk a b * distance x y < walk x y * distance a b). absurd (no_worse (inl more))) (λ le. le) (cases_lt (walk a b * distance x y) (walk x y * distance a b))

      present : (u d : ℕ) → u ≡ x → d ≡ y → walk u d * distance a b ≤ walk a b * distance u d
      present u d e f =
          let P : ℕ → ℕ → Type 0 = λ v w. walk v w * distance a b ≤ walk a b * distance v w in
          subst (λ v. P v d) (sym e) (subst (λ w. P x w) (sym f) no_more)

      no_tie : IsEarlier x y a b → walk x y * distance a b < walk a b * distance x y
      no_tie f =
          ⊎_elim (λ (tied : walk a b * distance x y ≡ walk x y * distance a b). absurd (no_worse (inr (tied, f)))) (λ (apart : walk a b * distance x y ≢ walk x y * distance a b). (let le = no_more in omega (arith, le, apart)))
          (cases_eq (walk a b * distance x y) (walk x y * distance a b))

      tie : (u d : ℕ) → u ≡ x → d ≡ y → IsEarlier u d a b → walk u d * distance a b < walk a b * distance u d
      tie u d e f =
          let P : ℕ → ℕ → Type 0 = λ v w. IsEarlier v w a b → walk v w * distance a b < walk a b * distance v w in
          subst (λ v. P v d) (sym e) (subst (λ w. P x w) (sym f) no_tie)

  -- after the pairs to a node those to the next one follow
  back : (u d y : ℕ) → u < n → IsSeen u d 0 (y + 1) → IsSeen u d n y
  back u d y hu e = grind (arith, hu, e)

  pub next_node : (y : ℕ) (best : Option Weighed) → IsWorstBefore n walk distance n y best → IsWorstBefore n walk distance 0 (y + 1) best
  next_node y None none = λ u d hu hd other e. none u d hu hd other (back u d y hu e)
  next_node y (Some p) is = (
    record {
      from = is.0.from;
      to = is.0.to;
      two = is.0.two;
      greatest = λ u d hu hd other e. is.0.greatest u d hu hd other (back u d y hu e);
      first = λ u d hu hd other e. is.0.first u d hu hd other (back u d y hu e);
    },
    is.1,
  )

  -- no pair is looked at before the first
  pub none_yet : IsWorstBefore n walk distance 0 0 None
  none_yet = λ u d hu hd other e. ⊎_elim (λ less. absurd (omega (arith, less))) (λ same. absurd (omega (arith, same.1))) e

  -- after those of all nodes
  pub at_last : (best : Option Weighed) → IsWorstBefore n walk distance 0 n best → IsWorstOf n walk distance (option_map (λ p. p.ends) best)
  at_last None none =
      ⊎_elim (λ few. few) (λ two. absurd (none 0 1 (omega arith) (omega arith) (omega arith) (inl (omega arith)))) (few_or_two n)
    where
      few_or_two : (m : ℕ) → (m ≤ 1) ⊎ (1 < m)
      few_or_two m = grind arith
  at_last (Some p) is = record {
    from = is.0.from;
    to = is.0.to;
    two = is.0.two;
    greatest = λ u d hu hd other. is.0.greatest u d hu hd other (inl hd);
    first = λ u d hu hd other. is.0.first u d hu hd other (inl hd);
  }

  pub worst_weighed : (best : Option Weighed) → IsWorstBefore n walk distance 0 n best → IfSome best (IsWeighed walk distance)
  worst_weighed None none = tt
  worst_weighed (Some p) is = is.1
