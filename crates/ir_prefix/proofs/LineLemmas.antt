-- Lines and prefixes: their longest matches are the same.
use Rattle.std.proofs.Common.{◌≡◌, ℕ, zero, suc, ◌+◌, ◌-◌, ◌*◌, ◌/◌, ◌%◌, ◌^◌, ◌<◌, ◌≤◌, List, length, get_or, map, ap, sym, ◌∙◌, subst, inl, inr, arith, None}
use Rattle.std.proofs.Math.Nat.{mod-add-div', mul-div_cancel}
use Rattle.std.proofs.lemmas.Nat.{pow_pos}
use Rattle.std.proofs.lemmas.Bool.{cases_lt}
use Rattle.std.proofs.lemmas.List.{get_or-map, length-map, get_or-take, get_or_default, length-take}
use Rattle.std.proofs.lemmas.List.Elements.{Contains-get_or, All-contains}
use Rattle.std.specs.List.{Contains, AllAdjacentBelow}
use Rattle.ir_prefix.specs.Longest.{Holds, IsLongest}
use Rattle.ir_prefix.specs.Forwarding.{HoldsNumber, IsMatch, StandsBefore, KeepsMatches}
use Rattle.ir_prefix.specs.Extended.{line_of, prefix_of}
use Rattle.ir_prefix.specs.declared.cover.Prefix.{Prefix}
use Rattle.ir_prefix.specs.declared.line.TableLine.{TableLine}

-- an element of a list of images is the image of an element
pub mapped_from : {X Y : Type 0} (f : X → Y) (d : X) (xs : List X) (y : Y) → Contains (map f xs) y → (x : X) × Contains xs x × (y ≡ f x)
mapped_from f d xs y c =
    let n = length-map xs f in
    let l : c.0 < length xs = omega (arith, c.1) in
    (get_or xs c.0 d, Contains-get_or xs c.0 d l, sym c.2 ∙ get_or-map f xs c.0 d y l)

pub mapped_to : {X Y : Type 0} (f : X → Y) (xs : List X) (x : X) → Contains xs x → Contains (map f xs) (f x)
mapped_to f xs x c =
    let n = length-map xs f in
    (c.0, omega (arith, c.1), get_or-map f xs c.0 x (f x) c.1 ∙ ap f c.2)

pub no_prefix : Prefix
no_prefix = record { value = 0; length = 0; port = 0 }

no_line : TableLine
no_line = record { value = 0; length = 0; port = None }

module _ (bits unreachable : ℕ) where
  pub line_match : (set : List Prefix) (x : ℕ) (p : Prefix) → IsLongest bits set x p → IsMatch bits (map (line_of unreachable) set) x (line_of unreachable p)
  line_match set x p is = record {
    member = mapped_to (line_of unreachable) set p is.member;
    holds = is.holds;
    longest = λ k d l holds.
        let e = Contains-get_or (map (line_of unreachable) set) k d l in
        let w = mapped_from (line_of unreachable) no_prefix set (get_or (map (line_of unreachable) set) k d) e in
        let h : HoldsNumber bits (line_of unreachable w.0) x = subst (λ (m : TableLine). HoldsNumber bits m x) w.2 holds in
        let le = All-contains (λ (o : Prefix). Holds bits o x → o.length ≤ p.length) set w.0 is.longest w.1 h in
        subst (λ (m : TableLine). m.length ≤ p.length) (sym w.2) le;
  }

  pub match_line : (set : List Prefix) (x : ℕ) (m : TableLine) → IsMatch bits (map (line_of unreachable) set) x m → (p : Prefix) × IsLongest bits set x p × (m ≡ line_of unreachable p)
  match_line set x m is =
      let w = mapped_from (line_of unreachable) no_prefix set m is.member in
      let p = w.0 in (
        p,
        record {
          member = w.1;
          holds = subst (λ (o : TableLine). HoldsNumber bits o x) w.2 is.holds;
          longest = λ k d l holds.
              let o = get_or set k d in
              let le = All-contains (λ (o : TableLine). HoldsNumber bits o x → o.length ≤ m.length) (map (line_of unreachable) set) (line_of unreachable o) is.longest (mapped_to (line_of unreachable) set o (Contains-get_or set k d l)) holds in
              subst (λ (n : TableLine). o.length ≤ n.length) w.2 le;
        },
        w.2,
      )

  pub prefix_match : (table : List TableLine) (x : ℕ) (m : TableLine) → IsMatch bits table x m → IsLongest bits (map (prefix_of unreachable) table) x (prefix_of unreachable m)
  prefix_match table x m is = record {
    member = mapped_to (prefix_of unreachable) table m is.member;
    holds = is.holds;
    longest = λ k d l holds.
        let e = Contains-get_or (map (prefix_of unreachable) table) k d l in
        let w = mapped_from (prefix_of unreachable) no_line table (get_or (map (prefix_of unreachable) table) k d) e in
        let h : Holds bits (prefix_of unreachable w.0) x = subst (λ (m : Prefix). Holds bits m x) w.2 holds in
        let le = All-contains (λ (o : TableLine). HoldsNumber bits o x → o.length ≤ m.length) table w.0 is.longest w.1 h in
        subst (λ (p : Prefix). p.length ≤ m.length) (sym w.2) le;
  }

  pub match_prefix : (table : List TableLine) (x : ℕ) (p : Prefix) → IsLongest bits (map (prefix_of unreachable) table) x p → (m : TableLine) × IsMatch bits table x m × (p ≡ prefix_of unreachable m)
  match_prefix table x p is =
      let w = mapped_from (prefix_of unreachable) no_line table p is.member in
      let m = w.0 in (
        m,
        record {
          member = w.1;
          holds = subst (λ (o : Prefix). Holds bits o x) w.2 is.holds;
          longest = λ k d l holds.
              let o = get_or table k d in
              let le = All-contains (λ (o : Prefix). Holds bits o x → o.length ≤ p.length) (map (prefix_of unreachable) table) (prefix_of unreachable o) is.longest (mapped_to (prefix_of unreachable) table o (Contains-get_or table k d l)) holds in
              subst (λ (n : Prefix). o.length ≤ n.length) w.2 le;
        },
        w.2,
      )

-- of a list in this order the lines keep their matches while it is filled, and none is there twice
before_not_shorter : (m o : TableLine) → StandsBefore m o → o.length ≤ m.length
before_not_shorter m o (inl l) = omega arith
before_not_shorter m o (inr e) = omega (arith, e.0)

before_again : (m n o : TableLine) → StandsBefore m n → StandsBefore n o → StandsBefore m o
before_again m n o (inl a) (inl b) = inl (omega arith)
before_again m n o (inl a) (inr b) = inl (omega (arith, b.0))
before_again m n o (inr a) (inl b) = inl (omega (arith, a.0))
before_again m n o (inr a) (inr b) = inr (a.0 ∙ b.0, omega (arith, a.1, b.1))

module _ (table : List TableLine) (order : AllAdjacentBelow StandsBefore table (length table)) where
  stands_before : (i k : ℕ) (d : TableLine) → i + k + 1 < length table → StandsBefore (get_or table i d) (get_or table (i + k + 1) d)
  stands_before i zero d inside = let e : i + 1 ≡ i + zero + 1 = omega arith in subst (λ j. StandsBefore (get_or table i d) (get_or table j d)) e (order i d (omega arith))
  stands_before i (suc k) d inside =
      let e : (i + k + 1) + 1 ≡ i + suc k + 1 = omega arith in
      let h = stands_before i k d (omega arith) in
      let n = order (i + k + 1) d (omega arith) in
      subst (λ j. StandsBefore (get_or table i d) (get_or table j d)) e (before_again (get_or table i d) (get_or table (i + k + 1) d) (get_or table ((i + k + 1) + 1) d) h n)

  pub each_before : (i j : ℕ) (d : TableLine) → i < j → j < length table → StandsBefore (get_or table i d) (get_or table j d)
  each_before i j d lt inside =
      let e : i + (j - i - 1) + 1 ≡ j = omega arith in
      subst (λ k. StandsBefore (get_or table i d) (get_or table k d)) e (stands_before i (j - i - 1) d (omega arith))

  pub stands_once : (i j : ℕ) (d : TableLine) → i < j → j < length table → (get_or table i d).length ≡ (get_or table j d).length → (get_or table i d).value ≡ (get_or table j d).value → ⊥
  stands_once i j d lt inside same equal =
      elim (each_before i j d lt inside) [ inl l ↦ omega (arith, l) | inr e ↦ omega (arith, e.1) ]

  pub keeps_matches : (bits : ℕ) → KeepsMatches bits table
  keeps_matches bits count x m is =
      let n = length-take count table in
      let a = is.member in
      let low : a.0 < count = omega (arith, a.1) in
      let here : a.0 < length table = omega (arith, a.1) in
      let at : get_or table a.0 m ≡ m = sym (get_or-take count table a.0 m low) ∙ a.2 in
      record {
        member = (a.0, here, at);
        holds = is.holds;
        longest = λ k d l holds.
            elim (cases_lt k count) [
              | inl inside ↦
                  let e = get_or-take count table k d inside in
                  let le = is.longest k d (omega arith) (subst (λ (o : TableLine). HoldsNumber bits o x) (sym e) holds) in
                  subst (λ (o : TableLine). o.length ≤ m.length) e le
              | inr later ↦
                  let b = before_not_shorter (get_or table a.0 d) (get_or table k d) (each_before a.0 k d (omega arith) l) in
                  let e : get_or table a.0 d ≡ m = get_or_default table a.0 d m here ∙ at in
                  subst (λ (o : TableLine). (get_or table k d).length ≤ o.length) e b
            ];
      }

-- a value that is no greater than what its prefix holds has no bits past it
pub no_bits_past : (bits : ℕ) (m : Prefix) → ((x : ℕ) → Holds bits m x → m.value ≤ x) → m.value % 2 ^ (bits - m.length) ≡ 0
no_bits_past bits m least =
    let w = 2 ^ (bits - m.length) in
    let q = m.value / w in
    let e : (q * w) / w ≡ q = mul-div_cancel q (pow_pos (bits - m.length)) in
    let le : m.value ≤ q * w = least (q * w) e in
    let s = mod-add-div' m.value w in
    omega arith
