-- Ascending rows with the same starts are equal.
use Rattle.std.proofs.Common.{◌≡◌, ℕ, zero, suc, ◌<◌, ◌≤◌, List, [], ◌∷◌, Option, Some, refl, ap, sym, ◌∙◌, arith}
use Rattle.std.specs.Prelude.{All, AllPairs, Contains}
use Rattle.std.proofs.lemmas.List.Elements.{All-head, All-tail}
use Rattle.std.proofs.lemmas.List.Kept.{AllPairs-from_increasing}
use Rattle.ir_model.specs.Row.{Start, labels}
use Rattle.ir_model.specs.Compiled.{port_to, IsCanonical}

-- each label of the one row is one of the other
abbrev Among : List Start → List Start → Type 0
Among row other = (d : ℕ) → Contains (labels row) d → Contains (labels other) d

abbrev Rises : List ℕ → Type 0
Rises xs = AllPairs (λ x y. x < y) xs

-- the first label is the least
first_least : (x : ℕ) (xs : List ℕ) (d : ℕ) → Rises (x ∷ xs) → Contains (x ∷ xs) d → x ≤ d
first_least x xs d rises (zero, within, is) = omega (arith, is)
first_least x xs d rises (suc k, within, is) = omega (arith, is, rises 0 (suc k) d (omega arith) within)

-- what is after the first label is greater
later_greater : (x : ℕ) (xs : List ℕ) (d : ℕ) → Rises (x ∷ xs) → Contains xs d → x < d
later_greater x xs d rises (k, within, is) = omega (arith, is, rises 0 (suc k) d (omega arith) (omega (arith, within)))

after_first : (x : ℕ) (xs : List ℕ) (d : ℕ) → x < d → Contains (x ∷ xs) d → Contains xs d
after_first x xs d more (zero, within, is) = absurd (omega (arith, is))
after_first x xs d more (suc k, within, is) = (k, omega (arith, within), is)

-- the labels after a common first one are common too
tails : (s : Start) (row : List Start) (t : Start) (other : List Start) → s.label ≡ t.label → Rises (labels (s ∷ row))
    → Among (s ∷ row) (t ∷ other) → Among row other
tails s row t other same rises among d (k, within, is) =
    let greater : s.label < d = later_greater s.label (labels row) d rises (k, within, is) in
    after_first t.label (labels other) d (omega (arith, greater, same)) (among d (suc k, omega (arith, within), is))

same_rows : (ports : List (Option ℕ)) (row other : List Start) → Rises (labels row) → Rises (labels other)
    → All (λ (s : Start). port_to ports s.label ≡ Some s.port) row → All (λ (s : Start). port_to ports s.label ≡ Some s.port) other
    → Among row other → Among other row → row ≡ other
same_rows ports [] [] up up' right right' there back = refl
same_rows ports [] (t ∷ other) up up' right right' there back = absurd (let none = back t.label (0, omega arith, refl) in omega (arith, none.1))
same_rows ports (s ∷ row) [] up up' right right' there back = absurd (let none = there s.label (0, omega arith, refl) in omega (arith, none.1))
same_rows ports (s ∷ row) (t ∷ other) up up' right right' there back =
    let P : Start → Type 0 = λ s. port_to ports s.label ≡ Some s.port in
    let le : t.label ≤ s.label = first_least t.label (labels other) s.label up' (there s.label (0, omega arith, refl)) in
    let ge : s.label ≤ t.label = first_least s.label (labels row) t.label up (back t.label (0, omega arith, refl)) in
    let label : s.label ≡ t.label = omega (arith, le, ge) in
    let from : port_to ports s.label ≡ Some s.port = All-head P s row right in
    let to : port_to ports t.label ≡ Some t.port = All-head P t other right' in
    let port : s.port ≡ t.port = cc (label, from, to) in
    let later : row ≡ other = same_rows ports row other (λ i j d lt within. up (suc i) (suc j) d (omega arith) (omega (arith, within)))
    (λ i j d lt within. up' (suc i) (suc j) d (omega arith) (omega (arith, within)))
    (All-tail P s row right) (All-tail P t other right') (tails s row t other label up there) (tails t other s row (sym label) up' back) in
    let head : s ≡ t = made_same s t label port in
    cc (head, later)
  where
    made_same : (s t : Start) → s.label ≡ t.label → s.port ≡ t.port → s ≡ t
    made_same s t label port = ap (λ l. record { label = l; port = s.port }) label ∙ ap (λ p. record { label = t.label; port = p }) port

pub canonical_same : (n own : ℕ) (ports : List (Option ℕ)) (row other : List Start) → IsCanonical n own ports row → IsCanonical n own ports other → row ≡ other
canonical_same n own ports row other a b =
    same_rows ports row other (AllPairs-from_increasing (labels row) a.ascending) (AllPairs-from_increasing (labels other) b.ascending) a.their_ports b.their_ports
    (λ d has. (b.starts d).1 ((a.starts d).0 has)) (λ d has. (a.starts d).1 ((b.starts d).0 has))
