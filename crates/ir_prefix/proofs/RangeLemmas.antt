-- What is true of the ranges of ports by label.
use Rattle.std.proofs.Common.{◌≡◌, ◌≢◌, ◌==◌, ◌&&◌, ℕ, zero, suc, ◌+◌, ◌<◌, ◌≤◌, ◌⊎◌, List, [], ◌∷◌, length, get_or, Option, Some, None, Bool, true, false, if◌then◌else◌, refl, ap, sym, ◌∙◌, subst, inl, inr, arith}
use Rattle.std.specs.List.{All, AllPairs, Any}
use Rattle.std.proofs.lemmas.Bool.{and_parts, eqb-true}
use Rattle.std.proofs.lemmas.List.Elements.{All-nil, All-cons, All-head, All-tail, All-weaker}
use Rattle.std.proofs.lemmas.List.Kept.{AllPairs-cons}
use Rattle.ir_model.specs.Compiled.{port_to}
use Rattle.ir_prefix.specs.declared.ranges.LabelRange.{LabelRange}
use Rattle.ir_prefix.specs.Ranges.{range, with_label, ranges_from, ranges_of, IsInRange, TellsPorts, IsApart, AreRangesApart}

-- whether a label is joined to a range after it
abbrev pub joins : ℕ → ℕ → LabelRange → Bool
joins label port r = (r.from == label + 1) && (r.port == port)

pub joined_is : (label port : ℕ) (r : LabelRange) → joins label port r ≡ true → (r.from ≡ label + 1) × (r.port ≡ port)
joined_is label port r e = let h = and_parts (r.from == label + 1) (r.port == port) e in (eqb-true r.from (label + 1) h.0, eqb-true r.port port h.1)

-- the ranges of a label and of those after it, by whether it is joined to the first of these
abbrev pub chosen : Bool → ℕ → ℕ → LabelRange → List LabelRange → List LabelRange
chosen b label port r rest = if b then range label r.to port ∷ rest else range label label port ∷ r ∷ rest

-- ---- where the ranges begin

abbrev pub IsFrom : ℕ → LabelRange → Type 0
IsFrom label r = (label ≤ r.from) × (r.from ≤ r.to)

from_chosen : (label port : ℕ) (r : LabelRange) (rest : List LabelRange) (b : Bool) → joins label port r ≡ b
    → All (IsFrom (label + 1)) (r ∷ rest) → All (IsFrom label) (chosen b label port r rest)
from_chosen label port r rest true e all =
    let h = All-head (IsFrom (label + 1)) r rest all in
    All-cons (IsFrom label) (range label r.to port) rest (omega arith, omega (arith, h.0, h.1))
    (All-weaker (IsFrom (label + 1)) (IsFrom label) (λ s i. (omega (arith, i.0), i.1)) rest (All-tail (IsFrom (label + 1)) r rest all))
from_chosen label port r rest false e all =
    All-cons (IsFrom label) (range label label port) (r ∷ rest) (omega arith, omega arith)
    (All-weaker (IsFrom (label + 1)) (IsFrom label) (λ s i. (omega (arith, i.0), i.1)) (r ∷ rest) all)

from_with : (label port : ℕ) (set : List LabelRange) → All (IsFrom (label + 1)) set → All (IsFrom label) (with_label label port set)
from_with label port [] all = All-cons (IsFrom label) (range label label port) [] (omega arith, omega arith) (All-nil (IsFrom label))
from_with label port (r ∷ rest) all = from_chosen label port r rest (joins label port r) refl all

pub all_from : (label : ℕ) (ports : List (Option ℕ)) → All (IsFrom label) (ranges_from label ports)
all_from label [] = All-nil (IsFrom label)
all_from label (None ∷ ports) = All-weaker (IsFrom (label + 1)) (IsFrom label) (λ s i. (omega (arith, i.0), i.1)) (ranges_from (label + 1) ports) (all_from (label + 1) ports)
all_from label (Some port ∷ ports) = from_with label port (ranges_from (label + 1) ports) (all_from (label + 1) ports)

-- ---- each ends before the later ones begin

abbrev pub EndsBefore : LabelRange → LabelRange → Type 0
EndsBefore r later = r.to < later.from

pub pairs_head : (r : LabelRange) (rest : List LabelRange) → AllPairs EndsBefore (r ∷ rest) → All (EndsBefore r) rest
pairs_head r rest all = λ k d inside. all 0 (suc k) d (omega arith) (omega (arith, inside))

pub pairs_tail : (r : LabelRange) (rest : List LabelRange) → AllPairs EndsBefore (r ∷ rest) → AllPairs EndsBefore rest
pairs_tail r rest all = λ i j d before inside. all (suc i) (suc j) d (omega (arith, before)) (omega (arith, inside))

pairs_chosen : (label port : ℕ) (r : LabelRange) (rest : List LabelRange) (b : Bool)
    → All (IsFrom (label + 1)) (r ∷ rest) → AllPairs EndsBefore (r ∷ rest) → AllPairs EndsBefore (chosen b label port r rest)
pairs_chosen label port r rest true from all = AllPairs-cons EndsBefore (range label r.to port) rest (pairs_head r rest all) (pairs_tail r rest all)
pairs_chosen label port r rest false from all =
    AllPairs-cons EndsBefore (range label label port) (r ∷ rest)
    (All-weaker (IsFrom (label + 1)) (EndsBefore (range label label port)) (λ s i. omega (arith, i.0)) (r ∷ rest) from) all

pairs_with : (label port : ℕ) (set : List LabelRange) → All (IsFrom (label + 1)) set → AllPairs EndsBefore set → AllPairs EndsBefore (with_label label port set)
pairs_with label port [] from all = AllPairs-cons EndsBefore (range label label port) [] (All-nil (EndsBefore (range label label port))) all
pairs_with label port (r ∷ rest) from all = pairs_chosen label port r rest (joins label port r) from all

pub all_pairs : (label : ℕ) (ports : List (Option ℕ)) → AllPairs EndsBefore (ranges_from label ports)
all_pairs label [] = λ i j d before inside. absurd (omega (arith, before, inside))
all_pairs label (None ∷ ports) = all_pairs (label + 1) ports
all_pairs label (Some port ∷ ports) = pairs_with label port (ranges_from (label + 1) ports) (all_from (label + 1) ports) (all_pairs (label + 1) ports)

-- ---- each label in a range has its port, and the one before it has not

-- a range of labels whose ports these are, from the label on
pub record IsOf (label : ℕ) (ports : List (Option ℕ)) (r : LabelRange) : Type 0 where
  pub least : label ≤ r.from
  pub filled : r.from ≤ r.to
  pub agrees : (k : ℕ) → IsInRange (label + k) r → port_to ports k ≡ Some r.port
  pub starts : (k : ℕ) → (label + k) + 1 ≡ r.from → port_to ports k ≢ Some r.port

module _ (label : ℕ) (o : Option ℕ) (ports : List (Option ℕ)) (r : LabelRange) (h : IsOf (label + 1) ports r) where
  later_agrees : (k : ℕ) → IsInRange (label + k) r → port_to (o ∷ ports) k ≡ Some r.port
  later_agrees zero i = let l = h.least in absurd (omega (arith, l, i.0))
  later_agrees (suc k) i = h.agrees k (omega (arith, i.0), omega (arith, i.1))

  later_starts : (label + 1 ≡ r.from → o ≢ Some r.port) → (k : ℕ) → (label + k) + 1 ≡ r.from → port_to (o ∷ ports) k ≢ Some r.port
  later_starts f zero e = f (omega (arith, e))
  later_starts f (suc k) e = h.starts k (omega (arith, e))

  pub later : (label + 1 ≡ r.from → o ≢ Some r.port) → IsOf label (o ∷ ports) r
  later f = record { least = let l = h.least in omega (arith, l); filled = h.filled; agrees = later_agrees; starts = later_starts f }

  joined_agrees : (port : ℕ) → o ≡ Some port → r.from ≡ label + 1 → r.port ≡ port → (k : ℕ) → IsInRange (label + k) (range label r.to port) → port_to (o ∷ ports) k ≡ Some port
  joined_agrees port here from same zero i = here
  joined_agrees port here from same (suc k) i = h.agrees k (omega (arith, from), omega (arith, i.1)) ∙ ap Some same

  pub joined : (port : ℕ) → o ≡ Some port → r.from ≡ label + 1 → r.port ≡ port → IsOf label (o ∷ ports) (range label r.to port)
  joined port here from same = record {
    least = omega arith;
    filled = let f = h.filled in omega (arith, f, from);
    agrees = joined_agrees port here from same;
    starts = λ k e. absurd (omega (arith, e));
  }

alone_agrees : (label port : ℕ) (ports : List (Option ℕ)) (k : ℕ) → IsInRange (label + k) (range label label port) → port_to (Some port ∷ ports) k ≡ Some port
alone_agrees label port ports zero i = refl
alone_agrees label port ports (suc k) i = absurd (omega (arith, i.1))

alone : (label port : ℕ) (ports : List (Option ℕ)) → IsOf label (Some port ∷ ports) (range label label port)
alone label port ports = record { least = omega arith; filled = omega arith; agrees = alone_agrees label port ports; starts = λ k e. absurd (omega (arith, e)) }

-- ranges after another begin after the next label
behind : (label : ℕ) (port : ℕ) (ports : List (Option ℕ)) (r : LabelRange) (rest : List LabelRange) → IsFrom (label + 1) r → All (EndsBefore r) rest
    → All (IsOf (label + 1) ports) rest → All (IsOf label (Some port ∷ ports)) rest
behind label port ports r rest from before all =
    λ k d inside. let b = before k d inside in later label (Some port) ports (get_or rest k d) (all k d inside) (λ e. absurd (omega (arith, e, b, from.0, from.1)))

not_joined : (label port : ℕ) (r : LabelRange) → joins label port r ≡ false → label + 1 ≡ r.from → Some port ≢ Some r.port
not_joined label port r e from same = grind (arith, e, from, same)

of_chosen : (label port : ℕ) (ports : List (Option ℕ)) (r : LabelRange) (rest : List LabelRange) (b : Bool) → joins label port r ≡ b
    → All (IsFrom (label + 1)) (r ∷ rest) → AllPairs EndsBefore (r ∷ rest) → All (IsOf (label + 1) ports) (r ∷ rest)
    → All (IsOf label (Some port ∷ ports)) (chosen b label port r rest)
of_chosen label port ports r rest true e from pairs all =
    let h = joined_is label port r e in
    let P = IsOf (label + 1) ports in
    All-cons (IsOf label (Some port ∷ ports)) (range label r.to port) rest
    (joined label (Some port) ports r (All-head P r rest all) port refl h.0 h.1)
    (behind label port ports r rest (All-head (IsFrom (label + 1)) r rest from) (pairs_head r rest pairs) (All-tail P r rest all))
of_chosen label port ports r rest false e from pairs all =
    let P = IsOf (label + 1) ports in
    let Q = IsOf label (Some port ∷ ports) in
    All-cons Q (range label label port) (r ∷ rest) (alone label port ports)
    (All-cons Q r rest (later label (Some port) ports r (All-head P r rest all) (not_joined label port r e))
    (behind label port ports r rest (All-head (IsFrom (label + 1)) r rest from) (pairs_head r rest pairs) (All-tail P r rest all)))

of_with : (label port : ℕ) (ports : List (Option ℕ)) (set : List LabelRange) → All (IsFrom (label + 1)) set → AllPairs EndsBefore set → All (IsOf (label + 1) ports) set
    → All (IsOf label (Some port ∷ ports)) (with_label label port set)
of_with label port ports [] from pairs all = All-cons (IsOf label (Some port ∷ ports)) (range label label port) [] (alone label port ports) (All-nil (IsOf label (Some port ∷ ports)))
of_with label port ports (r ∷ rest) from pairs all = of_chosen label port ports r rest (joins label port r) refl from pairs all

pub all_of : (label : ℕ) (ports : List (Option ℕ)) → All (IsOf label ports) (ranges_from label ports)
all_of label [] = All-nil (IsOf label [])
all_of label (None ∷ ports) =
    All-weaker (IsOf (label + 1) ports) (IsOf label (None ∷ ports)) (λ r h. later label None ports r h (λ e. λ same. cc)) (ranges_from (label + 1) ports) (all_of (label + 1) ports)
all_of label (Some port ∷ ports) =
    of_with label port ports (ranges_from (label + 1) ports) (all_from (label + 1) ports) (all_pairs (label + 1) ports) (all_of (label + 1) ports)

-- ---- each label with a port is in a range

abbrev pub Holds : ℕ → List LabelRange → Type 0
Holds label set = Any (λ (r : LabelRange). IsInRange label r) set

here : (label : ℕ) (r : LabelRange) (rest : List LabelRange) → IsInRange label r → Holds label (r ∷ rest)
here label r rest i = (0, r, omega arith, refl, i)

there : (label : ℕ) (r : LabelRange) (rest : List LabelRange) → Holds label rest → Holds label (r ∷ rest)
there label r rest (k, s, inside, is, i) = (suc k, s, omega (arith, inside), is, i)

-- a label in one of the ranges is in the first or in a later one
first_or_later : (label : ℕ) (r : LabelRange) (rest : List LabelRange) → Holds label (r ∷ rest) → IsInRange label r ⊎ Holds label rest
first_or_later label r rest (zero, s, inside, is, i) = inl (subst (IsInRange label) (sym is) i)
first_or_later label r rest (suc k, s, inside, is, i) = inr (k, s, omega (arith, inside), is, i)

holds_chosen : (x label port : ℕ) (r : LabelRange) (rest : List LabelRange) (b : Bool) → label ≤ x → IsInRange x r ⊎ Holds x rest → Holds x (chosen b label port r rest)
holds_chosen x label port r rest true l (inl i) = here x (range label r.to port) rest (l, i.1)
holds_chosen x label port r rest true l (inr h) = there x (range label r.to port) rest h
holds_chosen x label port r rest false l (inl i) = there x (range label label port) (r ∷ rest) (here x r rest i)
holds_chosen x label port r rest false l (inr h) = there x (range label label port) (r ∷ rest) (there x r rest h)

holds_with : (x label port : ℕ) (set : List LabelRange) → label ≤ x → Holds x set → Holds x (with_label label port set)
holds_with x label port [] l (k, s, inside, is, i) = absurd (omega (arith, inside))
holds_with x label port (r ∷ rest) l h = holds_chosen x label port r rest (joins label port r) l (first_or_later x r rest h)

own_chosen : (label port : ℕ) (r : LabelRange) (rest : List LabelRange) (b : Bool) → IsFrom (label + 1) r → Holds label (chosen b label port r rest)
own_chosen label port r rest true from = here label (range label r.to port) rest (omega arith, omega (arith, from.0, from.1))
own_chosen label port r rest false from = here label (range label label port) (r ∷ rest) (omega arith, omega arith)

own_with : (label port : ℕ) (set : List LabelRange) → All (IsFrom (label + 1)) set → Holds label (with_label label port set)
own_with label port [] from = here label (range label label port) [] (omega arith, omega arith)
own_with label port (r ∷ rest) from = own_chosen label port r rest (joins label port r) (All-head (IsFrom (label + 1)) r rest from)

pub all_held : (label : ℕ) (ports : List (Option ℕ)) (k port : ℕ) → port_to ports k ≡ Some port → Holds (label + k) (ranges_from label ports)
all_held label [] k port e = absurd cc
all_held label (None ∷ ports) zero port e = absurd cc
all_held label (None ∷ ports) (suc k) port e =
    let same : (label + 1) + k ≡ label + suc k = omega arith in
    subst (λ (x : ℕ). Holds x (ranges_from (label + 1) ports)) same (all_held (label + 1) ports k port e)
all_held label (Some own ∷ ports) zero port e =
    let same : label ≡ label + 0 = omega arith in
    subst (λ (x : ℕ). Holds x (with_label label own (ranges_from (label + 1) ports))) same (own_with label own (ranges_from (label + 1) ports) (all_from (label + 1) ports))
all_held label (Some own ∷ ports) (suc k) port e =
    let same : (label + 1) + k ≡ label + suc k = omega arith in
    holds_with (label + suc k) label own (ranges_from (label + 1) ports) (omega arith)
    (subst (λ (x : ℕ). Holds x (ranges_from (label + 1) ports)) same (all_held (label + 1) ports k port e))

-- ---- there are no more than labels

few_chosen : (label port : ℕ) (r : LabelRange) (rest : List LabelRange) (b : Bool) → length (chosen b label port r rest) ≤ suc (length (r ∷ rest))
few_chosen label port r rest true = omega arith
few_chosen label port r rest false = omega arith

few_with : (label port : ℕ) (set : List LabelRange) → length (with_label label port set) ≤ suc (length set)
few_with label port [] = omega arith
few_with label port (r ∷ rest) = few_chosen label port r rest (joins label port r)

pub they_are_few : (label : ℕ) (ports : List (Option ℕ)) → length (ranges_from label ports) ≤ length ports
they_are_few label [] = omega arith
they_are_few label (None ∷ ports) = let few = they_are_few (label + 1) ports in omega (arith, few)
they_are_few label (Some port ∷ ports) =
    let few = they_are_few (label + 1) ports in
    let one = few_with label port (ranges_from (label + 1) ports) in
    omega (arith, few, one)

-- ---- the ranges of all labels

pub they_tell : (ports : List (Option ℕ)) → TellsPorts ports (ranges_of ports)
they_tell ports = record {
  filled = All-weaker (IsOf 0 ports) (λ (r : LabelRange). r.from ≤ r.to) (λ r h. h.filled) (ranges_of ports) (all_of 0 ports);
  agrees = All-weaker (IsOf 0 ports) (λ (r : LabelRange). (label : ℕ) → IsInRange label r → port_to ports label ≡ Some r.port)
      (λ r h label i. h.agrees label (omega (arith, i.0), omega (arith, i.1))) (ranges_of ports) (all_of 0 ports);
  covered = λ label port e. let same : 0 + label ≡ label = omega arith in subst (λ (x : ℕ). Holds x (ranges_of ports)) same (all_held 0 ports label port e);
}

apart_two : (ports : List (Option ℕ)) (r other : LabelRange) → IsOf 0 ports r → IsOf 0 ports other → EndsBefore r other → IsApart r other
apart_two ports r other h g before =
    let filled = h.filled in
    (before, λ touch same. g.starts r.to (omega (arith, touch)) (h.agrees r.to (omega (arith, filled), omega arith) ∙ ap Some same))

pub they_are_apart : (ports : List (Option ℕ)) → AreRangesApart (ranges_of ports)
they_are_apart ports = λ i j d before inside.
    let set = ranges_of ports in
    apart_two ports (get_or set i d) (get_or set j d) (all_of 0 ports i d (omega (arith, before, inside))) (all_of 0 ports j d inside) (all_pairs 0 ports i j d before inside)
