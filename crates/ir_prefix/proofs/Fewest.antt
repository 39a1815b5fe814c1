-- No list of ranges that gives the ports is shorter.
use Rattle.std.proofs.Common.{◌≡◌, ◌≢◌, ℕ, ◌-◌, ◌<◌, ◌≤◌, List, length, get_or, map, Option, Some, ap, sym, ◌∙◌, subst, inl, inr, arith}
use Rattle.std.specs.List.{All, AllPairs, Contains}
use Rattle.std.proofs.lemmas.Bool.{cases_lt}
use Rattle.std.proofs.lemmas.Bool.Decides.{Decides-eqb}
use Rattle.std.proofs.lemmas.Cmp.{nat_eq_equiv}
use Rattle.std.proofs.lemmas.List.{get_or-map, length-map}
use Rattle.std.proofs.lemmas.List.Elements.{All-contains}
use Rattle.std.proofs.lemmas.Map.Made.{IsDistinct-from_AllPairs, is_member-Decides, length-le_from_is_member}
use Rattle.ir_model.specs.Compiled.{port_to}
use Rattle.ir_prefix.specs.declared.ranges.LabelRange.{LabelRange}
use Rattle.ir_prefix.specs.Ranges.{range, ranges_of, IsInRange, TellsPorts, IsFewestRanges}
use Rattle.ir_prefix.proofs.RangeLemmas.{IsOf, all_of, all_pairs}

-- where ranges begin
abbrev pub firsts : List LabelRange → List ℕ
firsts set = map (λ (r : LabelRange). r.from) set

first_at : (set : List LabelRange) (k : ℕ) (r : LabelRange) (d : ℕ) → k < length set → get_or (firsts set) k d ≡ (get_or set k r).from
first_at set k r d inside = get_or-map (λ (r : LabelRange). r.from) set k r d inside

firsts_long : (set : List LabelRange) → length (firsts set) ≡ length set
firsts_long set = length-map set (λ (r : LabelRange). r.from)

module _ (ports : List (Option ℕ)) (set : List LabelRange) (tells : TellsPorts ports set) where
  -- where a range begins whose label before has another port, one of any that give the ports does
  begins : (r m : LabelRange) → IsOf 0 ports r → IsInRange r.from m → ((label : ℕ) → IsInRange label m → port_to ports label ≡ Some m.port) → m.from ≡ r.from
  begins r m h i agrees = let filled = h.filled in elim (cases_lt m.from r.from) [
    | inl before ↦ absurd (h.starts (r.from - 1) (omega (arith, before))
        (agrees (r.from - 1) (omega (arith, before), omega (arith, i.1)) ∙ sym (agrees r.from i) ∙ h.agrees r.from (omega arith, omega (arith, filled))))
    | inr from ↦ omega (arith, from, i.0)
  ]

  begins_there : (r : LabelRange) → IsOf 0 ports r → Contains (firsts set) r.from
  begins_there r h =
      let filled = h.filled in
      let found = tells.covered r.from r.port (h.agrees r.from (omega arith, omega (arith, filled))) in
      let k = found.0 in
      let m = found.1 in
      let agrees = subst (λ (o : LabelRange). (label : ℕ) → IsInRange label o → port_to ports label ≡ Some o.port) found.3 (tells.agrees k m found.2) in
      let long = firsts_long set in
      let inside = found.2 in
      (k, omega (arith, long, inside), first_at set k m r.from found.2 ∙ ap (λ (o : LabelRange). o.from) found.3 ∙ begins r m h found.4 agrees)

  begin_there : All (λ (x : ℕ). Contains (firsts set) x) (firsts (ranges_of ports))
  begin_there = λ k d inside.
      let few = ranges_of ports in
      let long = firsts_long few in
      let none = range 0 0 0 in
      let short : k < length few = omega (arith, long, inside) in
      subst (λ (x : ℕ). Contains (firsts set) x) (sym (first_at few k none d short)) (begins_there (get_or few k none) (all_of 0 ports k none short))

  differ : AllPairs (λ (x y : ℕ). x ≢ y) (firsts (ranges_of ports))
  differ = λ i j d before inside.
      let few = ranges_of ports in
      let long = firsts_long few in
      let none = range 0 0 0 in
      let short : j < length few = omega (arith, long, inside) in
      let shorter : i < length few = omega (arith, before, short) in
      let filled = (all_of 0 ports i none shorter).filled in
      let ends = all_pairs 0 ports i j none before short in
      let a = first_at few i none d shorter in
      let b = first_at few j none d short in
      λ same. absurd (omega (arith, filled, ends, a, b, same))

  pub fewest : length (ranges_of ports) ≤ length set
  fewest =
      let few = ranges_of ports in
      let a = firsts_long few in
      let b = firsts_long set in
      let le = length-le_from_is_member nat_eq_equiv (firsts few) (firsts set) (IsDistinct-from_AllPairs Decides-eqb (firsts few) differ)
      (λ q is. (is_member-Decides Decides-eqb (firsts set) q).1 (All-contains (λ (x : ℕ). Contains (firsts set) x) (firsts few) q begin_there ((is_member-Decides Decides-eqb (firsts few) q).0 is))) in
      omega (arith, a, b, le)

pub they_are_fewest : (ports : List (Option ℕ)) → IsFewestRanges ports (length (ranges_of ports))
they_are_fewest ports = λ set tells. fewest ports set tells
