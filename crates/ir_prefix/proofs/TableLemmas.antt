-- A row's forwarding table.
use Rattle.std.proofs.Common.{◌≡◌, ◌≢◌, ℕ, zero, suc, ◌==◌, ◌+◌, ◌-◌, ◌%◌, ◌^◌, ◌<◌, ◌≤◌, List, length, get_or, map, nat_lt, Bool, true, false, refl, ap, sym, ◌∙◌, subst, inl, inr, arith, Option, Some, None}
use Rattle.std.proofs.lemmas.Bool.{cases_lt}
use Rattle.std.proofs.lemmas.Grind.{common_steps}
use Rattle.std.proofs.lemmas.List.{get_or-map, get_or_default, length-map}
use Rattle.std.proofs.lemmas.List.Elements.{All-map}
use Rattle.std.proofs.lemmas.List.FromFn.{get_or-map-range_with_len, length-map-range_with_len}
use Rattle.std.specs.List.{AllAdjacentBelow, Any, Contains, range_with_len}
use Rattle.std.specs.Option.{unwrap_or}
use Rattle.ir_model.specs.Compiled.{port_to, IsDestinations}
use Rattle.ir_prefix.specs.Longest.{Forwards, IsFewestPrefixes, IsLongestFirst, AreLeast}
use Rattle.ir_prefix.specs.Forwarding.{SendsBy, IsForwardingTable, IsFewestLines, IsWellFormed, StandsBefore, AreLongestFirst, KeepsMatches}
use Rattle.ir_prefix.specs.Extended.{prefix_port, line_of, prefix_of, IsUnused, extended_port}
use Rattle.ir_prefix.specs.declared.cover.Prefix.{Prefix}
use Rattle.ir_prefix.specs.declared.line.TableLine.{TableLine}
use Rattle.ir_prefix.proofs.Upper.{port_inside}
use Rattle.ir_prefix.proofs.Tallies.{hit, tally, tally-le-length, tally_three, tally_some}
use Rattle.ir_prefix.proofs.LineLemmas.{no_prefix, line_match, match_line, prefix_match, match_prefix, each_before, stands_once, keeps_matches, no_bits_past}

pub port_of_some : (u p : ℕ) → p ≢ u → prefix_port u p ≡ Some p
port_of_some u p ne = grind (arith, common_steps, ne)

pub port_of_same : (u : ℕ) → prefix_port u u ≡ None
port_of_same u = grind (arith, common_steps)

read_back : (u : ℕ) (o : Option ℕ) → (o ≢ Some u) → prefix_port u (unwrap_or o u) ≡ o
read_back u None ne = port_of_same u
read_back u (Some p) ne = port_of_some u p (λ e. ne (ap (λ (k : ℕ). Some k) e))

pub extended_label : (n u : ℕ) (ports : List (Option ℕ)) (x : ℕ) → x < n → extended_port n u ports x ≡ port_to ports x
extended_label n u ports x lt = grind (arith, common_steps, lt)

pub extended_beyond : (n u : ℕ) (ports : List (Option ℕ)) (x : ℕ) → n ≤ x → extended_port n u ports x ≡ Some (unwrap_or (port_to ports (n - 1)) u)
extended_beyond n u ports x le = grind (arith, common_steps, le)

module _ (n u bits : ℕ) (ports row : List (Option ℕ)) (is : row ≡ map (extended_port n u ports) (range_with_len 0 (2 ^ bits))) where
  pub extended_length : length row ≡ 2 ^ bits
  extended_length = ap (λ (l : List (Option ℕ)). length l) is ∙ length-map-range_with_len (extended_port n u ports) 0 (2 ^ bits)

  pub extended_at : (x : ℕ) → x < 2 ^ bits → port_to row x ≡ extended_port n u ports x
  extended_at x lt = let e : 0 + x ≡ x = omega arith in ap (λ (l : List (Option ℕ)). port_to l x) is ∙ get_or-map-range_with_len (extended_port n u ports) 0 (2 ^ bits) x x None lt e

module _ (n own bits u : ℕ) (ports row : List (Option ℕ)) (dest : IsDestinations n own ports) (unused : IsUnused ports u) (enough : n ≤ 2 ^ bits)
    (is : row ≡ map (extended_port n u ports) (range_with_len 0 (2 ^ bits))) where
  pub row_length : length row ≡ 2 ^ bits
  row_length = extended_length n u bits ports row is

  row_at : (x : ℕ) → x < 2 ^ bits → port_to row x ≡ extended_port n u ports x
  row_at = extended_at n u bits ports row is

  row_label : (d p : ℕ) → port_to ports d ≡ Some p → port_to row d ≡ Some p
  row_label d p o =
      let l = port_inside ports d p o in
      let e = dest.every in
      row_at d (omega arith) ∙ extended_label n u ports d (omega arith) ∙ o

  row_beyond : (x : ℕ) → n ≤ x → x < 2 ^ bits → port_to row x ≡ Some (unwrap_or (port_to ports (n - 1)) u)
  row_beyond x le lt = row_at x lt ∙ extended_beyond n u ports x le

  module _ (set : List Prefix) (fw : Forwards bits row set) where
    sends : (x c : ℕ) (o : Option ℕ) → port_to row x ≡ Some c → prefix_port u c ≡ o → SendsBy bits (map (line_of u) set) x o
    sends x c o at e = record {
      covered = let w = fw.covered x c at in (line_of u w.0, line_match bits u set x w.0 w.1);
      agrees = λ m match.
          let w = match_line bits u set x m match in
          ap (λ (l : TableLine). l.port) w.2 ∙ ap (prefix_port u) (fw.agrees x c w.0 at w.1) ∙ e;
    }

    pub lines_forward : IsForwardingTable n bits ports (map (line_of u) set)
    lines_forward = record {
      within = All-map (λ (m : TableLine). (m.length ≤ bits) × (m.value < 2 ^ bits)) (line_of u) set fw.within;
      meaning = λ d p o. sends d p (Some p) (row_label d p o) (port_of_some u p (λ e. unused d (o ∙ ap (λ (k : ℕ). Some k) e)));
      beyond = λ x le lt. sends x (unwrap_or (port_to ports (n - 1)) u) (port_to ports (n - 1)) (row_beyond x le lt) (read_back u (port_to ports (n - 1)) (unused (n - 1)));
    }

  module _ (other : List TableLine) (fw : IsForwardingTable n bits ports other) where
    wanted : (x c : ℕ) → port_to row x ≡ Some c → (o : Option ℕ) × SendsBy bits other x o × (c ≡ unwrap_or o u)
    wanted x c at =
        let l = port_inside row x c at in
        let e = row_length in
        let lt : x < 2 ^ bits = omega arith in
        elim (cases_lt x n) [
          | inl label ↦ (Some c, fw.meaning x c (sym (extended_label n u ports x label) ∙ sym (row_at x lt) ∙ at), refl)
          | inr le ↦ (port_to ports (n - 1), fw.beyond x le lt, cc (sym at ∙ row_beyond x le lt))
        ]

    other_forwards : Forwards bits row (map (prefix_of u) other)
    other_forwards = record {
      within = All-map (λ (m : Prefix). (m.length ≤ bits) × (m.value < 2 ^ bits)) (prefix_of u) other fw.within;
      covered = λ x c at.
          let w = wanted x c at in
          let m = w.1.covered in
          (prefix_of u m.0, prefix_match bits u other x m.0 m.1);
      agrees = λ x c p at longest.
          let w = wanted x c at in
          let m = match_prefix bits u other x p longest in
          ap (λ (q : Prefix). q.port) m.2 ∙ ap (λ (o : Option ℕ). unwrap_or o u) (w.1.agrees m.0 m.1) ∙ sym w.2;
    }

    pub not_fewer : (count : ℕ) → IsFewestPrefixes bits row count → count ≤ length other
    not_fewer count fewest =
        let h = fewest (map (prefix_of u) other) other_forwards in
        let e = length-map other (prefix_of u) in
        omega arith

  pub lines_are_fewest : (set : List Prefix) → IsFewestPrefixes bits row (length set) → IsFewestLines n bits ports (length (map (line_of u) set))
  lines_are_fewest set fewest = λ other fw.
      let e = length-map set (line_of u) in
      let h = not_fewer other fw (length set) fewest in
      omega arith

pub lines_adjoin : (u : ℕ) (set : List Prefix) → IsLongestFirst set → AllAdjacentBelow StandsBefore (map (line_of u) set) (length (map (line_of u) set))
lines_adjoin u set order = λ k d inside.
    let e = length-map set (line_of u) in
    let a = get_or-map (line_of u) set k no_prefix d (omega arith) in
    let b = get_or-map (line_of u) set (k + 1) no_prefix d (omega arith) in
    let v = ap (λ (m : TableLine). m.value) a in
    let w = ap (λ (m : TableLine). m.value) b in
    let s = ap (λ (m : TableLine). m.length) a in
    let t = ap (λ (m : TableLine). m.length) b in
    elim (order k no_prefix (omega arith)) [ inl l ↦ inl (omega arith) | inr l ↦ inr (s ∙ l.0 ∙ sym t, omega (arith, l.1)) ]

pub lines_in_order : (u : ℕ) (set : List Prefix) → IsLongestFirst set → AreLongestFirst (map (line_of u) set)
lines_in_order u set order = each_before (map (line_of u) set) (lines_adjoin u set order)

pub lines_keep_matches : (u : ℕ) (set : List Prefix) → IsLongestFirst set → (bits : ℕ) → KeepsMatches bits (map (line_of u) set)
lines_keep_matches u set order bits = keeps_matches (map (line_of u) set) (lines_adjoin u set order) bits

pub lines_are_well : (bits u : ℕ) (set : List Prefix) → IsLongestFirst set → AreLeast bits set → IsWellFormed bits (map (line_of u) set)
lines_are_well bits u set order least = record {
  once = stands_once (map (line_of u) set) (lines_adjoin u set order);
  bits_past = All-map (λ (m : TableLine). m.value % 2 ^ (bits - m.length) ≡ 0) (line_of u) set (λ k d l. no_bits_past bits (get_or set k d) (least k d l));
}

-- a list that names each of so many ports has as many members
abbrev below : ℕ → Option ℕ → Bool
below k None = false
below k (Some p) = nat_lt p k

abbrev is_port : ℕ → Option ℕ → Bool
is_port k None = false
is_port k (Some p) = p == k

hits_of_two : (a b d : Bool) → (a ≡ true → d ≡ true) → (b ≡ true → d ≡ true) → (a ≡ true → b ≡ true → ⊥) → hit a + hit b + 0 ≤ hit d
hits_of_two true true d ad bd ab = absurd (ab refl refl)
hits_of_two true false d ad bd ab = let e = ap hit (ad refl) in omega arith
hits_of_two false true d ad bd ab = let e = ap hit (bd refl) in omega arith
hits_of_two false false d ad bd ab = omega arith

one_more_port : (k : ℕ) (o : Option ℕ) → hit (below k o) + hit (is_port k o) + hit false ≤ hit (below (suc k) o)
one_more_port k None = omega arith
one_more_port k (Some p) =
    hits_of_two (nat_lt p k) (p == k) (nat_lt p (suc k))
    (λ e. grind (arith, common_steps, e)) (λ e. grind (arith, common_steps, e)) (λ e f. grind (arith, common_steps, e, f))

same_port : (k : ℕ) → is_port k (Some k) ≡ true
same_port k = grind (arith, common_steps)

ports_below : (ports : List (Option ℕ)) (k : ℕ) → ((j : ℕ) → j < k → Any (λ (o : Option ℕ). o ≡ Some j) ports) → k ≤ tally (below k) ports
ports_below ports zero all = omega arith
ports_below ports (suc k) all =
    let h = ports_below ports k (λ j l. all j (omega arith)) in
    let w = all k (omega arith) in
    let c : Contains ports (Some k) = subst (λ (o : Option ℕ). Contains ports o) w.4 (w.0, w.2, w.3) in
    let t = tally_some (is_port k) ports (Some k) c (same_port k) in
    let s = tally_three (below k) (is_port k) (λ (o : Option ℕ). false) (below (suc k)) (one_more_port k) ports in
    omega arith

pub some_port_is_unused : (ports : List (Option ℕ)) (k : ℕ) → length ports < k → ((j : ℕ) → j < k → Any (λ (o : Option ℕ). o ≡ Some j) ports) → ⊥
some_port_is_unused ports k few all =
    let h = ports_below ports k all in
    let l = tally-le-length (below k) ports in
    omega arith

pub not_named : (ports : List (Option ℕ)) (p : ℕ) → (Any (λ (o : Option ℕ). o ≡ Some p) ports → ⊥) → IsUnused ports p
not_named ports p none = λ d e.
    let l = port_inside ports d p e in
    none (d, Some p, l, get_or_default ports d (Some p) None l ∙ e, refl)
