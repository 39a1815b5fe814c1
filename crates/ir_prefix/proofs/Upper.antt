-- The prefixes of a trie forward each label by its port.
use Rattle.std.proofs.Common.{◌≡◌, ℕ, zero, suc, ◌+◌, ◌-◌, ◌*◌, ◌/◌, ◌^◌, ◌<◌, ◌≤◌, List, [], ◌∷◌, ◌++◌, length, get_or, Bool, true, false, refl, ap, sym, ◌∙◌, subst, inl, inr, ◌⊎◌, arith, Option, Some, None}
use Rattle.std.proofs.Math.Nat.{div-eq_of_lt, div-eq_of_eq-mul_left, lt-div-mul-add}
use Rattle.std.proofs.lemmas.Nat.{pow_pos}
use Rattle.std.proofs.lemmas.Bool.{cases_lt}
use Rattle.std.proofs.lemmas.List.{get_or_past}
use Rattle.std.proofs.lemmas.List.Elements.{Contains-append_left, Contains-append_right, Contains-append_cases, Contains-get_or, All-contains}
use Rattle.std.specs.List.{Contains}
use Rattle.ir_model.specs.Compiled.{port_to}
use Rattle.ir_prefix.specs.Joined.{is_named}
use Rattle.ir_prefix.specs.Described.{Describes, Trie, Free, Alike, Fork}
use Rattle.ir_prefix.specs.Longest.{Holds, Forwards}
use Rattle.ir_prefix.specs.Cover.{prefix_at, told_unless, cover_told, taken_unless, taken, cover_of}
use Rattle.ir_prefix.specs.declared.cover.Prefix.{Prefix}
use Rattle.ir_prefix.proofs.AmongLemmas.{among_found}
use Rattle.ir_prefix.proofs.BlockLemmas.{halves, left_inside, right_inside, agree_higher}

-- the node of the prefix is this one or lies below it
pub record IsInside (bits h i : ℕ) (m : Prefix) : Type 0 where
  pub short : m.length ≤ bits
  pub low : bits - m.length ≤ h
  pub value : m.value / 2 ^ h ≡ i

-- of the prefixes that hold x this one is longer than each other, and names the port
pub record IsSole (bits : ℕ) (set : List Prefix) (x p : ℕ) (m : Prefix) : Type 0 where
  pub member : Contains set m
  pub holds : Holds bits m x
  pub names : m.port ≡ p
  pub sole : (o : Prefix) → Contains set o → Holds bits o x → (o ≡ m) ⊎ (o.length < m.length)

-- no prefix of the set holds x
abbrev pub HoldsNot : ℕ → List Prefix → ℕ → Type 0
HoldsNot bits set x = (o : Prefix) → Contains set o → Holds bits o x → ⊥

-- the set, or without a match what is above, names the port of x
abbrev pub Meets : ℕ → List Prefix → Option ℕ → ℕ → ℕ → Type 0
Meets bits set q x p = (HoldsNot bits set x × (q ≡ Some p)) ⊎ ((m : Prefix) × IsSole bits set x p m)

pub prefix_is_inside : (bits h i p : ℕ) → h ≤ bits → IsInside bits h i (prefix_at bits h i p)
prefix_is_inside bits h i p l = record {
  short = omega arith;
  low = omega arith;
  value = div-eq_of_eq-mul_left (pow_pos h) refl;
}

pub only_one : (m o : Prefix) → Contains (m ∷ []) o → o ≡ m
only_one m o (zero, l, e) = sym e
only_one m o (suc k, l, e) = absurd (omega arith)

told_inside : (bits h i p : ℕ) (b : Bool) → h ≤ bits → (o : Prefix) → Contains (told_unless b (prefix_at bits h i p)) o → IsInside bits h i o
told_inside bits h i p true l o c = absurd (omega (arith, c.1))
told_inside bits h i p false l o c = subst (IsInside bits h i) (sym (only_one (prefix_at bits h i p) o c)) (prefix_is_inside bits h i p l)

pub left_is_inside : (bits h i : ℕ) (o : Prefix) → 0 < h → IsInside bits (h - 1) (2 * i) o → IsInside bits h i o
left_is_inside bits h i o some w = let low = w.low in record { short = w.short; low = omega arith; value = left_inside o.value h i some w.value }

pub right_is_inside : (bits h i : ℕ) (o : Prefix) → 0 < h → IsInside bits (h - 1) (2 * i + 1) o → IsInside bits h i o
right_is_inside bits h i o some w = let low = w.low in record { short = w.short; low = omega arith; value = right_inside o.value h i some w.value }

module _ (bits : ℕ) (ports : List (Option ℕ)) where
  pub cover_inside : (t : Trie) (h i : ℕ) (q : Option ℕ) → Describes ports h i t → h ≤ bits → (o : Prefix) → Contains (cover_of bits t h i q) o → IsInside bits h i o
  cover_inside Free h i q d l o c = absurd (omega (arith, c.1))
  cover_inside (Alike p) h i q d l o c = told_inside bits h i p (is_named (p ∷ []) q) l o c
  cover_inside (Fork names t r) h i q d l o c =
      let below = taken names q in
      let cl = cover_of bits t (h - 1) (2 * i) below in
      let cr = cover_of bits r (h - 1) (2 * i + 1) below in
      elim (Contains-append_cases (cover_told bits h i names q) (cl ++ cr) o c) [
        | inl here ↦ told_inside bits h i (get_or names 0 0) (is_named names q) l o here
        | inr under ↦
            elim (Contains-append_cases cl cr o under) [
              | inl e ↦ left_is_inside bits h i o d.0 (cover_inside t (h - 1) (2 * i) below d.1 (omega arith) o e)
              | inr e ↦ right_is_inside bits h i o d.0 (cover_inside r (h - 1) (2 * i + 1) below d.2 (omega arith) o e)
            ]
      ]

-- what a prefix inside a node holds is the node's
pub inside_holds : (bits h i : ℕ) (o : Prefix) (x : ℕ) → IsInside bits h i o → Holds bits o x → x / 2 ^ h ≡ i
inside_holds bits h i o x w holds = agree_higher x o.value (bits - o.length) h w.low holds ∙ w.value

-- a node's prefix, the half that x lies in, and the other half
module _ (bits h i x p f : ℕ) (l : h ≤ bits) (some : 0 < h) (here : x / 2 ^ h ≡ i) (half other all : List Prefix) (q : Option ℕ) (b : Bool)
    (low : (o : Prefix) → Contains half o → (o.length ≤ bits) × (bits - o.length ≤ h - 1)) (away : HoldsNot bits other x)
    (cases : (o : Prefix) → Contains all o → Contains (told_unless b (prefix_at bits h i f)) o ⊎ (Contains half o ⊎ Contains other o))
    (from_here : (o : Prefix) → Contains (told_unless b (prefix_at bits h i f)) o → Contains all o) (from_half : (o : Prefix) → Contains half o → Contains all o) where
  told_short : (v : Bool) (o : Prefix) → Contains (told_unless v (prefix_at bits h i f)) o → o.length ≡ bits - h
  told_short true o c = absurd (omega (arith, c.1))
  told_short false o c = ap (λ (m : Prefix). m.length) (only_one (prefix_at bits h i f) o c)

  half_is_sole : (m : Prefix) → IsSole bits half x p m → IsSole bits all x p m
  half_is_sole m w = record {
    member = from_half m w.member;
    holds = w.holds;
    names = w.names;
    sole = λ o c holds.
        elim (cases o c) [
          | inl e ↦ let s = told_short b o e in let k = low m w.member in inr (omega (arith, k.0, k.1))
          | inr u ↦ elim u [ inl e ↦ w.sole o e holds | inr e ↦ absurd (away o e holds) ]
        ];
  }

  own_is_sole : HoldsNot bits half x → f ≡ p → ((o : Prefix) → Contains all o → (o ≡ prefix_at bits h i f) ⊎ (Contains half o ⊎ Contains other o)) → Contains all (prefix_at bits h i f) → IsSole bits all x p (prefix_at bits h i f)
  own_is_sole none e others member =
      let inside = prefix_is_inside bits h i f l in
      let s : bits - (bits - h) ≡ h = omega arith in
      record {
        member = member;
        holds = subst (λ g. x / 2 ^ g ≡ (i * 2 ^ h) / 2 ^ g) (sym s) (here ∙ sym inside.value);
        names = e;
        sole = λ o c holds.
            elim (others o c) [
              | inl same ↦ inl same
              | inr u ↦ elim u [ inl v ↦ absurd (none o v holds) | inr v ↦ absurd (away o v holds) ]
            ];
      }

-- so the node meets what its half meets
pub half_meets : (bits h i x p f : ℕ) → h ≤ bits → 0 < h → x / 2 ^ h ≡ i → (half other all : List Prefix) (q : Option ℕ) (b : Bool)
    → ((o : Prefix) → Contains half o → (o.length ≤ bits) × (bits - o.length ≤ h - 1)) → HoldsNot bits other x
    → ((o : Prefix) → Contains all o → Contains (told_unless b (prefix_at bits h i f)) o ⊎ (Contains half o ⊎ Contains other o))
    → ((o : Prefix) → Contains (told_unless b (prefix_at bits h i f)) o → Contains all o) → ((o : Prefix) → Contains half o → Contains all o)
    → Meets bits half (taken_unless b q f) x p → Meets bits all q x p
half_meets bits h i x p f l some here half other all q b low away cases from_here from_half (inr w) =
    inr (w.0, half_is_sole bits h i x p f l some here half other all q b low away cases from_here from_half w.0 w.1)
half_meets bits h i x p f l some here half other all q true low away cases from_here from_half (inl w) =
    inl (λ o c holds. elim (cases o c) [ inl e ↦ omega (arith, e.1) | inr u ↦ elim u [ inl e ↦ w.0 o e holds | inr e ↦ away o e holds ] ], w.1)
half_meets bits h i x p f l some here half other all q false low away cases from_here from_half (inl w) =
    let own = prefix_at bits h i f in
    let e : f ≡ p = cc (w.1) in
    inr (
      own,
      own_is_sole bits h i x p f l some here half other all q false low away cases from_here from_half w.0 e
          (λ o c. elim (cases o c) [ inl v ↦ inl (only_one own o v) | inr u ↦ inr u ])
          (from_here own (0, omega arith, refl)),
    )

pub named_one : (p : ℕ) (q : Option ℕ) → is_named (p ∷ []) q ≡ true → q ≡ Some p
named_one p None e = absurd cc
named_one p (Some r) e = let c = among_found (p ∷ []) r e in let z : c.0 ≡ 0 = omega (arith, c.1) in ap (λ (k : ℕ). Some k) (sym c.2 ∙ ap (λ k. get_or (p ∷ []) k r) z)

one_meets : (bits h i x p : ℕ) (q : Option ℕ) (b : Bool) → is_named (p ∷ []) q ≡ b → h ≤ bits → x / 2 ^ h ≡ i → Meets bits (told_unless b (prefix_at bits h i p)) q x p
one_meets bits h i x p q true e l here = inl (λ o c holds. omega (arith, c.1), named_one p q e)
one_meets bits h i x p q false e l here =
    let inside = prefix_is_inside bits h i p l in
    let s : bits - (bits - h) ≡ h = omega arith in
    inr (
      prefix_at bits h i p,
      record {
        member = (0, omega arith, refl);
        holds = subst (λ g. x / 2 ^ g ≡ (i * 2 ^ h) / 2 ^ g) (sym s) (here ∙ sym inside.value);
        names = refl;
        sole = λ o c holds. inl (only_one (prefix_at bits h i p) o c);
      },
    )

module _ (bits : ℕ) (ports : List (Option ℕ)) where
  pub cover_meets : (t : Trie) (h i : ℕ) (q : Option ℕ) → Describes ports h i t → h ≤ bits → (x p : ℕ) → x / 2 ^ h ≡ i → port_to ports x ≡ Some p → Meets bits (cover_of bits t h i q) q x p
  cover_meets Free h i q d l x p e o = absurd (d x p e o)
  cover_meets (Alike r) h i q d l x p e o =
      subst (Meets bits (told_unless (is_named (r ∷ []) q) (prefix_at bits h i r)) q x) (sym (d.0 x p e o)) (one_meets bits h i x r q (is_named (r ∷ []) q) refl l e)
  cover_meets (Fork names t r) h i q d l x p e o =
      let below = taken names q in
      let hit = is_named names q in
      let first = get_or names 0 0 in
      let own = told_unless hit (prefix_at bits h i first) in
      let cl = cover_of bits t (h - 1) (2 * i) below in
      let cr = cover_of bits r (h - 1) (2 * i + 1) below in
      let all = own ++ (cl ++ cr) in
      let inl_low = cover_inside bits ports t (h - 1) (2 * i) below d.1 (omega arith) in
      let inr_low = cover_inside bits ports r (h - 1) (2 * i + 1) below d.2 (omega arith) in
      let from_here : (o : Prefix) → Contains own o → Contains all o = λ o c. Contains-append_left own (cl ++ cr) o c in
      let from_left : (o : Prefix) → Contains cl o → Contains all o = λ o c. Contains-append_right own (cl ++ cr) o (Contains-append_left cl cr o c) in
      let from_right : (o : Prefix) → Contains cr o → Contains all o = λ o c. Contains-append_right own (cl ++ cr) o (Contains-append_right cl cr o c) in
      elim (halves x h i d.0 e) [
        | inl at ↦
            half_meets bits h i x p first l d.0 e cl cr all q hit
            (λ m c. let w = inl_low m c in (w.short, w.low))
            (λ m c holds. let k = inside_holds bits (h - 1) (2 * i + 1) m x (inr_low m c) holds in omega arith)
            (λ m c. elim (Contains-append_cases own (cl ++ cr) m c) [ inl v ↦ inl v | inr v ↦ inr (Contains-append_cases cl cr m v) ])
            from_here from_left
            (cover_meets t (h - 1) (2 * i) below d.1 (omega arith) x p at o)
        | inr at ↦
            half_meets bits h i x p first l d.0 e cr cl all q hit
            (λ m c. let w = inr_low m c in (w.short, w.low))
            (λ m c holds. let k = inside_holds bits (h - 1) (2 * i) m x (inl_low m c) holds in omega arith)
            (λ m c. elim (Contains-append_cases own (cl ++ cr) m c) [ inl v ↦ inl v | inr v ↦ elim (Contains-append_cases cl cr m v) [ inl u ↦ inr (inr u) | inr u ↦ inr (inl u) ] ])
            from_here from_right
            (cover_meets r (h - 1) (2 * i + 1) below d.2 (omega arith) x p at o)
      ]

-- a label with a port is in the list
pub port_inside : (ports : List (Option ℕ)) (x p : ℕ) → port_to ports x ≡ Some p → x < length ports
port_inside ports x p o =
    elim (cases_lt x (length ports)) [
      | inl l ↦ l
      | inr past ↦ let e = get_or_past ports x None past in absurd (cc (e, o))
    ]

-- the prefixes of a trie forward each label by its port
pub cover_forwards : (bits : ℕ) (ports : List (Option ℕ)) (t : Trie) → length ports ≤ 2 ^ bits → Describes ports bits 0 t → Forwards bits ports (cover_of bits t bits 0 None)
cover_forwards bits ports t fits d =
    let set = cover_of bits t bits 0 None in
    let le : bits ≤ bits = omega arith in
    let meets : (x p : ℕ) → port_to ports x ≡ Some p → (m : Prefix) × IsSole bits set x p m = λ x p o.
    let lt = port_inside ports x p o in
    elim (cover_meets bits ports t bits 0 None d le x p (div-eq_of_lt (omega arith)) o) [
      | inl w ↦ absurd (cc (w.1))
      | inr w ↦ w
    ] in
    record {
      within = λ k e l.
          let o = get_or set k e in
          let w = cover_inside bits ports t bits 0 None d le o (Contains-get_or set k e l) in
          let v = w.value in
          let u : o.value < (o.value / 2 ^ bits) * 2 ^ bits + 2 ^ bits = lt-div-mul-add (pow_pos bits) in
          let z : (o.value / 2 ^ bits) * 2 ^ bits ≡ 0 = ap (λ n. n * 2 ^ bits) v ∙ omega arith in
          (w.short, omega arith);
      covered = λ x p o.
          let w = meets x p o in
          let m = w.0 in (
            m,
            record {
              member = w.1.member;
              holds = w.1.holds;
              longest = λ k e l holds.
                  let s = get_or set k e in
                  elim (w.1.sole s (Contains-get_or set k e l) holds) [
                    | inl same ↦ let n = ap (λ (y : Prefix). y.length) same in omega arith
                    | inr less ↦ omega arith
                  ];
            },
          );
      agrees = λ x p m o longest.
          let w = meets x p o in
          elim (w.1.sole m longest.member longest.holds) [
            | inl same ↦ ap (λ (y : Prefix). y.port) same ∙ w.1.names
            | inr less ↦ let k : w.0.length ≤ m.length = All-contains (λ (y : Prefix). Holds bits y x → y.length ≤ m.length) set w.0 longest.longest w.1.member w.1.holds in absurd (omega arith)
          ];
    }
