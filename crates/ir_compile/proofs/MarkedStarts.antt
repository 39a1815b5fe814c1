-- The words of the starts, one more label at a time.
use Rattle.std.proofs.Common.{◌≡◌, ◌≢◌, ℕ, ◌+◌, ◌*◌, ◌/◌, ◌%◌, ◌<◌, List, [], ◌∷◌, ◌++◌, Option, Some, None, false, length, map, set, slice_index, is_some, refl, ap, sym, ◌∙◌, subst, arith}
use Rattle.std.proofs.lemmas.Bool.{both_ways}
use Rattle.std.proofs.lemmas.List.{map_push, length-map, length-set, get_or-map, get_or-set_same, get_or-set_other}
use Rattle.std.specs.Option.{unwrap_or}
use Rattle.std.specs.Prelude.{IsSome}
use Rattle.ir_compile.specs.Plain.{StandFor}
use Rattle.ir_lookup.specs.Words.{start_of, starts_of}
use Rattle.ir_model.specs.Row.{Start}
use Rattle.ir_model.specs.Compiled.{port_to, predecessor, label_before, IsChange, IsDestinations}
use Rattle.ir_model.proofs.Fewest.{predecessor_is_label, predecessor_differs}
use Rattle.ir_model.proofs.Round.{shown, shown_own, shown_other, before_suc, before_differs}
use Rattle.ir_model.proofs.Partial.{IsPartial, partial_pushed}

module _ (n own : ℕ) (plain : List ℕ) (ports : List (Option ℕ)) (stand : StandFor n own plain ports) where
  -- the port changes where the number does
  pub change_here : (d : ℕ) → d < n → d ≢ own → slice_index plain d ≢ slice_index plain (predecessor n own d) → IsChange n own ports d
  change_here d label other differs = (
    label,
    other,
    λ same.
        let two : 1 < n = omega (arith, label, other, stand.destinations.has_own) in
        let p = predecessor n own d in
        let there = stand.each p (predecessor_is_label n own d stand.destinations.has_own label) (predecessor_differs n own d stand.destinations.has_own label two) in
        differs (some_same (sym (stand.each d label other) ∙ same ∙ there)),
  )
    where
      some_same : {a b : ℕ} → Some a ≡ Some b → a ≡ b
      some_same {a} {b} e = ap (λ (o : Option ℕ). unwrap_or o a) e

  pub no_change_here : (d : ℕ) → d < n → d ≢ own → slice_index plain d ≡ slice_index plain (predecessor n own d) → IsChange n own ports d → ⊥
  no_change_here d label other same change =
      let two : 1 < n = omega (arith, label, other, stand.destinations.has_own) in
      let p = predecessor n own d in
      let there = stand.each p (predecessor_is_label n own d stand.destinations.has_own label) (predecessor_differs n own d stand.destinations.has_own label two) in
      change.2 (stand.each d label other ∙ ap Some same ∙ sym there)

  pub marked_kept : (d : ℕ) (xs ys : List ℕ) (p word : ℕ) → p ≡ slice_index plain d → IsPartial n own ports d (starts_of xs) → IsChange n own ports d
      → start_of word ≡ (let s : Start = record { label = d; port = p } in s) → ys ≡ xs ++ word ∷ [] → IsPartial n own ports (d + 1) (starts_of ys)
  marked_kept d xs ys p word is part change says more =
      let pushed : starts_of ys ≡ starts_of xs ++ (let s : Start = record { label = d; port = p } in s) ∷ [] =
      ap starts_of more ∙ map_push start_of xs word ∙ ap (λ (s : Start). starts_of xs ++ s ∷ []) says in
      subst (IsPartial n own ports (d + 1)) (sym pushed)
      (partial_pushed n own ports d (starts_of xs) part change p (stand.each d change.0 change.1 ∙ ap Some (sym is)))

-- the predecessor of the next label
pub next_last : (n own d : ℕ) → d ≢ own → predecessor n own (d + 1) ≡ d
next_last n own d other =
    let back : label_before n (d + 1) + 1 ≡ d + 1 = before_suc n (d + 1) (omega arith) in
    let is : label_before n (d + 1) ≡ d = omega (arith, back) in
    shown_other n own (label_before n (d + 1)) (λ e. other (sym is ∙ e)) ∙ is

pub next_over : (n own : ℕ) → own + 1 < n → predecessor n own (own + 1) ≡ predecessor n own own
next_over n own label =
    let back : label_before n (own + 1) + 1 ≡ own + 1 = before_suc n (own + 1) (omega arith) in
    let is : label_before n (own + 1) ≡ own = omega (arith, back) in
    ap (shown n own) is ∙ shown_own n own ∙ sym (shown_other n own (label_before n own) (before_differs n own (omega (arith, label)) (omega (arith, label))))

some_of : (x : Option ℕ) → IsSome x → x ≡ Some (unwrap_or x 0)
some_of None is = absurd (both_ways false refl is)
some_of (Some q) is = refl

-- destinations are represented by their ports
pub plain_stands : (n own : ℕ) (plain : List ℕ) (ports : List (Option ℕ)) → IsDestinations n own ports → plain ≡ map (λ port. unwrap_or port 0) ports → StandFor n own plain ports
plain_stands n own plain ports are is = record {
  every = ap length is ∙ length-map ports (λ port. unwrap_or port 0) ∙ are.every;
  destinations = are;
  each = λ d label other.
      some_of (port_to ports d) (are.some d label other)
      ∙ ap Some (sym (ap (λ (xs : List ℕ). slice_index xs d) is ∙ get_or-map (λ port. unwrap_or port 0) ports d None 0 (omega (arith, are.every, label))));
}

-- some destinations are represented by any numbers
pub some_stand : (n own : ℕ) (plain : List ℕ) → own < n → length plain ≡ n → (ports : List (Option ℕ)) × StandFor n own plain ports
some_stand n own plain has_own every =
    let all : List (Option ℕ) = map Some plain in
    let len : length all ≡ length plain = length-map plain Some in
    let at : (d : ℕ) → d < n → d ≢ own → port_to (set all own None) d ≡ Some (slice_index plain d) =
    λ d label other. get_or-set_other all own d None None other ∙ get_or-map Some plain d 0 None (omega (arith, every, label)) in (
      set all own None,
      record {
        every = every;
        destinations = record {
          every = length-set all own None ∙ len ∙ every;
          has_own = has_own;
          none = get_or-set_same all own None None (omega (arith, has_own, every, len));
          some = λ d label other. ap is_some (at d label other);
        };
        each = at;
      },
    )
