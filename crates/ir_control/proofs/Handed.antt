-- Ends of channels that were just handed out.
use Rattle.std.specs.Prelude.{◌≡◌, ℕ, ◌+◌, ◌<◌, Bool, true, false, eqb, List, [], ◌∷◌, ◌++◌, Option, Some, None, length, take, slice_get, slice_set, slice_index}
use Rattle.std.proofs.Common.{refl, arith, sym, ap, ◌∙◌, subst, inl, inr, get_or, length-set}
use Rattle.std.proofs.lemmas.Bool.{eqb-true, eqb-false}
use Rattle.std.proofs.lemmas.Option.{same_Some, none-some, slice_get_within, slice_get_read}
use Rattle.std.proofs.lemmas.List.{length_push, take_more}
use Rattle.ir_core.proofs.Lists.{get_push, get_push_here, get_push_before, get_set_same, get_set_other}
use Rattle.ir_links.specs.Ends.{Channel, Sender, Taker}
use Rattle.ir_control.specs.Fresh.{AreFreshOuts, AreFreshIns, AreOutsAt, AreInsAt}

take_longer : {X : Type 0} (xs : List X) (k : ℕ) (x : X) → k < length xs → x ≡ get_or xs k x → take (k + 1) xs ≡ take k xs ++ x ∷ []
take_longer xs k x lt read = take_more xs k x lt ∙ ap (λ y. take k xs ++ y ∷ []) (sym read)

module _ {P T : Type 0} where
  outs_push : (lines : List (Channel P)) (slots : List (Option (Sender P T))) (channel : Channel P) (s : Sender P T) → AreFreshOuts lines slots → s.channel ≡ channel → s.sent ≡ []
      → AreFreshOuts (lines ++ channel ∷ []) (slots ++ Some s ∷ [])
  outs_push lines slots channel s fresh is none = record {
    count = (let a = length_push lines channel in let b = length_push slots (Some s) in let n = fresh.count in omega (arith, a, b, n));
    each = λ k x got. elim (get_push slots k (Some s) (Some x) got) [
      | inl e ↦
          (let same : s ≡ x = same_Some s x e.1 in
          (ap (slice_get (lines ++ channel ∷ [])) (e.0 ∙ fresh.count) ∙ get_push_here lines channel ∙ ap Some (sym is ∙ ap (λ (y : Sender P T). y.channel) same), ap (λ (y : Sender P T). y.sent) (sym same) ∙ none))
      | inr e ↦
          (let was = fresh.each k x e.1 in
          (get_push_before lines k channel (slice_get_within lines k x.channel was.0) ∙ was.0, was.1))
    ];
  }

  ins_push : (lines : List (Channel P)) (slots : List (Option (Taker P T))) (channel : Channel P) (t : Taker P T) → AreFreshIns lines slots → t.channel ≡ channel → t.taken ≡ []
      → AreFreshIns (lines ++ channel ∷ []) (slots ++ Some t ∷ [])
  ins_push lines slots channel t fresh is none = record {
    count = (let a = length_push lines channel in let b = length_push slots (Some t) in let n = fresh.count in omega (arith, a, b, n));
    each = λ k x got. elim (get_push slots k (Some t) (Some x) got) [
      | inl e ↦
          (let same : t ≡ x = same_Some t x e.1 in
          (ap (slice_get (lines ++ channel ∷ [])) (e.0 ∙ fresh.count) ∙ get_push_here lines channel ∙ ap Some (sym is ∙ ap (λ (y : Taker P T). y.channel) same), ap (λ (y : Taker P T). y.taken) (sym same) ∙ none))
      | inr e ↦
          (let was = fresh.each k x e.1 in
          (get_push_before lines k channel (slice_get_within lines k x.channel was.0) ∙ was.0, was.1))
    ];
  }

  pub outs_more : (lines : List (Channel P)) (k : ℕ) (channel : Channel P) (slots after : List (Option (Sender P T))) (s : Sender P T) → AreFreshOuts (take k lines) slots → k < length lines → channel ≡ get_or lines k channel
      → s ≡ record { channel = channel; sent = [] } → after ≡ slots ++ Some s ∷ [] → AreFreshOuts (take (k + 1) lines) after
  outs_more lines k channel slots after s fresh lt read is e =
      subst (λ (after : List (Option (Sender P T))). AreFreshOuts (take (k + 1) lines) after) (sym e)
      (subst (λ (ls : List (Channel P)). AreFreshOuts ls (slots ++ Some s ∷ [])) (sym (take_longer lines k channel lt read))
      (outs_push (take k lines) slots channel s fresh (ap (λ (y : Sender P T). y.channel) is) (ap (λ (y : Sender P T). y.sent) is)))

  pub ins_more : (lines : List (Channel P)) (k : ℕ) (channel : Channel P) (slots after : List (Option (Taker P T))) (t : Taker P T) → AreFreshIns (take k lines) slots → k < length lines → channel ≡ get_or lines k channel
      → t ≡ record { channel = channel; taken = [] } → after ≡ slots ++ Some t ∷ [] → AreFreshIns (take (k + 1) lines) after
  ins_more lines k channel slots after t fresh lt read is e =
      subst (λ (after : List (Option (Taker P T))). AreFreshIns (take (k + 1) lines) after) (sym e)
      (subst (λ (ls : List (Channel P)). AreFreshIns ls (slots ++ Some t ∷ [])) (sym (take_longer lines k channel lt read))
      (ins_push (take k lines) slots channel t fresh (ap (λ (y : Taker P T). y.channel) is) (ap (λ (y : Taker P T). y.taken) is)))

  pub outs_taken : (lines : List (Channel P)) (slots : List (Option (Sender P T))) (i : ℕ) (new : Option (Sender P T)) → i < length slots → new ≡ None → AreFreshOuts lines slots → AreFreshOuts lines (slice_set slots i new)
  outs_taken lines slots i new lt none fresh = record {
    count = length-set slots i new ∙ fresh.count;
    each = λ k s got. go k s got (eqb k i) refl;
  } where
    go : (k : ℕ) (s : Sender P T) → slice_get (slice_set slots i new) k ≡ Some (Some s) → (b : Bool) → eqb k i ≡ b → (slice_get lines k ≡ Some s.channel) × (s.sent ≡ [])
    go k s got true e =
        let there : slice_get (slice_set slots i new) k ≡ Some new = ap (slice_get (slice_set slots i new)) (eqb-true k i e) ∙ get_set_same slots i new lt in
        absurd (none-some s (sym none ∙ same_Some new (Some s) (sym there ∙ got)))
    go k s got false e = fresh.each k s (sym (get_set_other slots i k new (eqb-false k i e)) ∙ got)

  pub ins_taken : (lines : List (Channel P)) (slots : List (Option (Taker P T))) (i : ℕ) (new : Option (Taker P T)) → i < length slots → new ≡ None → AreFreshIns lines slots → AreFreshIns lines (slice_set slots i new)
  ins_taken lines slots i new lt none fresh = record {
    count = length-set slots i new ∙ fresh.count;
    each = λ k s got. go k s got (eqb k i) refl;
  } where
    go : (k : ℕ) (s : Taker P T) → slice_get (slice_set slots i new) k ≡ Some (Some s) → (b : Bool) → eqb k i ≡ b → (slice_get lines k ≡ Some s.channel) × (s.taken ≡ [])
    go k s got true e =
        let there : slice_get (slice_set slots i new) k ≡ Some new = ap (slice_get (slice_set slots i new)) (eqb-true k i e) ∙ get_set_same slots i new lt in
        absurd (none-some s (sym none ∙ same_Some new (Some s) (sym there ∙ got)))
    go k s got false e = fresh.each k s (sym (get_set_other slots i k new (eqb-false k i e)) ∙ got)

  module _ (lines : List (Channel P)) (slots : List (Option (Sender P T))) (i : ℕ) (x : Option (Sender P T)) (s : Sender P T) (fresh : AreFreshOuts lines slots) (lt : i < length slots) (read : x ≡ get_or slots i x) (is : Some s ≡ x) where
    pub out_there : (slice_get lines i ≡ Some s.channel) × (s.sent ≡ [])
    out_there = fresh.each i s (slice_get_read slots (length slots) i x refl lt read ∙ ap Some (sym is))

    pub outs_at_more : (first p : ℕ) (outs after : List (Sender P T)) → i ≡ first + p → AreOutsAt lines first p outs → after ≡ outs ++ s ∷ [] → AreOutsAt lines first (p + 1) after
    outs_at_more first p outs after i_is at e = subst (λ (after : List (Sender P T)). AreOutsAt lines first (p + 1) after) (sym e) (record {
      count = (let n = length_push outs s in let m = at.count in omega (arith, n, m));
      each = λ q y got. elim (get_push outs q s y got) [
        | inl h ↦
            (let place : i ≡ first + q = (let a = h.0 in let b = at.count in omega (arith, i_is, a, b)) in
            (ap (slice_get lines) (sym place) ∙ out_there.0 ∙ ap (λ (z : Sender P T). Some z.channel) h.1, ap (λ (z : Sender P T). z.sent) (sym h.1) ∙ out_there.1))
        | inr h ↦ at.each q y h.1
      ];
    })

  module _ (lines : List (Channel P)) (slots : List (Option (Taker P T))) (i : ℕ) (x : Option (Taker P T)) (t : Taker P T) (fresh : AreFreshIns lines slots) (lt : i < length slots) (read : x ≡ get_or slots i x) (is : Some t ≡ x) where
    pub in_there : (slice_get lines i ≡ Some t.channel) × (t.taken ≡ [])
    in_there = fresh.each i t (slice_get_read slots (length slots) i x refl lt read ∙ ap Some (sym is))

    pub ins_at_more : (peers : List ℕ) (first p : ℕ) (ins after : List (Taker P T)) → i ≡ slice_index peers (first + p) → AreInsAt lines peers first p ins → after ≡ ins ++ t ∷ [] → AreInsAt lines peers first (p + 1) after
    ins_at_more peers first p ins after i_is at e = subst (λ (after : List (Taker P T)). AreInsAt lines peers first (p + 1) after) (sym e) (record {
      count = (let n = length_push ins t in let m = at.count in omega (arith, n, m));
      each = λ q y got. elim (get_push ins q t y got) [
        | inl h ↦
            (let place : i ≡ slice_index peers (first + q) = i_is ∙ ap (λ k. slice_index peers (first + k)) (sym (h.0 ∙ at.count)) in
            (ap (slice_get lines) (sym place) ∙ in_there.0 ∙ ap (λ (z : Taker P T). Some z.channel) h.1, ap (λ (z : Taker P T). z.taken) (sym h.1) ∙ in_there.1))
        | inr h ↦ at.each q y h.1
      ];
    })
