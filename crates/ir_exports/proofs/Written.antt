-- Pieces of a text, and what loops over intervals have written.
use Rattle.std.proofs.Common.{◌≡◌, ℕ, ◌+◌, ◌<◌, ◌≤◌, ⊎_elim, Ok, Err, Bool, true, false, List, [], ◌∷◌, ◌++◌, length, filter, take, get_or, flat_map, refl, sym, ap, ◌∙◌, arith, append_assoc}
use Rattle.std.specs.Prelude.{if◌then◌else◌, nat_lt, is_ok, OnOk}
use Rattle.std.specs.declared.result.Result.{Result}
use Rattle.std.proofs.lemmas.List.{append-nil, length-append, take_all, take-append-le, take_more, flat_map_more}
use Rattle.std.proofs.lemmas.List.Elements.{filter_more}
use Rattle.std.proofs.lemmas.Grind.{flat_map-append}
use Rattle.std.proofs.lemmas.Bool.{cases_lt, lt-ltb, le-ltb}
use Rattle.ir_model.specs.Interval.{PortInterval}
use Rattle.ir_show.specs.WalkText.{no_interval}

-- two pieces that are written one after the other
pub followed : (t0 a b t1 t2 : List ℕ) → t1 ≡ t0 ++ a → t2 ≡ t1 ++ b → t2 ≡ t0 ++ (a ++ b)
followed t0 a b t1 t2 first second = second ∙ ap (λ (t : List ℕ). t ++ b) first ∙ append_assoc t0 a b

-- a piece of two or three is these
pub two : (x a b : List ℕ) → x ++ (a ++ b) ≡ x ++ a ++ b
two x a b = sym (append_assoc x a b)

pub three : (x a b c : List ℕ) → x ++ (a ++ b ++ c) ≡ x ++ a ++ b ++ c
three x a b c = two x (a ++ b) c ∙ ap (λ (t : List ℕ). t ++ c) (two x a b)

-- pieces that are written one after the other, after those before
pub six : (t0 t1 t2 t3 t4 t5 a b c d e f : List ℕ) → t1 ≡ t0 ++ a → t2 ≡ t1 ++ b → t3 ≡ t2 ++ c → t4 ≡ t3 ++ d → t5 ≡ t4 ++ e → t5 ++ f ≡ t0 ++ (a ++ b ++ c ++ d ++ e ++ f)
six t0 t1 t2 t3 t4 t5 a b c d e f is_a is_b is_c is_d is_e =
    let two = followed t0 a b t1 t2 is_a is_b in
    let four = followed t0 (a ++ b ++ c) d t3 t4 (followed t0 (a ++ b) c t2 t3 two is_c) is_d in
    followed t0 (a ++ b ++ c ++ d ++ e) f t5 (t5 ++ f) (followed t0 (a ++ b ++ c ++ d) e t4 t5 four is_e) refl

pub seven : (t0 t1 t2 t3 t4 t5 t6 a b c d e f g : List ℕ) → t1 ≡ t0 ++ a → t2 ≡ t1 ++ b → t3 ≡ t2 ++ c → t4 ≡ t3 ++ d → t5 ≡ t4 ++ e → t6 ≡ t5 ++ f
    → t6 ++ g ≡ t0 ++ (a ++ b ++ c ++ d ++ e ++ f ++ g)
seven t0 t1 t2 t3 t4 t5 t6 a b c d e f g is_a is_b is_c is_d is_e is_f =
    followed t0 (a ++ b ++ c ++ d ++ e ++ f) g t6 (t6 ++ g) (is_f ∙ six t0 t1 t2 t3 t4 t5 a b c d e f is_a is_b is_c is_d is_e) refl

-- a piece that the last call writes, if it can
pub ended : {T E : Type 0} (r : Result T E) (t0 t1 piece whole : List ℕ) → t1 ≡ (if is_ok r then t0 ++ piece else t0) → t0 ++ piece ≡ whole → OnOk r (t1 ≡ whole)
ended (Ok v) t0 t1 piece whole written is = written ∙ is
ended (Err y) t0 t1 piece whole written is = tt

-- one more interval of a row
pub intervals_more : (line : PortInterval → List ℕ) (ms : List PortInterval) (i : ℕ) → i < length ms
    → (old : List ℕ) → (old ++ flat_map line (take i ms)) ++ line (get_or ms i no_interval) ≡ old ++ flat_map line (take (i + 1) ms)
intervals_more line ms i h old =
    flat_map_more line old (take i ms) (get_or ms i no_interval) ∙ ap (λ (xs : List PortInterval). old ++ flat_map line xs) (sym (take_more ms i no_interval h))

-- the first k of a list with one more: it is one of them where they are fewer
take_last : (k : ℕ) (fs : List PortInterval) (m : PortInterval) → take k (fs ++ m ∷ []) ≡ take k fs ++ (if nat_lt (length fs) k then m ∷ [] else [])
take_last k fs m =
    ⊎_elim
    (λ (few : length fs < k). take_all k (fs ++ m ∷ []) (omega (arith, few, length-append fs (m ∷ [])))
    ∙ ap (λ (t : List PortInterval). t ++ m ∷ []) (sym (take_all k fs (omega (arith, few))))
    ∙ ap (λ (b : Bool). take k fs ++ (if b then m ∷ [] else [])) (sym (lt-ltb (length fs) k few)))
    (λ (many : k ≤ length fs). take-append-le k fs (m ∷ []) many ∙ sym (append-nil (take k fs))
    ∙ ap (λ (b : Bool). take k fs ++ (if b then m ∷ [] else [])) (sym (le-ltb (length fs) k many)))
    (cases_lt (length fs) k)

module _ (line : PortInterval → List ℕ) (k : ℕ) (test : PortInterval → Bool) (ms : List PortInterval) (i : ℕ) (i_in : i < length ms) where
  -- one that passes is written, if fewer than k were
  pub first_more : (old : List ℕ) (seen : ℕ) → seen ≡ length (filter test (take i ms)) → test (get_or ms i no_interval) ≡ true
      → (old ++ flat_map line (take k (filter test (take i ms)))) ++ (if nat_lt seen k then line (get_or ms i no_interval) else []) ≡ old ++ flat_map line (take k (filter test (take (i + 1) ms)))
  first_more old seen e passes_test =
      let m = get_or ms i no_interval in
      let fs = filter test (take i ms) in
      let more : filter test (take (i + 1) ms) ≡ fs ++ m ∷ [] = filter_more test ms i no_interval i_in ∙ rw passes_test refl in
      append_assoc old (flat_map line (take k fs)) (if nat_lt seen k then line m else [])
      ∙ ap (λ (t : List ℕ). old ++ t)
      (ap (λ (n : ℕ). flat_map line (take k fs) ++ (if nat_lt n k then line m else [])) e
      ∙ ap (λ (t : List ℕ). flat_map line (take k fs) ++ t) (one m (nat_lt (length fs) k))
      ∙ sym (flat_map-append line (take k fs) (if nat_lt (length fs) k then m ∷ [] else []))
      ∙ ap (flat_map line) (sym (take_last k fs m) ∙ ap (take k) (sym more)))
    where
      one : (m : PortInterval) (b : Bool) → (if b then line m else []) ≡ flat_map line (if b then m ∷ [] else [])
      one m true = sym (append-nil (line m))
      one m false = refl

  pub seen_more : (seen : ℕ) → seen ≡ length (filter test (take i ms)) → test (get_or ms i no_interval) ≡ true → seen + 1 ≡ length (filter test (take (i + 1) ms))
  seen_more seen e passes_test =
      let m = get_or ms i no_interval in
      let fs = filter test (take i ms) in
      let more : filter test (take (i + 1) ms) ≡ fs ++ m ∷ [] = filter_more test ms i no_interval i_in ∙ rw passes_test refl in
      let long : length (filter test (take (i + 1) ms)) ≡ length fs + 1 = ap length more ∙ length-append fs (m ∷ []) in
      omega (arith, e, long)

  -- one that does not pass is not
  pub seen_same : test (get_or ms i no_interval) ≡ false → filter test (take (i + 1) ms) ≡ filter test (take i ms)
  seen_same fails_test = filter_more test ms i no_interval i_in ∙ rw fails_test (append-nil (filter test (take i ms)))
