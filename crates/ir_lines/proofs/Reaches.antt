-- The lines of a tree lead a key to the last word that is at most it, and they are there.
use Rattle.std.proofs.Common.{◌≡◌, ℕ, ◌+◌, ◌*◌, ◌/◌, ◌%◌, ◌<◌, ◌≤◌, List, length, get_or, ap, sym, ◌∙◌, subst, inl, inr, arith}
use Rattle.std.proofs.lemmas.Bool.{cases_lt}
use Rattle.ir_lines.specs.Words.{groups}
use Rattle.ir_lines.specs.Looks.{IsPlaceIn, IsLed, LeadsByRoot, LeadsByTwo, LeadsByThree, label_key, table_line, root, depth_of, base_of}
use Rattle.ir_lines.proofs.Leads.{IsStep, OfRoot, OfTwo, OfThree, step_in_root, step_in_line, root_word, line_word}

-- the port is that of the last word at most the key
pub record IsReached (f : ℕ → ℕ) (key port : ℕ) : Type 0 where
  pub k : ℕ
  pub at_most : f k ≤ key
  pub next : key < f (k + 1)
  pub is : port ≡ f k % 65536

module _ (f : ℕ → ℕ) (count label : ℕ) (past : (k : ℕ) → count ≤ k → label_key label < f k) (words : List ℕ) where
  module _ (o : OfRoot f words) (few : count ≤ 16) where
    pub root_reaches : (port : ℕ) → LeadsByRoot words label port → IsReached f (label_key label) port
    root_reaches port lead =
        let every = o.every in
        let s = step_in_root words f (label_key label) lead.p (omega arith) o.first (past 16 few) lead.first in
        record {
          k = lead.p;
          at_most = s.at_most;
          next = s.next;
          is = lead.is ∙ ap (λ (x : ℕ). x % 65536) (root_word words lead.p s.inside ∙ o.first lead.p s.inside);
        }

    pub root_led : f 0 ≤ label_key label → IsLed words label
    root_led start =
        let every = o.every in
        let d = o.depth in
        let z = o.first 0 (omega arith) in
        record {
          there = omega arith;
          depth = inr (omega arith);
          bytes = λ e. absurd (omega (arith, e));
          first = λ _. (omega arith, omega arith);
          second = λ _ e p is. absurd (omega (arith, e));
          third = λ e p q is at. absurd (omega (arith, e));
        }

  module _ (o : OfTwo f count words) (few : count ≤ 512) where
    top_of_two : (p : ℕ) → IsPlaceIn (root words) (label_key label) p → IsStep (λ j. f (32 * j)) (label_key label) 16 p
    top_of_two p is = let every = o.every in step_in_root words (λ j. f (32 * j)) (label_key label) p (omega arith) o.first (past 512 few) is

    line_of_two : (p : ℕ) → IsPlaceIn (root words) (label_key label) p → p < groups count 32
    line_of_two p is =
        elim (cases_lt p (groups count 32)) [
          | inl lt ↦ lt
          | inr ge ↦ let s = top_of_two p is in let most = s.at_most in let above = past (32 * p) (omega arith) in absurd (omega arith)
        ]

    words_of_two : (p j : ℕ) → p < groups count 32 → j < 32 → get_or words (32 * (1 + p) + j) 0 ≡ f (32 * p + j)
    words_of_two p j inside l =
        let e : 32 * (1 + p) + j ≡ 32 + (32 * p + j) = omega arith in
        ap (λ (x : ℕ). get_or words x 0) e ∙ o.last (32 * p + j) (omega arith)

    pub two_reaches : (port : ℕ) → LeadsByTwo words label port → IsReached f (label_key label) port
    two_reaches port lead =
        let every = o.every in
        let p = lead.p in
        let top = top_of_two p lead.first in
        let inside = line_of_two p lead.first in
        let e : 32 * (p + 1) ≡ 32 * p + 32 = omega arith in
        let s = step_in_line words (1 + p) (λ j. f (32 * p + j)) (label_key label) lead.q (omega arith) (λ j l. words_of_two p j inside l)
        (subst (λ (x : ℕ). label_key label < f x) e top.next) lead.second in
        let k : 32 * p + (lead.q + 1) ≡ 32 * p + lead.q + 1 = omega arith in
        record {
          k = 32 * p + lead.q;
          at_most = s.at_most;
          next = subst (λ (x : ℕ). label_key label < f x) k s.next;
          is = lead.is ∙ ap (λ (x : ℕ). x % 65536) (line_word words (1 + p) lead.q s.inside ∙ words_of_two p lead.q inside s.inside);
        }

    pub two_led : f 0 ≤ label_key label → IsLed words label
    two_led start =
        let every = o.every in
        let d = o.depth in
        let z = o.first 0 (omega arith) in
        record {
          there = omega arith;
          depth = inr (omega arith);
          bytes = λ e. absurd (omega (arith, e));
          first = λ _. (omega arith, omega arith);
          second = λ _ _ p is.
              let inside = line_of_two p is in
              let top = top_of_two p is in
              let most = top.at_most in
              let e : 32 * (1 + p) ≡ 32 + 32 * p = omega arith in
              let at : get_or words (32 * (1 + p)) 0 ≡ f (32 * p) = ap (λ (x : ℕ). get_or words x 0) e ∙ o.last (32 * p) (omega arith) in
              (omega arith, omega arith);
          third = λ e p q is at. absurd (omega (arith, e));
        }

  module _ (o : OfThree f count words) (few : count ≤ 16384) where
    top_of_three : (p : ℕ) → IsPlaceIn (root words) (label_key label) p → IsStep (λ j. f (1024 * j)) (label_key label) 16 p
    top_of_three p is = let every = o.every in step_in_root words (λ j. f (1024 * j)) (label_key label) p (omega arith) o.first (past 16384 few) is

    middle_of_three : (p : ℕ) → IsPlaceIn (root words) (label_key label) p → p < groups count 1024
    middle_of_three p is =
        elim (cases_lt p (groups count 1024)) [
          | inl lt ↦ lt
          | inr ge ↦ let s = top_of_three p is in let most = s.at_most in let above = past (1024 * p) (omega arith) in absurd (omega arith)
        ]

    middle_words : (p j : ℕ) → p < groups count 1024 → j < 32 → get_or words (32 * (1 + p) + j) 0 ≡ f (32 * (32 * p + j))
    middle_words p j inside l =
        let e : 32 * (1 + p) + j ≡ 32 + (32 * p + j) = omega arith in
        ap (λ (x : ℕ). get_or words x 0) e ∙ o.middle (32 * p + j) (omega arith)

    middle_step : (p q : ℕ) → IsPlaceIn (root words) (label_key label) p → IsPlaceIn (table_line words (1 + p)) (label_key label) q
        → IsStep (λ j. f (32 * (32 * p + j))) (label_key label) 32 q
    middle_step p q is at =
        let every = o.every in
        let top = top_of_three p is in
        let inside = middle_of_three p is in
        let e : 1024 * (p + 1) ≡ 32 * (32 * p + 32) = omega arith in
        step_in_line words (1 + p) (λ j. f (32 * (32 * p + j))) (label_key label) q (omega arith) (λ j l. middle_words p j inside l)
        (subst (λ (x : ℕ). label_key label < f x) e top.next) at

    last_of_three : (p q : ℕ) → IsPlaceIn (root words) (label_key label) p → IsPlaceIn (table_line words (1 + p)) (label_key label) q → 32 * p + q < groups count 32
    last_of_three p q is at =
        elim (cases_lt (32 * p + q) (groups count 32)) [
          | inl lt ↦ lt
          | inr ge ↦ let s = middle_step p q is at in let most = s.at_most in let above = past (32 * (32 * p + q)) (omega arith) in absurd (omega arith)
        ]

    last_words : (p q j : ℕ) → 32 * p + q < groups count 32 → j < 32
        → get_or words (32 * (base_of words + 32 * p + q) + j) 0 ≡ f (32 * (32 * p + q) + j)
    last_words p q j inside l =
        let base = o.base in
        let e : 32 * (base_of words + 32 * p + q) + j ≡ 32 * (1 + groups count 1024) + (32 * (32 * p + q) + j) = omega arith in
        ap (λ (x : ℕ). get_or words x 0) e ∙ o.last (32 * (32 * p + q) + j) (omega arith)

    pub three_reaches : (port : ℕ) → LeadsByThree words label port → IsReached f (label_key label) port
    three_reaches port lead =
        let every = o.every in
        let base = o.base in
        let p = lead.p in
        let q = lead.q in
        let mid = middle_step p q lead.first lead.second in
        let inside = last_of_three p q lead.first lead.second in
        let e : 32 * (32 * p + (q + 1)) ≡ 32 * (32 * p + q) + 32 = omega arith in
        let s = step_in_line words (base_of words + 32 * p + q) (λ j. f (32 * (32 * p + q) + j)) (label_key label) lead.r (omega arith)
        (λ j l. last_words p q j inside l) (subst (λ (x : ℕ). label_key label < f x) e mid.next) lead.third in
        let k : 32 * (32 * p + q) + (lead.r + 1) ≡ 32 * (32 * p + q) + lead.r + 1 = omega arith in
        record {
          k = 32 * (32 * p + q) + lead.r;
          at_most = s.at_most;
          next = subst (λ (x : ℕ). label_key label < f x) k s.next;
          is = lead.is ∙ ap (λ (x : ℕ). x % 65536)
              (line_word words (base_of words + 32 * p + q) lead.r s.inside ∙ last_words p q lead.r inside s.inside);
        }

    pub three_led : f 0 ≤ label_key label → IsLed words label
    three_led start =
        let every = o.every in
        let d = o.depth in
        let base = o.base in
        let z = o.first 0 (omega arith) in
        record {
          there = omega arith;
          depth = inr (omega arith);
          bytes = λ e. absurd (omega (arith, e));
          first = λ _. (omega arith, omega arith);
          second = λ _ _ p is.
              let inside = middle_of_three p is in
              let top = top_of_three p is in
              let most = top.at_most in
              let e : 32 * (1 + p) ≡ 32 + 32 * p = omega arith in
              let t : 32 * (32 * p) ≡ 1024 * p = omega arith in
              let at : get_or words (32 * (1 + p)) 0 ≡ f (1024 * p) = ap (λ (x : ℕ). get_or words x 0) e ∙ o.middle (32 * p) (omega arith) ∙ ap f t in
              (omega arith, omega arith);
          third = λ _ p q is at.
              let inside = last_of_three p q is at in
              let mid = middle_step p q is at in
              let most = mid.at_most in
              let e : 32 * (base_of words + 32 * p + q) ≡ 32 * (1 + groups count 1024) + 32 * (32 * p + q) = omega arith in
              let here : get_or words (32 * (base_of words + 32 * p + q)) 0 ≡ f (32 * (32 * p + q)) =
              ap (λ (x : ℕ). get_or words x 0) e ∙ o.last (32 * (32 * p + q)) (omega arith) in
              (omega arith, omega arith);
        }
