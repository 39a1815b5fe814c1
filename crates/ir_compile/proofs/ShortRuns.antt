-- Runs from sixteen places, word by word.
use Rattle.std.proofs.Common.{◌≡◌, ◌≢◌, ℕ, zero, suc, ◌+◌, ◌*◌, ◌<◌, ◌≤◌, List, [], ◌∷◌, Bool, true, false, cond, eqb, not, length, map, get_or, replicate, slice_index, refl, ap, sym, subst, ◌∙◌, inl, inr, arith, w32}
use Rattle.std.specs.Int.{trailing_zeros}
use Rattle.std.specs.Int.Bits.{bit_and}
use Rattle.std.specs.Simd.Lanes.{zip2, sel_l, mask_l}
use Rattle.std.proofs.lemmas.Bool.{cases_lt, eqb-true, eqb-false}
use Rattle.std.proofs.lemmas.Nat.{and_le_l}
use Rattle.std.proofs.lemmas.Simd.{length-zip2, get_or-zip2, length-sel_l, get_or-sel_l, get_or-replicate}
use Rattle.ir_compile.specs.PortBits.{AreCommon, IsWordRun}
use Rattle.ir_compile.specs.ShortRuns.{HoldLanes, IsShortRun, AreShortRuns}
use Rattle.ir_compile.proofs.PortBits.{all_and, common_none, common_more, word_run}

-- ---- one place

-- of k words from the place a on these ports are common to all, and the longest run among them has so many words with the ports `shared`
pub record IsRunSoFar (words : List ℕ) (a k common shared size : ℕ) : Type 0 where
  pub all : AreCommon words a (a + k) common
  pub few : size ≤ k
  pub run : AreCommon words a (a + size) shared
  pub some : 0 < shared
  pub fits : shared < 4294967296
  pub less : common ≤ shared
  pub goes_on : size ≡ k → shared ≡ common
  pub gone : size < k → common ≡ 0
  pub stops : size < k → bit_and shared (slice_index words (a + size)) ≡ 0

pub run_begins : (words : List ℕ) (a word : ℕ) → word ≡ slice_index words a → 0 < word → word < 4294967296 → IsRunSoFar words a 1 word word 1
run_begins words a word is some fits =
    let one : AreCommon words a (a + 1) (bit_and 4294967295 (slice_index words a)) = common_more words a a 4294967295 (omega arith) (common_none words a) in
    let same : bit_and 4294967295 (slice_index words a) ≡ word = ap (λ (x : ℕ). bit_and 4294967295 x) (sym is) ∙ all_and word fits in
    let here : AreCommon words a (a + 1) word = subst (AreCommon words a (a + 1)) same one in
    record {
      all = here;
      few = omega arith;
      run = here;
      some = some;
      fits = fits;
      less = omega arith;
      goes_on = λ _. refl;
      gone = λ l. absurd (omega (arith, l));
      stops = λ l. absurd (omega (arith, l));
    }

module _ (words : List ℕ) (a k common shared size : ℕ) (so_far : IsRunSoFar words a k common shared size) (next : ℕ) (is : next ≡ bit_and common (slice_index words (a + k))) where
  all_next : AreCommon words a (a + (k + 1)) next
  all_next =
      let more : AreCommon words a (a + k + 1) (bit_and common (slice_index words (a + k))) = common_more words a (a + k) common (omega arith) so_far.all in
      let place : a + k + 1 ≡ a + (k + 1) = omega arith in
      subst (λ (j : ℕ). AreCommon words a j next) place (subst (AreCommon words a (a + k + 1)) (sym is) more)

  no_more : next ≤ common
  no_more = omega (arith, is, and_le_l common (slice_index words (a + k)))

  -- where nothing is left, the run ends here or before
  pub run_stops : next ≡ 0 → bit_and shared (slice_index words (a + size)) ≡ 0
  run_stops none =
      elim (cases_lt size k) [
        | inl before ↦ so_far.stops before
        | inr last ↦
            let few = so_far.few in
            let e : size ≡ k = omega (arith, few, last) in
            ap (λ (x : ℕ). bit_and x (slice_index words (a + size))) (so_far.goes_on e) ∙ ap (λ (j : ℕ). bit_and common (slice_index words (a + j))) e ∙ sym is ∙ none
      ]

  pub run_more : (also long : ℕ) → also ≡ cond (eqb next 0) shared next → long ≡ cond (eqb next 0) size (k + 1) → IsRunSoFar words a (k + 1) next also long
  run_more also long also_is long_is = by (eqb next 0) refl
    where
      by : (b : Bool) → eqb next 0 ≡ b → IsRunSoFar words a (k + 1) next also long
      by true e =
          let none : next ≡ 0 = eqb-true next 0 e in
          let same : shared ≡ also = sym (also_is ∙ ap (λ (t : Bool). cond t shared next) e) in
          let few : size ≡ long = sym (long_is ∙ ap (λ (t : Bool). cond t size (k + 1)) e) in
          let old = so_far.few in
          subst (λ (x : ℕ). IsRunSoFar words a (k + 1) next x long) same
          (subst (λ (x : ℕ). IsRunSoFar words a (k + 1) next shared x) few
          (record {
            all = all_next;
            few = omega (arith, old);
            run = so_far.run;
            some = so_far.some;
            fits = so_far.fits;
            less = omega (arith, none);
            goes_on = λ f. absurd (omega (arith, f, old));
            gone = λ _. none;
            stops = λ _. run_stops none;
          }))
      by false e =
          let ne : next ≢ 0 = eqb-false next 0 e in
          let same : next ≡ also = sym (also_is ∙ ap (λ (t : Bool). cond t shared next) e) in
          let more : k + 1 ≡ long = sym (long_is ∙ ap (λ (t : Bool). cond t size (k + 1)) e) in
          let fits = so_far.fits in
          let less = so_far.less in
          subst (λ (x : ℕ). IsRunSoFar words a (k + 1) next x long) same
          (subst (λ (x : ℕ). IsRunSoFar words a (k + 1) next next x) more
          (record {
            all = all_next;
            few = omega arith;
            run = all_next;
            some = omega (arith, ne);
            fits = omega (arith, no_more, less, fits);
            less = omega arith;
            goes_on = λ _. refl;
            gone = λ l. absurd (omega (arith, l));
            stops = λ l. absurd (omega (arith, l));
          }))

  pub run_ends : next ≡ 0 → k ≤ 16 → IsShortRun words a size shared
  run_ends none few =
      let old = so_far.few in
      record { few = omega (arith, old, few); shared = so_far.run; some = so_far.some; fits = so_far.fits; stops = run_stops none }

-- a short run is the longest one
pub short_run : (n : ℕ) (words : List ℕ) (a size ports : ℕ) → 16 ≤ n → IsShortRun words a size ports → IsWordRun n words a size (trailing_zeros w32 ports)
short_run n words a size ports room is =
    let few = is.few in
    word_run n words a (a + size) ports (omega arith) (omega (arith, few, room)) is.shared is.some is.fits (λ _. is.stops) size refl

-- ---- sixteen places

-- the same of sixteen places
pub record AreRunsSoFar (words : List ℕ) (from k : ℕ) (common shared sizes : List ℕ) : Type 0 where
  pub all_common : length common ≡ 16
  pub all_shared : length shared ≡ 16
  pub all_sizes : length sizes ≡ 16
  pub each : (i : ℕ) → i < 16 → IsRunSoFar words (from + i) k (slice_index common i) (slice_index shared i) (slice_index sizes i)

pub runs_begin : (words : List ℕ) (from : ℕ) (lanes : List ℕ) → HoldLanes lanes (λ k. slice_index words (from + k)) → ((i : ℕ) → i < 16 → 0 < slice_index words (from + i))
    → ((i : ℕ) → i < 16 → slice_index words (from + i) < 4294967296) → AreRunsSoFar words from 1 lanes lanes (replicate 16 1)
runs_begin words from lanes held some fits = record {
  all_common = held.long;
  all_shared = held.long;
  all_sizes = refl;
  each = λ i l.
      let is = held.each i l in
      let one : 1 ≡ slice_index (replicate 16 1) i = sym (get_or-replicate 16 i 1 0 l) in
      subst (λ (x : ℕ). IsRunSoFar words (from + i) 1 (slice_index lanes i) (slice_index lanes i) x) one
      (run_begins words (from + i) (slice_index lanes i) is (omega (arith, is, some i l)) (omega (arith, is, fits i l)));
}

module _ (words : List ℕ) (from k : ℕ) (common shared sizes loaded next : List ℕ) (so_far : AreRunsSoFar words from k common shared sizes)
    (read : HoldLanes loaded (λ i. slice_index words (from + k + i))) (held : HoldLanes next (λ i. bit_and (slice_index common i) (slice_index loaded i))) where
  next_is : (i : ℕ) → i < 16 → slice_index next i ≡ bit_and (slice_index common i) (slice_index words (from + i + k))
  next_is i l =
      let place : from + k + i ≡ from + i + k = omega arith in
      held.each i l ∙ ap (λ (x : ℕ). bit_and (slice_index common i) x) (read.each i l ∙ ap (slice_index words) place)

  pub runs_go_on : (also long more : List ℕ) → HoldLanes also (λ i. cond (eqb (slice_index next i) 0) (slice_index shared i) (slice_index next i))
      → HoldLanes long (λ i. cond (eqb (slice_index next i) 0) (slice_index sizes i) (slice_index more i)) → ((i : ℕ) → i < 16 → slice_index more i ≡ k + 1) → AreRunsSoFar words from (k + 1) next also long
  runs_go_on also long more also_is long_is more_is = record {
    all_common = held.long;
    all_shared = also_is.long;
    all_sizes = long_is.long;
    each = λ i l.
        run_more words (from + i) k (slice_index common i) (slice_index shared i) (slice_index sizes i) (so_far.each i l) (slice_index next i) (next_is i l)
        (slice_index also i) (slice_index long i) (also_is.each i l) (long_is.each i l ∙ ap (λ (x : ℕ). cond (eqb (slice_index next i) 0) (slice_index sizes i) x) (more_is i l));
  }

  pub runs_end : k ≤ 16 → ((i : ℕ) → i < 16 → slice_index next i ≡ 0) → AreShortRuns words from sizes shared
  runs_end few none = record {
    all_sizes = so_far.all_sizes;
    all_ports = so_far.all_shared;
    each = λ i l. run_ends words (from + i) k (slice_index common i) (slice_index shared i) (slice_index sizes i) (so_far.each i l) (slice_index next i) (next_is i l) (none i l) few;
  }

-- ---- lanes

pub lanes_both : (a b : List ℕ) → length a ≡ 16 → length b ≡ 16 → HoldLanes (zip2 bit_and a b) (λ k. bit_and (slice_index a k) (slice_index b k))
lanes_both a b p q = record {
  long = length-zip2 bit_and a b (p ∙ sym q) ∙ p;
  each = λ k l. get_or-zip2 bit_and a b k 0 0 0 (omega (arith, l, p)) (omega (arith, l, q));
}

pub lanes_chosen : (lanes some none : List ℕ) → length lanes ≡ 16 → length some ≡ 16 → length none ≡ 16
    → HoldLanes (sel_l (zip2 eqb lanes (replicate 16 0)) none some) (λ k. cond (eqb (slice_index lanes k) 0) (slice_index none k) (slice_index some k))
lanes_chosen lanes some none p q r =
    let tests : List Bool = zip2 eqb lanes (replicate 16 0) in
    let long : length tests ≡ 16 = length-zip2 eqb lanes (replicate 16 0) p ∙ p in
    record {
      long = length-sel_l tests none some (long ∙ sym r) (long ∙ sym q) ∙ long;
      each = λ k l.
          get_or-sel_l tests none some k 0 (omega (arith, l, long)) (omega (arith, l, r)) (omega (arith, l, q))
          ∙ ap (λ (t : Bool). cond t (get_or none k 0) (get_or some k 0)) (get_or-zip2 eqb lanes (replicate 16 0) k 0 0 false (omega (arith, l, p)) l ∙ ap (λ (x : ℕ). eqb (get_or lanes k 0) x) (get_or-replicate 16 k 0 0 l));
    }

-- where no bit of a mask is set, no lane passes the test
pub no_lane : (p : ℕ → Bool) (xs : List ℕ) → mask_l (map p xs) ≡ 0 → (k : ℕ) → k < length xs → p (get_or xs k 0) ≡ false
no_lane p [] e k l = absurd (omega (arith, l))
no_lane p (x ∷ xs) e zero l = first_false (p x) (mask_l (map p xs)) e
  where
    first_false : (h : Bool) (m : ℕ) → cond h 1 0 + 2 * m ≡ 0 → h ≡ false
    first_false true m f = absurd (omega (arith, f))
    first_false false m f = refl
no_lane p (x ∷ xs) e (suc k) l = no_lane p xs (rest_none (p x) (mask_l (map p xs)) e) k (omega (arith, l))
  where
    rest_none : (h : Bool) (m : ℕ) → cond h 1 0 + 2 * m ≡ 0 → m ≡ 0
    rest_none true m f = absurd (omega (arith, f))
    rest_none false m f = omega (arith, f)

pub is_none : (x : ℕ) (h : Bool) → eqb x 0 ≡ h → not (eqb x 0) ≡ false → x ≡ 0
is_none x true e f = eqb-true x 0 e
is_none x false e f = absurd (cc (e, f))
