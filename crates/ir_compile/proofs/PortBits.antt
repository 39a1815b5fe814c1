-- Ports that words have in common.
use Rattle.std.proofs.Common.{◌≡◌, ◌≢◌, ℕ, zero, suc, ◌+◌, ◌-◌, ◌*◌, ◌^◌, ◌<◌, ◌≤◌, List, ◌++◌, length, refl, ap, sym, subst, ◌∙◌, inl, inr, arith, w32, slice_index, set, length-set, get_or-set_same, get_or-set_other}
use Rattle.std.specs.Int.{trailing_zeros}
use Rattle.std.specs.Int.Bits.{bit_and}
use Rattle.std.proofs.lemmas.Bool.{cases_eq, cases_lt}
use Rattle.std.proofs.lemmas.Nat.{and_assoc, and_comm, and_le_l, and_mask}
use Rattle.std.proofs.lemmas.Nat.Bits.{bit_at-zero, bit_at-lt, bit_at_and, bit_at_ones, bit_at-trailing_zeros}
use Rattle.std.proofs.lemmas.List.{get_or_append_left, get_or-append-add, length-append}
use Rattle.std.proofs.Math.Nat.{mod-eq_of_lt}
use Rattle.ir_model.specs.Choices.{label_from, Serves}
use Rattle.ir_model.proofs.Going.{from_where}
use Rattle.ir_model.proofs.Steps.{AreLongest}
use Rattle.ir_compile.specs.PortBits.{HasPortBit, MayTakeBit, IsInAll, AreCommon, HaveCommon, IsRoundPlace, AreRounds, IsWordRun, AreWordRuns}

-- ---- one word

-- a word that has a port is not 0
pub has_some : (word p : ℕ) → HasPortBit word p → 0 < word
has_some zero p has = absurd (omega (arith, has, bit_at-zero p))
has_some (suc word) p has = omega arith

pub all_ports : (p : ℕ) → p < 32 → HasPortBit 4294967295 p
all_ports p low = bit_at_ones 32 p low

pub both_have : (a b p : ℕ) → HasPortBit a p → HasPortBit b p → HasPortBit (bit_and a b) p
both_have a b p one other = omega (arith, bit_at_and a b p, one, other)

pub left_has : (a b p : ℕ) → HasPortBit (bit_and a b) p → HasPortBit a p
left_has a b p both = omega (arith, bit_at_and a b p, both, bit_at-lt a p, bit_at-lt b p)

pub right_has : (a b p : ℕ) → HasPortBit (bit_and a b) p → HasPortBit b p
right_has a b p both = omega (arith, bit_at_and a b p, both, bit_at-lt a p, bit_at-lt b p)

-- with all ports it is itself
pub all_and : (word : ℕ) → word < 2 ^ 32 → bit_and 4294967295 word ≡ word
all_and word fits = and_comm 4294967295 word ∙ and_mask word 32 ∙ mod-eq_of_lt fits

-- the least port of a word
pub least_port : (word : ℕ) → 0 < word → word < 2 ^ 32 → (trailing_zeros w32 word < 32) × HasPortBit word (trailing_zeros w32 word) × ((p : ℕ) → HasPortBit word p → trailing_zeros w32 word ≤ p)
least_port word some fits =
    let low = bit_at-trailing_zeros w32 word some fits in (
      low.0,
      low.1,
      λ p has. elim (cases_lt p (trailing_zeros w32 word)) [
        | inl less ↦ absurd (omega (arith, has, low.2 p less))
        | inr ge ↦ ge
      ],
    )

-- ---- several words

pub common_none : (words : List ℕ) (i : ℕ) → AreCommon words i i 4294967295
common_none words i p low = ((λ _ k l b. absurd (omega (arith, l, b))), (λ _. all_ports p low))

pub common_more : (words : List ℕ) (i j common : ℕ) → i ≤ j → AreCommon words i j common → AreCommon words i (j + 1) (bit_and common (slice_index words j))
common_more words i j common order are p low = (
  (λ has k l b.
      elim (cases_lt k j) [
        | inl before ↦ (are p low).0 (left_has common (slice_index words j) p has) k l before
        | inr last ↦ let e : j ≡ k = omega (arith, last, b) in subst (λ (x : ℕ). HasPortBit (slice_index words x) p) e (right_has common (slice_index words j) p has)
      ]),
  (λ all. both_have common (slice_index words j) p ((are p low).1 (λ k l b. all k l (omega (arith, b)))) (all j order (omega arith))),
)

pub common_back : (words : List ℕ) (i j common : ℕ) → i < j → AreCommon words (i + 1) j common → AreCommon words i j (bit_and common (slice_index words i))
common_back words i j common order are p low = (
  (λ has k l b.
      elim (cases_lt i k) [
        | inl behind ↦ (are p low).0 (left_has common (slice_index words i) p has) k (omega (arith, behind)) b
        | inr first ↦ let e : i ≡ k = omega (arith, first, l) in subst (λ (x : ℕ). HasPortBit (slice_index words x) p) e (right_has common (slice_index words i) p has)
      ]),
  (λ all. both_have common (slice_index words i) p ((are p low).1 (λ k l b. all k (omega (arith, l)) b)) (all i (omega arith) order)),
)

pub common_join : (words : List ℕ) (i m j back front : ℕ) → i ≤ m → m ≤ j → AreCommon words i m back → AreCommon words m j front → AreCommon words i j (bit_and back front)
common_join words i m j back front im mj one other p low = (
  (λ has k l b.
      elim (cases_lt k m) [
        | inl before ↦ (one p low).0 (left_has back front p has) k l before
        | inr behind ↦ (other p low).0 (right_has back front p has) k behind b
      ]),
  (λ all. both_have back front p ((one p low).1 (λ k l b. all k l (omega (arith, b, mj)))) ((other p low).1 (λ k l b. all k (omega (arith, l, im)) b))),
)

-- where words have a port in common, the word of their ports is not 0
pub common_some : (words : List ℕ) (i j common : ℕ) → AreCommon words i j common → HaveCommon words i j → 0 < common
common_some words i j common are have = has_some common have.0 ((are have.0 have.1).1 have.2)

-- what goes on in the next word is in all of them
pub next_some : (back front word : ℕ) → bit_and (bit_and back front) word ≢ 0 → 0 < bit_and back (bit_and front word)
next_some back front word some =
    elim (cases_lt 0 (bit_and back (bit_and front word))) [
      | inl more ↦ more
      | inr none ↦ absurd (some (omega (arith, and_assoc word back front, none)))
    ]

-- ---- the run from a place

-- what is common from a place on, up to where the next word has none of it, is the run from there
pub word_run : (n : ℕ) (words : List ℕ) (a end common : ℕ) → a ≤ end → end ≤ a + n → AreCommon words a end common → 0 < common → common < 2 ^ 32
    → (end < a + n → bit_and common (slice_index words end) ≡ 0) → (count : ℕ) → a + count ≡ end → IsWordRun n words a count (trailing_zeros w32 common)
word_run n words a end common order few are some fits stops count is =
    let least = least_port common some fits in
    record {
      within = omega (arith, few, is);
      low = least.0;
      common = λ k l b. (are (trailing_zeros w32 common) least.0).0 least.1 k l (omega (arith, b, is));
      least = λ p low all. least.2 p ((are p low).1 (λ k l b. all k l (omega (arith, b, is))));
      longest = λ more p low all.
          let next : AreCommon words a (end + 1) (bit_and common (slice_index words end)) = common_more words a end common order are in
          let has : HasPortBit (bit_and common (slice_index words end)) p = (next p low).1 (λ k l b. all k l (omega (arith, b, is))) in
          absurd (omega (arith, has_some (bit_and common (slice_index words end)) p has, stops (omega (arith, more, is))));
    }

-- with the run from the place a, these are the runs from one place more
pub runs_more : (n : ℕ) (words : List ℕ) (a : ℕ) (counts ports : List ℕ) (count port : ℕ) → a < length counts → a < length ports → AreWordRuns n words a counts ports
    → IsWordRun n words a count port → AreWordRuns n words (a + 1) (set counts a count) (set ports a port)
runs_more n words a counts ports count port here there before run k l k_in =
    elim (cases_lt k a) [
      | inl less ↦
          let ne : k ≢ a = λ e. absurd (omega (arith, e, less)) in
          subst (λ (x : ℕ). IsWordRun n words k x (slice_index (set ports a port) k)) (sym (get_or-set_other counts a k count 0 ne))
          (subst (λ (x : ℕ). IsWordRun n words k (slice_index counts k) x) (sym (get_or-set_other ports a k port 0 ne)) (before k less k_in))
      | inr last ↦
          let e : a ≡ k = omega (arith, last, l) in
          subst (λ (x : ℕ). IsWordRun n words x (slice_index (set counts a count) x) (slice_index (set ports a port) x)) e
          (subst (λ (x : ℕ). IsWordRun n words a x (slice_index (set ports a port) a)) (sym (get_or-set_same counts a count 0 here))
          (subst (λ (x : ℕ). IsWordRun n words a count x) (sym (get_or-set_same ports a port 0 there)) run))
    ]

-- where the first word has a port, some words after it are gone through
pub begun : (words : List ℕ) (n from to common : ℕ) → 0 < n → 0 < slice_index words from → slice_index words from < 2 ^ 32 → from ≤ to → AreCommon words from to common
    → (to < from + n → bit_and (bit_and 4294967295 common) (slice_index words to) ≡ 0) → from < to
begun words n from to common some first fits order are stops =
    elim (cases_lt from to) [
      | inl more ↦ more
      | inr none ↦
          let same : to ≡ from = omega (arith, order, none) in
          let least = least_port (slice_index words from) first fits in
          let p : ℕ = trailing_zeros w32 (slice_index words from) in
          let all : HasPortBit common p = (are p least.0).1 (λ k l b. absurd (omega (arith, l, b, same))) in
          let left : HasPortBit (bit_and 4294967295 common) p = both_have 4294967295 common p (all_ports p least.0) all in
          let both : HasPortBit (bit_and (bit_and 4294967295 common) (slice_index words to)) p = both_have (bit_and 4294967295 common) (slice_index words to) p left (subst (λ (x : ℕ). HasPortBit (slice_index words x) p) (sym same) least.1) in
          absurd (omega (arith, has_some (bit_and (bit_and 4294967295 common) (slice_index words to)) p both, stops (omega (arith, same, some))))
    ]

-- and these have a port in common
pub begun_common : (words : List ℕ) (from to common : ℕ) → AreCommon words from to common → 0 < bit_and 4294967295 common → HaveCommon words from to
begun_common words from to common are some =
    let both : ℕ = bit_and 4294967295 common in
    let fits : both < 2 ^ 32 = omega (arith, and_le_l 4294967295 common) in
    let least = least_port both some fits in
    let p : ℕ = trailing_zeros w32 both in
    (p, least.0, (are p least.0).0 (right_has 4294967295 common p least.1))

pub all_some : 0 < bit_and 4294967295 4294967295
all_some = has_some (bit_and 4294967295 4294967295) 0 (both_have 4294967295 4294967295 0 (all_ports 0 (omega arith)) (all_ports 0 (omega arith)))

-- ---- two rounds

-- the words twice, and all ports at the own label's places
pub rounds_of : (n own : ℕ) (words part twice : List ℕ) → own < n → length part ≡ n → ((i : ℕ) → i < n → slice_index part i ≡ slice_index words i) → twice ≡ part ++ part
    → AreRounds n own words (n * 2) (set (set twice own 4294967295) (n + own) 4294967295)
rounds_of n own words part twice own_in long same is =
    let both : length twice ≡ n * 2 = omega (arith, ap length is, length-append part part, long) in
    let once : List ℕ = set twice own 4294967295 in
    let once_long : length once ≡ n * 2 = length-set twice own 4294967295 ∙ both in
    let copied : (i d : ℕ) → IsRoundPlace n i d → slice_index twice i ≡ slice_index words d = λ i d at.
    ap (λ (xs : List ℕ). slice_index xs i) is
    ∙ elim at.1 [
      | inl e ↦ get_or_append_left part part 0 i (omega (arith, e, at.0, long)) ∙ ap (slice_index part) e ∙ same d at.0
      | inr e ↦
          let place : i ≡ length part + d = omega (arith, e, long) in
          ap (λ (x : ℕ). slice_index (part ++ part) x) place ∙ get_or-append-add part part d 0 ∙ same d at.0
    ] in
    record {
      every = length-set once (n + own) 4294967295 ∙ once_long;
      all = λ i l at.
          elim at.1 [
            | inl e ↦
                let ne : i ≢ n + own = λ f. absurd (omega (arith, e, f, own_in)) in
                get_or-set_other once (n + own) i 4294967295 0 ne ∙ ap (slice_index once) e ∙ get_or-set_same twice own 4294967295 0 (omega (arith, both, own_in))
            | inr e ↦ ap (slice_index (set once (n + own) 4294967295)) e ∙ get_or-set_same once (n + own) 4294967295 0 (omega (arith, once_long, own_in))
          ];
      others = λ i d l at ne.
          let first : i ≢ own = λ f. elim at.1 [ inl e ↦ ne (omega (arith, e, f)) | inr e ↦ absurd (omega (arith, e, f, own_in)) ] in
          let again : i ≢ n + own = λ f. elim at.1 [ inl e ↦ absurd (omega (arith, e, f, at.0)) | inr e ↦ ne (omega (arith, e, f)) ] in
          get_or-set_other once (n + own) i 4294967295 0 again ∙ get_or-set_other twice own i 4294967295 0 first ∙ copied i d at;
    }

module _ (n own : ℕ) (words twice : List ℕ) (rounds : AreRounds n own words (n * 2) twice) where
  -- each word has a port
  pub rounds_some : own < n → ((d : ℕ) → d < n → d ≢ own → 0 < slice_index words d) → (i : ℕ) → i < n * 2 → 0 < slice_index twice i
  rounds_some own_in some i l =
      let at : (d : ℕ) → IsRoundPlace n i d → 0 < slice_index twice i = λ d at_d.
      elim (cases_eq d own) [
        | inl e ↦ omega (arith, rounds.all i l (subst (λ (x : ℕ). IsRoundPlace n i x) e at_d))
        | inr ne ↦ omega (arith, rounds.others i d l at_d ne, some d at_d.0 ne)
      ] in
      elim (cases_lt i n) [
        | inl first ↦ at i (first, inl refl)
        | inr again ↦ let e : i ≡ n + (i - n) = omega (arith, again) in at (i - n) (omega (arith, l, again), inr e)
      ]

  -- the places of a round from a label on are those of its labels
  place_is : (a i : ℕ) → a < n → i < n → IsRoundPlace n (a + i) (label_from n a i)
  place_is a i h l =
      elim (from_where n a i h (omega (arith, l))) [
        | inl w ↦ (omega (arith, w.0, w.1), inl (sym w.1))
        | inr w ↦ (omega (arith, w.0, w.1, h, l), inr (omega (arith, w.1)))
      ]

  may_at : (a i p : ℕ) → a < n → i < n → p < 32 → label_from n a i ≢ own → HasPortBit (slice_index twice (a + i)) p → MayTakeBit n words (label_from n a i) p
  may_at a i p h l low ne has =
      let at = place_is a i h l in
      (at.0, low, subst (λ (w : ℕ). HasPortBit w p) (rounds.others (a + i) (label_from n a i) (omega (arith, h, l)) at ne) has)

  has_at : (a i p : ℕ) → a < n → i < n → p < 32 → (label_from n a i ≢ own → MayTakeBit n words (label_from n a i) p) → HasPortBit (slice_index twice (a + i)) p
  has_at a i p h l low may =
      let at = place_is a i h l in
      elim (cases_eq (label_from n a i) own) [
        | inl e ↦ subst (λ (w : ℕ). HasPortBit w p) (sym (rounds.all (a + i) (omega (arith, h, l)) (subst (λ (x : ℕ). IsRoundPlace n (a + i) x) e at))) (all_ports p low)
        | inr ne ↦ subst (λ (w : ℕ). HasPortBit w p) (sym (rounds.others (a + i) (label_from n a i) (omega (arith, h, l)) at ne)) (may ne).2
      ]

  -- a port serves so many labels if all their words have it
  in_all : (a t p : ℕ) → a < n → t ≤ n → p < 32 → Serves n own (MayTakeBit n words) p a t → IsInAll twice a (a + t) p
  in_all a t p h few low serves k l b =
      let e : a + (k - a) ≡ k = omega (arith, l) in
      subst (λ (x : ℕ). HasPortBit (slice_index twice x) p) e (has_at a (k - a) p h (omega (arith, l, b, few)) low (λ ne. serves (k - a) (omega (arith, l, b)) ne))

  -- the runs of the words are the longest runs
  pub word_runs_longest : (counts ports : List ℕ) → AreWordRuns n twice n counts ports → AreLongest n own (MayTakeBit n words) counts ports
  word_runs_longest counts ports runs a h off =
      let run = runs a h h in
      let count : ℕ = slice_index counts a in
      let port : ℕ = slice_index ports a in
      record {
        within = run.within;
        serves = λ i l ne. may_at a i port h (omega (arith, l, run.within)) run.low ne (run.common (a + i) (omega arith) (omega (arith, l)));
        longest = λ p t few serves.
            elim (cases_lt count t) [
              | inl more ↦
                  let low : p < 32 = (serves 0 (omega (arith, more)) off).1 in
                  absurd (run.longest (omega (arith, more, few)) p low (λ k l b. in_all a t p h few low serves k l (omega (arith, b, more))))
              | inr le ↦ le
            ];
        least = λ p serves.
            elim (cases_lt p 32) [
              | inl low ↦ run.least p low (in_all a count p h run.within low serves)
              | inr high ↦ omega (arith, high, run.low)
            ];
      }
