-- Marks of ports, for the nodes of a list.
use Rattle.std.proofs.Common.{◌≡◌, ◌≢◌, ◌↔◌, ℕ, zero, suc, w16, ◌+◌, ◌-◌, ◌*◌, ◌/◌, ◌%◌, ◌<◌, ◌≤◌, ◌^◌, ◌⊎◌, inl, inr, Bool, true, false, min, List, [], ◌∷◌, ◌++◌, length, replicate, get_or, set, slice_index, slice_index_or, refl, sym, ap, subst, ◌∙◌, arith, ⊎_elim, length-set, get_or-set_same, get_or-set_other}
use Rattle.std.specs.Prelude.{Contains}
use Rattle.std.specs.Global.{Vec}
use Rattle.std.proofs.lemmas.Bool.{cases_eq, cases_lt}
use Rattle.std.specs.Int.{bit_at, trailing_zeros}
use Rattle.std.proofs.Math.Nat.{div-div-eq-div-mul, div-mul-le_self, zero-div}
use Rattle.std.proofs.Math.Pow.{pow_mono}
use Rattle.std.proofs.lemmas.Nat.{shr_le, mul-le, pow-add}
use Rattle.std.proofs.lemmas.Nat.Bits.{bit_at-trailing_zeros}
use Rattle.std.proofs.lemmas.List.{length-replicate, get_or_append_left, get_or_push, get_or_read, get_or-map, length_push, length-map, map-append}
use Rattle.std.proofs.lemmas.List.Elements.{Contains-append_left}
use Rattle.ir_model.specs.Topology.{Topology, node_count, ports_of}
use Rattle.ir_model.specs.Table.{LeadsNearer}
use Rattle.ir_lanes.specs.Inward.{ports_before, IsSet}
use Rattle.ir_lanes.specs.Marks.{IsMarking, PutsWord, word_lists, node_from, AreBatchWords, AreBatches, PortMarks, ArePortMarks}
use Rattle.ir_lanes.proofs.Words.{port_before}

-- one more place where ports begin
pub begins_more : (net : Topology) (u : ℕ) (begins : List ℕ) (begin : ℕ) → length begins ≡ u → begin ≡ ports_before net u → ((v : ℕ) → v < u → slice_index begins v ≡ ports_before net v)
    → (v : ℕ) → v < u + 1 → slice_index (begins ++ begin ∷ []) v ≡ ports_before net v
begins_more net u begins begin long is before v less =
    ⊎_elim (λ (earlier : v < u). get_or_append_left begins (begin ∷ []) 0 v (omega (arith, earlier, long)) ∙ before v earlier)
    (λ (ge : u ≤ v). let same : v ≡ u = omega (arith, ge, less) in
    get_or_push begins begin 0 v (omega (arith, long, same)) ∙ (is ∙ ap (ports_before net) (sym same)))
    (cases_lt v u)

-- one more node of sixteen
pub sixteen_more : (nodes : List ℕ) (first k : ℕ) (sixteen : List ℕ) (node : ℕ) → length sixteen ≡ k → node ≡ node_from nodes (first + k) → ((j : ℕ) → j < k → slice_index sixteen j ≡ node_from nodes (first + j))
    → (j : ℕ) → j < k + 1 → slice_index (sixteen ++ node ∷ []) j ≡ node_from nodes (first + j)
sixteen_more nodes first k sixteen node long is before j less =
    ⊎_elim (λ (earlier : j < k). get_or_append_left sixteen (node ∷ []) 0 j (omega (arith, earlier, long)) ∙ before j earlier)
    (λ (ge : k ≤ j). let same : j ≡ k = omega (arith, ge, less) in
    get_or_push sixteen node 0 j (omega (arith, long, same)) ∙ (is ∙ ap (λ x. node_from nodes (first + x)) (sym same)))
    (cases_lt j k)

-- one more batch
pub batch_more : (net : Topology) (nodes : List ℕ) (b : ℕ) (made more : List (Vec ℕ)) (v : Vec ℕ) → length (word_lists made) ≡ b → AreBatches net nodes (word_lists made) → more ≡ made ++ (v ∷ []) → AreBatchWords net nodes b v.items
    → (length (word_lists more) ≡ b + 1) × AreBatches net nodes (word_lists more)
batch_more net nodes b made more v long all is own =
    let lists : word_lists more ≡ word_lists made ++ (v.items ∷ []) = ap word_lists is ∙ map-append (λ (w : Vec ℕ). w.items) made (v ∷ []) in
    let longer : length (word_lists more) ≡ b + 1 = ap length lists ∙ length_push (word_lists made) v.items ∙ ap (λ (n : ℕ). n + 1) long in (
      longer,
      λ i lt. subst (λ (ls : List (List ℕ)). AreBatchWords net nodes i (slice_index_or ls i [])) (sym lists)
          (⊎_elim (λ (earlier : i < b). subst (λ ws. AreBatchWords net nodes i ws) (sym (get_or_append_left (word_lists made) (v.items ∷ []) [] i (omega (arith, earlier, long)))) (all i (omega (arith, earlier, long))))
          (λ (ge : b ≤ i). let same : i ≡ b = omega (arith, ge, lt, longer) in
          subst (λ ws. AreBatchWords net nodes i ws) (sym (get_or_push (word_lists made) v.items [] i (omega (arith, long, same)))) (subst (λ x. AreBatchWords net nodes x v.items) (sym same) own))
          (cases_lt i b)),
    )

-- ---- what the marks of a port say

-- where the ports of a node begin, as it was read
pub begin_read : (net : Topology) (nodes : List ℕ) (marks : PortMarks) → ArePortMarks net nodes marks → (u : ℕ) → u < node_count net → (begins : List ℕ) → begins ≡ marks.begins
    → (read : ℕ) → read ≡ get_or begins u read → read ≡ ports_before net u
begin_read net nodes marks are u u_in begins same read is =
    get_or_read marks.begins u read (omega (arith, u_in, are.every)) (is ∙ ap (λ (xs : List ℕ). get_or xs u read) same) 0 ∙ are.begin u u_in

-- from each other node some port leads nearer to a node of the list
pub nearer_in_batches : (net : Topology) (nodes : List ℕ) (batches : List (List ℕ)) → length nodes ≤ length batches * 16 → AreBatches net nodes batches
    → (u d : ℕ) → u < node_count net → d < length nodes → u ≢ slice_index nodes d → (p : ℕ) × LeadsNearer net u (slice_index nodes d) p
nearer_in_batches net nodes batches enough all u d u_in d_in other =
    let made : AreBatchWords net nodes (d / 16) (slice_index_or batches (d / 16) []) = all (d / 16) (omega (arith, d_in, enough)) in
    let at : d / 16 * 16 + d % 16 ≡ d = omega arith in
    let last : min d (length nodes - 1) ≡ d = omega (arith, d_in) in
    let node : slice_index made.ends (d % 16) ≡ slice_index nodes d =
    made.sixteen.each (d % 16) (omega arith) ∙ (ap (node_from nodes) at ∙ ap (slice_index nodes) last) in
    subst (λ x. (p : ℕ) × LeadsNearer net u x p) node (made.told.nearer u (d % 16) u_in (omega arith) (λ e. other (e ∙ node)))

-- the words of a batch, as they were read
pub words_read : (batches : List (Vec ℕ)) (lists : List (List ℕ)) → word_lists batches ≡ lists → (b : ℕ) → b < length lists → (read : Vec ℕ) → read ≡ get_or batches b read → read.items ≡ slice_index_or lists b []
words_read batches lists same b b_in read is =
    let here : b < length batches = omega (arith, b_in, ap length same, length-map batches (λ (w : Vec ℕ). w.items)) in
    ap (λ (w : Vec ℕ). w.items) is ∙ sym (get_or-map (λ (w : Vec ℕ). w.items) batches b read [] here) ∙ ap (λ (ls : List (List ℕ)). slice_index_or ls b []) same

module _ (net : Topology) (nodes : List ℕ) (marks : PortMarks) (are : ArePortMarks net nodes marks) (u p b : ℕ) (u_in : u < node_count net) (p_in : p < length (ports_of net u)) (b_in : b * 16 < length nodes) where
  pub has_batch : b < length marks.batches
  has_batch = omega (arith, b_in, are.enough)

  abbrev words : List ℕ
  words = slice_index_or marks.batches b []

  batch_words : AreBatchWords net nodes b words
  batch_words = are.batch b has_batch

  pub has_place : ports_before net u + p < length words
  has_place = omega (arith, batch_words.told.every, port_before net u (node_count net) p u_in u_in p_in)

  pub marked_here : (k : ℕ) → k < 16 → b * 16 + k < length nodes → IsSet (slice_index words (ports_before net u + p)) k ↔ LeadsNearer net u (slice_index nodes (b * 16 + k)) p
  marked_here k k_in room =
      let last : min (b * 16 + k) (length nodes - 1) ≡ b * 16 + k = omega (arith, room) in
      let node : slice_index batch_words.ends k ≡ slice_index nodes (b * 16 + k) = batch_words.sixteen.each k k_in ∙ ap (slice_index nodes) last in
      subst (λ x. IsSet (slice_index words (ports_before net u + p)) k ↔ LeadsNearer net u x p) node (batch_words.told.bit u p k u_in p_in k_in)

-- ---- the bits of a word

contains_last : (xs : List ℕ) (x : ℕ) → Contains (xs ++ x ∷ []) x
contains_last xs x = (length xs, (let long = length_push xs x in omega (arith, long)), get_or_push xs x x (length xs) refl)

contains_pushed : (xs : List ℕ) (x e : ℕ) → Contains (xs ++ x ∷ []) e → Contains xs e ⊎ (e ≡ x)
contains_pushed xs x e has =
    ⊎_elim (λ (less : has.0 < length xs). inl (has.0, less, sym (get_or_append_left xs (x ∷ []) e has.0 less) ∙ has.2))
    (λ (ge : length xs ≤ has.0).
    let last : length xs ≡ has.0 = (let long = length_push xs x in omega (arith, ge, has.1, long)) in
    inr (sym has.2 ∙ get_or_push xs x e has.0 last))
    (cases_lt has.0 (length xs))

pub marking_none : (word first : ℕ) (old : List Bool) (before : List ℕ) → IsMarking word first 0 old before old before
marking_none word first old before = record {
  every = refl;
  others = λ d out. refl;
  here = λ k less room. absurd (omega (arith, less));
  kept = λ d has. has;
  new = λ d has. inl has;
  listed = λ k less room set. absurd (omega (arith, less));
}

-- a bit that is set, at a place of the row
pub marking_set : (word first i d : ℕ) (old : List Bool) (before : List ℕ) (row : List Bool) (marked : List ℕ) → d ≡ first + i → d < length row → IsSet word i → IsMarking word first i old before row marked
    → IsMarking word first (i + 1) old before (set row d true) (marked ++ d ∷ [])
marking_set word first i d old before row marked is d_in bit so_far = record {
  every = length-set row d true ∙ so_far.every;
  others = λ e out. get_or-set_other row d e true false (λ same. out (omega (arith, same, is)) (omega (arith, same, is))) ∙ so_far.others e (λ from to. out from (omega (arith, to)));
  here = λ k less room. ⊎_elim
      (λ (earlier : k < i).
      let same : slice_index_or (set row d true) (first + k) false ≡ slice_index_or row (first + k) false = get_or-set_other row d (first + k) true false (λ e. omega (arith, e, is, earlier)) in
      subst (λ b. (b ≡ true) ↔ IsSet word k) (sym same) (so_far.here k earlier room))
      (λ (ge : i ≤ k).
      let same : k ≡ i = omega (arith, ge, less) in
      let at : first + k ≡ d = omega (arith, same, is) in
      let written : slice_index_or (set row d true) (first + k) false ≡ true = subst (λ x. slice_index_or (set row d true) x false ≡ true) (sym at) (get_or-set_same row d true false d_in) in
      ((λ yes. subst (λ x. IsSet word x) (sym same) bit), (λ yes. written)))
      (cases_lt k i);
  kept = λ e has. Contains-append_left marked (d ∷ []) e (so_far.kept e has);
  new = λ e has. ⊎_elim (λ old_one. so_far.new e old_one) (λ last. inr (omega (arith, last, d_in, so_far.every))) (contains_pushed marked d e has);
  listed = λ k less room yes. ⊎_elim
      (λ (earlier : k < i). Contains-append_left marked (d ∷ []) (first + k) (so_far.listed k earlier room yes))
      (λ (ge : i ≤ k). let at : first + k ≡ d = omega (arith, ge, less, is) in
      subst (λ x. Contains (marked ++ d ∷ []) x) (sym at) (contains_last marked d))
      (cases_lt k i);
}

-- a bit that is not set, or past the end of the row
pub marking_skip : (word first i : ℕ) (old : List Bool) (before : List ℕ) (row : List Bool) (marked : List ℕ) → ((d : ℕ) → first ≤ d → slice_index_or old d false ≡ false) → (first + i < length row → IsSet word i → ⊥)
    → IsMarking word first i old before row marked → IsMarking word first (i + 1) old before row marked
marking_skip word first i old before row marked clean skip so_far = record {
  every = so_far.every;
  others = λ e out. so_far.others e (λ from to. out from (omega (arith, to)));
  here = λ k less room. ⊎_elim (λ (earlier : k < i). so_far.here k earlier room)
      (λ (ge : i ≤ k).
      let same : k ≡ i = omega (arith, ge, less) in
      let none : slice_index_or row (first + k) false ≡ false = so_far.others (first + k) (λ from to. omega (arith, to, ge)) ∙ clean (first + k) (omega arith) in (
        (λ yes. absurd (cc (none, yes))),
        (λ yes. absurd (skip (omega (arith, room, same, so_far.every)) (subst (λ x. IsSet word x) same yes))),
      ))
      (cases_lt k i);
  kept = so_far.kept;
  new = so_far.new;
  listed = λ k less room yes. ⊎_elim (λ (earlier : k < i). so_far.listed k earlier room yes)
      (λ (ge : i ≤ k). let same : k ≡ i = omega (arith, ge, less) in absurd (skip (omega (arith, room, same, so_far.every)) (subst (λ x. IsSet word x) same yes)))
      (cases_lt k i);
}

-- bits that are not set
marking_skips : (n word first i : ℕ) (old : List Bool) (before : List ℕ) (row : List Bool) (marked : List ℕ) → ((d : ℕ) → first ≤ d → slice_index_or old d false ≡ false)
    → ((k : ℕ) → i ≤ k → k < i + n → IsSet word k → ⊥) → IsMarking word first i old before row marked → IsMarking word first (i + n) old before row marked
marking_skips zero word first i old before row marked clean none so_far =
    let same : i ≡ i + 0 = omega arith in
    subst (λ j. IsMarking word first j old before row marked) same so_far
marking_skips (suc n) word first i old before row marked clean none so_far =
    let same : i + n + 1 ≡ i + suc n = omega arith in
    let rest = marking_skips n word first i old before row marked clean (λ k from to. none k from (omega (arith, to))) so_far in
    subst (λ j. IsMarking word first j old before row marked) same (marking_skip word first (i + n) old before row marked clean (λ room. none (i + n) (omega arith) (omega arith)) rest)

-- a bit of what is left of a word after its first bits
rest_bit : (word i j : ℕ) → word / 2 ^ i / 2 ^ j ≡ word / 2 ^ (i + j)
rest_bit word i j = div-div-eq-div-mul word (2 ^ i) (2 ^ j) ∙ ap (λ m. word / m) (sym (pow-add 2 i j))

-- a word of 16 bits has no other
set_below : (word k : ℕ) → word < 65536 → IsSet word k → k < 16
set_below word k fits set =
    ⊎_elim (λ (less : k < 16). less)
    (λ (ge : 16 ≤ k).
    let big : 2 ^ 16 ≤ 2 ^ k = pow_mono {i = 16} {j = k} ge in
    let part : word / 2 ^ k * 2 ^ k ≤ word = div-mul-le_self word (2 ^ k) in
    absurd (⊎_elim (λ (none : word / 2 ^ k ≡ 0). omega (arith, none, set))
    (λ (some : word / 2 ^ k ≢ 0).
    let up : 1 * 2 ^ k ≤ word / 2 ^ k * 2 ^ k = mul-le 1 (2 ^ k) (word / 2 ^ k) (2 ^ k) (omega (arith, some)) (omega arith) in
    omega (arith, up, part, big, fits))
    (cases_eq (word / 2 ^ k) 0)))
    (cases_lt k 16)

-- where the next bit of a word is that is set
module _ (word first i skip rest : ℕ) (old : List Bool) (before : List ℕ) (row : List Bool) (marked : List ℕ) (fits : word < 65536) (clean : (d : ℕ) → first ≤ d → slice_index_or old d false ≡ false)
    (is : rest ≡ word / 2 ^ i) (some : rest ≢ 0) (skipped : skip ≡ trailing_zeros w16 rest) (so_far : IsMarking word first i old before row marked) where
  lowest : (trailing_zeros w16 rest < 16) × (bit_at rest (trailing_zeros w16 rest) ≡ 1) × ((j : ℕ) → j < trailing_zeros w16 rest → bit_at rest j ≡ 0)
  lowest = bit_at-trailing_zeros w16 rest (omega (arith, some)) (omega (arith, is, shr_le word i, fits))

  -- a bit of the word is one of what is left
  told : (j : ℕ) → bit_at rest j ≡ word / 2 ^ (i + j) % 2
  told j = ap (λ x. x / 2 ^ j % 2) is ∙ ap (λ x. x % 2) (rest_bit word i j)

  pub next_set : IsSet word (i + skip)
  next_set = subst (λ x. IsSet word (i + x)) (sym skipped) (sym (told (trailing_zeros w16 rest)) ∙ lowest.1)

  pub next_in : i + skip < 16
  next_in = set_below word (i + skip) fits next_set

  pub skip_in : skip < 16
  skip_in = omega (arith, skipped, lowest.0)

  up_to : IsMarking word first (i + skip) old before row marked
  up_to = marking_skips skip word first i old before row marked clean
      (λ k from to set.
      let at : i + (k - i) ≡ k = omega (arith, from) in
      let none : word / 2 ^ (i + (k - i)) % 2 ≡ 0 = sym (told (k - i)) ∙ lowest.2 (k - i) (omega (arith, from, to, skipped)) in
      let set' : word / 2 ^ (i + (k - i)) % 2 ≡ 1 = subst (λ x. IsSet word x) (sym at) set in
      omega (arith, none, set')) so_far

  -- its place is marked
  pub next_marked : first + i + skip < length row → IsMarking word first (i + (skip + 1)) old before (set row (first + i + skip) true) (marked ++ (first + i + skip) ∷ [])
  next_marked room =
      let at : i + skip + 1 ≡ i + (skip + 1) = omega arith in
      subst (λ j. IsMarking word first j old before (set row (first + i + skip) true) (marked ++ (first + i + skip) ∷ [])) at
      (marking_set word first (i + skip) (first + i + skip) old before row marked (omega arith) room next_set up_to)

  -- or past the end
  pub next_past : (first + i + skip < length row → ⊥) → IsMarking word first (i + (skip + 1)) old before row marked
  next_past past =
      let at : i + skip + 1 ≡ i + (skip + 1) = omega arith in
      subst (λ j. IsMarking word first j old before row marked) at
      (marking_skip word first (i + skip) old before row marked clean (λ room set. past (omega (arith, room))) up_to)

  pub next_rest : rest / 2 ^ skip / 2 ^ 1 ≡ word / 2 ^ (i + (skip + 1))
  next_rest =
      let at : i + skip + 1 ≡ i + (skip + 1) = omega arith in
      ap (λ x. x / 2 ^ skip / 2 ^ 1) is ∙ (ap (λ x. x / 2 ^ 1) (rest_bit word i skip) ∙ (rest_bit word (i + skip) 1 ∙ ap (λ x. word / 2 ^ x) at))

-- no bit is left
pub marking_done : (word first i : ℕ) (old : List Bool) (before : List ℕ) (row : List Bool) (marked : List ℕ) → i ≤ 16 → ((d : ℕ) → first ≤ d → slice_index_or old d false ≡ false)
    → word / 2 ^ i ≡ 0 → IsMarking word first i old before row marked → IsMarking word first 16 old before row marked
marking_done word first i old before row marked i_in clean none so_far =
    let at : i + (16 - i) ≡ 16 = omega (arith, i_in) in
    subst (λ j. IsMarking word first j old before row marked) at
    (marking_skips (16 - i) word first i old before row marked clean
    (λ k from to set.
    let here : i + (k - i) ≡ k = omega (arith, from) in
    let zero_here : word / 2 ^ (i + (k - i)) ≡ 0 = sym (rest_bit word i (k - i)) ∙ (ap (λ x. x / 2 ^ (k - i)) none ∙ zero-div (2 ^ (k - i))) in
    let set' : word / 2 ^ (i + (k - i)) % 2 ≡ 1 = subst (λ x. IsSet word x) (sym here) set in
    omega (arith, zero_here, set')) so_far)

-- ---- the row of a port

-- the marks of a port at the first i places, and the places that have one
pub record IsMarkedTo (net : Topology) (nodes : List ℕ) (u p i : ℕ) (row : List Bool) (marked : List ℕ) : Type 0 where
  pub every : length row ≡ length nodes
  pub below : (d : ℕ) → d < length nodes → d < i → (slice_index_or row d false ≡ true) ↔ LeadsNearer net u (slice_index nodes d) p
  pub behind : (d : ℕ) → i ≤ d → slice_index_or row d false ≡ false
  pub place : (d : ℕ) → Contains marked d → d < length nodes
  pub each : (d : ℕ) → d < length nodes → slice_index_or row d false ≡ true → Contains marked d

unset : (n d : ℕ) → slice_index_or (replicate n false) d false ≡ false
unset zero d = refl
unset (suc n) zero = refl
unset (suc n) (suc d) = unset n d

pub marked_none : (net : Topology) (nodes : List ℕ) (u p : ℕ) → IsMarkedTo net nodes u p 0 (replicate (length nodes) false) []
marked_none net nodes u p = record {
  every = length-replicate (length nodes) false;
  below = λ d d_in less. absurd (omega (arith, less));
  behind = λ d from. unset (length nodes) d;
  place = λ d has. absurd (omega (arith, has.1));
  each = λ d d_in yes. absurd (let no = unset (length nodes) d in cc (no, yes));
}

pub marked_more : (net : Topology) (nodes : List ℕ) (u p i word : ℕ) (row : List Bool) (marked : List ℕ) (row' : List Bool) (marked' : List ℕ)
    → ((k : ℕ) → k < 16 → i + k < length nodes → IsSet word k ↔ LeadsNearer net u (slice_index nodes (i + k)) p)
    → IsMarkedTo net nodes u p i row marked → PutsWord word i row marked row' marked' → IsMarkedTo net nodes u p (i + 16) row' marked'
marked_more net nodes u p i word row marked row' marked' bits before put = record {
  every = put.every ∙ before.every;
  below = λ d d_in less. ⊎_elim
      (λ (earlier : d < i). subst (λ b. (b ≡ true) ↔ LeadsNearer net u (slice_index nodes d) p) (sym (put.others d (λ from to. omega (arith, from, earlier)))) (before.below d d_in earlier))
      (λ (ge : i ≤ d).
      let at : i + (d - i) ≡ d = omega (arith, ge) in
      let set = put.here (d - i) (omega (arith, less, ge)) (omega (arith, at, d_in, before.every)) in
      let told = bits (d - i) (omega (arith, less, ge)) (omega (arith, at, d_in)) in
      subst (λ x. (slice_index_or row' x false ≡ true) ↔ LeadsNearer net u (slice_index nodes x) p) at ((λ yes. told.0 (set.0 yes)), (λ near. set.1 (told.1 near))))
      (cases_lt d i);
  behind = λ d ge. put.others d (λ from to. omega (arith, to, ge)) ∙ before.behind d (omega (arith, ge));
  place = λ d has. ⊎_elim (λ old_one. before.place d old_one) (λ in_row. omega (arith, in_row, before.every)) (put.new d has);
  each = λ d d_in yes. ⊎_elim
      (λ (earlier : d < i). put.kept d (before.each d d_in (sym (put.others d (λ from to. omega (arith, from, earlier))) ∙ yes)))
      (λ (ge : i ≤ d). ⊎_elim
      (λ (here : d < i + 16).
      let at : i + (d - i) ≡ d = omega (arith, ge) in
      let k_in : d - i < 16 = omega (arith, here, ge) in
      let room : i + (d - i) < length row = omega (arith, at, d_in, before.every) in
      let yes' : slice_index_or row' (i + (d - i)) false ≡ true = subst (λ x. slice_index_or row' x false ≡ true) (sym at) yes in
      subst (λ x. Contains marked' x) at (put.listed (d - i) k_in room ((put.here (d - i) k_in room).0 yes')))
      (λ (past : i + 16 ≤ d).
      let none : slice_index_or row' d false ≡ false = put.others d (λ from to. omega (arith, to, past)) ∙ before.behind d ge in absurd (cc (none, yes)))
      (cases_lt d (i + 16)))
      (cases_lt d i);
}
