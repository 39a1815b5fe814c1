-- Parts of near nodes, moved and put after one another.
use Rattle.std.proofs.Common.{◌≡◌, ℕ, zero, suc, ◌+◌, ◌-◌, ◌*◌, ◌/◌, ◌%◌, min, ◌<◌, ◌≤◌, Bool, true, false, List, [], ◌∷◌, ◌++◌, length, set, refl, ap, sym, ◌∙◌, subst, inl, inr, arith}
use Rattle.std.specs.Prelude.{slice_index, slice_index_or, ◌==◌, if◌then◌else◌}
use Rattle.std.specs.Global.{Vec}
use Rattle.std.proofs.lemmas.Bool.{cases_eq}
use Rattle.std.proofs.lemmas.List.{get_or_append_left, get_or-append-add, get_or-set_same, get_or-set_other, get_or_default, length-append, append_assoc}
use Rattle.ir_model.specs.Topology.{Topology, node_count}
use Rattle.ir_model.specs.Walk.{IsDistance}
use Rattle.ir_model.specs.Landmark.{IsLandmarkOf, IsLandmarkBound, is_far}
use Rattle.ir_model.proofs.Landmarks.{landmark_unique}
use Rattle.ir_bounds.specs.Bounds.{held_lists, AreBoundsFrom}
use Rattle.ir_bounds.specs.Around.{AreDistancesIn}
use Rattle.ir_bounds.proofs.Numbers.{list_at}
use Rattle.ir_bounds.specs.Near.{halved_at, has_all, part_end, entry_node, entry_bound, begin_of, IsWayRound, AreWaysRound, AreNearBounds, AreNearAt, IsNearPart, AreNearParts, IsNearBatch, AreNearBatches}
use Rattle.ir_bounds.specs.Entries.{AreNearEntries, AreAllEntries, ArePut}

after_head : (b y l : ℕ) → b + 2 + y ≤ l → b + 1 < l
after_head b y l h = omega (arith, h)

moved_end : (c s b y z : ℕ) → c ≡ s + b → y ≡ z → c + 2 + y ≡ s + (b + 2 + z)
moved_end c s b y z h e = omega (arith, h, e)

-- where the next part begins
pub begin_next : (xs : List ℕ) (k : ℕ) → begin_of xs (k + 1) ≡ part_end xs (begin_of xs k)
begin_next xs k = let e : k + 1 ≡ suc k = omega arith in ap (begin_of xs) e

-- a part that stands elsewhere, in another list
module _ (xs zs : List ℕ) (s b c : ℕ) (moved : c ≡ s + b) (same : (i k : ℕ) → i < length xs → k ≡ s + i → slice_index zs k ≡ slice_index xs i) (inside : part_end xs b ≤ length xs) where
  abbrev size : ℕ → ℕ → ℕ
  size t n = if t == 2 then 2 * n else 3 * n

  head : b + 1 < length xs
  head = after_head b (size (slice_index xs (b + 1)) (slice_index xs b)) (length xs) inside

  flag : slice_index zs (c + 1) ≡ slice_index xs (b + 1)
  flag = same (b + 1) (c + 1) head (omega (arith, moved))

  count : slice_index zs c ≡ slice_index xs b
  count = same b c (omega (arith, head)) moved

  pub end_moved : part_end zs c ≡ s + part_end xs b
  end_moved = moved_end c s b (size (slice_index zs (c + 1)) (slice_index zs c)) (size (slice_index xs (b + 1)) (slice_index xs b)) moved (ap (λ (t : ℕ). size t (slice_index zs c)) flag ∙ ap (size (slice_index xs (b + 1))) count)

  number_moved : (i k : ℕ) → i + 1 < length xs → k ≡ s + i → halved_at zs k ≡ halved_at xs i
  number_moved i k lt e =
      let low = same i k (omega (arith, lt)) e in
      let high = same (i + 1) (k + 1) lt (omega (arith, e)) in
      omega (arith, low, high)

  node_by : (t : Bool) (n j : ℕ) → b + 2 + (if t then 2 * n else 3 * n) ≤ length xs → j < n → (if t then j else slice_index zs (c + 2 + 3 * j + 2)) ≡ (if t then j else slice_index xs (b + 2 + 3 * j + 2))
  node_by true n j h lt = refl
  node_by false n j h lt = same (b + 2 + 3 * j + 2) (c + 2 + 3 * j + 2) (omega (arith, h, lt)) (omega (arith, moved))

  bound_by : (t : Bool) (n j : ℕ) → b + 2 + (if t then 2 * n else 3 * n) ≤ length xs → j < n
      → (if t then halved_at zs (c + 2 + 2 * j) else halved_at zs (c + 2 + 3 * j)) ≡ (if t then halved_at xs (b + 2 + 2 * j) else halved_at xs (b + 2 + 3 * j))
  bound_by true n j h lt = number_moved (b + 2 + 2 * j) (c + 2 + 2 * j) (omega (arith, h, lt)) (omega (arith, moved))
  bound_by false n j h lt = number_moved (b + 2 + 3 * j) (c + 2 + 3 * j) (omega (arith, h, lt)) (omega (arith, moved))

  node_moved : (j : ℕ) → j < slice_index xs b → entry_node zs c j ≡ entry_node xs b j
  node_moved j lt = ap (λ (t : ℕ). if t == 2 then j else slice_index zs (c + 2 + 3 * j + 2)) flag ∙ node_by (has_all xs b) (slice_index xs b) j inside lt

  bound_moved : (j : ℕ) → j < slice_index xs b → entry_bound zs c j ≡ entry_bound xs b j
  bound_moved j lt = ap (λ (t : ℕ). if t == 2 then halved_at zs (c + 2 + 2 * j) else halved_at zs (c + 2 + 3 * j)) flag ∙ bound_by (has_all xs b) (slice_index xs b) j inside lt

  pub near_moved : (net : Topology) (landmarks : List ℕ) (stretch u : ℕ) → s + length xs ≤ length zs → AreNearBounds net landmarks stretch u (slice_index xs b) (entry_node xs b) (entry_bound xs b) → AreNearAt net landmarks stretch u zs c
  near_moved net landmarks stretch u room near = record {
    within = let e = end_moved in omega (arith, e, inside, room);
    near = record {
      each = λ j lt.
          let l : j < slice_index xs b = omega (arith, lt, count) in
          rw (node_moved j l, bound_moved j l) (near.each j l);
      rest = λ d hd.
          elim (near.rest d hd) [
            | inl f ↦ inl f
            | inr w ↦ inr (w.0, omega (arith, w.1, count), node_moved w.0 w.1 ∙ w.2)
          ];
    };
  }

module _ (xs ys : List ℕ) where
  stays : (i k : ℕ) → i < length xs → k ≡ 0 + i → slice_index (xs ++ ys) k ≡ slice_index xs i
  stays i k lt e = ap (slice_index (xs ++ ys)) (omega (arith, e)) ∙ get_or_append_left xs ys 0 i lt

  follows : (i k : ℕ) → i < length ys → k ≡ length xs + i → slice_index (xs ++ ys) k ≡ slice_index ys i
  follows i k lt e = ap (slice_index (xs ++ ys)) e ∙ get_or-append-add xs ys i 0

  begin_stays : (k : ℕ) → ((i : ℕ) → i < k → part_end xs (begin_of xs i) ≤ length xs) → begin_of (xs ++ ys) k ≡ begin_of xs k
  begin_stays zero h = refl
  begin_stays (suc k) h = ap (part_end (xs ++ ys)) (begin_stays k (λ i lt. h i (omega (arith, lt)))) ∙ (let e = end_moved xs (xs ++ ys) 0 (begin_of xs k) (begin_of xs k) (omega arith) stays (h k (omega arith)) in omega (arith, e))

  -- the part of one node more
  pub parts_more : (net : Topology) (landmarks : List ℕ) (stretch first m u : ℕ) → u ≡ first + m → AreNearParts net landmarks stretch first m xs → IsNearPart net landmarks stretch u ys → AreNearParts net landmarks stretch first (m + 1) (xs ++ ys)
  parts_more net landmarks stretch first m u is before part =
      let long : length (xs ++ ys) ≡ length xs + length ys = length-append xs ys in
      let begin : (k : ℕ) → k < m + 1 → begin_of (xs ++ ys) k ≡ begin_of xs k = λ k lt. begin_stays k (λ i l. (before.each i (omega (arith, l, lt))).within) in
      let last : begin_of (xs ++ ys) m ≡ length xs = begin m (omega arith) ∙ before.whole in
      let own = near_moved ys (xs ++ ys) (length xs) 0 (length xs) (omega arith) follows part.at.within net landmarks stretch u (omega (arith, long)) part.at.near in
      record {
        each = λ k lt.
            elim (cases_eq k m) [
              | inl e ↦
                  subst (λ (x : ℕ). AreNearAt net landmarks stretch (first + x) (xs ++ ys) (begin_of (xs ++ ys) x)) (sym e)
                  (subst (λ (x : ℕ). AreNearAt net landmarks stretch (first + m) (xs ++ ys) x) (sym last) (subst (λ (x : ℕ). AreNearAt net landmarks stretch x (xs ++ ys) (length xs)) is own))
              | inr ne ↦
                  let l : k < m = omega (arith, lt, ne) in
                  let at = before.each k l in
                  subst (λ (x : ℕ). AreNearAt net landmarks stretch (first + k) (xs ++ ys) x) (sym (begin k lt))
                  (near_moved xs (xs ++ ys) 0 (begin_of xs k) (begin_of xs k) (omega arith) stays at.within net landmarks stretch (first + k) (omega (arith, long)) at.near)
            ];
        whole =
            let end = end_moved ys (xs ++ ys) (length xs) 0 (length xs) (omega arith) follows part.at.within in
            let next : begin_of (xs ++ ys) (m + 1) ≡ part_end (xs ++ ys) (length xs) = begin_next (xs ++ ys) m ∙ ap (part_end (xs ++ ys)) last in
            next ∙ end ∙ ap (λ (x : ℕ). length xs + x) part.whole ∙ sym long;
      }

-- the numbers of a list to which others are put
number_stays : (xs ys : List ℕ) (i : ℕ) → i + 1 < length xs → halved_at (xs ++ ys) i ≡ halved_at xs i
number_stays xs ys i lt =
    let low = get_or_append_left xs ys 0 i (omega (arith, lt)) in
    let high = get_or_append_left xs ys 0 (i + 1) lt in
    omega (arith, low, high)

number_put : (xs : List ℕ) (low high i : ℕ) (ys : List ℕ) → i ≡ length xs → halved_at (xs ++ (low ∷ high ∷ ys)) i ≡ low + 65536 * high
number_put xs low high i ys e =
    let a : slice_index (xs ++ (low ∷ high ∷ ys)) i ≡ low = follows xs (low ∷ high ∷ ys) 0 i (omega arith) (omega (arith, e)) in
    let b : slice_index (xs ++ (low ∷ high ∷ ys)) (i + 1) ≡ high = follows xs (low ∷ high ∷ ys) 1 (i + 1) (omega arith) (omega (arith, e)) in
    omega (arith, a, b)

-- entries, one after the other
module _ (net : Topology) (landmarks : List ℕ) (stretch u : ℕ) where
  -- an entry for one node more
  pub near_taken : (i count number low high : ℕ) (xs more : List ℕ) → AreNearEntries net landmarks stretch u i count xs → more ≡ xs ++ (low ∷ high ∷ []) ++ (i ∷ []) → number ≡ low + 65536 * high
      → IsLandmarkBound net landmarks stretch u i number → AreNearEntries net landmarks stretch u (i + 1) (count + 1) more
  near_taken i count number low high xs more before is halves bound =
      let ys : List ℕ = low ∷ high ∷ i ∷ [] in
      let flat : more ≡ xs ++ ys = is ∙ append_assoc xs (low ∷ high ∷ []) (i ∷ []) in
      let old : (j : ℕ) → j < count → slice_index (xs ++ ys) (3 * j + 2) ≡ slice_index xs (3 * j + 2) = λ j lt. stays xs ys (3 * j + 2) (3 * j + 2) (omega (arith, lt, before.long)) (omega arith) in
      let node : slice_index (xs ++ ys) (3 * count + 2) ≡ i = follows xs ys 2 (3 * count + 2) (omega arith) (omega (arith, before.long)) in
      let put : halved_at (xs ++ ys) (3 * count) ≡ number = number_put xs low high (3 * count) (i ∷ []) (omega (arith, before.long)) ∙ sym halves in
      rw flat
      (record {
        long = let e = length-append xs ys in omega (arith, e, before.long);
        few = omega (arith, before.few);
        each = λ j lt.
            elim (cases_eq j count) [
              | inl e ↦ subst (λ (x : ℕ). (slice_index (xs ++ ys) (3 * x + 2) < i + 1) × IsLandmarkBound net landmarks stretch u (slice_index (xs ++ ys) (3 * x + 2)) (halved_at (xs ++ ys) (3 * x))) (sym e) (omega (arith, node), rw (node, put) bound)
              | inr ne ↦
                  let l : j < count = omega (arith, lt, ne) in
                  let at = before.each j l in
                  let number_same = number_stays xs ys (3 * j) (omega (arith, l, before.long)) in
                  (omega (arith, old j l, at.0), rw (old j l, number_same) at.1)
            ];
        rest = λ d lt.
            elim (cases_eq d i) [
              | inl e ↦ inr (count, omega arith, node ∙ sym e)
              | inr ne ↦ elim (before.rest d (omega (arith, lt, ne))) [
                | inl f ↦ inl f
                | inr w ↦ inr (w.0, omega (arith, w.1), old w.0 w.1 ∙ w.2)
              ]
            ];
      })

  -- none for a node to which the bound is the way round
  pub near_passed : (i count : ℕ) (xs : List ℕ) → AreNearEntries net landmarks stretch u i count xs → ((way : ℕ) → IsWayRound net landmarks u i way → IsLandmarkBound net landmarks stretch u i way) → AreNearEntries net landmarks stretch u (i + 1) count xs
  near_passed i count xs before round = record {
    long = before.long;
    few = omega (arith, before.few);
    each = λ j lt. let at = before.each j lt in (omega (arith, at.0), at.1);
    rest = λ d lt.
        elim (cases_eq d i) [
          | inl e ↦ inl (subst (λ (x : ℕ). (way : ℕ) → IsWayRound net landmarks u x way → IsLandmarkBound net landmarks stretch u x way) (sym e) round)
          | inr ne ↦ before.rest d (omega (arith, lt, ne))
        ];
  }

  pub all_taken : (i number low high : ℕ) (xs more : List ℕ) → AreAllEntries net landmarks stretch u i xs → more ≡ xs ++ (low ∷ high ∷ []) → number ≡ low + 65536 * high → IsLandmarkBound net landmarks stretch u i number
      → AreAllEntries net landmarks stretch u (i + 1) more
  all_taken i number low high xs more before is halves bound =
      let ys : List ℕ = low ∷ high ∷ [] in
      let put : halved_at (xs ++ ys) (2 * i) ≡ number = number_put xs low high (2 * i) [] (omega (arith, before.long)) ∙ sym halves in
      rw is
      (record {
        long = let e = length-append xs ys in omega (arith, e, before.long);
        each = λ d lt.
            elim (cases_eq d i) [
              | inl e ↦ subst (λ (x : ℕ). IsLandmarkBound net landmarks stretch u x (halved_at (xs ++ ys) (2 * x))) (sym e) (rw put bound)
              | inr ne ↦
                  let l : d < i = omega (arith, lt, ne) in
                  let number_same = number_stays xs ys (2 * d) (omega (arith, l, before.long)) in
                  rw number_same (before.each d l)
            ];
      })

  -- the part that entries make
  pub named_part : (count : ℕ) (xs part : List ℕ) → part ≡ count ∷ 3 ∷ xs → AreNearEntries net landmarks stretch u (node_count net) count xs → IsNearPart net landmarks stretch u part
  named_part count xs part is are =
      let made : List ℕ = count ∷ 3 ∷ xs in
      let at : (i k : ℕ) → k ≡ 2 + i → slice_index made k ≡ slice_index xs i = λ i k e. ap (slice_index made) e ∙ get_or-append-add (count ∷ 3 ∷ []) xs i 0 in
      let long : 0 + 2 + 3 * count ≡ length made = omega (arith, are.long) in
      let node : (j : ℕ) → slice_index made (0 + 2 + 3 * j + 2) ≡ slice_index xs (3 * j + 2) = λ j. at (3 * j + 2) (0 + 2 + 3 * j + 2) (omega arith) in
      let number : (j : ℕ) → halved_at made (0 + 2 + 3 * j) ≡ halved_at xs (3 * j) = λ j. (let a = at (3 * j) (0 + 2 + 3 * j) (omega arith) in let b = at (3 * j + 1) (0 + 2 + 3 * j + 1) (omega arith) in omega (arith, a, b)) in
      rw is
      (record {
        at = record {
          within = omega (arith, long);
          near = record {
            each = λ j lt. (let e = are.each j lt in rw (node j, number j) e);
            rest = λ d hd. elim (are.rest d hd) [ inl f ↦ inl f | inr w ↦ inr (w.0, w.1, node w.0 ∙ w.2) ];
          };
        };
        whole = long;
      })

  pub plain_part : (n : ℕ) (xs part : List ℕ) → n ≡ node_count net → part ≡ n ∷ 2 ∷ xs → AreAllEntries net landmarks stretch u (node_count net) xs → IsNearPart net landmarks stretch u part
  plain_part n xs part every is are =
      let made : List ℕ = n ∷ 2 ∷ xs in
      let at : (i k : ℕ) → k ≡ 2 + i → slice_index made k ≡ slice_index xs i = λ i k e. ap (slice_index made) e ∙ get_or-append-add (n ∷ 2 ∷ []) xs i 0 in
      let long : 0 + 2 + 2 * n ≡ length made = omega (arith, are.long, every) in
      let number : (j : ℕ) → halved_at made (0 + 2 + 2 * j) ≡ halved_at xs (2 * j) = λ j. (let a = at (2 * j) (0 + 2 + 2 * j) (omega arith) in let b = at (2 * j + 1) (0 + 2 + 2 * j + 1) (omega arith) in omega (arith, a, b)) in
      rw is
      (record {
        at = record {
          within = omega (arith, long);
          near = record {
            each = λ j lt. (let l : j < node_count net = omega (arith, lt, every) in (l, rw (number j) (are.each j l)));
            rest = λ d hd. inr (d, omega (arith, hd, every), refl);
          };
        };
        whole = long;
      })

  -- where a node is far, the bound is the way round
  pub far_round : (d l radius away : ℕ) → IsLandmarkOf net landmarks d l radius → IsDistance net u d away → is_far stretch away radius ≡ true → (way : ℕ) → IsWayRound net landmarks u d way → IsLandmarkBound net landmarks stretch u d way
  far_round d l radius away of direct far way round =
      let same : round.radius ≡ radius = (landmark_unique net landmarks d round.landmark l round.radius radius round.of_end of).1 in
      record {
        landmark = round.landmark;
        radius = round.radius;
        away = away;
        around = round.around;
        of_end = round.of_end;
        direct = direct;
        to_landmark = round.to_landmark;
        is = round.is ∙ sym (ap (λ (t : Bool). if t then round.around + round.radius else away) (ap (is_far stretch away) same ∙ far));
      }

  -- and where it is not, the distance
  pub near_distance : (d l radius away around : ℕ) → IsLandmarkOf net landmarks d l radius → IsDistance net u d away → IsDistance net u l around → is_far stretch away radius ≡ false → IsLandmarkBound net landmarks stretch u d away
  near_distance d l radius away around of direct to near = record {
    landmark = l;
    radius = radius;
    away = away;
    around = around;
    of_end = of;
    direct = direct;
    to_landmark = to;
    is = sym (ap (λ (t : Bool). if t then around + radius else away) near);
  }

-- one place more, where each of the first i members of a list has what is at it
pub put_more : (P : ℕ → ℕ → Type 0) (members xs : List ℕ) (i l x : ℕ) → ((k : ℕ) → k < i → P (slice_index members k) (slice_index xs (slice_index members k))) → l ≡ slice_index members i → l < length xs → P l x
    → (k : ℕ) → k < i + 1 → P (slice_index members k) (slice_index (set xs l x) (slice_index members k))
put_more P members xs i l x before is within holds k lt =
    elim (cases_eq (slice_index members k) l) [
      | inl e ↦ subst (λ (y : ℕ). P y (slice_index (set xs l x) y)) (sym e) (subst (P l) (sym (get_or-set_same xs l x 0 within)) holds)
      | inr ne ↦ subst (P (slice_index members k)) (sym (get_or-set_other xs l (slice_index members k) x 0 ne)) (before k (omega (arith, lt, (λ (e : k ≡ i). ne (ap (slice_index members) e ∙ sym is)))))
    ]

-- the distance to the landmark of a node, where those to all landmarks are
pub owner_distance : (net : Topology) (landmarks : List ℕ) (u d l radius : ℕ) (around : List ℕ) → AreDistancesIn net landmarks u (length landmarks) around → IsLandmarkOf net landmarks d l radius → IsDistance net u l (slice_index around l)
owner_distance net landmarks u d l radius around are of =
    let at : slice_index landmarks of.among.0 ≡ l = get_or_default landmarks of.among.0 0 l of.among.1 ∙ of.among.2 in
    subst (λ (x : ℕ). IsDistance net u x (slice_index around x)) at (are.each of.among.0 of.among.1)

-- the list of a vector that was read
pub read_list : (made : List (Vec ℕ)) (i : ℕ) (v : Vec ℕ) → i < length made → v ≡ slice_index_or made i v → slice_index_or (held_lists made) i [] ≡ v.items
read_list made i v lt is = list_at made i v lt ∙ sym (ap (λ (w : Vec ℕ). w.items) is)

-- the part of a node in the lists of all batches
pub near_of : (net : Topology) (landmarks : List ℕ) (stretch : ℕ) (lists : List (List ℕ)) → AreNearBatches net landmarks stretch lists → (u : ℕ) → u < node_count net → (xs : List ℕ) → slice_index_or lists (u / 16) [] ≡ xs
    → ((k : ℕ) → k < u % 16 → part_end xs (begin_of xs k) ≤ length xs) × AreNearAt net landmarks stretch u xs (begin_of xs (u % 16))
near_of net landmarks stretch lists are u hu xs same =
    let b : ℕ = u / 16 in
    let inside : b < length lists = omega (arith, hu, are.enough) in
    let parts : IsNearBatch net landmarks stretch b xs = subst (IsNearBatch net landmarks stretch b) same (are.each b inside) in
    let count : u % 16 < min 16 (node_count net - b * 16) = omega (arith, hu) in
    let own : b * 16 + u % 16 ≡ u = omega arith in
    ((λ k lt. (parts.each k (omega (arith, lt, count))).within), subst (λ (x : ℕ). AreNearAt net landmarks stretch x xs (begin_of xs (u % 16))) own (parts.each (u % 16) count))

-- the ways round, with the bounds of a part in their places
pub put_are_bounds : (net : Topology) (landmarks : List ℕ) (stretch u : ℕ) (xs : List ℕ) (b : ℕ) (old row : List ℕ) → AreNearAt net landmarks stretch u xs b → AreWaysRound net landmarks u old → ArePut xs b (slice_index xs b) old row
    → AreBoundsFrom net landmarks stretch u row
put_are_bounds net landmarks stretch u xs b old row at round put = record {
  every = put.every ∙ round.every;
  each = λ d hd.
      elim (put.each d) [
        | inl w ↦ rw w.3 (subst (λ (x : ℕ). IsLandmarkBound net landmarks stretch u x (entry_bound xs b w.0)) w.2 (at.near.each w.0 w.1).1)
        | inr w ↦ elim (at.near.rest d hd) [
          | inl f ↦ rw w.1 (f (slice_index old d) (round.each d hd))
          | inr j ↦ absurd (w.0 j.0 j.1 j.2)
        ]
      ];
}
