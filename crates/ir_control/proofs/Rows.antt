-- Rows of all ports.
use Rattle.std.specs.Prelude.{◌≡◌, ℕ, zero, suc, ◌+◌, ◌-◌, ◌<◌, ◌≤◌, Bool, true, false, eqb, ltb, Some, List, [], ◌∷◌, ◌++◌, length, slice_get, slice_index, slice_index_or, sum_by, take}
use Rattle.std.proofs.Common.{refl, arith, sym, ap, ◌∙◌, subst, inl, inr, get_or}
use Rattle.std.proofs.lemmas.Option.{slice_get_within, slice_get-get_or, same_Some, none-some}
use Rattle.std.proofs.lemmas.Bool.{eqb-true, eqb-false, ltb-true, ltb-false}
use Rattle.std.proofs.lemmas.List.{get_or_append_left, get_or_push, length_push}
use Rattle.std.proofs.lemmas.List.Sums.{sum_by-cons, sum_by_more, sum_by-take-le}
use Rattle.ir_model.specs.declared.Hop.{Hop}
use Rattle.ir_model.specs.Topology.{Topology, node_count, port_at, port_back, ports_of, IsTopology}
use Rattle.ir_core.proofs.Lists.{get_push}
use Rattle.ir_control.specs.Places.{offset, way_count, IsFilledTo, IsFilled, IsPeer}
use Rattle.ir_control.specs.Pairs.{ArePeers}
use Rattle.ir_links.specs.Ends.{Channel}
use Rattle.ir_epochs.specs.declared.registry.Stamp.{Stamp}
use Rattle.ir_worker.specs.declared.parcel.Place.{Place}
use Rattle.ir_control.specs.Wired.{IsNetChannel, AreWiredWays}

-- each place has its number in the row with one number more
pub place_more : (f : ℕ → ℕ) (xs after : List ℕ) (u x : ℕ) → length xs ≡ u → x ≡ f u → after ≡ xs ++ x ∷ [] → ((v : ℕ) → v < u → slice_index xs v ≡ f v)
    → (v : ℕ) → v < u + 1 → slice_index after v ≡ f v
place_more f xs after u x len here e had v lt = ap (λ (ys : List ℕ). slice_index ys v) e ∙ go (eqb v u) refl where
  go : (b : Bool) → eqb v u ≡ b → slice_index (xs ++ x ∷ []) v ≡ f v
  go true same = get_or_push xs x 0 v (len ∙ sym (eqb-true v u same)) ∙ here ∙ ap f (sym (eqb-true v u same))
  go false other =
      let apart = eqb-false v u other in
      let less : v < u = omega (arith, lt, apart) in
      get_or_append_left xs (x ∷ []) 0 v (omega (arith, len, less)) ∙ had v less

pub offset_zero : (net : Topology) → offset net 0 ≡ 0
unfolding offset
offset_zero net = refl

pub offset_next : (net : Topology) (u : ℕ) → u < node_count net → offset net (u + 1) ≡ offset net u + length (ports_of net u)
unfolding offset
offset_next net u lt = sum_by_more length net.ports u [] lt

take_whole : {A : Type 0} (xs : List A) → take (length xs) xs ≡ xs
take_whole [] = refl
take_whole (x ∷ xs) = ap (λ ys. x ∷ ys) (take_whole xs)

pub offset_all : (net : Topology) → offset net (node_count net) ≡ way_count net
unfolding offset way_count
offset_all net = ap (sum_by length) (take_whole net.ports)

pub offset_le : (net : Topology) (u : ℕ) → offset net u ≤ way_count net
unfolding offset way_count
offset_le net u = sum_by-take-le length net.ports u

take_mono : (rows : List (List Hop)) (a b : ℕ) → a ≤ b → sum_by length (take a rows) ≤ sum_by length (take b rows)
take_mono [] zero zero h = omega arith
take_mono [] zero (suc b) h = omega arith
take_mono [] (suc a) zero h = omega arith
take_mono [] (suc a) (suc b) h = omega arith
take_mono (row ∷ rows) zero b h = omega arith
take_mono (row ∷ rows) (suc a) zero h = absurd (omega (arith, h))
take_mono (row ∷ rows) (suc a) (suc b) h =
    let rest = take_mono rows a b (omega (arith, h)) in
    omega (arith, rest, sum_by-cons length row (take a rows), sum_by-cons length row (take b rows))

pub offset_mono : (net : Topology) (a b : ℕ) → a ≤ b → offset net a ≤ offset net b
unfolding offset
offset_mono net a b h = take_mono net.ports a b h

row_within : (rows : List (List Hop)) (v j : ℕ) (hop : Hop) → slice_get (slice_index_or rows v []) j ≡ Some hop → v < length rows
row_within [] v j hop e = absurd (none-some hop e)
row_within (row ∷ rows) zero j hop e = omega arith
row_within (row ∷ rows) (suc v) j hop e = let rest = row_within rows v j hop e in omega (arith, rest)

-- who has a port is a node
pub port_node : (net : Topology) (v j : ℕ) (hop : Hop) → port_at net v j ≡ Some hop → v < node_count net
port_node net v j hop e = row_within net.ports v j hop e

-- the place of a port is before those of later nodes
pub place_before : (net : Topology) (v j u : ℕ) (hop : Hop) → port_at net v j ≡ Some hop → v < u → offset net v + j < offset net u
place_before net v j u hop at lt =
    let node = port_node net v j hop at in
    let within : j < length (ports_of net v) = slice_get_within (ports_of net v) j hop at in
    let next = offset_next net v node in
    let most = offset_mono net (v + 1) u (omega (arith, lt)) in
    omega (arith, within, next, most)

pub place_within : (net : Topology) (v j : ℕ) (hop : Hop) → port_at net v j ≡ Some hop → offset net v + j < way_count net
place_within net v j hop at =
    let node = port_node net v j hop at in
    let lt = place_before net v j (node_count net) hop at node in
    let all = offset_all net in
    omega (arith, lt, all)

module _ {X : Type 0} (net : Topology) (Q : ℕ → Hop → X → Type 0) where
  pub filled_none : (xs : List X) → xs ≡ [] → IsFilledTo net Q 0 0 xs
  filled_none xs e = record {
    len = (let n = ap length e in let z = offset_zero net in omega (arith, n, z));
    before = λ v j hop x lt at is. absurd (omega (arith, lt));
    here = λ j hop x lt at is. absurd (omega (arith, lt));
  }

  module _ (u p : ℕ) (xs : List X) (hop : Hop) (x : X) (filled : IsFilledTo net Q u p xs) (at : port_at net u p ≡ Some hop) (is : Q u hop x) where
    before_after : (v j : ℕ) (h : Hop) (y : X) → v < u → port_at net v j ≡ Some h → slice_get (xs ++ x ∷ []) (offset net v + j) ≡ Some y → Q v h y
    before_after v j h y lt there got = elim (get_push xs (offset net v + j) x y got) [
      | inl e ↦ absurd (let less = place_before net v j u h there lt in let same = e.0 in let len = filled.len in omega (arith, less, same, len))
      | inr e ↦ filled.before v j h y lt there e.1
    ]

    here_after : (j : ℕ) (h : Hop) (y : X) → j < p + 1 → port_at net u j ≡ Some h → slice_get (xs ++ x ∷ []) (offset net u + j) ≡ Some y → Q u h y
    here_after j h y lt there got = elim (get_push xs (offset net u + j) x y got) [
      | inl e ↦
          (let same = e.0 in
          let len = filled.len in
          let j_is : j ≡ p = omega (arith, same, len) in
          let hop_is : hop ≡ h = same_Some hop h (sym at ∙ ap (port_at net u) (sym j_is) ∙ there) in
          subst (λ (y : X). Q u h y) e.1 (subst (λ (h : Hop). Q u h x) hop_is is))
      | inr e ↦ (let less = e.0 in let len = filled.len in filled.here j h y (omega (arith, less, len)) there e.1)
    ]

    pub filled_more : IsFilledTo net Q u (p + 1) (xs ++ x ∷ [])
    filled_more = record {
      len = (let len = filled.len in let n = length_push xs x in omega (arith, len, n));
      before = before_after;
      here = here_after;
    }

  pub filled_next : (u p : ℕ) (xs : List X) → u < node_count net → p ≡ length (ports_of net u) → IsFilledTo net Q u p xs → IsFilledTo net Q (u + 1) 0 xs
  filled_next u p xs node is filled = record {
    len = (let len = filled.len in let next = offset_next net u node in omega (arith, len, next, is));
    before = λ v j hop x lt at got. go v j hop x lt at got (ltb v u) refl;
    here = λ j hop x lt at got. absurd (omega (arith, lt));
  } where
    go : (v j : ℕ) (hop : Hop) (x : X) → v < u + 1 → port_at net v j ≡ Some hop → slice_get xs (offset net v + j) ≡ Some x → (b : Bool) → ltb v u ≡ b → Q v hop x
    go v j hop x lt at got true e = filled.before v j hop x (ltb-true v u e) at got
    go v j hop x lt at got false e =
        let same : v ≡ u = (let most = ltb-false v u e in omega (arith, lt, most)) in
        let at_u : port_at net u j ≡ Some hop = subst (λ (w : ℕ). port_at net w j ≡ Some hop) same at in
        let got_u : slice_get xs (offset net u + j) ≡ Some x = subst (λ (w : ℕ). slice_get xs (offset net w + j) ≡ Some x) same got in
        let within : j < length (ports_of net u) = slice_get_within (ports_of net u) j hop at_u in
        subst (λ (w : ℕ). Q w hop x) (sym same) (filled.here j hop x (omega (arith, within, is)) at_u got_u)

  pub filled_all : (n : ℕ) (xs : List X) → n ≡ node_count net → IsFilledTo net Q n 0 xs → IsFilled net Q xs
  filled_all n xs is filled = record {
    len = (let len = filled.len in let all = offset_all net in len ∙ ap (λ k. offset net k + 0) is ∙ omega (arith, all));
    each = λ v j hop x at got. filled.before v j hop x (let lt = port_node net v j hop at in omega (arith, lt, is)) at got;
  }

-- what is at a place within a row
has_some : {X : Type 0} (xs : List X) (k : ℕ) → k < length xs → (x : X) × (slice_get xs k ≡ Some x)
has_some [] k lt = absurd (omega (arith, lt))
has_some (x ∷ xs) zero lt = (x, refl)
has_some (x ∷ xs) (suc k) lt = has_some xs k (omega (arith, lt))

abbrev IsPlace : List (List Hop) → ℕ → Type 0
IsPlace rows k = (u : ℕ) × (p : ℕ) × (hop : Hop) × (slice_get (slice_index_or rows u []) p ≡ Some hop) × (k ≡ sum_by length (take u rows) + p)

split_row : (row : List Hop) (rows : List (List Hop)) (k : ℕ) → k < sum_by length (row ∷ rows) → ((j : ℕ) → j < sum_by length rows → IsPlace rows j)
    → (b : Bool) → ltb k (length row) ≡ b → IsPlace (row ∷ rows) k
split_row row rows k lt more true e = let x = has_some row k (ltb-true k (length row) e) in (0, k, x.0, x.1, omega arith)
split_row row rows k lt more false e =
    let most = ltb-false k (length row) e in
    let rest = more (k - length row) (omega (arith, lt, most, sum_by-cons length row rows)) in
    let is = rest.4 in
    (suc rest.0, rest.1, rest.2, rest.3, omega (arith, is, most, sum_by-cons length row (take rest.0 rows)))

-- each place is that of a port
split_place : (rows : List (List Hop)) (k : ℕ) → k < sum_by length rows → IsPlace rows k
split_place [] k lt = absurd (omega (arith, lt))
split_place (row ∷ rows) k lt = split_row row rows k lt (λ j less. split_place rows j less) (ltb k (length row)) refl

pub place_of : (net : Topology) (k : ℕ) → k < way_count net → (u : ℕ) × (p : ℕ) × (hop : Hop) × (port_at net u p ≡ Some hop) × (k ≡ offset net u + p)
unfolding offset way_count
place_of net k lt = split_place net.ports k lt

module _ (net : Topology) (is : IsTopology net) (peers : List ℕ) (filled : IsFilled net (IsPeer net) peers) where
  -- the peer of a port's place
  pub peer_at : (u p : ℕ) (hop : Hop) → port_at net u p ≡ Some hop → IsPeer net u hop (slice_index peers (offset net u + p))
  peer_at u p hop at =
      let within = place_within net u p hop at in
      let len = filled.len in
      filled.each u p hop (slice_index peers (offset net u + p)) at (slice_get-get_or peers (offset net u + p) 0 (omega (arith, within, len)))

  peer_within : (k : ℕ) → k < length peers → slice_index peers k < length peers
  peer_within k lt =
      let len = filled.len in
      let at = place_of net k (omega (arith, lt, len)) in
      let peer = peer_at at.0 at.1 at.2 at.3 in
      let within = place_within net at.2.node peer.0 (port_back at.0 at.2) peer.1 in
      let same : slice_index peers k ≡ offset net at.2.node + peer.0 = ap (slice_index peers) at.4 ∙ peer.2 in
      omega (arith, within, same, len)

  peer_back : (k : ℕ) → k < length peers → slice_index peers (slice_index peers k) ≡ k
  peer_back k lt =
      let len = filled.len in
      let at = place_of net k (omega (arith, lt, len)) in
      let there = peer_at at.0 at.1 at.2 at.3 in
      let same : slice_index peers k ≡ offset net at.2.node + there.0 = ap (slice_index peers) at.4 ∙ there.2 in
      let again = peer_at at.2.node there.0 (port_back at.0 at.2) there.1 in
      let p_is : at.1 ≡ again.0 = is.single at.0 at.1 again.0 at.2 (port_back at.2.node (port_back at.0 at.2)) at.3 again.1 refl in
      ap (slice_index peers) same ∙ again.2 ∙ ap (λ q. offset net at.0 + q) (sym p_is) ∙ sym at.4

  pub peers_are : ArePeers peers
  peers_are = record { within = peer_within; back = peer_back }

-- the same, as the code reads it
module _ {X : Type 0} (net : Topology) (Q : ℕ → Hop → X → Type 0) (u p : ℕ) (ports : List Hop) (is : ports ≡ ports_of net u) where
  port_read : p < length ports → (d : Hop) → port_at net u p ≡ Some (get_or ports p d)
  port_read lt d = ap (λ (row : List Hop). slice_get row p) (sym is) ∙ slice_get-get_or ports p d lt

  pub one_more : (xs ys : List X) (x : X) (d : Hop) → IsFilledTo net Q u p xs → p < length ports → Q u (get_or ports p d) x → ys ≡ xs ++ x ∷ []
      → IsFilledTo net Q u (p + 1) ys
  one_more xs ys x d filled lt has e =
      subst (λ (ys : List X). IsFilledTo net Q u (p + 1) ys) (sym e) (filled_more net Q u p xs (get_or ports p d) x filled (port_read lt d) has)

  pub row_done : (xs : List X) → IsFilledTo net Q u p xs → u < node_count net → length ports ≤ p → p ≤ length ports → IsFilledTo net Q (u + 1) 0 xs
  row_done xs filled node most least = filled_next net Q u p xs node (let same = ap length is in omega (arith, most, least, same)) filled

pub peer_there : (net : Topology) (u p : ℕ) (ports : List Hop) → ports ≡ ports_of net u → p < length ports → (d : Hop) (offsets : List ℕ) (q : ℕ)
    → ((v : ℕ) → v < node_count net → get_or offsets v 0 ≡ offset net v) → port_at net (get_or ports p d).node q ≡ Some (port_back u (get_or ports p d))
    → IsPeer net u (get_or ports p d) (get_or offsets (get_or ports p d).node 0 + q)
peer_there net u p ports is lt d offsets q at back =
    let hop = get_or ports p d in
    (q, back, ap (λ k. k + q) (at hop.node (port_node net hop.node q (port_back u hop) back)))

pub peer_fits : (net : Topology) (u : ℕ) (hop : Hop) (k : ℕ) → IsPeer net u hop k → k < way_count net
peer_fits net u hop k peer =
    let within = place_within net hop.node peer.0 (port_back u hop) peer.1 in
    let is = peer.2 in
    omega (arith, within, is)

module _ (net : Topology) (opening : Stamp) (restamps capacity : ℕ) (ways : List (Channel Place)) (peers : List ℕ) (is : IsTopology net)
    (ways_are : IsFilled net (λ v hop channel. IsNetChannel opening restamps capacity v hop.node channel) ways) (peers_filled : IsFilled net (IsPeer net) peers) where
  way_in : (u p : ℕ) (hop : Hop) (channel : Channel Place) → port_at net u p ≡ Some hop → slice_get ways (slice_index peers (offset net u + p)) ≡ Some channel
      → IsNetChannel opening restamps capacity hop.node u channel
  way_in u p hop channel at got =
      let peer = peer_at net is peers peers_filled u p hop at in
      ways_are.each hop.node peer.0 (port_back u hop) channel peer.1 (ap (slice_get ways) (sym peer.2) ∙ got)

  pub wired : AreWiredWays net opening restamps capacity ways peers
  wired = record {
    count = ways_are.len;
    peer_count = peers_filled.len;
    peers_are = peers_are net is peers peers_filled;
    out = λ u p hop channel at got. ways_are.each u p hop channel at got;
    in_by = way_in;
  }
