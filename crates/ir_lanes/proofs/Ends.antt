-- What a search for the distances to sixteen nodes starts with.
use Rattle.std.proofs.Common.{◌≡◌, ◌≢◌, ℕ, ◌+◌, ◌*◌, ◌<◌, ◌≤◌, List, length, set, slice_index, sym, subst, ◌∙◌, arith, ⊎_elim}
use Rattle.std.proofs.lemmas.Bool.{cases_eq}
use Rattle.ir_model.specs.Topology.{Topology, node_count}
use Rattle.ir_lanes.specs.Lanes.{in_lane, far, AreNear}
use Rattle.ir_lanes.specs.Equation.{IsEndStart}
use Rattle.ir_lanes.proofs.Starts.{lane_written, lane_kept_node, lane_kept, near_written}

-- the first i of the nodes have 0 in their lanes, and in the others nothing is near
pub record AreEnded (net : Topology) (ends : List ℕ) (i : ℕ) (starts : List ℕ) : Type 0 where
  pub near : AreNear net starts
  pub begun : (k : ℕ) → k < i → k < 16 → IsEndStart net (slice_index ends k) (in_lane starts k)
  pub empty : (k v : ℕ) → i ≤ k → k < 16 → v < node_count net → far ≤ in_lane starts k v

pub ended_more : (net : Topology) (ends : List ℕ) (i d : ℕ) (starts : List ℕ) → i < 16 → d ≡ slice_index ends i → d < node_count net
    → AreEnded net ends i starts → AreEnded net ends (i + 1) (set starts (d * 16 + i) 0)
ended_more net ends i d starts i_in is d_in before =
    let room : d * 16 + i < length starts = omega (arith, d_in, i_in, before.near.every) in
    let next : List ℕ = set starts (d * 16 + i) 0 in
    let here : IsEndStart net d (in_lane next i) = record {
      end = lane_written starts d i 0 i_in room;
      others = λ v v_in ne. omega (arith, lane_kept_node starts d i 0 i_in room v ne, before.empty i v (omega arith) i_in v_in);
    } in
    record {
      near = near_written starts d i 0 i_in room net (omega arith) before.near;
      begun = λ k less k_in. ⊎_elim
          (λ (e : k ≡ i). let P : ℕ → Type 0 = λ j. IsEndStart net (slice_index ends j) (in_lane next j) in
          let Q : ℕ → Type 0 = λ x. IsEndStart net x (in_lane next i) in subst P (sym e) (subst Q is here))
          (λ (ne : k ≢ i). let old = before.begun k (omega (arith, less, ne)) k_in in
          let same = lane_kept starts d i 0 i_in room in
          record {
            end = same k (slice_index ends k) k_in ne ∙ old.end;
            others = λ v v_in other. omega (arith, same k v k_in ne, old.others v v_in other);
          })
          (cases_eq k i);
      empty = λ k v ge k_in v_in. omega (arith, lane_kept starts d i 0 i_in room k v k_in (λ e. omega (arith, e, ge)), before.empty k v (omega (arith, ge)) k_in v_in);
    }
