-- Landmarks and bounds as numbers.
use Rattle.std.proofs.Common.{◌≡◌, ℕ, ◌+◌, ◌<◌, ◌≤◌, List, [], ◌∷◌, ◌++◌, length, replicate, take, ap, sym, ◌∙◌, subst, inl, inr, ⊎_elim, arith}
use Rattle.std.specs.Prelude.{slice_index, slice_index_or}
use Rattle.std.specs.Global.{Vec}
use Rattle.std.proofs.lemmas.Bool.{cases_eq, cases_lt}
use Rattle.std.proofs.lemmas.List.{length_push, get_or_push, get_or_append_left, get_or-map, length-map, map-append, take_more, get_or-replicate, length-replicate}
use Rattle.std.proofs.lemmas.List.Elements.{Contains-append_left, Contains-push, Contains-push_cases}
use Rattle.ir_model.specs.Topology.{Topology, node_count, IsTopology}
use Rattle.ir_model.specs.Walk.{IsDistance}
use Rattle.ir_model.specs.Landmark.{IsLandmarkOf}
use Rattle.ir_model.proofs.Walks.{lightest_short, way_light}
use Rattle.ir_model.proofs.Tables.{distance_unique, distance_way, distance_lightest}
use Rattle.ir_model.proofs.Ways.{symmetric}
use Rattle.ir_model.proofs.Landmarks.{first_landmark, distance_nodes}
use Rattle.ir_tables.specs.FromNode.{AreFrom}
use Rattle.ir_bounds.specs.Bounds.{held_lists, AreOwnersBy, IsNearer, AreKeptNearer}

-- a distance is below 2 ^ 31
pub distance_small : (net : Topology) → IsTopology net → (u d n : ℕ) → IsDistance net u d n → n ≤ 2147483647
distance_small net ok u d n is =
    let way = distance_way net u d n is in
    let short : length (u ∷ way.0) ≤ node_count net = lightest_short net ok u d way.0 way.1 (distance_lightest net u d n way.0 is way.2) in
    let few : node_count net ≤ 32768 = ok.few_nodes in
    let light = way_light net ok u d way.0 way.1 in
    omega (arith, short, few, light, way.2)

-- one number more after those of which P holds
pub number_pushed : (P : ℕ → ℕ → Type 0) (k : ℕ) (xs ys : List ℕ) (x : ℕ) → length xs ≡ k → ((i : ℕ) → i < k → P i (slice_index xs i)) → ys ≡ xs ++ (x ∷ []) → P k x
    → (length ys ≡ k + 1) × ((i : ℕ) → i < k + 1 → P i (slice_index ys i))
number_pushed P k xs ys x len all is own = (ap (λ (zs : List ℕ). length zs) is ∙ length_push xs x ∙ ap (λ (n : ℕ). n + 1) len, at)
  where
    at : (i : ℕ) → i < k + 1 → P i (slice_index ys i)
    at i lt =
        subst (λ (zs : List ℕ). P i (slice_index zs i)) (sym is)
        (elim (cases_eq i k) [
          | inl same ↦ subst (P i) (sym (get_or_push xs x 0 i (len ∙ sym same))) (subst (λ (u : ℕ). P u x) (sym same) own)
          | inr ne ↦ subst (P i) (sym (get_or_append_left xs (x ∷ []) 0 i (omega (arith, len)))) (all i (omega arith))
        ])

-- one vector more after those of which P holds
pub list_pushed : (P : ℕ → List ℕ → Type 0) (k : ℕ) (made more : List (Vec ℕ)) (v : Vec ℕ) → length (held_lists made) ≡ k → ((i : ℕ) → i < k → P i (slice_index_or (held_lists made) i [])) → more ≡ made ++ (v ∷ []) → P k v.items
    → (length (held_lists more) ≡ k + 1) × ((i : ℕ) → i < k + 1 → P i (slice_index_or (held_lists more) i []))
list_pushed P k made more v len all is own = (ap length lists ∙ length_push (held_lists made) v.items ∙ ap (λ (n : ℕ). n + 1) len, at)
  where
    lists : held_lists more ≡ held_lists made ++ (v.items ∷ [])
    lists = ap held_lists is ∙ map-append (λ (w : Vec ℕ). w.items) made (v ∷ [])

    at : (i : ℕ) → i < k + 1 → P i (slice_index_or (held_lists more) i [])
    at i lt =
        subst (λ (ls : List (List ℕ)). P i (slice_index_or ls i [])) (sym lists)
        (elim (cases_eq i k) [
          | inl same ↦ subst (P i) (sym (get_or_push (held_lists made) v.items [] i (len ∙ sym same))) (subst (λ (u : ℕ). P u v.items) (sym same) own)
          | inr ne ↦ subst (P i) (sym (get_or_append_left (held_lists made) (v.items ∷ []) [] i (omega (arith, len)))) (all i (omega arith))
        ])

-- the list of the vector at a place
pub list_at : (made : List (Vec ℕ)) (i : ℕ) (v : Vec ℕ) → i < length made → slice_index_or (held_lists made) i [] ≡ (slice_index_or made i v).items
list_at made i v lt = get_or-map (λ (w : Vec ℕ). w.items) made i v [] lt

pub lists_length : (made : List (Vec ℕ)) → length (held_lists made) ≡ length made
lists_length made = length-map made (λ (w : Vec ℕ). w.items)

module _ (net : Topology) (ok : IsTopology net) where
  -- the owner of a node is a node, and both distances are small
  pub owner_in : (landmarks : List ℕ) (d l r : ℕ) → IsLandmarkOf net landmarks d l r → (l < node_count net) × (r ≤ 2147483647)
  owner_in landmarks d l r of = ((distance_nodes net ok d l r of.away).1, distance_small net ok d l r of.away)

  -- of the first landmark
  pub owners_first : (first : ℕ) (landmarks nodes radii weights : List ℕ) (k : ℕ) → 0 < length landmarks → first ≡ slice_index landmarks 0 → AreFrom net first weights → k ≡ node_count net
      → nodes ≡ replicate k first → radii ≡ weights → AreOwnersBy net (take 1 landmarks) nodes radii
  owners_first first landmarks nodes radii weights k some is are every own far =
      let zeros : nodes ≡ replicate (node_count net) first = own ∙ ap (λ (i : ℕ). replicate i first) every in
      let one : take 1 landmarks ≡ first ∷ [] = take_more landmarks 0 0 some ∙ ap (λ (x : ℕ). x ∷ []) (sym is) in
      record {
        nodes_len = ap (λ (xs : List ℕ). length xs) zeros ∙ length-replicate (node_count net) first;
        radii_len = ap (λ (xs : List ℕ). length xs) far ∙ are.every;
        each = λ d hd.
            let node : slice_index nodes d ≡ first = ap (λ (xs : List ℕ). slice_index xs d) zeros ∙ get_or-replicate (node_count net) d first 0 hd in
            let radius : slice_index radii d ≡ slice_index weights d = ap (λ (xs : List ℕ). slice_index xs d) far in
            rw (one, node, radius) (first_landmark net d first (slice_index weights d) (symmetric net ok first d (slice_index weights d) (are.each d hd)));
      }

  -- one landmark more, where it is nearer
  landmark_new : (ls : List ℕ) (d l r m s : ℕ) → IsDistance net d l r → IsLandmarkOf net ls d m s → IsNearer l r m s → IsLandmarkOf net (ls ++ (l ∷ [])) d l r
  landmark_new ls d l r m s is of nearer = record {
    among = Contains-push ls l;
    away = is;
    nearest = λ o a has so.
        elim (Contains-push_cases ls l o has) [
          | inl old ↦ ⊎_elim (λ less. ⊎_elim (λ n. inl (omega (arith, n, less))) (λ n. inl (omega (arith, n.0, less))) nearer)
              (λ same. ⊎_elim (λ n. inl (omega (arith, n, same.0))) (λ n. inr (omega (arith, n.0, same.0), omega (arith, n.1, same.1))) nearer)
              (of.nearest o a old so)
          | inr e ↦ inr (distance_unique net d l r a is (subst (λ (x : ℕ). IsDistance net d x a) (sym e) so), omega (arith, e))
        ];
  }

  -- and where it is not
  landmark_old : (ls : List ℕ) (d l r m s : ℕ) → IsDistance net d l r → IsLandmarkOf net ls d m s → (IsNearer l r m s → ⊥) → IsLandmarkOf net (ls ++ (l ∷ [])) d m s
  landmark_old ls d l r m s is of other = record {
    among = Contains-append_left ls (l ∷ []) m of.among;
    away = of.away;
    nearest = λ o a has so.
        elim (Contains-push_cases ls l o has) [
          | inl old ↦ of.nearest o a old so
          | inr e ↦
              let same : r ≡ a = distance_unique net d l r a is (subst (λ (x : ℕ). IsDistance net d x a) (sym e) so) in
              ⊎_elim (λ less. absurd (other (inl less)))
              (λ not_less. ⊎_elim (λ equal. ⊎_elim (λ lower. absurd (other (inr (equal, lower)))) (λ no_lower. inr (omega (arith, equal, same), omega (arith, no_lower, e))) (cases_lt l m))
              (λ differ. inl (omega (arith, not_less, differ, same))) (cases_eq r s))
              (cases_lt r s)
        ];
  }

  pub owners_more : (i l : ℕ) (landmarks old_nodes old_radii nodes radii weights : List ℕ) → i < length landmarks → l ≡ slice_index landmarks i → AreOwnersBy net (take i landmarks) old_nodes old_radii
      → AreFrom net l weights → AreKeptNearer l weights old_nodes old_radii nodes radii (length weights) → AreOwnersBy net (take (i + 1) landmarks) nodes radii
  owners_more i l landmarks old_nodes old_radii nodes radii weights inside is before are kept =
      let more : take (i + 1) landmarks ≡ take i landmarks ++ (l ∷ []) = take_more landmarks i 0 inside ∙ ap (λ (x : ℕ). take i landmarks ++ (x ∷ [])) (sym is) in
      record {
        nodes_len = kept.nodes_len ∙ before.nodes_len;
        radii_len = kept.radii_len ∙ before.radii_len;
        each = λ d hd.
            let of = before.each d hd in
            let far = symmetric net ok l d (slice_index weights d) (are.each d hd) in
            let P : List ℕ → ℕ → ℕ → Type 0 = λ ls o a. IsLandmarkOf net ls d o a in
            elim (kept.each d (omega (arith, hd, are.every))) [
              | inl w ↦ rw (more, w.1, w.2) (landmark_new (take i landmarks) d l (slice_index weights d) (slice_index old_nodes d) (slice_index old_radii d) far of w.0)
              | inr w ↦ rw (more, w.1, w.2) (landmark_old (take i landmarks) d l (slice_index weights d) (slice_index old_nodes d) (slice_index old_radii d) far of w.0)
            ];
      }
