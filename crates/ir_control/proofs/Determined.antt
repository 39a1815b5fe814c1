-- What the nodes settled and what is left determines what a report says of each packet.
use Rattle.std.specs.Prelude.{◌≡◌, ◌≢◌, ℕ, zero, suc, ◌+◌, ◌<◌, ◌==◌, cond, List, [], ◌∷◌, Some, option_map, length, map, sum_by, slice_get}
use Rattle.std.proofs.Common.{refl, arith, sym, ap, ◌∙◌, subst, eq-eqb}
use Rattle.std.proofs.lemmas.Bool.{lt-ltb}
use Rattle.std.proofs.lemmas.Option.{slice_get-map, slice_get_within, get_or_from_slice_get}
use Rattle.std.proofs.lemmas.List.{length-map}
use Rattle.std.proofs.lemmas.List.Sums.{sum_by-cons}
use Rattle.ir_core.specs.declared.packet.Fate.TheVariants.{Left}
use Rattle.ir_core.specs.Record.{Record}
use Rattle.ir_worker.specs.declared.node.Node.{Node}
use Rattle.ir_worker.specs.declared.parcel.Outcome.{Outcome}
use Rattle.ir_worker.specs.Account.{Head, head_of}
use Rattle.ir_worker.specs.Seen.{Parcel}
use Rattle.ir_control.specs.declared.injector.Injector.{Injector}
use Rattle.ir_control.specs.declared.net.Net.{Net}
use Rattle.ir_control.specs.declared.report.Report.{Report}
use Rattle.ir_control.specs.Heads.{head_at}
use Rattle.ir_control.specs.Reports.{IsReport}
use Rattle.ir_control.specs.Rowed.{node_settled}
use Rattle.ir_control.specs.Told.{Told}
use Rattle.ir_control.proofs.Once.{injected_once}
use Rattle.ir_control.proofs.Picked.{nothing, picked, picked_at, only, once_for, less_only, own_only, same_record}
use Rattle.ir_control.proofs.Rowing.{slot_get}
use Rattle.ir_control.proofs.Wiring.{map_eq}

sum_map : {A B : Type 0} (f : A → B) (g : B → ℕ) (xs : List A) → sum_by g (map f xs) ≡ sum_by (λ x. g (f x)) xs
sum_map f g [] = refl
sum_map {A} f g (x ∷ xs) =
    let rest = sum_map f g xs in
    omega (arith, rest, sum_by-cons g (f x) (map f xs), sum_by-cons (λ (x : A). g (f x)) x xs)

-- what a node settled of this number, and what is left of it
abbrev settled_for : ℕ → (Record → ℕ) → Node → ℕ
settled_for k f n = node_settled (λ o. only k f o.packet) n

abbrev left_for : ℕ → (Record → ℕ) → Parcel → ℕ
left_for k f x = only k f x.packet

module _ (net : Net) (nodes : List Node) (injector : Injector) (report : Report) (is : IsReport net nodes injector report) where
  outcome_count : length is.outcomes ≡ length injector.accepted.items
  outcome_count = sym (length-map is.outcomes (λ (o : Outcome). head_of o.packet)) ∙ ap length is.heads ∙ length-map injector.accepted.items head_at

  -- each is numbered by its place
  numbered : (k : ℕ) (o : Outcome) → slice_get is.outcomes k ≡ Some o → o.packet.id ≡ k
  numbered k o got =
      let there : slice_get (map head_at injector.accepted.items) k ≡ Some (head_of o.packet) =
      ap (λ (hs : List Head). slice_get hs k) (sym is.heads) ∙ slice_get-map (λ (o : Outcome). head_of o.packet) is.outcomes k ∙ ap (option_map (λ (o : Outcome). head_of o.packet)) got in
      let a = slot_get head_at injector.accepted.items k (head_of o.packet) there in
      sym (ap (λ (h : Head). h.id) a.2) ∙ injector.numbered k a.0 a.1

  -- one outcome has a number below the count
  once_told : (k : ℕ) → k < length is.outcomes → sum_by (λ (o : Outcome). once_for k o.packet) is.outcomes ≡ 1
  once_told k lt =
      let count = outcome_count in
      sym (sum_map (λ (o : Outcome). head_of o.packet) (λ (h : Head). cond {A = ℕ} (h.id == k) 1 0) is.outcomes)
      ∙ ap (sum_by (λ (h : Head). cond {A = ℕ} (h.id == k) 1 0)) is.heads
      ∙ sum_map head_at (λ (h : Head). cond {A = ℕ} (h.id == k) 1 0) injector.accepted.items
      ∙ injected_once injector.accepted.items injector.numbered k
      ∙ ap (λ b. cond {A = ℕ} b 1 0) (lt-ltb k (length injector.accepted.items) (omega (arith, lt, count)))

  module _ (k : ℕ) (o : Outcome) (got : slice_get is.outcomes k ≡ Some o) where
    one_for : once_for k o.packet ≡ 1
    one_for = ap (λ b. cond {A = ℕ} b 1 0) (eq-eqb o.packet.id k (numbered k o got))

    -- what its record weighs, the nodes settled or is left
    pub weighed : (f : Record → ℕ) → f o.packet ≡ sum_by (settled_for k f) nodes + sum_by (left_for k f) is.left
    weighed f =
        sym (own_only k f o.packet one_for)
        ∙ sym (picked_at (λ (o : Outcome). once_for k o.packet) (λ (o : Outcome). only k f o.packet) (λ o. less_only k f o.packet) is.outcomes k o got one_for (once_told k (slice_get_within is.outcomes k o got)))
        ∙ is.told_are (λ (t : Told). only k f t.packet)

    less_settled : (f : Record → ℕ) (n : Node) → settled_for k (λ _. 1) n ≡ 0 → settled_for k f n ≡ 0
    less_settled f n = nothing (λ (o : Outcome). once_for k o.packet) (λ (o : Outcome). only k f o.packet) (λ o. less_only k f o.packet) n.outcomes.items

    abbrev pub IsSettledHere : Type 0
    IsSettledHere = (u : ℕ) × (n : Node) × (slice_get nodes u ≡ Some n) × (q : ℕ) × (p : Outcome) × (slice_get n.outcomes.items q ≡ Some p) × (p.packet ≡ o.packet)

    by_a_node : sum_by (settled_for k (λ _. 1)) nodes ≡ 1 → sum_by (left_for k (λ _. 1)) is.left ≡ 0 → IsSettledHere
    by_a_node one none =
        let n = picked (settled_for k (λ _. 1)) nodes one in
        let p = picked (λ (o : Outcome). once_for k o.packet) n.1.outcomes.items n.3 in (
          n.0,
          n.1,
          n.2,
          p.0,
          p.1,
          p.2,
          same_record p.1.packet o.packet (λ f.
              (let all = weighed f in
              let here : sum_by (settled_for k f) nodes ≡ sum_by (λ (o : Outcome). only k f o.packet) n.1.outcomes.items = picked_at (settled_for k (λ _. 1)) (settled_for k f) (less_settled f) nodes n.0 n.1 n.2 n.3 one in
              let there = picked_at (λ (o : Outcome). once_for k o.packet) (λ (o : Outcome). only k f o.packet) (λ o. less_only k f o.packet) n.1.outcomes.items p.0 p.1 p.2 p.3 n.3 in
              let own = own_only k f p.1.packet p.3 in
              let rest = nothing (left_for k (λ _. 1)) (left_for k f) (λ x. less_only k f x.packet) is.left none in
              omega (arith, all, here, there, own, rest))),
        )

    is_left : sum_by (settled_for k (λ _. 1)) nodes ≡ 0 → sum_by (left_for k (λ _. 1)) is.left ≡ 1 → o.packet.fate ≡ Left
    is_left none one =
        let x = picked (left_for k (λ _. 1)) is.left one in
        let same = same_record o.packet x.1.packet (λ f.
        (let all = weighed f in
        let here : sum_by (left_for k f) is.left ≡ only k f x.1.packet = picked_at (left_for k (λ _. 1)) (left_for k f) (λ x. less_only k f x.packet) is.left x.0 x.1 x.2 x.3 one in
        let own = own_only k f x.1.packet x.3 in
        let rest = nothing (settled_for k (λ _. 1)) (settled_for k f) (less_settled f) nodes none in
        omega (arith, all, here, own, rest))) in
        ap (λ (r : Record). r.fate) same ∙ subst (λ (y : Parcel). y.packet.fate ≡ Left) (get_or_from_slice_get is.left x.0 x.1 x.1 x.2) (is.fates x.0 x.1 (slice_get_within is.left x.0 x.1 x.2))

    -- what is not reported as left a node settled
    pub settled_here : o.packet.fate ≢ Left → IsSettledHere
    settled_here ended = by_count (sum_by (settled_for k (λ _. 1)) nodes) refl
      where
        by_count : (n : ℕ) → sum_by (settled_for k (λ _. 1)) nodes ≡ n → IsSettledHere
        by_count zero e = absurd (ended (is_left e (let all : 1 ≡ sum_by (settled_for k (λ _. 1)) nodes + sum_by (left_for k (λ _. 1)) is.left = weighed (λ _. 1) in omega (arith, all, e))))
        by_count (suc n) e = (let all : 1 ≡ sum_by (settled_for k (λ _. 1)) nodes + sum_by (left_for k (λ _. 1)) is.left = weighed (λ _. 1) in by_a_node (omega (arith, all, e)) (omega (arith, all, e)))

-- two reports of the same nodes and injector have the same records
pub same_records : (net : Net) (nodes : List Node) (injector : Injector) (report other : Report) → IsReport net nodes injector report → IsReport net nodes injector other → report.records.items ≡ other.records.items
same_records net nodes injector report other a b =
    a.records
    ∙ map_eq (λ (o : Outcome). o.packet) (λ (o : Outcome). o.packet) a.outcomes b.outcomes (outcome_count net nodes injector report a ∙ sym (outcome_count net nodes injector other b))
    (λ k x y at_x at_y. same_record x.packet y.packet (λ f.
    (let one = weighed net nodes injector report a k x at_x f in
    let two = weighed net nodes injector other b k y at_y f in
    let was = a.left_is (left_for k f) in
    let also = b.left_is (left_for k f) in
    omega (arith, one, two, was, also))))
    ∙ sym b.records
