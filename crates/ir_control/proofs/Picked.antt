-- Of a sum that is 1 one term is picked, and of records that all weights make equal there is one.
use Rattle.std.specs.Prelude.{◌≡◌, ℕ, zero, suc, ◌≤◌, Bool, true, false, ◌==◌, eqb, cond, List, [], ◌∷◌, Some, length, sum_by, slice_get, slice_index_or}
use Rattle.std.proofs.Common.{refl, arith, sym, ap, ◌∙◌}
use Rattle.std.proofs.lemmas.Bool.{eqb-true}
use Rattle.std.proofs.lemmas.Option.{same_Some, none-some}
use Rattle.std.proofs.lemmas.List.Sums.{sum_by-cons}
use Rattle.ir_core.specs.declared.packet.Fate.{Fate}
use Rattle.ir_core.specs.declared.packet.Fate.TheVariants.{Delivered, Retired, Down, Full, Left}
use Rattle.ir_core.specs.declared.packet.Restamp.{Restamp}
use Rattle.ir_core.specs.Record.{Record}
use Rattle.ir_control.proofs.Telling.{same_list}

module _ {X : Type 0} where
  -- what weighs nothing wherever this does weighs nothing in a list in which this does
  pub nothing : (W V : X → ℕ) → ((y : X) → W y ≡ 0 → V y ≡ 0) → (xs : List X) → sum_by W xs ≡ 0 → sum_by V xs ≡ 0
  nothing W V less [] e = refl
  nothing W V less (x ∷ xs) e =
      let here : V x ≡ 0 = less x (omega (arith, e, sum_by-cons W x xs)) in
      let rest = nothing W V less xs (omega (arith, e, sum_by-cons W x xs)) in
      omega (arith, here, rest, sum_by-cons V x xs)

  weighs_at : (W : X → ℕ) (xs : List X) (k : ℕ) (x : X) → slice_get xs k ≡ Some x → W x ≤ sum_by W xs
  weighs_at W [] k x got = absurd (none-some x got)
  weighs_at W (y ∷ xs) zero x got =
      let same : W y ≡ W x = ap W (same_Some y x got) in
      omega (arith, same, sum_by-cons W y xs)
  weighs_at W (y ∷ xs) (suc k) x got =
      let rest = weighs_at W xs k x got in
      omega (arith, rest, sum_by-cons W y xs)

  -- where all weighs 1 and this weighs 1, it alone weighs
  pub picked_at : (W V : X → ℕ) → ((y : X) → W y ≡ 0 → V y ≡ 0) → (xs : List X) (k : ℕ) (x : X) → slice_get xs k ≡ Some x → W x ≡ 1 → sum_by W xs ≡ 1 → sum_by V xs ≡ V x
  picked_at W V less [] k x got one e = absurd (none-some x got)
  picked_at W V less (y ∷ xs) zero x got one e =
      let same : y ≡ x = same_Some y x got in
      let heavy : W y ≡ W x = ap W same in
      let here : V y ≡ V x = ap V same in
      let rest = nothing W V less xs (omega (arith, e, one, heavy, sum_by-cons W y xs)) in
      omega (arith, here, rest, sum_by-cons V y xs)
  picked_at W V less (y ∷ xs) (suc k) x got one e =
      let most = weighs_at W xs k x got in
      let here : V y ≡ 0 = less y (omega (arith, e, one, most, sum_by-cons W y xs)) in
      let rest = picked_at W V less xs k x got one (omega (arith, e, one, most, sum_by-cons W y xs)) in
      omega (arith, here, rest, sum_by-cons V y xs)

  -- where all weighs 1, one thing does
  pub picked : (W : X → ℕ) (xs : List X) → sum_by W xs ≡ 1 → (k : ℕ) × (x : X) × (slice_get xs k ≡ Some x) × (W x ≡ 1)
  picked W [] e = absurd (let none : sum_by W [] ≡ 0 = refl in omega (arith, e, none))
  picked W (y ∷ xs) e = by_weight (picked W xs) (W y) refl
    where
      by_weight : (sum_by W xs ≡ 1 → (k : ℕ) × (x : X) × (slice_get xs k ≡ Some x) × (W x ≡ 1)) → (n : ℕ) → W y ≡ n → (k : ℕ) × (x : X) × (slice_get (y ∷ xs) k ≡ Some x) × (W x ≡ 1)
      by_weight rest zero is = (let r = rest (omega (arith, e, is, sum_by-cons W y xs)) in (suc r.0, r.1, r.2, r.3))
      by_weight rest (suc n) is = (0, y, refl, omega (arith, e, is, sum_by-cons W y xs))

-- what a record weighs, if it has this number
abbrev pub only : ℕ → (Record → ℕ) → Record → ℕ
only k f r = cond (r.id == k) (f r) 0

abbrev pub once_for : ℕ → Record → ℕ
once_for k r = only k (λ _. 1) r

pub less_only : (k : ℕ) (f : Record → ℕ) (r : Record) → once_for k r ≡ 0 → only k f r ≡ 0
less_only k f r e = go (eqb r.id k) refl e
  where
    go : (b : Bool) → eqb r.id k ≡ b → cond {A = ℕ} b 1 0 ≡ 0 → only k f r ≡ 0
    go true is none = absurd (let one : cond {A = ℕ} true 1 0 ≡ 1 = refl in omega (arith, one, none))
    go false is none = ap (λ (b : Bool). cond {A = ℕ} b (f r) 0) is

pub number_for : (k : ℕ) (r : Record) → once_for k r ≡ 1 → r.id ≡ k
number_for k r e = go (eqb r.id k) refl e
  where
    go : (b : Bool) → eqb r.id k ≡ b → cond {A = ℕ} b 1 0 ≡ 1 → r.id ≡ k
    go true is one = eqb-true r.id k is
    go false is one = absurd (let none : cond {A = ℕ} false 1 0 ≡ 0 = refl in omega (arith, one, none))

pub own_only : (k : ℕ) (f : Record → ℕ) (r : Record) → once_for k r ≡ 1 → only k f r ≡ f r
own_only k f r e = go (eqb r.id k) refl e
  where
    go : (b : Bool) → eqb r.id k ≡ b → cond {A = ℕ} b 1 0 ≡ 1 → only k f r ≡ f r
    go true is one = ap (λ (b : Bool). cond {A = ℕ} b (f r) 0) is
    go false is one = absurd (let none : cond {A = ℕ} false 1 0 ≡ 0 = refl in omega (arith, one, none))

-- a fate, from numbers that give it
abbrev tag : Fate → ℕ
tag Delivered = 0
tag Retired = 1
tag (Down l) = 2
tag (Full l node) = 3
tag Left = 4

abbrev link_in : Fate → ℕ
link_in Delivered = 0
link_in Retired = 0
link_in (Down l) = l
link_in (Full l node) = l
link_in Left = 0

abbrev node_in : Fate → ℕ
node_in Delivered = 0
node_in Retired = 0
node_in (Down l) = 0
node_in (Full l node) = node
node_in Left = 0

abbrev fate_by : ℕ → ℕ → ℕ → Fate
fate_by zero l node = Delivered
fate_by (suc zero) l node = Retired
fate_by (suc (suc zero)) l node = Down l
fate_by (suc (suc (suc zero))) l node = Full l node
fate_by (suc (suc (suc (suc n)))) l node = Left

told_by : (f : Fate) → fate_by (tag f) (link_in f) (node_in f) ≡ f
told_by Delivered = refl
told_by Retired = refl
told_by (Down l) = refl
told_by (Full l node) = refl
told_by Left = refl

same_restamp : (s t : Restamp) → s.epoch ≡ t.epoch → s.from ≡ t.from → s ≡ t
same_restamp s t epoch from = ap (λ (n : ℕ). let x : Restamp = record { epoch = n; from = s.from } in x) epoch ∙ ap (λ (n : ℕ). let x : Restamp = record { epoch = t.epoch; from = n } in x) from

-- two records that weigh the same, whatever weighs them, are one
pub same_record : (r s : Record) → ((f : Record → ℕ) → f r ≡ f s) → r ≡ s
same_record r s same =
    let id : r.id ≡ s.id = same (λ r. r.id) in
    let epoch : r.epoch ≡ s.epoch = same (λ r. r.epoch) in
    let source : r.source ≡ s.source = same (λ r. r.source) in
    let dest : r.dest ≡ s.dest = same (λ r. r.dest) in
    let room : r.room ≡ s.room = same (λ r. r.room) in
    let hops : r.hops ≡ s.hops = same_list r.hops s.hops 0 (same (λ r. length r.hops)) (λ k lt. same (λ r. slice_index_or r.hops k 0)) in
    let none : Restamp = record { epoch = 0; from = 0 } in
    let restamps : r.restamps ≡ s.restamps = same_list r.restamps s.restamps none (same (λ r. length r.restamps))
    (λ k lt. same_restamp (slice_index_or r.restamps k none) (slice_index_or s.restamps k none) (same (λ r. (slice_index_or r.restamps k none).epoch)) (same (λ r. (slice_index_or r.restamps k none).from))) in
    let fate : r.fate ≡ s.fate =
    sym (told_by r.fate) ∙ ap (λ n. fate_by n (link_in r.fate) (node_in r.fate)) (same (λ r. tag r.fate)) ∙ ap (λ n. fate_by (tag s.fate) n (node_in r.fate)) (same (λ r. link_in r.fate))
    ∙ ap (λ n. fate_by (tag s.fate) (link_in s.fate) n) (same (λ r. node_in r.fate)) ∙ told_by s.fate in
    ap (λ (n : ℕ). let x : Record = record r { id = n } in x) id
    ∙ ap (λ (n : ℕ). let x : Record = record r { id = s.id; epoch = n } in x) epoch
    ∙ ap (λ (n : ℕ). let x : Record = record r { id = s.id; epoch = s.epoch; source = n } in x) source
    ∙ ap (λ (n : ℕ). let x : Record = record r { id = s.id; epoch = s.epoch; source = s.source; dest = n } in x) dest
    ∙ ap (λ (n : List ℕ). let x : Record = record s { hops = n; restamps = r.restamps; fate = r.fate; room = r.room } in x) hops
    ∙ ap (λ (n : List Restamp). let x : Record = record s { restamps = n; fate = r.fate; room = r.room } in x) restamps
    ∙ ap (λ (n : Fate). let x : Record = record s { fate = n; room = r.room } in x) fate
    ∙ ap (λ (n : ℕ). let x : Record = record s { room = n } in x) room
