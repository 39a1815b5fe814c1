use Rattle.std.proofs.Common.{◌≡◌, ℕ, zero, suc, ◌+◌, ◌*◌, List, [], ◌∷◌, replicate, slice_get, slice_index_or, Option, Some, None, refl, sym, ap, ◌∙◌, subst, arith, ◌<◌, ◌≤◌, length, true, false, Bool, cond, not, ◌==◌, ◌⊎◌, inl, inr}
use Rattle.std.specs.Prelude.{◌&&◌, nat_le}
use Rattle.std.proofs.lemmas.Grind.{common_steps}
use Rattle.ir_core.specs.declared.TheConstants.{MAX_NODES, MAX_LINKS, MAX_CAPACITY, MAX_PACKETS, MAX_RESTAMPS}
use Rattle.ir_core.specs.declared.event.OpenError.{OpenError}
use Rattle.ir_core.specs.declared.event.OpenError.TheVariants.{NoNode, Empty, Disconnected, TooLarge, NoMemory}
use Rattle.ir_plan.specs.declared.tour.LabelOrder.{LabelOrder}
use Rattle.ir_core.specs.declared.opening.Opening.{Opening}
use Rattle.ir_core.specs.Opened.{open_refused, is_small, is_within, setting_of, IsRefusedAs, IsOpenRefusal}
use Rattle.ir_core.specs.Meaning.{IsMade}
use Rattle.ir_core.specs.Codes.{open_error_of}
use Rattle.ir_plan.specs.declared.error.PlanError.{PlanError}
use Rattle.ir_plan.specs.declared.error.PlanError.TheVariants as plan
use Rattle.ir_plan.specs.Building.{FromRoot, RefusesPlan}
use Rattle.ir_core.proofs.Installing.{whole_plan}
use Rattle.std.proofs.lemmas.Option.{none-some}
use Rattle.std.proofs.lemmas.List.{length-replicate}
use Rattle.ir_model.specs.Plan.{Plan}
use Rattle.ir_model.specs.Walk.{IsDisconnected}
use Rattle.ir_model.specs.Topology.{Topology, node_count, IsTopology}
use Rattle.ir_core.specs.Record.{Record}
use Rattle.ir_core.specs.declared.packet.Held.{Held}
use Rattle.ir_core.specs.declared.board.Board.{Board}
use Rattle.ir_core.specs.Board.{opening_board}
use Rattle.ir_core.specs.Setting.{Setting, IsSetting, IsPlanFor, links_of, nodes_of, no_plan}
use Rattle.ir_core.specs.World.{World, IsWorld, IsBoard, Ended}
use Rattle.ir_core.specs.Shows.{Shows}
use Rattle.ir_core.proofs.Placed.{ended_waits, ended_in_hand}

-- an element of equal ones, or the default, which is the same
same_all : {X : Type 0} (n k : ℕ) (x : X) → slice_index_or (replicate n x) k x ≡ x
same_all zero k x = refl
same_all (suc n) zero x = refl
same_all (suc n) (suc k) x = same_all n k x

abbrev pub opened : Setting → World
opened o = record {
  opening = o;
  boards = opening_board ∷ [];
  plans = o.first ∷ [];
  learnt = 1;
  views = replicate (nodes_of o) 0;
  hands = replicate (nodes_of o) None;
  channels = replicate ((nodes_of o) + 2 * links_of o) [];
  records = [];
}

none_waits : (o : Setting) (c k id : ℕ) → slice_get (slice_index_or (opened o).channels c []) k ≡ Some id → ⊥
none_waits o c k id e =
    none-some id (sym (ap (λ (l : List ℕ). slice_get l k) (same_all ((nodes_of o) + 2 * links_of o) c [])) ∙ e)

one_plan : (o : Setting) → IsPlanFor o o.first → (k : ℕ) → IsPlanFor o (slice_index_or (o.first ∷ []) k o.first)
one_plan o t zero = t
one_plan o t (suc k) = t

one_board : (k : ℕ) → IsBoard 1 (slice_index_or (opening_board ∷ []) k opening_board)
one_board zero = record { live = omega arith; current = omega arith }
one_board (suc k) = record { live = omega arith; current = omega arith }

pub opened_kept : (o : Setting) → IsSetting o → IsWorld (opened o)
opened_kept o ok = record {
  opening = ok;
  views = length-replicate (nodes_of o) 0;
  hands = length-replicate {A = Option Held} (nodes_of o) None;
  channels = length-replicate {A = List ℕ} ((nodes_of o) + 2 * links_of o) [];
  boards = record { some = omega arith; version = refl; few = omega arith; current = refl; floor = omega arith; each = λ k. one_board k };
  plans = record { some = omega arith; few = omega arith; each = one_plan o ok.first };
  views_in = λ u. rw (same_all {X = ℕ} (nodes_of o) u 0) (omega arith);
  learnt_above = omega arith;
  learnt_in = omega arith;
  few_packets = omega arith;
  place = λ id. Ended;
  placed = record {
    each = λ id r e. absurd (none-some r e);
    waiting = λ c k id e. absurd (none_waits o c k id e);
    once = λ c j k id e f. absurd (none_waits o c j id e);
    stands = λ id u way e. absurd (ended_waits u way e);
    rests = λ id u way e. absurd (ended_in_hand u way e);
    held = λ u h e. absurd (none-some h (sym (same_all {X = Option Held} (nodes_of o) u None) ∙ e));
  };
}

pub opened_shows : (o : Setting) → Shows [] (opened o)
opened_shows o = record {
  injected = refl;
  learnt = refl;
  boards = refl;
  plans = refl;
  view = λ u. same_all (nodes_of o) u 0;
  hand = λ u. same_all {X = Option Held} (nodes_of o) u None;
  waiting = λ c. same_all {X = List ℕ} ((nodes_of o) + 2 * links_of o) c [];
  no_more_takes = λ c. omega arith;
  packet = λ id. refl;
  ends_once = tt;
}

-- a world's fields, as contracts see them
abbrev pub made : Topology → LabelOrder → Bool → ℕ → ℕ → ℕ → List Board → List Plan → List ℕ → List (Option Held) → List (List ℕ) → List Record → World
made net labels keeps capacity max_packets restamps boards plans views hands channels records = record {
  opening = record { topology = net; labels = labels; keeps = keeps; first = slice_index_or plans 0 no_plan; capacity = capacity; max_packets = max_packets; restamps = restamps };
  boards = boards;
  plans = plans;
  learnt = 1;
  views = views;
  hands = hands;
  channels = channels;
  records = records;
}

pub made_is : (o : Setting) (boards : List Board) (plans : List Plan) (views : List ℕ) (hands : List (Option Held)) (channels : List (List ℕ)) (records : List Record) →
    boards ≡ opening_board ∷ [] → plans ≡ o.first ∷ [] → views ≡ replicate (nodes_of o) 0 → hands ≡ replicate (nodes_of o) None → channels ≡ replicate (nodes_of o + 2 * links_of o) [] → records ≡ [] →
    made o.topology o.labels o.keeps o.capacity o.max_packets o.restamps boards plans views hands channels records ≡ opened o
made_is o boards plans views hands channels records a b c d e f = rw (a, b, c, d, e, f) refl

pub made_kept : (o : Setting) → IsSetting o → (s : World) → s ≡ opened o → IsWorld s
made_kept o ok s e = subst (λ (x : World). IsWorld x) (sym e) (opened_kept o ok)

pub made_shows : (o : Setting) → (s : World) → s ≡ opened o → Shows [] s
made_shows o s e = subst (λ (x : World). Shows [] x) (sym e) (opened_shows o)

-- an opening that is not refused
both_true : (a b : Bool) → (a && b) ≡ true → (a ≡ true) × (b ≡ true)
both_true true b e = (refl, e)
both_true false b e = cc

not_refused : (a b c : Bool) → ((e : OpenError) → cond a (Some Empty) (cond b (Some NoNode) (cond (not c) (Some TooLarge) None)) ≡ Some e → ⊥) → (a ≡ false) × (c ≡ true)
not_refused true b c n = absurd (n Empty refl)
not_refused false true c n = absurd (n NoNode refl)
not_refused false false true n = (refl, refl)
not_refused false false false n = absurd (n TooLarge refl)

root_within : (a b c : Bool) → ((e : OpenError) → cond a (Some Empty) (cond b (Some NoNode) (cond (not c) (Some TooLarge) None)) ≡ Some e → ⊥) → b ≡ false
root_within true b c n = absurd (n Empty refl)
root_within false true c n = absurd (n NoNode refl)
root_within false false c n = refl

-- a refusal that is the network's
told_as : (topology : Topology) (e : OpenError) (x : Option OpenError) → ((f : OpenError) → x ≡ Some f → ⊥) → ((e ≡ Disconnected) × IsDisconnected topology) ⊎ (e ≡ NoMemory) → IsRefusedAs topology e x
told_as topology e (Some f) none told = absurd (none f refl)
told_as topology e None none told = told

pub wants_memory : (opening : Opening) → ((e : OpenError) → open_refused opening ≡ Some e → ⊥) → IsOpenRefusal opening NoMemory
wants_memory opening accepted = told_as opening.topology NoMemory (open_refused opening) accepted (inr refl)

-- an opening that is not refused before a plan is made, where there is no plan
here_refused : (opening : Opening) → ((e : OpenError) → open_refused opening ≡ Some e → ⊥) → (e : PlanError) → RefusesPlan opening.topology (FromRoot opening.labels opening.root) e → IsOpenRefusal opening (open_error_of e)
here_refused opening accepted plan.Disconnected is = told_as opening.topology Disconnected (open_refused opening) accepted (inl (refl, is.2))
here_refused opening accepted plan.NoMemory is = wants_memory opening accepted
here_refused opening accepted plan.Empty is =
    let some = (not_refused (node_count opening.topology == 0) (nat_le (node_count opening.topology) opening.root) (is_small opening) accepted).0 in
    absurd (grind (arith, common_steps))
here_refused opening accepted plan.NoNode is =
    let within = root_within (node_count opening.topology == 0) (nat_le (node_count opening.topology) opening.root) (is_small opening) accepted in
    let past = is.1 in
    absurd (grind (arith, common_steps))

pub plan_refused : (opening : Opening) → ((e : OpenError) → open_refused opening ≡ Some e → ⊥) → (over : Topology) → over ≡ opening.topology → (e : PlanError) → RefusesPlan over (FromRoot opening.labels opening.root) e → IsOpenRefusal opening (open_error_of e)
plan_refused opening accepted over same e is = here_refused opening accepted e (subst (λ (topology : Topology). RefusesPlan topology (FromRoot opening.labels opening.root) e) same is)

within : (n most : ℕ) → is_within n most ≡ true → (0 < n) × (n ≤ most)
within n most e = let parts = both_true (not (n == 0)) (nat_le n most) e in let a = parts.0 in let b = parts.1 in (grind (arith, common_steps), grind (arith, common_steps))

pub setting_is : (opening : Opening) (first : Plan) → ((e : OpenError) → open_refused opening ≡ Some e → ⊥) → IsMade (FromRoot opening.labels opening.root) opening.kind opening.topology (Some first) → IsSetting (setting_of opening first)
setting_is opening first accepted made =
    let o = setting_of opening first in
    let parts = not_refused (node_count o.topology == 0) (nat_le (node_count o.topology) opening.root) (is_small opening) accepted in
    let a = parts.0 in
    let p = small_parts (nat_le (node_count o.topology) MAX_NODES) (nat_le (length o.topology.links) MAX_LINKS) (is_within o.capacity MAX_CAPACITY) (is_within o.max_packets MAX_PACKETS) (nat_le o.restamps MAX_RESTAMPS) parts.1 in
    let nodes = p.0 in
    let links = p.1 in
    let capacity = within o.capacity MAX_CAPACITY p.2 in
    let packets = within o.max_packets MAX_PACKETS p.3 in
    let restamps = p.4 in
    record {
      some_nodes = grind (arith, common_steps);
      few_nodes = grind (arith, common_steps);
      few_links = grind (arith, common_steps);
      some_capacity = capacity.0;
      capacity = capacity.1;
      some_packets = packets.0;
      max_packets = packets.1;
      restamps = grind (arith, common_steps);
      topology = subst (λ (net : Topology). IsTopology net) made.over made.valid.topology;
      first = whole_plan o o.first made.valid made.over;
    }
  where
    small_parts : (a b c d e : Bool) → (a && b && c && d && e) ≡ true → (a ≡ true) × (b ≡ true) × (c ≡ true) × (d ≡ true) × (e ≡ true)
    small_parts true true true true true x = (refl, refl, refl, refl, refl)
    small_parts true true true true false x = cc
    small_parts true true true false e x = cc
    small_parts true true false d e x = cc
    small_parts true false c d e x = cc
    small_parts false b c d e x = cc
