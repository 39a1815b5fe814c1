-- The plans of a live run leave out the links that are avoided when they are made.
use Rattle.std.specs.Prelude.{◌≡◌, ℕ, zero, suc, ◌<◌, ◌≤◌, Bool, true, false, cond, ◌==◌, List, [], ◌∷◌, Some, None, Ok, Err, length, reverse, slice_get, slice_index_or}
use Rattle.std.proofs.Common.{refl, sym, ap, ◌∙◌, subst, arith}
use Rattle.std.proofs.Math.Logic.{∥∥₁_elim}
use Rattle.std.proofs.Math.Bool.{Bool-set}
use Rattle.std.proofs.lemmas.Bool.{eq-eqb, eqb-true, lt-ltb}
use Rattle.std.proofs.lemmas.Option.{none-some, slice_get_within, slice_get_read, get_or_from_slice_get}
use Rattle.ir_model.specs.Topology.{Topology, IsTopology, port_at, restrict}
use Rattle.ir_model.proofs.Restrict.{port_at-restrict}
use Rattle.ir_plan.specs.declared.tour.LabelOrder.{LabelOrder}
use Rattle.ir_core.specs.declared.command.Command.{Command}
use Rattle.ir_core.specs.declared.command.Command.TheVariants.{Inject, Install, Renumber, Retire, Down, Up, Avoid, Heed, Drain}
use Rattle.ir_core.specs.declared.packet.Fate.{Fate}
use Rattle.ir_core.specs.declared.packet.Fate.TheVariants as fate
use Rattle.ir_core.specs.Record.{Record, present}
use Rattle.ir_core.specs.Sound.{IsSoundRecord, IsSoundBy, FateFits, last_of}
use Rattle.ir_core.proofs.Walks.{port_of}
use Rattle.ir_core.proofs.Segments.{of_present}
use Rattle.ir_epochs.specs.declared.registry.Stamp.{Stamp}
use Rattle.ir_epochs.specs.Stamps.{knows}
use Rattle.ir_control.specs.declared.net.Net.{Net}
use Rattle.ir_control.specs.Nets.{first_plan}
use Rattle.ir_control.specs.Answers.{CommandAnswer, epoch_after}
use Rattle.ir_control.specs.Planned.{Planned, LinkMarks, planned, stamps_in, all_marked, used_in, marks_after, IsAsked, AreAsked, IsPlanIn}
use Rattle.ir_control.specs.Lives.{AreSoundByPlans}
use Rattle.ir_control.specs.Avoided.{marks_at, AreLiveDropsForUsedLinks}

-- an epoch that was installed later than one has another number
other_epoch : {X : Type 0} (a b : ℕ) (x y : X) (c : Bool) → (a == b) ≡ c → a < b → cond c x y ≡ y
other_epoch a b x y true e lt = absurd (let same = eqb-true a b e in omega (arith, same, lt))
other_epoch a b x y false e lt = refl

later_epoch : (last : ℕ) (s : Stamp) → last < s.epoch → epoch_after last (Ok (Some s)) ≡ s.epoch
later_epoch last s lt = ap (λ (c : Bool). cond c s.epoch last) (lt-ltb last s.epoch lt)

module _ (labels : LabelOrder) (keeps : Bool) (net : Topology) (first : LinkMarks) where
  -- an install that was accepted, of a command that may be no other
  installed : (c : Command) (m : LinkMarks) (last : ℕ) (s : Stamp) → IsAsked labels keeps net m last c (Ok (Some s)) → (last < s.epoch) × ((knows s).topology ≡ restrict (used_in m) net)
  installed (Install kind root) m last s asked = (asked.0, asked.1.over)
  installed (Renumber kind root) m last s asked = (asked.0, asked.1.over)
  installed (Inject source dest) m last s asked = absurd (cc asked)
  installed (Retire floor) m last s asked = absurd (cc asked)
  installed (Down l) m last s asked = absurd (cc asked)
  installed (Up l) m last s asked = absurd (cc asked)
  installed (Avoid l) m last s asked = absurd (cc asked)
  installed (Heed l) m last s asked = absurd (cc asked)
  installed Drain m last s asked = absurd (cc asked)

  -- a plan that a command installed is over the links that were used then
  over_used : (commands : List Command) (answers : List CommandAnswer) (m : LinkMarks) (last : ℕ) → length answers ≡ length commands → AreAsked labels keeps net m last commands answers →
      (k : ℕ) (x : Planned) → slice_get (planned (stamps_in answers)) k ≡ Some x → (last < x.epoch) × (x.plan.topology ≡ restrict (used_in (marks_at x.epoch first m commands answers)) net)
  over_used [] [] m last same asked k x at = absurd (none-some x at)
  over_used [] (a ∷ answers) m last same asked k x at = absurd (omega (arith, same))
  over_used (c ∷ commands) [] m last same asked k x at = absurd (omega (arith, same))
  over_used (c ∷ commands) (Ok None ∷ answers) m last same asked k x at = over_used commands answers (marks_after m c (Ok None)) last (omega (arith, same)) asked.1 k x at
  over_used (c ∷ commands) (Err why ∷ answers) m last same asked k x at = over_used commands answers (marks_after m c (Err why)) last (omega (arith, same)) asked.1 k x at
  over_used (c ∷ commands) (Ok (Some s) ∷ answers) m last same asked zero x at =
      let now = installed c m last s asked.0 in
      let is : record { epoch = s.epoch; plan = knows s } ≡ x = cc at in
      let marks = ap (λ (t : Bool). used_in (cond t m (marks_at s.epoch first (marks_after m c (Ok (Some s))) commands answers))) (eq-eqb s.epoch s.epoch refl) in
      subst (λ (x : Planned). (last < x.epoch) × (x.plan.topology ≡ restrict (used_in (marks_at x.epoch first m (c ∷ commands) (Ok (Some s) ∷ answers))) net)) is
      (now.0, now.1 ∙ ap (λ (up : List Bool). restrict up net) (sym marks))
  over_used (c ∷ commands) (Ok (Some s) ∷ answers) m last same asked (suc k) x at =
      let now = installed c m last s asked.0 in
      let epoch = later_epoch last s now.0 in
      let rest = over_used commands answers (marks_after m c (Ok (Some s))) (epoch_after last (Ok (Some s))) (omega (arith, same)) asked.1 k x at in
      let lt : s.epoch < x.epoch = (let later = rest.0 in omega (arith, later, epoch)) in
      let marks = ap (λ (m : LinkMarks). used_in m) (other_epoch s.epoch x.epoch m (marks_at x.epoch first (marks_after m c (Ok (Some s))) commands answers) (s.epoch == x.epoch) refl lt) in
      (omega (arith, now.0, lt), rest.1 ∙ ap (λ (up : List Bool). restrict up net) (sym marks))

  -- the opening's epoch is no command's
  opened_by : (commands : List Command) (answers : List CommandAnswer) (m : LinkMarks) (last : ℕ) → 1 ≤ last → AreAsked labels keeps net m last commands answers → marks_at 1 first m commands answers ≡ first
  opened_by [] answers m last le asked = refl
  opened_by (c ∷ commands) [] m last le asked = refl
  opened_by (c ∷ commands) (Ok None ∷ answers) m last le asked = opened_by commands answers (marks_after m c (Ok None)) last le asked.1
  opened_by (c ∷ commands) (Err why ∷ answers) m last le asked = opened_by commands answers (marks_after m c (Err why)) last le asked.1
  opened_by (c ∷ commands) (Ok (Some s) ∷ answers) m last le asked =
      let now = installed c m last s asked.0 in
      let epoch = later_epoch last s now.0 in
      not_first s.epoch m _ (s.epoch == 1) refl (omega (arith, le, now.0)) ∙ opened_by commands answers (marks_after m c (Ok (Some s))) (epoch_after last (Ok (Some s))) (omega (arith, epoch, le, now.0)) asked.1
    where
      not_first : (e : ℕ) (a b : LinkMarks) (t : Bool) → (e == 1) ≡ t → 1 < e → cond t a b ≡ b
      not_first e a b true is lt = absurd (let same = eqb-true e 1 is in omega (arith, same, lt))
      not_first e a b false is lt = refl

-- all links are used at first
all_there : (n l : ℕ) (order : List ℕ) → l < n → slice_index_or (used_in (all_marked n order)) l false ≡ true
all_there zero l order lt = absurd (omega (arith, lt))
all_there (suc n) zero order lt = refl
all_there (suc n) (suc l) order lt = all_there n l order (omega (arith, lt))

module _ (net : Net) (commands : List Command) (answers : List CommandAnswer) (same : length answers ≡ length commands)
    (asked : AreAsked net.labels net.keeps net.topology (all_marked (length net.topology.links) (first_plan net).order) 1 commands answers) where
  abbrev at_first : LinkMarks
  at_first = all_marked (length net.topology.links) (first_plan net).order

  abbrev used_at : ℕ → ℕ → Type 0
  used_at epoch l = slice_index_or (used_in (marks_at epoch at_first at_first commands answers)) l false ≡ true

  -- the ports of an epoch's plan
  ports_used : (k : ℕ) (x : Planned) → slice_get (record { epoch = 1; plan = first_plan net } ∷ planned (stamps_in answers)) k ≡ Some x → IsTopology x.plan.topology →
      (u p : ℕ) (hop : _) → port_at x.plan.topology u p ≡ Some hop → used_at x.epoch hop.link
  ports_used zero x at ok u p hop port =
      let is : record { epoch = 1; plan = first_plan net } ≡ x = cc at in
      let link = ok.ports u p hop port in
      let within = slice_get_within x.plan.topology.links hop.link link.0 link.1 in
      let links : length x.plan.topology.links ≡ length net.topology.links = ap (λ (x : Planned). length x.plan.topology.links) (sym is) ∙ ap (λ (g : Topology). length g.links) net.opened.topology in
      let none = opened_by net.labels net.keeps net.topology at_first commands answers at_first 1 (omega arith) asked in
      let marks : marks_at x.epoch at_first at_first commands answers ≡ at_first = ap (λ (x : Planned). marks_at x.epoch at_first at_first commands answers) (sym is) ∙ none in
      ap (λ (m : LinkMarks). slice_index_or (used_in m) hop.link false) marks ∙ all_there (length net.topology.links) hop.link (first_plan net).order (omega (arith, within, links))
  ports_used (suc k) x at ok u p hop port =
      let over = over_used net.labels net.keeps net.topology at_first commands answers at_first 1 same asked k x at in
      (port_at-restrict (used_in (marks_at x.epoch at_first at_first commands answers)) net.topology u p hop (ap (λ (g : Topology). port_at g u p) (sym over.1) ∙ port)).2

  dropped : (g : Record) (l : ℕ) → IsSoundBy (IsPlanIn (record { epoch = 1; plan = first_plan net } ∷ planned (stamps_in answers))) g → g.fate ≡ fate.Down l → used_at g.epoch l
  dropped g l sound down =
      let fits = subst (λ (f : Fate). FateFits sound.plan g sound.sound.walk f) down sound.sound.fate in
      let leads = fits.1.1 in
      let port = port_of sound.plan (last_of g.hops) g.dest leads.0 leads.1 in
      let x : Planned = record { epoch = g.epoch; plan = sound.plan } in
      let plans = record { epoch = 1; plan = first_plan net } ∷ planned (stamps_in answers) in
      let at = slice_get_read plans (length plans) sound.of_epoch.0 x refl sound.of_epoch.1 (sym sound.of_epoch.2) in
      ap (λ (l : ℕ). slice_index_or (used_in (marks_at g.epoch at_first at_first commands answers)) l false) (sym leads.2)
      ∙ ports_used sound.of_epoch.0 x at sound.sound.plan.topology _ port.0 leads.0 port.1

pub live_for_used : (net : Net) (commands : List Command) (answers : List CommandAnswer) (records : List Record) → length answers ≡ length commands → AreSoundByPlans net commands answers records →
    AreLiveDropsForUsedLinks net commands answers records
live_for_used net commands answers records same so k l r at down =
    let sound = subst (λ (x : Record). ∥ IsSoundRecord net.restamps (IsPlanIn so.plans) x ∥₁) (get_or_from_slice_get records k r r at) (so.sound k r (slice_get_within records k r at)) in
    ∥∥₁_elim sound (Bool-set _ _) (λ is. dropped net commands answers same so.asked (present r) l
    (subst (λ (plans : List Planned). IsSoundBy (IsPlanIn plans) (present r)) so.plans_are (of_present (IsSoundBy (IsPlanIn so.plans)) (reverse r.restamps) r is.each)) down)
