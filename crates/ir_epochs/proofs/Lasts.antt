-- What one more change makes of a list of entries.
use Rattle.std.proofs.Common.{◌≡◌, ℕ, ◌+◌, ◌<◌, ◌≤◌, le_refl, length-append, List, [], ◌∷◌, ◌++◌, length, Option, Some, None, if◌then◌else◌, fold, refl, sym, ap, ◌∙◌, subst, arith}
use mathlib.Core.List.{IsPrefix}
use Rattle.ir_model.specs.Topology.{Topology}
use Rattle.ir_model.specs.Plan.{IsPlan}
use Rattle.ir_core.specs.declared.TheConstants.{MAX_LINKS}
use Rattle.ir_core.specs.declared.board.Board.{Board}
use Rattle.ir_core.specs.Board.{opening_board}
use Rattle.ir_epochs.specs.declared.registry.Stamp.{Stamp}
use Rattle.ir_epochs.specs.declared.entry.Change.{Change}
use Rattle.ir_epochs.specs.declared.entry.Change.TheVariants.{Install, Retire, Down, Up, Avoid, Heed}
use Rattle.ir_epochs.specs.declared.entry.Entry.{Entry}
use Rattle.ir_epochs.specs.declared.entry.Entry.TheVariants.{Opened, Changed}
use Rattle.ir_epochs.specs.Stamps.{knows, registry_name}
use Rattle.ir_epochs.specs.Over.{IsOver}
use Rattle.ir_epochs.specs.Entries.{board_of, changed, stamped, stamp_next, installed_stamp, stamp_after, last_stamp, installed_by, installs, opening_links, registry_of, topology_of, MayComeNext, IsCurrent, IsSameOpening, HasLiveEpochs, IsMadeOf}
use Rattle.ir_epochs.proofs.Rising.{board_last, rising_opened, rising_more}
use Rattle.ir_epochs.proofs.Overs.{over_itself}

installed_from : (o : Option Stamp) (xs : List Entry) (c : Change) → fold last_stamp o (xs ++ Changed c ∷ []) ≡ stamp_next None c
installed_from o [] c = refl
installed_from o (x ∷ xs) c = installed_from (last_stamp o x) xs c

stamp_from : (o : Option Stamp) (xs : List Entry) (c : Change) → fold stamped o (xs ++ Changed c ∷ []) ≡ stamp_next (fold stamped o xs) c
stamp_from o [] c = refl
stamp_from o (x ∷ xs) c = stamp_from (stamped o x) xs c

pub stamp_more : (xs : List Entry) (c : Change) → installed_stamp (xs ++ Changed c ∷ []) ≡ stamp_next (installed_stamp xs) c
stamp_more = stamp_from None

stamp_last : (xs : List Entry) (c : Change) (s : Stamp) → installed_stamp xs ≡ Some s → installed_stamp (xs ++ Changed c ∷ []) ≡ Some (stamp_after s c)
stamp_last xs c s is = stamp_more xs c ∙ ap (λ (o : Option Stamp). stamp_next o c) is ∙ some_after c
  where
    some_after : (c : Change) → stamp_next (Some s) c ≡ Some (stamp_after s c)
    some_after (Install t) = refl
    some_after (Retire f) = refl
    some_after (Down l) = refl
    some_after (Up l) = refl
    some_after (Avoid l) = refl
    some_after (Heed l) = refl

-- what the last change installed is the stamp that is then current
pub installed_last : (xs : List Entry) (c : Change) (s : Stamp) → installed_by (xs ++ Changed c ∷ []) ≡ (if installs c then Some (stamp_after s c) else None)
installed_last xs c s = installed_from None xs c ∙ by_case c
  where
    by_case : (c : Change) → stamp_next None c ≡ (if installs c then Some (stamp_after s c) else None)
    by_case (Install t) = refl
    by_case (Retire f) = refl
    by_case (Down l) = refl
    by_case (Up l) = refl
    by_case (Avoid l) = refl
    by_case (Heed l) = refl

-- what the opening fixed stays
opening_more : (xs rest : List Entry) → 0 < length xs → IsSameOpening xs (xs ++ rest)
opening_more [] rest some = absurd (omega arith)
opening_more (Opened links s ∷ xs) rest some = record { links = refl; registry = refl; topology = refl }
opening_more (Changed d ∷ xs) rest some = record { links = refl; registry = refl; topology = refl }

pub opening_kept : (xs ys : List Entry) → IsPrefix xs ys → 0 < length xs → IsSameOpening xs ys
opening_kept xs ys p some = subst (λ (zs : List Entry). IsSameOpening xs zs) p.1 (opening_more xs p.0 some)

current_opened : (links : ℕ) (s : Stamp) → s.epoch ≡ 1 → ∥ IsPlan (knows s) ∥₁ → IsCurrent (Opened links s ∷ []) s
current_opened links s first is = record { last = refl; epoch = first; registry = refl; over = over_itself (knows s) is }

module _ (xs : List Entry) (s : Stamp) (is : IsCurrent xs s) where
  epoch_after : (c : Change) → (stamp_after s c).epoch ≡ (changed (board_of xs) c).current
  epoch_after (Install t) = refl
  epoch_after (Retire f) = is.epoch
  epoch_after (Down l) = is.epoch
  epoch_after (Up l) = is.epoch
  epoch_after (Avoid l) = is.epoch
  epoch_after (Heed l) = is.epoch

  registry_after : (c : Change) → MayComeNext xs c → registry_name (stamp_after s c) ≡ registry_of xs
  registry_after (Install t) fits = fits.1
  registry_after (Retire f) fits = is.registry
  registry_after (Down l) fits = is.registry
  registry_after (Up l) fits = is.registry
  registry_after (Avoid l) fits = is.registry
  registry_after (Heed l) fits = is.registry

  over_after : (c : Change) → MayComeNext xs c → IsOver (topology_of xs) (knows (stamp_after s c)).topology
  over_after (Install t) fits = fits.2
  over_after (Retire f) fits = is.over
  over_after (Down l) fits = is.over
  over_after (Up l) fits = is.over
  over_after (Avoid l) fits = is.over
  over_after (Heed l) fits = is.over

  current_more : (c : Change) → 0 < length xs → MayComeNext xs c → IsCurrent (xs ++ Changed c ∷ []) (stamp_after s c)
  current_more c some fits = let opening = opening_more xs (Changed c ∷ []) some in record {
    last = stamp_last xs c s is.last;
    epoch = epoch_after c ∙ sym (ap (λ (b : Board). b.current) (board_last xs c));
    registry = registry_after c fits ∙ sym opening.registry;
    over = subst (λ (net : Topology). IsOver net (knows (stamp_after s c)).topology) (sym opening.topology) (over_after c fits);
  }

pub made_opened : (links : ℕ) (s : Stamp) → s.epoch ≡ 1 → ∥ IsPlan (knows s) ∥₁ → links ≤ MAX_LINKS → IsMadeOf (Opened links s ∷ []) opening_board s
made_opened links s first is few = record {
  board = refl;
  version = refl;
  stamp = current_opened links s first is;
  live = (le_refl 1, le_refl 1, omega arith);
  rising = rising_opened links s;
  few_links = few;
}

version_after : (b : Board) (c : Change) → (changed b c).version ≡ b.version + 1
version_after b (Install s) = refl
version_after b (Retire f) = refl
version_after b (Down l) = refl
version_after b (Up l) = refl
version_after b (Avoid l) = refl
version_after b (Heed l) = refl

live_after : (xs : List Entry) (b : Board) (c : Change) → b ≡ board_of xs → HasLiveEpochs b → MayComeNext xs c → HasLiveEpochs (changed b c)
live_after xs b (Install s) is live fits =
    let now : b.current ≡ (board_of xs).current = ap (λ (a : Board). a.current) is in
    let later : (board_of xs).current < s.epoch = fits.0 in
    (live.0, omega (arith, live.1), s.in_range.1)
live_after xs b (Retire f) is live fits =
    let floor : b.floor ≡ (board_of xs).floor = ap (λ (a : Board). a.floor) is in
    let now : b.current ≡ (board_of xs).current = ap (λ (a : Board). a.current) is in
    let later : (board_of xs).floor < f = fits.0 in
    let within : f ≤ (board_of xs).current = fits.1 in
    (omega (arith, live.0), omega arith, live.2)
live_after xs b (Down l) is live fits = live
live_after xs b (Up l) is live fits = live
live_after xs b (Avoid l) is live fits = live
live_after xs b (Heed l) is live fits = live

pub made_more : (xs : List Entry) (b : Board) (s : Stamp) (c : Change) → IsMadeOf xs b s → MayComeNext xs c → IsMadeOf (xs ++ Changed c ∷ []) (changed b c) (stamp_after s c)
made_more xs b s c is fits =
    let some : 0 < length xs = omega (arith, is.version) in
    record {
      board = ap (λ (a : Board). changed a c) is.board ∙ sym (board_last xs c);
      version = omega (arith, is.version, version_after b c, length-append xs (Changed c ∷ []));
      stamp = current_more xs s is.stamp c some fits;
      live = live_after xs b c is.board is.live fits;
      rising = rising_more xs c is.rising fits;
      few_links = (let same : opening_links (xs ++ Changed c ∷ []) ≡ opening_links xs = (opening_more xs (Changed c ∷ []) some).links in let few : opening_links xs ≤ MAX_LINKS = is.few_links in omega arith);
    }
