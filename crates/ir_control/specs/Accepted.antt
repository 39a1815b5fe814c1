-- The packets that an injector accepted.
use Rattle.std.specs.Prelude.{◌≡◌, ℕ, [], ◌∷◌, ◌++◌, Option, Some, None, length, nat_lt, cond}
use Rattle.ir_epochs.specs.declared.registry.Stamp.{Stamp}
use Rattle.ir_epochs.specs.declared.handles.Receipt.{Receipt}
use Rattle.ir_epochs.specs.Stamps.{knows, registry_name}
use Rattle.ir_epochs.specs.Entries.{registry_of, topology_of, installed_by}
use Rattle.ir_epochs.specs.Handles.{told}
use Rattle.ir_worker.specs.Account.{lines_out}
use Rattle.ir_model.specs.Topology.{node_count}
use Rattle.ir_core.specs.Record.{hop_room}
use Rattle.ir_core.specs.Entry.{fresh}
use Rattle.ir_worker.specs.Seen.{Parcel}
use Rattle.ir_control.specs.declared.injector.Injector.{Injector}
use Rattle.ir_control.specs.Outs.{SentTo}

-- the later of two stamps
abbrev pub stamp_after_learning : Stamp → Option Stamp → Stamp
stamp_after_learning s None = s
stamp_after_learning s (Some t) = cond (nat_lt s.epoch t.epoch) t s

-- a new parcel of a net of the opening's stamp, which allows so many restamps
abbrev pub new_parcel : Stamp → ℕ → ℕ → Stamp → ℕ → ℕ → Parcel
new_parcel opening restamps id s source dest = record {
  packet = fresh id s.epoch source dest (hop_room restamps (node_count (knows opening).topology));
  first = s;
  later = [];
  next = source;
}

-- how many packets an injector accepted
abbrev pub accepted_count : Injector → ℕ
accepted_count injector = length injector.accepted.items

-- a receipt is of the injector's registry, and of its network
abbrev pub IsOfRegistryOf : Injector → Receipt → Type 0
IsOfRegistryOf injector t = registry_of (told t) ≡ registry_name injector.opening

abbrev pub IsOfNetworkOf : Injector → Receipt → Type 0
IsOfNetworkOf injector t = topology_of (told t) ≡ (knows injector.opening).topology

-- it has the same opening, ends and packets, and the same limit
abbrev pub HasAllOf : Injector → Injector → Type 0
HasAllOf before after =
    (after.opening ≡ before.opening) × (after.outs ≡ before.outs) × (after.accepted ≡ before.accepted) × (after.max_packets ≡ before.max_packets)

-- the newest stamp is the later one of that before and the receipt's
abbrev pub HasNewestBy : Receipt → Injector → Injector → Type 0
HasNewestBy t before after = after.newest ≡ stamp_after_learning before.newest (installed_by (told t))

-- it has the same opening, newest stamp and limit
abbrev pub HasTermsOf : Injector → Injector → Type 0
HasTermsOf before after =
    (after.opening ≡ before.opening) × (after.newest ≡ before.newest) × (after.max_packets ≡ before.max_packets)

-- its ends are of the same channels
abbrev pub HasLinesOf : Injector → Injector → Type 0
HasLinesOf before after = lines_out after.outs.items ≡ lines_out before.outs.items

-- The packet was accepted: it is the last of the list, stamped with the newest epoch that was learnt, and its parcel
-- was put into the inbox of its source.
pub record IsInjected (before after : Injector) (id source dest : ℕ) : Type 0 where
  pub number : id ≡ length before.accepted.items
  pub accepted : after.accepted.items ≡ before.accepted.items ++ record { id = id; epoch = before.newest.epoch; source = source; dest = dest } ∷ []
  pub sent : SentTo before.outs.items after.outs.items source (new_parcel before.opening before.restamps id before.newest source dest)
