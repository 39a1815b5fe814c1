use Rattle.std.proofs.Common.{◌∙◌, subst, sym, ap, refl, List, ◌+◌}
use Rattle.ir_model.specs.declared.Hop.{Hop}
use Rattle.ir_core.specs.Record.{Record}
use Rattle.ir_core.specs.Sound.{last_of}
use Rattle.ir_core.specs.declared.board.Board.{Board}
use Rattle.ir_epochs.specs.Entries.{board_of}
use Rattle.ir_epochs.specs.Handles.{known}
use Rattle.ir_worker.specs.Seen.{Parcel}
use Rattle.ir_worker.specs.Account.{head_of}
use Rattle.ir_worker.specs.Acts.{restamp_on, with_restamp, way_then, CauseHolds}
use Rattle.ir_worker.specs.Ends.{CameBy}
use Rattle.ir_worker.specs.Wires.{SentOver, WasFullFor}
use Rattle.ir_worker.proofs.Acts.{live_on, live_here, cause_here}
use Rattle.ir_worker.proofs.Counts.{same_account, balanced_sent, balanced_settled, settled_behind}
use Rattle.ir_worker.proofs.Nodes.{ends_kept, taken_place, same_of_net, more_of_net, current_of_net, head_with, goes_by_board, settles_by_board, causes_same, causes_later, causes_more}
use Rattle.ir_worker.proofs.Restamps.{known_same, known_sent, known_settled}
use Rattle.ir_worker.proofs.node.Node.turn.Goals as goal

pub invariant_of-self-clause-account : goal.invariant_of-self-clause-account
invariant_of-self-clause-account g c =
    let n = c.args.self.now in
    same_account n.entrances.inbox n.entrances.inbox n.entrances.ports.items n.entrances.ports.items n.outs.items n.outcomes.items c.reserve.new.self.items n.account refl refl c.reserve.ensures.items

pub invariant_of-self-clause-restamped : goal.invariant_of-self-clause-restamped
invariant_of-self-clause-restamped g c =
    let n = c.args.self.now in
    known_same (known n.reader) n.entrances.inbox n.entrances.ports.items n.outs.items n.outcomes.items c.reserve.new.self.items n.restamped c.reserve.ensures.items

pub invariant_of-self-clause-of_net : goal.invariant_of-self-clause-of_net
invariant_of-self-clause-of_net g c =
    let n = c.args.self.now in
    same_of_net n.opening n.restamps n.outcomes.items c.reserve.new.self.items n.of_net c.reserve.ensures.items

pub invariant_of-self-clause-causes : goal.invariant_of-self-clause-causes
invariant_of-self-clause-causes g c =
    let n = c.args.self.now in
    causes_same (known n.reader) n.outcomes.items c.reserve.new.self.items n.causes c.reserve.ensures.items

pub ready-judged-requires-clause-current : goal.ready-judged-requires-clause-current
ready-judged-requires-clause-current g c =
    let n = c.args.self.now in
    current_of_net n.opening (known c.look.new.self) c.stamp.result c.stamp.ensures (c.look.ensures.opening.registry ∙ n.of_board.0) (c.look.ensures.opening.topology ∙ n.of_board.1)

pub ready-judged-requires-clause-epoch : goal.ready-judged-requires-clause-epoch
ready-judged-requires-clause-epoch g c = c.stamp.ensures.epoch ∙ sym (ap (λ (b : Board). b.current) c.board.ensures.board)

pub ready-judged-requires-clause-is_new : goal.ready-judged-requires-clause-is_new
ready-judged-requires-clause-is_new g c =
    let n = c.args.self.now in
    (taken_place n.opening n.restamps n.index n.ports.items n.entrances.inbox n.entrances.ports.items n.outs.items n.ends c.poll.new.self.inbox c.poll.new.self.ports.items c.in-Some.parcel n.entrances.next c.in-Some.ensures.took c.way-way.result c.way-way.ensures).is_new

pub ready-judged-requires-clause-held : goal.ready-judged-requires-clause-held
ready-judged-requires-clause-held g c =
    let n = c.args.self.now in
    let place = taken_place n.opening n.restamps n.index n.ports.items n.entrances.inbox n.entrances.ports.items n.outs.items n.ends c.poll.new.self.inbox c.poll.new.self.ports.items c.in-Some.parcel n.entrances.next c.in-Some.ensures.took c.way-way.result c.way-way.ensures in
    record {
      of_net = place.of_net;
      few = place.few;
      room = place.room;
      came = subst (λ (xs : List Hop). CameBy xs n.index c.way-way.result (last_of c.in-Some.parcel.packet.hops) c.in-Some.parcel.next) (sym c.as_slice-ports.ensures.value) place.came;
    }

pub pass_on-requires-clause-held : goal.pass_on-requires-clause-held
pass_on-requires-clause-held g c =
    let judged = c.ready-judged.ensures in
    record { of_net = judged.of_net; few = judged.few; room = judged.room; came = judged.came }

pub invariant_of-self-in-Ok-1 : goal.invariant_of-self-in-Ok-1
invariant_of-self-in-Ok-1 g c =
    let n = c.args.self.now in
    let p = c.in-Some.parcel in
    let b = c.board.result.now in
    let x = restamp_on n.restamps p b c.way-way.result n.index in
    let same = ap (λ (y : Parcel). head_of y.packet) c.ready-judged.ensures.parcel ∙ head_with x c.stamp.result c.way-way.result n.index p in
    let a = c.in-Ok.ensures.acts in
    record {
      of_registry = n.of_registry;
      of_board = (c.look.ensures.opening.registry ∙ n.of_board.0, c.look.ensures.opening.topology ∙ n.of_board.1);
      ends = ends_kept n.opening n.restamps n.index n.ports.items n.entrances.inbox n.entrances.ports.items n.outs.items c.poll.new.self.inbox c.poll.new.self.ports.items c.pass_on.new.outs.items n.ends
          c.poll.ensures.inbox c.poll.ensures.ins c.pass_on.ensures.lines;
      account = balanced_sent n.entrances.inbox n.entrances.ports.items c.poll.new.self.inbox c.poll.new.self.ports.items n.outs.items c.pass_on.new.outs.items n.outcomes.items c.reserve.new.self.items n.account
          p a.1 n.entrances.next c.in-Some.ensures.took c.as_slice-ports.result.now a.0 a.4 (ap head_of a.2.packet ∙ same) c.reserve.ensures.items;
      restamped = known_sent (known n.reader) (known c.look.new.self) c.look.ensures.later b c.board.ensures.board n.restamps p c.ready-judged.result.parcel c.stamp.result c.way-way.result n.index c.ready-judged.ensures.parcel
          n.entrances.inbox n.entrances.ports.items c.poll.new.self.inbox c.poll.new.self.ports.items n.outs.items c.pass_on.new.outs.items n.outcomes.items c.reserve.new.self.items n.restamped
          n.entrances.next c.in-Some.ensures.took c.ready-judged.result.way a.0 a.1 a.2 c.as_slice-ports.result.now a.4 c.reserve.ensures.items;
      of_net = same_of_net n.opening n.restamps n.outcomes.items c.reserve.new.self.items n.of_net c.reserve.ensures.items;
      causes = causes_later (known n.reader) (known c.look.new.self) n.outcomes.items c.reserve.new.self.items n.causes c.look.ensures.later c.reserve.ensures.items;
    }

pub invariant_of-self-in-Err : goal.invariant_of-self-in-Err
invariant_of-self-in-Err g c =
    let n = c.args.self.now in
    let p = c.in-Some.parcel in
    let b = c.board.result.now in
    let x = restamp_on n.restamps p b c.way-way.result n.index in
    let same = ap (λ (y : Parcel). head_of y.packet) c.ready-judged.ensures.parcel ∙ head_with x c.stamp.result c.way-way.result n.index p in
    let a = c.in-Err.ensures.acts in
    let behind = settled_behind n.outcomes.items c.reserve.new.self.items c.push_reserved.new.self.items c.in-Err.outcome c.push_reserved.ensures.items c.reserve.ensures.items in
    record {
      of_registry = n.of_registry;
      of_board = (c.look.ensures.opening.registry ∙ n.of_board.0, c.look.ensures.opening.topology ∙ n.of_board.1);
      ends = ends_kept n.opening n.restamps n.index n.ports.items n.entrances.inbox n.entrances.ports.items n.outs.items c.poll.new.self.inbox c.poll.new.self.ports.items c.pass_on.new.outs.items n.ends
          c.poll.ensures.inbox c.poll.ensures.ins c.pass_on.ensures.lines;
      account = balanced_settled n.entrances.inbox n.entrances.ports.items c.poll.new.self.inbox c.poll.new.self.ports.items n.outs.items c.pass_on.new.outs.items n.outcomes.items c.push_reserved.new.self.items n.account
          p n.entrances.next c.in-Some.ensures.took a.3 c.in-Err.outcome behind (ap head_of a.2.packet ∙ same);
      restamped = known_settled (known n.reader) (known c.look.new.self) c.look.ensures.later b c.board.ensures.board n.restamps p c.ready-judged.result.parcel c.stamp.result c.way-way.result n.index c.ready-judged.ensures.parcel
          n.entrances.inbox n.entrances.ports.items c.poll.new.self.inbox c.poll.new.self.ports.items n.outs.items c.pass_on.new.outs.items n.outcomes.items c.push_reserved.new.self.items n.restamped
          n.entrances.next c.in-Some.ensures.took a.3 c.ready-judged.result.way a.0 a.1 c.in-Err.outcome a.2 behind;
      of_net = more_of_net n.opening n.restamps n.outcomes.items c.push_reserved.new.self.items c.in-Err.outcome n.of_net behind c.ready-judged.result.parcel c.ready-judged.ensures.of_net c.ready-judged.ensures.few
          a.2.first a.2.later (ap (λ (r : Record). r.restamps) a.2.packet);
      causes = causes_more (known n.reader) (known c.look.new.self) n.outcomes.items c.push_reserved.new.self.items c.in-Err.outcome n.causes c.look.ensures.later behind (ap (λ k. k + 1) a.2.version ∙ c.board.ensures.version)
          (subst (λ (x : Board). CauseHolds x c.in-Err.outcome.packet c.in-Err.outcome.packet.fate) c.board.ensures.board (cause_here c.board.result.now a.0 c.ready-judged.result.way n.index c.ready-judged.result.parcel a.1 c.in-Err.outcome a.2));
    }

pub returns-in-Ok : goal.returns-in-Ok
returns-in-Ok g c =
    let n = c.args.self.now in
    let p = c.in-Some.parcel in
    let a = c.in-Ok.ensures.acts in
    let on = goes_by_board c.board.result.now (board_of (known c.look.new.self)) n.restamps p c.stamp.result c.way-way.result c.ready-judged.result.way n.index c.ready-judged.result.parcel a.0 a.1
    c.board.ensures.board c.ready-judged.ensures.parcel c.ready-judged.ensures.way a.2 in
    let x = restamp_on n.restamps p (board_of (known c.look.new.self)) c.way-way.result n.index in
    record {
      same = record { index = refl; registry = refl; opening = refl; restamps = refl; ports = refl; inbox = c.poll.ensures.inbox; ins = c.poll.ensures.ins; outs = c.pass_on.ensures.lines; reader = c.look.ensures.same };
      way = c.poll.ensures.way;
      later = c.look.ensures.later;
      rises = c.look.ensures.rises;
      does = record {
        parcel = p;
        way = c.way-way.result;
        takes = record { took = c.in-Some.ensures.took; by = c.way-way.ensures };
        number = sym c.id-id.ensures;
        looks = c.look.ensures.looked;
        current = c.stamp.result;
        is_current = c.stamp.ensures;
        hop = a.0;
        onward = a.1;
        goes = on;
        node = a.3;
        sent = subst (λ (xs : List Hop). SentOver xs n.outs.items c.pass_on.new.outs.items a.0 a.1) c.as_slice-ports.ensures.value a.4;
        outcomes = c.reserve.ensures.items;
        live = live_on (board_of (known c.look.new.self)) (board_of (known n.reader)) (way_then x c.way-way.result) n.index (with_restamp x c.stamp.result c.way-way.result n.index p) a.0 a.1 on c.look.ensures.rises.0;
      };
    }

pub returns-in-Err : goal.returns-in-Err
returns-in-Err g c =
    let n = c.args.self.now in
    let p = c.in-Some.parcel in
    let a = c.in-Err.ensures.acts in
    let on = settles_by_board c.board.result.now (board_of (known c.look.new.self)) n.restamps p c.stamp.result c.way-way.result c.ready-judged.result.way n.index c.ready-judged.result.parcel a.0 a.1 c.in-Err.outcome
    c.board.ensures.board c.ready-judged.ensures.parcel c.ready-judged.ensures.way a.2 in
    let x = restamp_on n.restamps p (board_of (known c.look.new.self)) c.way-way.result n.index in
    record {
      same = record { index = refl; registry = refl; opening = refl; restamps = refl; ports = refl; inbox = c.poll.ensures.inbox; ins = c.poll.ensures.ins; outs = c.pass_on.ensures.lines; reader = c.look.ensures.same };
      way = c.poll.ensures.way;
      later = c.look.ensures.later;
      rises = c.look.ensures.rises;
      does = record {
        parcel = p;
        way = c.way-way.result;
        takes = record { took = c.in-Some.ensures.took; by = c.way-way.ensures };
        number = sym c.id-id.ensures;
        looks = c.look.ensures.looked;
        current = c.stamp.result;
        is_current = c.stamp.ensures;
        refused = a.0;
        verdict = a.1;
        outcome = c.in-Err.outcome;
        settled = on;
        full = subst (λ (xs : List Hop). WasFullFor g.R.Moments.was_full xs n.outs.items a.1) c.as_slice-ports.ensures.value a.4;
        outs = a.3;
        outcomes = settled_behind n.outcomes.items c.reserve.new.self.items c.push_reserved.new.self.items c.in-Err.outcome c.push_reserved.ensures.items c.reserve.ensures.items;
        version = ap (λ k. k + 1) a.2.version ∙ c.board.ensures.version;
        cause = cause_here (board_of (known c.look.new.self)) a.0 (way_then x c.way-way.result) n.index (with_restamp x c.stamp.result c.way-way.result n.index p) a.1 c.in-Err.outcome on;
        live = live_here (board_of (known c.look.new.self)) (board_of (known n.reader)) a.0 (way_then x c.way-way.result) n.index (with_restamp x c.stamp.result c.way-way.result n.index p) a.1 c.in-Err.outcome on c.look.ensures.rises.0;
      };
    }
