-- How a world is seen.
use Rattle.std.specs.Prelude.{◌≤◌, map, slice_index_or, All}
use Rattle.ir_core.specs.declared.world.World.TheInside.{Inside}
use Rattle.ir_core.specs.Queue.{ids_of, room_of}
use Rattle.ir_core.specs.Setting.{no_plan}
use Rattle.ir_core.specs.World.{World, IsWorld}

-- what contracts see of a world
abbrev pub world_of : Inside → World
world_of w = record {
  opening = record {
    topology = w.topology;
    labels = w.labels;
    keeps = w.keeps;
    first = slice_index_or w.plans.items 0 no_plan;
    capacity = w.capacity;
    max_packets = w.max_packets;
    restamps = w.restamps;
  };
  boards = w.boards.items;
  plans = w.plans.items;
  learnt = w.learnt;
  views = w.views.items;
  hands = w.hands.items;
  channels = map ids_of w.channels.items;
  records = w.records.items;
}

-- each queue keeps room for the capacity
pub record IsWorldKept (w : Inside) : Type 0 where
  pub world : IsWorld (world_of w)
  pub room : All (λ q. w.capacity ≤ room_of q) w.channels.items
