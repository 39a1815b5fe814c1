use Rattle.ir_cli.proofs.Failing.{fails_wider}
use Rattle.ir_cli.proofs.words.words_named.Goals as goal

pub returns-in_default-clause-refused : goal.returns-in_default-clause-refused
returns-in_default-clause-refused c = fails_wider _ _ _ _ c.usage.result (λ _ words means. c.in_default.ensures (record {
  sub = words.sub;
  format = words.format;
  new_format = words.new_format;
  kind = words.kind;
  detour = words.detour;
  capacity = words.capacity;
  packets = words.packets;
  restamps = words.restamps;
  threads = words.threads;
  epoch = words.epoch;
  nodes = words.nodes;
}) (record {
  sub = means.sub;
  format = means.format;
  new_format = means.new_format;
  kind = means.kind;
  detour = means.detour;
  capacity = means.capacity;
  packets = means.packets;
  restamps = means.restamps;
  threads = means.threads;
  epoch = means.epoch;
  nodes = means.nodes;
})) (λ never. never) c.usage.ensures
