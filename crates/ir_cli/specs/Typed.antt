-- What is chosen or counted by the words of a subcommand.
use Rattle.std.specs.Prelude.{◌≡◌, List, codes}
use Rattle.std.specs.Str.Parse.{digits_value}
use Rattle.clap.specs.Words.{Row, Text}
use Rattle.ir_core.specs.declared.TheConstants.{MAX_CAPACITY, MAX_PACKETS, MAX_RESTAMPS}
use Rattle.ir_cli.specs.declared.TheConstants.{MAX_THREADS, MAX_EPOCH, DEFAULT_CAPACITY, DEFAULT_PACKETS, DEFAULT_RESTAMPS}
use Rattle.ir_cli.specs.declared.typed.Chosen.{Chosen}
use Rattle.ir_cli.specs.Meaning.{AreNodes, IsFormat, IsNumber, IsNumberElse, IsKindWord, IsDetour, first_kind, nodes_word}
use Rattle.ir_cli.specs.CommandLine.{sub_word}

-- the fields of words that are names of a list or numbers
pub record AreTyped (name : Text) (rows : List Row) (all : Chosen) : Type 0 where
  pub sub : sub_word all.sub ≡ name
  pub format : IsFormat (codes "topology") all.format rows
  pub new_format : IsFormat (codes "new") all.new_format rows
  pub kind : IsKindWord all.kind (first_kind rows)
  pub detour : IsDetour all.detour rows
  pub capacity : IsNumberElse (codes "capacity") rows 1 MAX_CAPACITY (digits_value 10 DEFAULT_CAPACITY.now) all.capacity
  pub packets : IsNumberElse (codes "packets") rows 1 MAX_PACKETS (digits_value 10 DEFAULT_PACKETS.now) all.packets
  pub restamps : IsNumberElse (codes "restamps") rows 0 MAX_RESTAMPS (digits_value 10 DEFAULT_RESTAMPS.now) all.restamps
  pub threads : IsNumber (codes "threads") rows 1 MAX_THREADS all.threads
  pub epoch : IsNumberElse (codes "epoch") rows 1 MAX_EPOCH 1 all.epoch
  pub nodes : AreNodes (nodes_word rows) all.nodes
