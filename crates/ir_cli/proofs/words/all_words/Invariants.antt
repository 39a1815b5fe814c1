use Rattle.std.proofs.Common.{◌≡◌, ◌∷◌, map, take, string_bytes}
use Rattle.clap.specs.Walk.{texts}
use Rattle.ir_cli.specs.CommandLine.{name_of}
use Rattle.ir_cli.proofs.words.all_words.Given as goal

abbrev pub invariant-loop-word : goal.invariant-loop-word
invariant-loop-word l = texts l.all.items ≡ name_of l.fn.called ∷ map string_bytes (take l.word-index l.words)
