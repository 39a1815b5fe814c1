use Rattle.std.proofs.Common.{◌≡◌, ℕ, ◌<◌, ◌≤◌, length, take, List, Option, slice_index}
use Rattle.ir_model.specs.Compiled.{predecessor}
use Rattle.ir_model.proofs.Partial.{IsPartial}
use Rattle.ir_lookup.specs.Words.{starts_of}
use Rattle.ir_compile.specs.Plain.{StandFor}
use Rattle.ir_compile.proofs.mark_changes.Given as goal

-- the first words are the starts at the changes below d, and the last port is that before d
pub record AreMarked (n own : ℕ) (plain : List ℕ) (d count last : ℕ) (words : List ℕ) : Type 0 where
  pub few : count ≤ d
  pub room : length words ≡ n
  pub behind : d < n → last ≡ slice_index plain (predecessor n own d)
  pub starts : (ports : List (Option ℕ)) → StandFor n own plain ports → IsPartial n own ports d (starts_of (take count words))

abbrev pub invariant-loop-d : goal.invariant-loop-d
invariant-loop-d l = AreMarked l.n l.own l.plain l.d l.count l.last l.words
