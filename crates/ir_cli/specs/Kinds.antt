-- The kinds of plans that words name, and how far landmark plans go round by words.
use Rattle.std.specs.Prelude.{◌≡◌, ℕ, zero, suc, ◌*◌, ◌<◌, ◌^◌, Bool, true, false, if◌then◌else◌, Option, None, Some, nat_le}
use Rattle.std.specs.Option.{ForSome}
use Rattle.std.proofs.Common.{refl}
use Prim.Native.Nat.{zero-le, suc-le-suc}
use Rattle.ir_model.specs.declared.Detour.{Detour}
use Rattle.ir_model.specs.declared.Kind.{Kind}
use Rattle.ir_model.specs.declared.Kind.TheVariants as kind
use Rattle.ir_cli.specs.declared.choices.DetourChoice.{DetourChoice}
use Rattle.ir_cli.specs.declared.kinds.KindChoice.{KindChoice}
use Rattle.ir_cli.specs.declared.kinds.KindChoice.TheVariants.{Tree, Shortest, Compact, Landmark}

-- the kind is that of landmark plans
abbrev pub is_landmark : KindChoice → Bool
is_landmark Tree = false
is_landmark Shortest = false
is_landmark Compact = false
is_landmark Landmark = true

-- the kind of plans whose ways go round so far where they go by landmarks
abbrev pub kind_of : KindChoice → Detour → Kind
kind_of Tree detour = kind.Tree
kind_of Shortest detour = kind.Shortest
kind_of Compact detour = kind.Compact
kind_of Landmark detour = kind.Landmark detour

-- Of the numbers above k, how many come before the first of which four times the square is at least n. So many are tried.
abbrev pub too_few : ℕ → ℕ → ℕ → ℕ
too_few zero k n = 0
too_few (suc tries) k n = if nat_le n (4 * suc k * suc k) then 0 else suc (too_few tries (suc k) n)

-- the least number of landmarks, above none, of which four times the square is at least so many nodes
abbrev pub landmarks_for : ℕ → ℕ
landmarks_for n = suc (too_few n 0 n)

-- the number of landmarks that is said, or that for so many nodes
abbrev pub landmarks_in : Option ℕ → ℕ → ℕ
landmarks_in None n = landmarks_for n
landmarks_in (Some count) n = count

-- there are landmarks
abbrev pub has_landmarks : (said : Option ℕ) (n : ℕ) → ForSome said (λ count. (0 < count) × (count < 2 ^ 16)) → 0 < landmarks_in said n
has_landmarks None n within = suc-le-suc zero-le
has_landmarks (Some count) n within = (within count refl).0

-- how far the ways of plans of so many nodes may go round, by words
abbrev pub detour_of : DetourChoice → ℕ → Detour
detour_of choice n = record {
  landmarks = landmarks_in choice.landmarks n;
  stretch = choice.stretch;
  some = has_landmarks choice.landmarks n choice.some;
  least = choice.least;
  most = choice.most;
}

-- ways go round by at most so many landmarks, to this stretch
abbrev pub IsDetourTo : ℕ → ℕ → Detour → Type 0
IsDetourTo landmarks stretch t = (t.landmarks ≡ landmarks) × (t.stretch ≡ stretch)

-- the detours of the landmark plans that are compared
abbrev pub AreCompared : ℕ → Detour × Detour × Detour → Type 0
AreCompared landmarks detours = IsDetourTo landmarks 150 detours.0 × IsDetourTo landmarks 200 detours.1 × IsDetourTo landmarks 300 detours.2
