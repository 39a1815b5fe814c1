-- Why a net is not opened.
use Rattle.std.specs.Prelude.{◌≡◌, None, ◌⊎◌}
use Rattle.ir_core.specs.declared.opening.Opening.{Opening}
use Rattle.ir_core.specs.declared.event.OpenError.{OpenError}
use Rattle.ir_core.specs.declared.event.OpenError.TheVariants.{Used}
use Rattle.ir_core.specs.Opened.{open_refused, IsOpenRefusal}

-- as a world is not opened, or a fresh cell refused its plan
abbrev pub IsNetRefusal : Opening → OpenError → Type 0
IsNetRefusal opening error = IsOpenRefusal opening error ⊎ ((open_refused opening ≡ None) × (error ≡ Used))
