-- What the head of a table says.
use Rattle.std.specs.Prelude.{ℕ, ◌==◌, nat_lt, if◌then◌else◌}
use Rattle.ir_lines.specs.declared.head.HeadVerdict.{HeadVerdict}
use Rattle.ir_lines.specs.declared.head.HeadVerdict.TheVariants.{Forward, Own, NoEpoch, NoLabel}

-- A table of an epoch, for so many labels, at the node with the label `own`. A packet of another epoch has no table
-- here, one for the own label is delivered, and one for a label of the others is forwarded.
abbrev pub head_verdict : ℕ → ℕ → ℕ → ℕ → ℕ → HeadVerdict
head_verdict of_table labels own epoch label =
    if of_table == epoch then (if label == own then Own else if nat_lt label labels then Forward else NoLabel)
    else NoEpoch
