use Rattle.std.proofs.Common.{◌≡◌, ◌+◌, ◌==◌, ◌≤◌, drop}
use Rattle.std.specs.List.{count_by}
use Rattle.ir_explain.proofs.lines.line_ends.Given as goal

-- those so far and those of what is left are all
abbrev pub invariant-loop-byte : goal.invariant-loop-byte
invariant-loop-byte l = (l.count ≤ l.byte-index) × (l.count + count_by (λ b. b == 10) (drop l.byte-index l.text) ≡ count_by (λ b. b == 10) l.text)
