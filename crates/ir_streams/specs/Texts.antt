-- Texts that are one after the other in a list of bytes.
use Rattle.std.specs.Prelude.{ℕ, ◌≤◌, List, length, map, All, slice_range}
use Rattle.ir_streams.specs.declared.texts.Texts.TheInside.{Inside}

-- the text of a span, from its first byte up to the one before its end
abbrev pub text_of : List ℕ → ℕ × ℕ → List ℕ
text_of bytes span = slice_range bytes span.0 span.1

abbrev pub pooled_texts : Inside → List (List ℕ)
pooled_texts held = map (text_of held.bytes.items) held.spans.items

-- each span lies within the bytes
abbrev pub ArePooled : Inside → Type 0
ArePooled held = All (λ (span : ℕ × ℕ). (span.0 ≤ span.1) × (span.1 ≤ length held.bytes.items)) held.spans.items
