-- Ends of channels that were just handed out.
use Rattle.std.specs.Prelude.{◌≡◌, ℕ, ◌+◌, List, [], Option, Some, length, slice_get, slice_index}
use Rattle.ir_links.specs.Ends.{Channel, Sender, Taker}

module _ {P T : Type 0} where
  -- a slot for each channel, which is empty or has its sender, by which nothing was sent
  pub record AreFreshOuts (lines : List (Channel P)) (slots : List (Option (Sender P T))) : Type 0 where
    pub count : length slots ≡ length lines
    pub each : (k : ℕ) (s : Sender P T) → slice_get slots k ≡ Some (Some s) → (slice_get lines k ≡ Some s.channel) × (s.sent ≡ [])

  pub record AreFreshIns (lines : List (Channel P)) (slots : List (Option (Taker P T))) : Type 0 where
    pub count : length slots ≡ length lines
    pub each : (k : ℕ) (t : Taker P T) → slice_get slots k ≡ Some (Some t) → (slice_get lines k ≡ Some t.channel) × (t.taken ≡ [])

  -- senders of so many channels from a first one on, by which nothing was sent
  pub record AreOutsAt (lines : List (Channel P)) (first n : ℕ) (outs : List (Sender P T)) : Type 0 where
    pub count : length outs ≡ n
    pub each : (p : ℕ) (s : Sender P T) → slice_get outs p ≡ Some s → (slice_get lines (first + p) ≡ Some s.channel) × (s.sent ≡ [])

  -- takers of the channels of so many peers from a first one on, by which nothing was taken
  pub record AreInsAt (lines : List (Channel P)) (peers : List ℕ) (first n : ℕ) (ins : List (Taker P T)) : Type 0 where
    pub count : length ins ≡ n
    pub each : (p : ℕ) (t : Taker P T) → slice_get ins p ≡ Some t → (slice_get lines (slice_index peers (first + p)) ≡ Some t.channel) × (t.taken ≡ [])
