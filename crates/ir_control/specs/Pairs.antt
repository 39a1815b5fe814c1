-- Which sender is the other end of which taker.
use Rattle.std.specs.Prelude.{◌≡◌, ℕ, ◌<◌, ◌≤◌, zero, suc, List, [], ◌∷◌, Option, Some, None, length, slice_index, slice_index_or, option_map}
use Rattle.ir_links.specs.Ends.{Channel, Sender, Taker}

-- each place has a peer, whose peer it is
pub record ArePeers (peers : List ℕ) : Type 0 where
  pub within : (k : ℕ) → k < length peers → slice_index peers k < length peers
  pub back : (k : ℕ) → k < length peers → slice_index peers (slice_index peers k) ≡ k

module _ {P T : Type 0} where
  abbrev pub slot_line : Option (Sender P T) → Option (Channel P)
  slot_line slot = option_map (λ s. s.channel) slot

  abbrev pub line_at : List (Taker P T) → ℕ → Option (Channel P)
  line_at [] k = None
  line_at (t ∷ ts) zero = Some t.channel
  line_at (t ∷ ts) (suc k) = line_at ts k

  -- the takers that are left have their senders in the slots of their peers; the other slots are empty
  pub record ArePaired (peers : List ℕ) (slots : List (Option (Sender P T))) (takers : List (Taker P T)) : Type 0 where
    pub peers_are : ArePeers peers
    pub slots_len : length slots ≡ length peers
    pub takers_len : length takers ≤ length peers
    pub here : (k : ℕ) → k < length peers → slice_index peers k < length takers
        → slot_line (slice_index_or slots k None) ≡ line_at takers (slice_index peers k)
    pub gone : (k : ℕ) → k < length peers → length takers ≤ slice_index peers k
        → slice_index_or slots k None ≡ None
