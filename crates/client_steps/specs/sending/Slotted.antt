-- What a lock needs to go out itself.
use Rattle.std.specs.Prelude.{◌≡◌, ℕ, ◌<◌, ◌≤◌, true, false}
use Rattle.spec_exchange.specs.Client.{Client}

-- over n slots: one that goes out first is given one, for which there is room, and one that went out took one of them
pub record HasSlot (c : Client) (index slot n room : ℕ) : Type 0 where
  pub first : c.sent index ≡ false → (0 < slot) × (n < slot → n < room)
  pub again : c.sent index ≡ true → (0 < c.slot_of index) × (c.slot_of index ≤ n)
