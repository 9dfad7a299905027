-- What a step of one operation leaves of the client: all but how it goes out, and its open's slots.
use Rattle.std.specs.Prelude.{◌≡◌, ℕ, ◌<◌, ◌≤◌, true, Some, is_some}
use Rattle.spec_exchange.specs.Operations.{is_lock}
use Rattle.spec_exchange.specs.Client.{Client, create_for}

-- a lock that went out has a slot, which was used since
abbrev pub AreSlotted : Client → Type 0
AreSlotted c = (g : ℕ) → 0 < g → g ≤ c.taken → c.sent g ≡ true → is_lock (c.op g) ≡ true
    → (0 < c.slot_of g) × (is_some (c.slot_user (create_for c g) (c.slot_of g)) ≡ true)

-- a slot's last user is a lock of its open, which went out with that slot
abbrev pub HaveTaken : Client → Type 0
HaveTaken c = (x i g : ℕ) → c.slot_user x i ≡ Some g
    → (is_lock (c.op g) ≡ true) × (create_for c g ≡ x) × (c.slot_of g ≡ i) × (c.sent g ≡ true)

pub record KeepsRest (c d : Client) : Type 0 where
  pub taken : d.taken ≡ c.taken
  pub op : d.op ≡ c.op
  pub outcome : d.outcome ≡ c.outcome
  pub order : d.order ≡ c.order
  pub refusals : d.refusals ≡ c.refusals
  pub attached : d.attached ≡ c.attached
  pub live : d.live ≡ c.live
  pub session : d.session ≡ c.session
  pub number : d.session_number ≡ c.session_number
  pub tree : d.tree ≡ c.tree
  pub sequence : d.sequence ≡ c.sequence
  pub channels : d.channels ≡ c.channels
  pub ready : (k : ℕ) → d.ready k ≡ c.ready k
  pub slotted : AreSlotted c → AreSlotted d
  pub users : HaveTaken c → HaveTaken d
