-- What a client's columns of opens become.
use Rattle.std.specs.Prelude.{ℕ, true}
use Rattle.spec_exchange.specs.Table.{put, put2}
use Rattle.spec_exchange.specs.Client.{Client, create_for}

-- the open of an operation is attached in this session
abbrev pub attached_now : Client → ℕ → Client
attached_now c g = record c { attached = put c.attached (create_for c g) c.session_number }

-- the slot of a lock met DISK_FULL
abbrev pub filled_now : Client → ℕ → Client
filled_now c g = record c { full = put2 c.full (create_for c g) (c.slot_of g) true }
