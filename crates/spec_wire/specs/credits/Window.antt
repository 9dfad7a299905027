-- A server's window of message ids (MS-SMB2 3.3.1.1): the ids that a client may still use, and the id that is added next.
use Rattle.std.specs.Prelude.{ℕ, ◌+◌, ◌-◌, ◌^◌, max, min, List, [], ◌∷◌, ◌++◌, length}
use Rattle.spec_wire.specs.credits.Ids.{counted, ids_from, without}

-- The set of held ids, least first, so that equal sets are equal lists.
pub record HeldIds : Type 0 where
  pub held : List ℕ
  pub next : ℕ

-- a new window holds the id 0 alone
abbrev pub first_window : HeldIds
first_window = record { held = 0 ∷ []; next = 1 }

-- the ids of the charge are taken
abbrev pub after_take : ℕ → ℕ → HeldIds → HeldIds
after_take first charge w = record w { held = without first (counted charge) w.held }

-- How many credits are granted: what is asked for, at least 1, as far as 512 ids may be held and as far as ids go. The
-- id 2^64 - 1 is never added.
abbrev pub granted : ℕ → HeldIds → ℕ
granted asked w = min (min (max asked 1) (512 - length w.held)) (2 ^ 64 - 1 - w.next)

-- the next ids are added, as many as are granted
abbrev pub after_grant : ℕ → HeldIds → HeldIds
after_grant asked w = record {
  held = w.held ++ ids_from w.next (granted asked w);
  next = w.next + granted asked w;
}
