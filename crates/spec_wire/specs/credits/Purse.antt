-- A client's credits (MS-SMB2 3.2.1.2): how many it holds, and the id that it uses next.
use Rattle.std.specs.Prelude.{ℕ, ◌+◌, ◌-◌, ◌^◌, min}
use Rattle.spec_wire.specs.credits.Ids.{counted}

pub record Credits : Type 0 where
  pub held : ℕ
  pub next : ℕ

-- a new purse holds one credit
abbrev pub first_purse : Credits
first_purse = record { held = 1; next = 0 }

abbrev pub after_spend : ℕ → Credits → Credits
after_spend charge p = record { held = p.held - counted charge; next = p.next + counted charge }

-- More is held, as far as ids go and as far as 32 bits count.
abbrev pub after_add : ℕ → Credits → Credits
after_add granted p = record p { held = min (min (p.held + granted) (2 ^ 64 - 1 - p.next)) (2 ^ 32 - 1) }
