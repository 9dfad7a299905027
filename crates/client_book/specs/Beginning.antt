-- What a channel without a connection is told.
use Rattle.std.specs.Prelude.{◌≡◌, ℕ, ◌+◌, ◌<◌, ◌==◌, Bool, not, ◌&&◌, if◌then◌else◌}
use Rattle.client_ends.specs.declared.ends.config.Bound.{Bound}
use Rattle.spec_crypto.specs.declared.sessions.material.Keys.{Keys}
use Rattle.spec_exchange.specs.Client.{Client}
use Rattle.spec_exchange.specs.ClientStep.{some_unsettled}
use Rattle.client_book.specs.declared.turn.Told.{Told}
use Rattle.client_book.specs.declared.turn.Told.TheVariants.{Bind, Done, Make, Nothing}

-- What channels share beside the client: the last session that it accepted, that one's keys, the highest number that a channel of it was
-- given, how many connects failed in a row, whether the first dialog of channel 0 has ended, and whether all was given up.
pub record Shared : Type 0 where
  pub accepted : ℕ
  pub keys : Keys
  pub numbers : ℕ
  pub failed : ℕ
  pub opened : Bool
  pub finished : Bool

abbrev pub is_settled : Client → Bool
is_settled c = not (some_unsettled c c.taken)

-- a channel's numbers in a session are counted in 16 bits
abbrev pub last_number : ℕ
last_number = 65535

abbrev pub bound_to : Client → Shared → Bound
bound_to c s = record { session = c.session; tree = c.tree; keys = s.keys }

-- Of a session that is live: it is bound to it under the next number. Where it is to keep away from it, or no number is left, it waits.
abbrev pub told_live : Client → Shared → ℕ → Told
told_live c s shuns =
    if c.session == shuns then Nothing
    else if s.numbers == last_number then Nothing
    else Bind (bound_to c s) (s.numbers + 1)

-- where none is live channel 0 makes one, and the others wait for it
abbrev pub told_none : Client → Shared → ℕ → Told
told_none c s channel =
    if s.finished then Done
    else if channel == 0 then Make s.accepted
    else if is_settled c && s.opened then Done
    else Nothing

-- a channel of which a dialog has ended is done where every operation is settled
abbrev pub told_begun : Client → Shared → ℕ → Bool → ℕ → Told
told_begun c s channel first shuns =
    if is_settled c && not first then Done
    else if c.live then told_live c s shuns
    else told_none c s channel

-- the number, of 16 bits, is the next one of the session that was accepted last
abbrev pub IsNextIn : Told → Shared → Type 0
IsNextIn (Bind bound number) s = (bound.keys ≡ s.keys) × (number ≡ s.numbers + 1) × (number < 65536)
IsNextIn _ s = Unit {0}

-- a number that was given is given to no other
abbrev pub behind_begun : Told → Shared → Shared
behind_begun (Bind bound number) s = record s { numbers = number }
behind_begun _ s = s
