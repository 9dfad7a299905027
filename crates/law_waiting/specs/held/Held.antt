-- Which LOCK waits (MS-SMB2 3.3.5.14): one that locks one element and need not be answered at once, where a range that stands is all that
-- refuses it.
use Rattle.std.specs.Prelude.{◌≡◌, ℕ, ◌==◌, Bool, true, false, ◌&&◌, ◌||◌, if◌then◌else◌, List, [], ◌∷◌, Option, Some, None, Contains}
use Rattle.spec_exchange.specs.Status.{lock_not_granted}
use Rattle.spec_exchange.specs.Commands.{Command, Lock, Element, is_exclusive}
use Rattle.spec_exchange.specs.State.{Server, Message, Range}
use Rattle.spec_exchange.specs.Ranges.{overlaps}
use Rattle.spec_exchange.specs.CheckOpen.{file_of}
use Rattle.spec_exchange.specs.Verdict.{Verdict, TurnDown, KeepSlot}
use Rattle.spec_exchange.specs.Check.{check}

-- flags that lock and don't ask to fail at once (2.2.26.1): shared 1, exclusive 2
abbrev pub may_wait : ℕ → Bool
may_wait flags = (flags == 0x1) || (flags == 0x2)

-- the range that one element asks for
abbrev pub wanted_range : ℕ → Element → Range
wanted_range o e = record { owner = o; at = e.at; length = e.length; exclusive = is_exclusive e.flags }

-- the range for which a LOCK would wait: that of its one element
abbrev pub awaited_of : ℕ → List Element → Option Range
awaited_of o [] = None
awaited_of o (e ∷ []) = if may_wait e.flags then Some (wanted_range o e) else None
awaited_of o (e ∷ d ∷ es) = None

abbrev pub awaited : Command → Option Range
awaited (Lock o index number elements) = awaited_of o elements
awaited _ = None

-- two ranges that can't stand together: they have a byte in common, and one of them is exclusive
abbrev pub ranges_conflict : Range → Range → Bool
ranges_conflict standing wanted = overlaps standing wanted && (standing.exclusive || wanted.exclusive)

unfoldable pub first_in_the_way : List Range → Range → Option Range
first_in_the_way [] wanted = None
first_in_the_way (r ∷ rs) wanted = if ranges_conflict r wanted then Some r else first_in_the_way rs wanted

-- The checks come to LOCK_NOT_GRANTED, whether a slot keeps it or not. A kept LOCK_NOT_GRANTED that is answered again is a Refuse.
abbrev pub is_not_granted : Verdict → Bool
is_not_granted (TurnDown o status) = status == lock_not_granted
is_not_granted (KeepSlot o index number status elements) = status == lock_not_granted
is_not_granted _ = false

abbrev pub held_by : Server → Option Range → Option Range
held_by s None = None
held_by s (Some wanted) = first_in_the_way (s.ranges (file_of s wanted.owner)) wanted

-- the standing range that holds it up, whatever room the journal has
unfoldable pub would_wait : Server → Message → Option Range
would_wait s m = if is_not_granted (check s m) then held_by s (awaited m.command) else None

-- ---- what that means: it asks for one range, and a range that stands on its open's file conflicts with it

pub record IsHeldUp (s : Server) (m : Message) : Type 0 where
  pub wanted : Range
  pub standing : Range
  pub asks : awaited m.command ≡ Some wanted
  pub stands : Contains (s.ranges (file_of s wanted.owner)) standing
  pub conflict : ranges_conflict standing wanted ≡ true
