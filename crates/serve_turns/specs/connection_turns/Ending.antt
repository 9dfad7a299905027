-- How a served connection's end is told.
use Rattle.std.specs.Prelude.{◌==◌, if◌then◌else◌, Bool, true, false, Option, None, Some, Ok, Err}
use Rattle.conn_core.specs.declared.served.error.ServeError.TheVariants as errors
use Rattle.conn_core.specs.frame_events.Dealing.{EventAnswer}
use Rattle.conn_core.specs.declared.end.ConnEnd.{ConnEnd}
use Rattle.conn_core.specs.declared.end.ConnEnd.TheVariants as ends
use Rattle.serve_turns.specs.declared.link_serving.ended.ConnEnd as told
use Rattle.serve_turns.specs.declared.link_serving.ended.ConnEnd.TheVariants as tells
use Rattle.serve_turns.specs.declared.link_serving.ended.Ended.{Ended}
use Rattle.serve_turns.specs.declared.link_serving.ended.Ended.TheVariants.{By, Closed}

abbrev pub told_end : ConnEnd → told.ConnEnd
told_end ends.BadFrame = tells.BadFrame
told_end (ends.OutsideWindow id) = tells.OutsideWindow id
told_end ends.SecondNegotiate = tells.SecondNegotiate
told_end ends.Unsealable = tells.Unsealable
told_end ends.Spent = tells.Spent
told_end ends.Full = tells.Full
told_end (ends.LinkFault count) = tells.LinkFault count
told_end (ends.Stopped count) = tells.Stopped count
told_end ends.Memory = tells.Memory

abbrev pub ended_by : ConnEnd → Ended
ended_by why = By (told_end why)

-- Why a connection is not taken in behind its first turn. A status that isn't a success says that the server has as many as it takes.
abbrev pub refusal_of : EventAnswer → Option ConnEnd
refusal_of (Some (Ok r)) = if r.status == 0 then None else Some ends.Full
refusal_of (Some (Err errors.Memory)) = Some ends.Memory
refusal_of (Some (Err (errors.Unanswered acted))) = Some ends.Memory
refusal_of (Some (Err (errors.Stopped count))) = Some (ends.Stopped count)
refusal_of None = Some ends.Memory

-- an event that was carried out, whose reply is lost
abbrev pub has_lost : EventAnswer → Bool
has_lost (Some (Err (errors.Unanswered acted))) = true
has_lost reply = false

-- the last turn finds no memory, or a server that stopped
abbrev pub failure_of : EventAnswer → Option ConnEnd
failure_of (Some (Ok r)) = None
failure_of (Some (Err errors.Memory)) = Some ends.Memory
failure_of (Some (Err (errors.Unanswered acted))) = Some ends.Memory
failure_of (Some (Err (errors.Stopped count))) = Some (ends.Stopped count)
failure_of None = Some ends.Memory

abbrev pub closed_by : Option ConnEnd → Ended
closed_by None = Closed
closed_by (Some why) = ended_by why

-- behind the last turn: where the peer ended it, that turn may have failed
abbrev pub ended_of : Option ConnEnd → EventAnswer → Ended
ended_of None last = closed_by (failure_of last)
ended_of (Some why) last = ended_by why

-- the server takes nothing more
abbrev pub is_stop : told.ConnEnd → Bool
is_stop tells.BadFrame = false
is_stop (tells.OutsideWindow id) = false
is_stop tells.SecondNegotiate = false
is_stop tells.Unsealable = false
is_stop tells.Spent = false
is_stop tells.Full = false
is_stop (tells.LinkFault count) = false
is_stop (tells.Stopped count) = true
is_stop tells.Memory = false

-- no further link is to be accepted behind it
abbrev pub stops_behind : Ended → Bool
stops_behind Closed = false
stops_behind (By why) = is_stop why
