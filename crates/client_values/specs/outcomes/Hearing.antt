-- What hearing a response comes to: the settling table, by what a client knows of the request that is answered.
use Rattle.std.specs.Prelude.{ℕ, ◌==◌, Bool, not, ◌&&◌, if◌then◌else◌, Option}
use Rattle.client_values.specs.declared.outcomes.hearing.Hearing.{Hearing}
use Rattle.client_values.specs.declared.outcomes.hearing.Hearing.TheVariants as hearings
use Rattle.client_values.specs.outcomes.Meaning.{outcome_of}
use Rattle.spec_exchange.specs.Status.{success, user_session_deleted, file_not_available}
use Rattle.spec_exchange.specs.Operations.{Op, OpReply, is_change}
use Rattle.spec_exchange.specs.Settling.{Heard, Settles, GoesAgain, Attaches, EndsSession, ok_or_unknown, refused}

abbrev pub hearing_of : Hearing → Heard
hearing_of (hearings.Settles outcome) = Settles (outcome_of outcome)
hearing_of hearings.GoesAgain = GoesAgain
hearing_of hearings.Attaches = Attaches
hearing_of hearings.EndsSession = EndsSession

-- of an operation, or of a request to attach its open in its place (asking): whether a copy of it is unanswered, whether its
-- last copy has an older channel sequence than the session, the status, and what a success says of it
abbrev pub heard_by : Op → (asking unanswered is_older : Bool) → ℕ → Option OpReply → Heard
heard_by op asking unanswered is_older status reply =
    if status == user_session_deleted then EndsSession
    else if status == success then (if asking then Attaches else ok_or_unknown reply)
    else if not asking && (is_change op && ((status == file_not_available) && is_older)) then GoesAgain
    else refused op asking unanswered status
