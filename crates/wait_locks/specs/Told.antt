-- What a waiter is told, and which of them goes first.
use Rattle.std.specs.Prelude.{◌≡◌, ℕ, ◌+◌, ◌<◌, List, map, length, take, drop, slice_index_or, Option, Some, None}
use Rattle.spec_exchange.specs.State as model
use Rattle.law_waiting.specs.wait_steps.WaitStep.{AllHeld, Free, Response, first_free}
use Rattle.wire_commands.specs.values.Meaning.{reply_of}
use Rattle.wait_locks.specs.Kept.{waiter_of}
use Rattle.wait_locks.specs.declared.later.Later.{Later}
use Rattle.wait_locks.specs.declared.later.OwnAnswer.{OwnAnswer}
use Rattle.wait_locks.specs.declared.waiter.Waiter.{Waiter}

abbrev pub response_of : Later → Response
response_of l = record { connection = l.connection; message = l.message; async_id = l.async_id; reply = reply_of l.reply }

abbrev pub own_response : OwnAnswer → Response
own_response a = record { connection = a.connection; message = a.message; async_id = a.async_id; reply = reply_of a.answer.reply }

-- the place of the first that no range holds up
abbrev pub FirstIs : model.Server → List Waiter → Option ℕ → Type 0
FirstIs s ws None = first_free s (map waiter_of ws) ≡ AllHeld
FirstIs s ws (Some place) = (place < length ws) × ((d : Waiter)
    → first_free s (map waiter_of ws)
    ≡ Free (map waiter_of (take place ws)) (waiter_of (slice_index_or ws place d)) (map waiter_of (drop (place + 1) ws)))
