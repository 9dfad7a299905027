-- What a response says to the model's client.
use Rattle.std.specs.Prelude.{◌≡◌, ℕ, Bool, true, false, option_map}
use Rattle.spec_exchange.specs.State.{Reply}
use Rattle.spec_exchange.specs.Status.{success}
use Rattle.spec_exchange.specs.Operations.{id_in, value_in}
use Rattle.spec_exchange.specs.Client.{Client, end_session}
use Rattle.spec_exchange.specs.Settling.{Attaches, EndsSession, GoesAgain, Heard, Settles, settle}
use Rattle.client_values.specs.operations.Meaning.{reply_of}
use Rattle.client_steps.specs.open_updates.Columns.{attached_now}
use Rattle.client_steps.specs.declared.responses.hearing.Response.{Response}

-- of operation g, or of the request to attach its open in its place (asking); of what it says of the operation only a success of the
-- operation itself is looked at
pub record ResponseReads (h : Response) (c : Client) (g : ℕ) (asking : Bool) (r : Reply) : Type 0 where
  pub status_is : r.status ≡ h.status
  pub reply_is : r.status ≡ success → asking ≡ false → option_map reply_of h.reply ≡ value_in (c.op g) r.body
  pub file_is : h.file ≡ id_in r.body

-- behind a response, where nothing is outstanding of the operation any more
abbrev pub heard_then : Client → ℕ → Bool → Reply → ℕ → Heard → Client
heard_then c g asking r place (Settles outcome) = settle c g asking r place outcome
heard_then c g asking r place GoesAgain = c
heard_then c g asking r place Attaches = attached_now c g
heard_then c g asking r place EndsSession = end_session c

abbrev pub response_ends : Heard → Bool
response_ends EndsSession = true
response_ends _ = false
