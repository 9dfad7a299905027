-- What the answer to an event has beside its reply, and what is kept of logons.
use Rattle.std.specs.Prelude.{◌≡◌, ℕ, Bool}
use Rattle.spec_exchange.specs.State as model
use Rattle.wire_commands.specs.values.Meaning.{reply_of}
use Rattle.server_checks.specs.session_table.Logons.{LogonsStay}
use Rattle.server_checks.specs.declared.tables.Tables.{Tables}
use Rattle.server_effects.specs.Carried.{IsEffectBare}
use Rattle.server_effects.specs.declared.answering.Answer.{Answer}
use Rattle.server_effects.specs.declared.reserved.ready.Ready.{Ready}
use Rattle.server_effects.specs.verdict_effects.Beside.{Beside}
use Rattle.server_effects.specs.declared.prepared_event.prepared.Prepared.{Prepared}
use Rattle.server_effects.specs.declared.prepared_event.prepared.Prepared.TheVariants as prepared

abbrev pub BesideOn : Tables → Tables → Answer → model.ServerEvent → Ready → Type 0
BesideOn old new r (model.Heard m) ready = Beside old new r m ready
BesideOn old new r _ ready = IsEffectBare r × LogonsStay old.sessions new.sessions

-- only a message has anything beside its reply
abbrev pub BesidePrepared : Tables → Tables → Answer → model.ServerEvent → Prepared → Type 0
BesidePrepared old new r e (prepared.Says ready) = BesideOn old new r e ready
BesidePrepared old new r e _ = IsEffectBare r × LogonsStay old.sessions new.sessions

-- an answer to an event of a connection
pub record IsConnectionAnswer (r : Answer) (status : ℕ) (acted : Bool) : Type 0 where
  pub reply : reply_of r.reply ≡ record { status = status; session_id = 0; tree_id = 0; body = model.Empty }
  pub acted_is : r.acted ≡ acted
  pub bare : IsEffectBare r
