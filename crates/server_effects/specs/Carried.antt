-- What an effect leaves, and answers.
use Rattle.std.specs.Prelude.{◌≡◌, ℕ, Bool, List, [], Option, Some, None}
use Rattle.spec_exchange.specs.Effects.{apply}
use Rattle.spec_exchange.specs.State as model
use Rattle.spec_exchange.specs.Table.{put}
use Rattle.spec_exchange.specs.Verdict as verdicts
use Rattle.law_server.specs.tables.Fits.{Fits}
use Rattle.crypto_sessions.specs.ntlmv2.Judging.{AcceptorState}
use Rattle.server_checks.specs.session_table.Logons.{LogonsShown, pending_made}
use Rattle.spec_crypto.specs.declared.sessions.material.Keys.{Keys}
use Rattle.spec_crypto.specs.tokens.Tokens.{Pending}
use Rattle.wire_commands.specs.values.Meaning.{reply_of}
use Rattle.server_checks.specs.Shown.{TablesShown}
use Rattle.server_checks.specs.declared.tables.Tables.{Tables}
use Rattle.server_effects.specs.Able.{Able}
use Rattle.server_effects.specs.declared.answering.Answer.{Answer}

-- the tables, the reply and whether it acted are the model's; its records are told before, and reached and altered speak of runs
-- alone
pub record Carried (t : Tables) (r : Answer) (a : model.Answer) : Type 0 where
  pub shows : TablesShown t a.server
  pub reply : reply_of r.reply ≡ a.reply
  pub acted : r.acted ≡ a.acted

-- nothing beside the reply
abbrev pub IsEffectBare : Answer → Type 0
IsEffectBare r = (r.token ≡ []) × (r.keys ≡ None) × (r.channel ≡ None)

-- an answer to a message, with nothing beside the reply
pub record IsEffectAnswer (r : Answer) (m : model.Message) (status : ℕ) (body : model.Body) (acted : Bool) : Type 0 where
  pub reply : reply_of r.reply ≡ record { status = status; session_id = m.session_id; tree_id = m.tree_id; body = body }
  pub acted_is : r.acted ≡ acted
  pub bare : IsEffectBare r

-- a verdict on a message is carried out, from any state in which it can be
abbrev pub EffectCarries : Tables → Tables → Answer → model.Message → ℕ → verdicts.Verdict → Type 0
EffectCarries old new r m now v = (s : model.Server) → Fits s → TablesShown old s → Able s m v → Carried new r (apply s m now v)

-- a challenge is answered, and kept for the connection of its message
pub record KeepsChallenge (old new : Tables) (r : Answer) (m : model.Message) (list : List ℕ) (acceptor : AcceptorState)
    (token : List ℕ) : Type 0 where
  pub token_is : r.token ≡ token
  pub no_keys : r.keys ≡ None
  pub no_channel : r.channel ≡ None
  pub logons : (keys : ℕ → Keys) (pending : ℕ → Option Pending) → LogonsShown old.sessions keys pending
      → LogonsShown new.sessions keys (put pending m.connection (Some (pending_made list acceptor)))
