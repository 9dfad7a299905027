-- The reply that connections see, from the server's answer.
use Rattle.std.specs.Prelude.{◌≡◌, ◌≤◌, ◌<◌, ◌⊎◌, ◌==◌, ℕ, Bool, true, not, ◌||◌, if◌then◌else◌, length, Option, Some, None, is_some, ⊤}
use Rattle.server_core.specs.declared.event_replies.progress.Logon.{Logon}
use Rattle.spec_crypto.specs.declared.sessions.material.Signer.{Signer}
use Rattle.spec_exchange.specs.Status.{user_session_deleted}
use Rattle.spec_commands.specs.Fits.{FitsReply}
use Rattle.spec_commands.specs.ReplyBody.{reply_body, seals_in}
use Rattle.wire_commands.specs.values.Meaning.{body_of, command_of, reply_of}
use Rattle.wire_commands.specs.declared.values.command.Command.{Command}
use Rattle.wire_commands.specs.declared.writing.fault.WriteError.{WriteError}
use Rattle.wire_commands.specs.declared.writing.fault.WriteError.TheVariants.{Memory, Unwritable}
use Rattle.conn_core.specs.declared.conn.Progress.{Progress}
use Rattle.conn_core.specs.declared.conn.Progress.TheVariants.{Stays, Refused, Interim, Final}
use Rattle.conn_core.specs.served.Serving.{IsNamed, IsServerShort, ServerStands}
use Rattle.conn_core.specs.declared.served.serve.Reply.{Reply}
use Rattle.server_effects.specs.declared.answering.Answer.{Answer}
use Rattle.spec_world.specs.Logon as logon

-- ---- what a SESSION_SETUP comes to

-- in a binding the session signs, and else nobody does
abbrev pub InterimTold : Logon → Progress → Type 0
InterimTold l (Interim signer) = (signer ≡ (if l.binds then l.signer else None)) × (l.binds ≡ true → is_some l.signer ≡ true)
InterimTold l _ = ⊥

-- the new keys and the channel's number are the answer's
abbrev pub FinalTold : Answer → Progress → Type 0
FinalTold a (Final keys number seals) = (a.keys ≡ Some keys) × (keys.cipher ≤ 4) × (a.channel ≡ Some number)
    × (seals ≡ seals_in (body_of a.reply.body))
FinalTold a _ = ⊥

-- a refusal: of a binding to a live session that session signs it, or nobody does
abbrev pub lacks_own : Logon → Bool
lacks_own l = not l.signed || not l.verified

abbrev pub refused_live : Logon → Option Signer → Progress
refused_live l None = Stays
refused_live l (Some own) =
    Refused (if lacks_own l then None else Some (record own { algorithm = l.algorithm }))

abbrev pub refused_progress : Logon → ℕ → Progress
refused_progress l status =
    if not l.binds then Stays
    else if status == user_session_deleted then Refused None
    else refused_live l l.signer

abbrev pub SetupTold : Logon → Answer → logon.Progress → Progress → Type 0
SetupTold l a logon.Stays p = p ≡ refused_progress l a.reply.status
SetupTold l a (logon.Interim binding) p = InterimTold l p
SetupTold l a (logon.Final binding channel encrypts) p = FinalTold a p

-- nothing that can be told
abbrev pub NoneTold : (Progress → Type 0) → Type 0
NoneTold tells = (p : Progress) → tells p → ⊥

-- of any other event nothing
abbrev pub ProgressTold : Option Logon → Answer → Progress → Type 0
ProgressTold None a p = ServerStands p
ProgressTold (Some l) a p = SetupTold l a (logon.setup_progress l.binds (reply_of a.reply)) p

-- ---- the reply

pub record IsBookTold (c : Command) (l : Option Logon) (a : Answer) (r : Reply) : Type 0 where
  pub named : IsNamed r (reply_of a.reply)
  pub body : r.body ≡ reply_body a.token (command_of c) (reply_of a.reply)
  pub short : IsServerShort r
  pub acted : r.acted ≡ a.acted
  pub progress : ProgressTold l a r.progress

-- why there is none: no progress that its connection could tell, a part that doesn't fit its field, a body that no
-- frame holds; or no memory
abbrev pub IsUntold : Command → Option Logon → Answer → WriteError → Type 0
IsUntold c l a Memory = ⊤
IsUntold c l a Unwritable = NoneTold (ProgressTold l a)
    ⊎ ((FitsReply a.token (command_of c) (reply_of a.reply) → ⊥)
    ⊎ (1113984 < length (reply_body a.token (command_of c) (reply_of a.reply))))
