-- What the server keeps for logons beside the model's state: keys by session, and by connection what is in the making.
use Rattle.std.specs.Prelude.{◌≡◌, ℕ, List, Option, Some, None, nat_eq, ⊤}
use Rattle.std.specs.HashMap.{get}
use Rattle.spec_crypto.specs.declared.sessions.material.Keys.{Keys}
use Rattle.spec_crypto.specs.declared.tokens.der.DerError.{DerError}
use Rattle.spec_crypto.specs.declared.tokens.der.DerError.TheVariants as der
use Rattle.spec_crypto.specs.declared.tokens.ntlm.LogonError.{LogonError}
use Rattle.spec_crypto.specs.declared.tokens.ntlm.LogonError.TheVariants as refusals
use Rattle.spec_crypto.specs.tokens.Acceptor.{LogonValue}
use Rattle.spec_crypto.specs.tokens.Tokens as tokens
use Rattle.spec_crypto.specs.tokens.Tokens.{second_of}
use Rattle.crypto_sessions.specs.declared.ntlmv2.acceptor.Logon.{Logon}
use Rattle.crypto_sessions.specs.ntlmv2.Judging.{AcceptorState}
use Rattle.server_checks.specs.declared.session_table.row.SessionRow.{SessionRow}
use Rattle.server_checks.specs.declared.session_table.row.InMaking.{InMaking}
use Rattle.server_checks.specs.declared.session_table.row.Link.{Link}
use Rattle.server_checks.specs.declared.session_table.tokens.Begun.{Begun}
use Rattle.server_checks.specs.declared.session_table.tokens.TokenShown.{TokenShown}
use Rattle.server_checks.specs.declared.session_table.tokens.TokenShown.TheVariants.{Begins, Bad, Refused, LoggedOn}
use Rattle.server_checks.specs.declared.session_table.table.Sessions.{Sessions}

abbrev pub begun_of : Begun → tokens.Begun
begun_of b = record { list = b.list; first = b.first }

-- a logon whose first token had this list, and was answered by this challenge
abbrev pub pending_made : List ℕ → AcceptorState → tokens.Pending
pending_made list acceptor = record { list = list; server = acceptor.server; first = acceptor.first; second = acceptor.second }

abbrev pub pending_of : InMaking → tokens.Pending
pending_of m = pending_made m.list m.acceptor

abbrev pub logon_of : Logon → LogonValue
logon_of l = record { user = l.user; key = l.key; exchanged = l.exchanged }

abbrev pub shown_of : TokenShown → tokens.Shown
shown_of (Begins b) = tokens.Begins
shown_of Bad = tokens.Bad
shown_of Refused = tokens.Refused
shown_of (LoggedOn logon signs) = tokens.LoggedOn (logon_of logon) signs

-- what a first token begins
abbrev pub begun_in : TokenShown → Option tokens.Begun
begun_in (Begins b) = Some (begun_of b)
begun_in _ = None

-- the logon in the making behind a challenge to what was begun, of 8 random bytes and a moment
abbrev pub pending_for : tokens.Begun → List ℕ → ℕ → tokens.Pending
pending_for b fresh now = record { list = b.list; server = fresh; first = b.first; second = second_of b fresh now }

-- what breaks a token, and what refuses a logon: anything but memory that ran out
abbrev pub IsBreak : DerError → Type 0
IsBreak der.Memory = ⊥
IsBreak _ = ⊤

abbrev pub IsRefusal : LogonError → Type 0
IsRefusal refusals.Memory = ⊥
IsRefusal _ = ⊤

-- of a session that isn't there, and of a connection on which nothing is in the making, nothing is said
abbrev pub KeysShown : Option SessionRow → Keys → Type 0
KeysShown None keys = ⊤
KeysShown (Some r) keys = keys ≡ r.keys

abbrev pub PendingShown : Option InMaking → Option tokens.Pending → Type 0
PendingShown None pending = ⊤
PendingShown (Some m) pending = pending ≡ Some (pending_of m)

abbrev pub LinkPending : Option Link → Option tokens.Pending → Type 0
LinkPending None pending = ⊤
LinkPending (Some l) pending = PendingShown l.making pending

pub record LogonsShown (t : Sessions) (keys : ℕ → Keys) (pending : ℕ → Option tokens.Pending) : Type 0 where
  pub keys_are : (x : ℕ) → KeysShown (get nat_eq t.rows x) (keys x)
  pub pending_are : (k : ℕ) → LinkPending (get nat_eq t.links k) (pending k)

-- keys and logons in the making that stay as they were
abbrev pub LogonsStay : Sessions → Sessions → Type 0
LogonsStay old new = (keys : ℕ → Keys) (pending : ℕ → Option tokens.Pending) → LogonsShown old keys pending → LogonsShown new keys pending
