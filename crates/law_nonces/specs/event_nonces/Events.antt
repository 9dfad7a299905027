-- What holds of channel numbers and counters at each place of a server's history, and behind each frame of a connection.
use Rattle.std.specs.Prelude.{◌≡◌, ℕ, ◌≤◌, Bool, true, List, [], ◌∷◌, ◌++◌, Option, Some, None, ⊤}
use Rattle.spec_exchange.specs.Status.{access_denied}
use Rattle.spec_exchange.specs.Table.{put}
use Rattle.spec_exchange.specs.Network.{answer_to}
use Rattle.spec_exchange.specs.State.{Server, Message, ServerEvent, Accept, End}
use Rattle.spec_exchange.specs.Step.{step}
use Rattle.law_server.specs.tables.Fits.{Fits}
use Rattle.spec_world.specs.Answering.{SaidReply, Seal}
use Rattle.spec_world.specs.Connection.{Going, answered}
use Rattle.spec_world.specs.Ends.{ServerEnd, Logons}
use Rattle.spec_world.specs.Lacking.{Expires}
use Rattle.spec_world.specs.Logon.{Progress, progress}
use Rattle.law_nonces.specs.server_nonces.Numbering.{AreNamed, DrawsOn, IsKeyed, NonceDraws, NonceNumbered, Sealer}
use Rattle.law_nonces.specs.server_nonces.Numbering.{key_sessions, next_drawn, next_names, sealer_of}

-- ---- between two events: the tables fit together, drawn has the highest number that was ever given in a session, and keys name theirs

pub record NonceTables (s : Server) (L : Logons) (drawn : ℕ → ℕ) : Type 0 where
  pub fits : Fits s
  pub draws : NonceDraws s drawn
  pub named : AreNamed s (key_sessions L)

-- ---- a message

-- ACCESS_DENIED, if a fault was found (MS-ERREF 2.3.1)
abbrev pub IsFaultDenied : Option ℕ → Type 0
IsFaultDenied None = ⊤
IsFaultDenied (Some status) = status ≡ access_denied

-- the sessions of the keys behind a message of session x that came to this
abbrev pub KeysBehind : Logons → ℕ → Progress → Logons → Type 0
KeysBehind L x p M = (y : ℕ) → key_sessions M y ≡ next_names (key_sessions L) x p y

-- It drew a number above all that were drawn in its session, or none.
pub record EventDraws (L M : Logons) (t : Server) (x : ℕ) (p : Progress) (drawn : ℕ → ℕ) : Type 0 where
  pub on : DrawsOn drawn x p
  pub keyed : IsKeyed (key_sessions L) x p
  pub behind : NonceTables t M (next_drawn drawn x p)

abbrev pub HeardDrawsBy : Logons → Logons → Message → Server → Progress → (ℕ → ℕ) → Type 0
HeardDrawsBy L M m t p drawn = KeysBehind L m.session_id p M → EventDraws L M t m.session_id p drawn

abbrev pub HeardDraws : Type 0
HeardDraws = (s : Server) (L M : Logons) (now : ℕ) (m : Message) (drawn : ℕ → ℕ) → NonceTables s L drawn → IsFaultDenied m.fault
    → HeardDrawsBy L M m (answer_to s now m m.command).server (progress m.command (answer_to s now m m.command).reply) drawn

-- ---- what draws no number: a connection is made or lost; an open expired alone, where memory ran out

abbrev pub OtherDraws : Type 0
OtherDraws = (s : Server) (L : Logons) (now k : ℕ) (drawn : ℕ → ℕ) → NonceTables s L drawn
    → NonceTables (step s now (Accept k)).server L drawn × NonceTables (step s now (End k)).server L drawn

abbrev pub AloneDraws : Type 0
AloneDraws = (s t : Server) (L : Logons) (now : ℕ) (e : ServerEvent) (o : ℕ) (drawn : ℕ → ℕ) → NonceTables s L drawn → Expires s now e t o
    → NonceTables t L drawn

-- ---- a frame that was answered

-- its replies, of which each final one tells a number above all that were drawn until then; others draw meanwhile too
abbrev pub DrawsAlong : (ℕ → ℕ) → List SaidReply → (ℕ → ℕ) → Type 0
DrawsAlong drawn [] behind = (x : ℕ) → drawn x ≤ behind x
DrawsAlong drawn (r ∷ rs) behind = (found : ℕ → ℕ) × ((x : ℕ) → drawn x ≤ found x) × DrawsOn found r.keys.session r.progress
    × DrawsAlong (next_drawn found r.keys.session r.progress) rs behind

abbrev pub SealsAlong : Type 0
SealsAlong = (f : ServerEnd) (is_sealed : Bool) (g : Going) (us : List Seal) (ends : ℕ → Sealer) (k : ℕ) (drawn behind : ℕ → ℕ)
    → ends k ≡ sealer_of true f → DrawsAlong drawn g.replies behind → NonceNumbered us ends drawn → (answered f is_sealed g).ends ≡ None
    → NonceNumbered (us ++ (answered f is_sealed g).sealings)
    (put ends k (sealer_of true (answered f is_sealed g).server_end)) behind
