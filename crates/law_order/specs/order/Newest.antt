-- What holds of the pairs of session and sequence that reached an open, in every world that a run leads to.
use Rattle.std.specs.Prelude.{List, ◌≡◌, ℕ, ◌≤◌, ◌<◌, true, Some}
use Rattle.spec_exchange.specs.State.{Server}
use Rattle.spec_exchange.specs.Opens.{id_of}
use Rattle.spec_exchange.specs.Fold.{fold}
use Rattle.spec_exchange.specs.Network.{World, Event, Settings, run, start}
use Rattle.spec_exchange.specs.Statements.{NeverAfterNewer}
use Rattle.law_server.specs.tables.Fits.{Attached, GuidOpen, OpenIds, Given as GivenIds}
use Rattle.law_sessions.specs.sessions.Sessions.{Ranks, LastRank, RankOnce, PendingUnranked, RankedUp, SequencesUp, DialogUp}
use Rattle.law_sessions.specs.sessions.Sessions.{PresentAccepted, MakingUnranked}

-- while the open stands and the session is there, the open is attached in it, at this sequence or a newer one
abbrev pub Pair : Server → ℕ → ℕ → ℕ → Type 0
Pair s session sequence o = s.standing o ≡ true → s.present session ≡ true → s.session_of_open o ≡ Some session × sequence ≤ s.sequence o

-- a pair that reached an open is of a session that the client accepted, and the open's id was given
abbrev pub Ranked : World → Type 0
Ranked w = (i o : ℕ) → i < w.log.places → w.trace.reached i ≡ Some o → 0 < w.client.rank (w.trace.session i)

-- a change was made in a session that the client accepted
abbrev pub RankedChange : World → Type 0
RankedChange w = (i o : ℕ) → i < w.log.places → w.trace.altered i ≡ Some o → 0 < w.client.rank (w.trace.session i)

-- an open that was reached has an id that was given
abbrev pub ReachedGiven : World → Type 0
ReachedGiven w = (i o : ℕ) → i < w.log.places → w.trace.reached i ≡ Some o → o ≤ id_of w.server.epoch w.server.open_ids_given

-- no pair that reached an open is newer than the open's own
abbrev pub Held : World → Type 0
Held w = (i o : ℕ) → i < w.log.places → w.trace.reached i ≡ Some o → Pair w.server (w.trace.session i) (w.trace.sequence i) o

-- sequences stay below half of what their field holds, so that older means less
abbrev pub LowSequences : Server → Type 0
LowSequences s = (o : ℕ) → s.sequence o ≤ 32767

-- the six parts
pub record Newest (w : World) : Type 0 where
  pub ranked : Ranked w
  pub ranked_change : RankedChange w
  pub reached_given : ReachedGiven w
  pub held : Held w
  pub low_sequences : LowSequences w.server
  pub ordered : NeverAfterNewer w

-- the parts of the layers below that this stands on
pub record Below (w : World) : Type 0 where
  pub attached : Attached w.server
  pub guid_open : GuidOpen w.server
  pub open_ids : OpenIds w.server
  pub given : GivenIds w.server
  pub ranks : Ranks w.client
  pub last_rank : LastRank w.client
  pub rank_once : RankOnce w.client
  pub pending_unranked : PendingUnranked w.client
  pub ranked_up : RankedUp w.client w.conns
  pub sequences_up : SequencesUp w.client w.conns
  pub dialog_up : DialogUp w.conns
  pub present_accepted : PresentAccepted w.client w.server
  pub making_unranked : MakingUnranked w.client w.server
  pub recorded : (fold w.records).epoch ≡ w.server.epoch

-- in every world that a run leads to
abbrev pub BelowAll : Settings → Type 0
BelowAll z = (es : List Event) → Below (run es (start z))
