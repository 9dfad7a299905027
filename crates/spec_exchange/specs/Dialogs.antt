-- NEGOTIATE, SESSION_SETUP and TREE_CONNECT at the client, called a dialog: how it makes a session or binds a further channel
-- to it (MS-SMB2 3.2.4.2 and 3.2.5.2 to 3.2.5.5).
use Rattle.std.specs.Prelude.{ℕ, ◌+◌, ◌==◌, Bool, true, false, if◌then◌else◌, Some, None}
use Rattle.spec_exchange.specs.Table.{put}
use Rattle.spec_exchange.specs.Status.{success, more_processing_required}
use Rattle.spec_exchange.specs.Commands.{Command, Aside, Setup, TreeConnect, Shows, Begins}
use Rattle.spec_exchange.specs.State.{Message, Reply}
use Rattle.spec_exchange.specs.Client.{Client, Stage, Apart, SaidNegotiate, SaidFirst, SaidSecond, AskedTree}

-- what a response of a dialog comes to
pub data DialogStep : Type 0 where
  GoesOn : (stage : Stage) → DialogStep  -- the next message of that stage goes out
  Accepts : DialogStep  -- a new session is accepted; its TREE_CONNECT goes out
  Binds : DialogStep  -- the channel is bound and ready
  Readies : DialogStep  -- the session is ready
  Refuses : (status : ℕ) → DialogStep

abbrev pub expected : DialogStep → ℕ → ℕ → DialogStep
expected step wanted status = if status == wanted then step else Refuses status

abbrev pub dialog_step : Stage → ℕ → DialogStep
dialog_step Apart status = Refuses status
dialog_step (SaidNegotiate bound) status = expected (GoesOn (SaidFirst bound)) success status
dialog_step (SaidFirst bound) status = expected (GoesOn (SaidSecond bound)) more_processing_required status
dialog_step (SaidSecond bound) status = expected (if bound then Binds else Accepts) success status
dialog_step AskedTree status = expected Readies success status

-- ---- its messages

abbrev pub setup_of : Client → Bool → Shows → Command
setup_of c bound shows =
    Setup (record {
      readable = true;
      binding = bound;
      signed = bound;
      verified = bound;
      previous = if bound then 0 else c.accepted;
      cipher = c.who.cipher;
      signing = c.who.signing;
      shows = shows;
    })

abbrev pub session_of : Client → Bool → ℕ → ℕ
session_of c bound id = if bound then c.session else id

abbrev pub stage_session : Client → Stage → ℕ
stage_session c Apart = 0
stage_session c (SaidNegotiate bound) = 0
stage_session c (SaidFirst bound) = session_of c bound 0
stage_session c (SaidSecond bound) = session_of c bound c.pending
stage_session c AskedTree = c.pending

abbrev pub stage_command : Client → Stage → Command
stage_command c Apart = Aside success
stage_command c (SaidNegotiate bound) = Aside success
stage_command c (SaidFirst bound) = setup_of c bound Begins
stage_command c (SaidSecond bound) = setup_of c bound c.who.logon
stage_command c AskedTree = TreeConnect c.who.share

abbrev pub dialog_message : Client → ℕ → ℕ → Stage → Message
dialog_message c k id stage =
    record {
      connection = k;
      client_guid = c.who.guid;
      session_id = stage_session c stage;
      tree_id = 0;
      message_id = id;
      channel_sequence = 0;
      replay = false;
      fault = None;
      command = stage_command c stage;
    }

-- ---- its steps; what its end does is the client's own step (`ClientStep.client_after`)

-- a dialog begins: a binding where a session is ready
abbrev pub open_channel : Client → ℕ → Client
open_channel c k = record c { stage = put c.stage k (SaidNegotiate c.live); making = if c.live then c.making else Some k }

-- the interim response tells the new session's id
abbrev pub told_session : Client → Stage → Reply → ℕ
told_session c (SaidSecond false) r = r.session_id
told_session c _ r = c.pending

abbrev pub went_on : Client → ℕ → Stage → Reply → Client
went_on c k stage r = record c { stage = put c.stage k stage; pending = told_session c stage r }

abbrev pub accepted : Client → ℕ → Client
accepted c k = record c {
  stage = put c.stage k AskedTree;
  accepted = c.pending;
  accepted_count = c.accepted_count + 1;
  rank = put c.rank c.pending (c.accepted_count + 1);
}
