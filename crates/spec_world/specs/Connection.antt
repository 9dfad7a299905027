-- What the server's end of a connection makes of one frame (MS-SMB2 3.3.5.2): a function of the frame, of this end, the server, its
-- logons, the moment and 8 random bytes alone.
use Rattle.std.specs.Prelude.{ℕ, ◌+◌, ◌==◌, Bool, false, ◌&&◌, ◌||◌, not, if◌then◌else◌, List, [], ◌∷◌, ◌++◌, length, Option}
use Rattle.std.specs.Prelude.{Some, None, option_map, Result, Ok, Err}
use Rattle.spec_wire.specs.messages.Error.{error_response_spelling}
use Rattle.spec_exchange.specs.Status.{success, invalid_parameter}
use Rattle.spec_exchange.specs.Commands.{Command, Unreadable, Aside, Setup, has_bit}
use Rattle.spec_exchange.specs.State.{Server, Message, Answer}
use Rattle.spec_exchange.specs.Network.{answer_to}
use Rattle.spec_commands.specs.CommandOf.{Told, message_of}
use Rattle.spec_wire.specs.credits.Window.{HeldIds, granted, after_grant}
use Rattle.spec_crypto.specs.declared.sessions.material.Keys.{Keys}
use Rattle.spec_crypto.specs.sessions.Signing.{verifies}
use Rattle.spec_world.specs.Settings.{ServerSettings}
use Rattle.spec_world.specs.Ends.{ServerEnd, Logons, no_keys, chosen_on, client_on, signer_on, ConnEnd, Spent, Full}
use Rattle.spec_world.specs.Hearing.{Checked, Frame, check_frame, is_negotiate, is_misplaced}
use Rattle.spec_world.specs.Negotiate.{negotiate_status, client_told}
use Rattle.spec_world.specs.Related.{Carry, Turn, Goes, Fails, turn_of, failed_as, carried_behind, carried_past}
use Rattle.spec_world.specs.Logon.{Progress, Stays, Final, progress, token_in, token_shows, exported, answer_token_by}
use Rattle.spec_world.specs.Logon.{final_keys, logons_behind, signer_by, unless_faulty}
use Rattle.spec_world.specs.Answering.{SaidReply, reply_header, said_body, joined_in, text_limit, all_texts}
use Rattle.spec_world.specs.Answering.{each_joined, concatenated, Seal}
use Rattle.spec_world.specs.Answering.{has_nonces, frames_by, seals_by, Ending, told_each}

-- ---- the message that the server hears

abbrev pub client_by : ServerEnd → Checked → ℕ
client_by f c = if is_negotiate c.header then client_told c.bytes else client_on f.greeting

-- A SESSION_SETUP's signature is that of its session, over the message as it was heard.
abbrev pub told_of : ServerSettings → Logons → ℕ → ServerEnd → Checked → Told
told_of z L k f c = record {
  connection = k;
  client = client_by f c;
  fault = c.fault;
  verified = has_bit c.header.flags 8 && verifies (L.keys c.header.session).signing c.raw;
  cipher = (chosen_on f.greeting).cipher;
  signing = (chosen_on f.greeting).signing;
  shows = token_shows z.users (L.pending k);
  negotiated = negotiate_status c.bytes;
}

-- of a message whose form is broken by its place, whatever its body says; check 2's fault comes before it
abbrev pub misplaced_command : Option ℕ → Command → Command
misplaced_command (Some fault) command = command
misplaced_command None (Aside status) = Aside invalid_parameter
misplaced_command None (Setup request) = Setup (record request { readable = false })
misplaced_command None _ = Unreadable invalid_parameter

abbrev pub misplaced : Message → Message
misplaced m = record m { command = misplaced_command m.fault m.command }

abbrev pub placed : Bool → Option Message → Option Message
placed broken m = if broken then option_map misplaced m else m

-- none of a CANCEL
abbrev pub heard_message : ServerSettings → Logons → ℕ → ServerEnd → Checked → Option Message
heard_message z L k f c = placed (is_misplaced c) (message_of (told_of z L k f c) c.header c.bytes)

-- ---- one message after the other

-- the last message of a frame that the server took, and its answer to all of them
pub record LastTaken : Type 0 where
  pub message : Message
  pub answer : Answer

abbrev pub later_or : Option ℕ → Option ℕ → Option ℕ
later_or None earlier = earlier
later_or (Some o) earlier = Some o

abbrev pub taken_with : Option LastTaken → Message → Answer → LastTaken
taken_with None m A = record { message = m; answer = A }
taken_with (Some t) m A = record {
  message = m;
  answer = record A {
    records = t.answer.records ++ A.records;
    acted = t.answer.acted || A.acted;
    reached = later_or A.reached t.answer.reached;
    altered = later_or A.altered t.answer.altered;
  };
}

pub record Going : Type 0 where
  pub server : Server
  pub logons : Logons
  pub window : HeldIds
  pub carried : Option Carry
  pub taken : Option LastTaken
  pub replies : List SaidReply

abbrev pub keys_said : ServerSettings → Logons → ℕ → ServerEnd → Checked → Progress → Keys
keys_said z L k f c (Final binding channel encrypts) = final_keys z.users L k f c binding
keys_said z L k f c _ = no_keys

-- the reply to a message, of the credits that the window grants it
abbrev pub said_to : ServerSettings → ℕ → ℕ → List ℕ → ServerEnd → Logons → HeldIds → Checked → Command → Answer → SaidReply
said_to z k now fresh f L w c command A =
    let r = A.reply in
    let p = progress command r in
    record {
      header = reply_header c r.status r.session_id r.tree_id (granted c.header.credits w);
      body = said_body z.guid f.salt now c (answer_token_by z.users (L.pending k) (token_in c.bytes) fresh now p) command r;
      signer = unless_faulty c.fault (signer_by A.server z.users L k f c command r.status p);
      request = c;
      progress = p;
      base = exported z.users (L.pending k) (token_in c.bytes);
      keys = keys_said z L k f c p;
    }

-- a related message that fails with a CREATE before it, never a CANCEL, which names no open
abbrev pub said_failed : ServerEnd → HeldIds → Checked → ℕ → SaidReply
said_failed f w c status = record {
  header = reply_header c status c.header.session c.header.tree (granted c.header.credits w);
  body = error_response_spelling (record { error_context_count = 0; byte_count = 0 });
  signer = unless_faulty c.fault (signer_on f.keys);
  request = c;
  progress = Stays;
  base = [];
  keys = no_keys;
}

abbrev pub went_by : ServerSettings → ℕ → ℕ → List ℕ → ServerEnd → Going → Checked → Message → Answer → Going
went_by z k now fresh f g c m A = record {
  server = A.server;
  logons = logons_behind z.users g.logons k f c fresh now (progress m.command A.reply);
  window = after_grant c.header.credits g.window;
  carried = Some (carried_behind g.carried c A.reply);
  taken = Some (taken_with g.taken m A);
  replies = g.replies ++ said_to z k now fresh f g.logons g.window c m.command A ∷ [];
}

-- a CANCEL has neither event nor reply
abbrev pub went_heard : ServerSettings → ℕ → ℕ → List ℕ → ServerEnd → Going → Checked → Option Message → Going
went_heard z k now fresh f g c None = record g { carried = Some (carried_past g.carried c success) }
went_heard z k now fresh f g c (Some m) = went_by z k now fresh f g c m (answer_to g.server now m m.command)

abbrev pub went_turn : ServerSettings → ℕ → ℕ → List ℕ → ServerEnd → Going → Checked → Turn → Going
went_turn z k now fresh f g old (Goes c) = went_heard z k now fresh f g c (heard_message z g.logons k f c)
went_turn z k now fresh f g old (Fails status) =
    let c = failed_as g.carried old in
    record g {
      window = after_grant c.header.credits g.window;
      replies = g.replies ++ said_failed f g.window c status ∷ [];
    }

unfoldable pub went_all : ServerSettings → ℕ → ℕ → List ℕ → ServerEnd → Going → List Checked → Going
went_all z k now fresh f g [] = g
went_all z k now fresh f g (c ∷ cs) = went_all z k now fresh f (went_turn z k now fresh f g c (turn_of g.carried c)) cs

-- ---- what a frame leaves

pub record ConnectionStep : Type 0 where
  pub server : Server
  pub logons : Logons
  pub server_end : ServerEnd
  pub taken : Option LastTaken
  pub status : Option ℕ  -- the last reply's
  pub frames : List (List ℕ)  -- the answer
  pub made : List Ending
  pub sealings : List Seal
  pub ends : Option ConnEnd

unfoldable pub last_status : List SaidReply → Option ℕ
last_status [] = None
last_status (r ∷ []) = Some r.header.status
last_status (r ∷ next ∷ rs) = last_status (next ∷ rs)

-- it ends before any message is carried out, or behind all of them
abbrev pub ended_by : Server → Logons → ServerEnd → Option LastTaken → ConnEnd → ConnectionStep
ended_by s L f taken why = record {
  server = s;
  logons = L;
  server_end = f;
  taken = taken;
  status = None;
  frames = [];
  made = [];
  sealings = [];
  ends = Some why;
}

-- the replies' texts in their frames, sealed or not, and this end behind them
abbrev pub counted_on : ServerEnd → Bool → Going → ℕ → ServerEnd
counted_on f sealed g count = record f { window = g.window; counter = if sealed then f.counter + count else f.counter }

abbrev pub answered_with : ServerEnd → Bool → Going → List (List (List ℕ)) → List (List ℕ) → ConnectionStep
answered_with f sealed g rows texts =
    let b = told_each sealed (counted_on f sealed g (length texts)) g.replies (concatenated rows) in
    record {
      server = g.server;
      logons = g.logons;
      server_end = b.server_end;
      taken = g.taken;
      status = last_status g.replies;
      frames = if sealed then frames_by f.keys f texts else texts;
      made = b.endings;
      sealings = if sealed then seals_by f.keys f texts else [];
      ends = None;
    }

abbrev pub answered_in : ServerEnd → Bool → Going → List (List (List ℕ)) → ConnectionStep
answered_in f sealed g rows =
    if sealed && not (has_nonces f (length rows)) then ended_by g.server g.logons f g.taken Spent
    else answered_with f sealed g rows (each_joined rows)

abbrev pub answered : ServerEnd → Bool → Going → ConnectionStep
answered f sealed g = answered_in f sealed g (all_texts sealed (joined_in (text_limit sealed) g.replies))

abbrev pub beginning : Server → Logons → ServerEnd → Going
beginning s L f = record { server = s; logons = L; window = f.window; carried = None; taken = None; replies = [] }

abbrev pub step_of : ServerSettings → ℕ → ℕ → List ℕ → Server → Logons → ServerEnd → Result Frame ConnEnd → ConnectionStep
step_of z k now fresh s L f (Err why) = ended_by s L f None why
step_of z k now fresh s L f (Ok x) =
    answered x.server_end x.sealed (went_all z k now fresh x.server_end (beginning s L x.server_end) x.messages)

abbrev pub connection_step : ServerSettings → ℕ → ℕ → List ℕ → Server → Logons → ServerEnd → List ℕ → ConnectionStep
connection_step z k now fresh s L f frame = step_of z k now fresh s L f (check_frame f frame)

-- ---- an Accept that isn't answered with success ends its connection

abbrev pub accept_end : ℕ → Option ConnEnd
accept_end status = if status == success then None else Some Full
