-- A world in which three requests wait on a connection, and three replies: what the events between those of the model leave of them.
use Rattle.std.specs.Prelude.{ℕ, Bool, List, [], ◌∷◌, true, false, map, Some, None}
use Rattle.spec_exchange.specs.Commands.{Command, Aside, Setup, Shows, Logon}
use Rattle.spec_exchange.specs.State.{Empty}
use Rattle.spec_exchange.specs.Network.{World, Sent, Received, ForDialog, ForOp, op_of}
use Rattle.law_sessions.specs.sessions.Sessions.{logon_user}
use Rattle.law_hostile.specs.loosely.LooseRuns.{LooseEvent, loose_happens, loose_acts_now}

-- a request of operation g
abbrev pub asks_for : Command → ℕ → Sent
asks_for command g = record {
  token = ForOp g;
  message = record {
    connection = 0;
    client_guid = 0;
    session_id = 0;
    tree_id = 0;
    message_id = g;
    channel_sequence = 0;
    replay = false;
    fault = None;
    command = command;
  };
}

-- a SESSION_SETUP of a client of this ClientGuid, whose token shows this
abbrev pub asks_session : ℕ → Shows → Sent
asks_session guid shows = record {
  token = ForDialog;
  message = record (asks_for (Aside 0) 0).message {
    client_guid = guid;
    command = Setup (record {
      readable = true;
      binding = false;
      signed = false;
      verified = false;
      previous = 0;
      cipher = 0;
      signing = 1;
      shows = shows;
    });
  };
}

-- the logon of a user whose name has a letter more than the client's
abbrev pub other_logon : World → Shows
other_logon w = Logon (97 ∷ logon_user w.client.who.logon)

-- that isn't signed as owed
abbrev pub asks_badly_for : Command → ℕ → Sent
asks_badly_for command g =
    record (asks_for command g) { message = record (asks_for command g).message { fault = Some 0xc000_0022 } }

abbrev pub replies_to : ℕ → Received
replies_to g = record { token = ForOp g; reply = record { status = 0; session_id = 0; tree_id = 0; body = Empty }; place = g }

-- of operations 1 to 3
abbrev pub waiting : World → World
waiting w = record w {
  conns = λ k. record (w.conns k) {
    up = asks_for (Aside 0) 1 ∷ asks_for (Aside 0) 2 ∷ asks_for (Aside 0) 3 ∷ [];
    down = replies_to 1 ∷ replies_to 2 ∷ replies_to 3 ∷ [];
  };
}

-- whose requests, and whose replies, wait on connection 0 behind an event
abbrev pub ups_behind : World → LooseEvent → List ℕ
ups_behind w e = map (λ x. op_of x.token) ((loose_happens (waiting w) e).conns 0).up

abbrev pub downs_behind : World → LooseEvent → List ℕ
downs_behind w e = map (λ y. op_of y.token) ((loose_happens (waiting w) e).conns 0).down

-- how many messages the server took until then
abbrev pub places_behind : World → LooseEvent → ℕ
places_behind w e = (loose_happens (waiting w) e).log.places

-- whether an operation acts in it
abbrev pub acts_there : World → LooseEvent → ℕ → Bool
acts_there w e g = loose_acts_now (waiting w) e g
