-- Two channels of session 9, each with a signing key of its own, on a network that repeats and redirects: an ECHO that the client signed on
-- channel 0 was put up.
use Rattle.std.specs.Prelude.{ℕ, ◌+◌, ◌==◌, nat_lt, Bool, true, false, if◌then◌else◌, List, [], ◌∷◌, Option, Some, None, slice_get}
use Rattle.spec_exchange.specs.Table.{put}
use Rattle.spec_exchange.specs.State.{Server}
use Rattle.spec_exchange.specs.Operations.{Outcome}
use Rattle.spec_exchange.specs.Client.{Client}
use Rattle.spec_exchange.specs.Network.{Conn, ForOp, new_client, no_conn, World as Values, start}
use Rattle.spec_crypto.specs.declared.sessions.material.Keys.{Keys}
use Rattle.spec_world.specs.Settings.{identity_of, values_of}
use Rattle.spec_world.specs.Messages.{header_in}
use Rattle.spec_world.specs.Ends.{ClientEnd, ServerEnd, no_client_end}
use Rattle.spec_world.specs.Events.{bytes_start}
use Rattle.spec_hostile.specs.RepeatRuns.{RepeatWorld, RepeatEvent, UpFrame, DownFrame, repeat_run}
use Rattle.spec_hostile.specs.SignedFor.{SignedEntry, KeyPlace, watching, entries_up, carries_signature}
use Rattle.spec_hostile.specs.HostileNetwork.{repeat_acts}
use Rattle.examples_world.specs.connections.Parts.{some_keys, some_settings}
use Rattle.examples_world.specs.runs.Ends.{echo}
use Rattle.examples_world.specs.runs.Keyed.{keyed_end, other_end, other_signer, one_session, signed_echo}
use Rattle.examples_world.specs.runs.Meeting.{dialog_sent}

abbrev pub keys_of_channel : ℕ → Keys
keys_of_channel k = if k == 0 then some_keys else record some_keys { signing = other_signer }

-- On each channel an operation waits for the response to the message id 1: operation 1 on channel 0, operation 2 on channel 1. Its
-- exported key and the message that its dialog hashed are lists of one number.
abbrev pub linked_client_end : ℕ → ClientEnd
linked_client_end k = record no_client_end {
  purse = record { held = 5; next = 2 };
  awaited = put (λ id. None) 1 (Some (ForOp (k + 1)));
  base = (k + 1) ∷ [];
  transcript = (k ∷ []) ∷ [];
  keys = keys_of_channel k;
  channel = k + 1;
}

abbrev pub linked_server_end : ℕ → ServerEnd
linked_server_end k = if k == 0 then keyed_end false else other_end

abbrev pub linked_server : Server
linked_server = record one_session { connections = 0 ∷ 1 ∷ [] }

abbrev pub linked_client : Client
linked_client = record (new_client (identity_of some_settings)) {
  taken = 2;
  outstanding_on = λ g. if g == 1 then Some 0 else if g == 2 then Some 1 else None;
  live = true;
  session = 9;
  session_number = 1;
  ready = λ k. nat_lt k 2;
  channels = 2;
  accepted = 9;
  accepted_count = 1;
  rank = λ x. if x == 9 then 1 else 0;
}

abbrev pub open_connection : Conn
open_connection = record no_conn { client_open = true; server_open = true; next_id = 2 }

abbrev pub linked_values : Values
linked_values = record (start (values_of some_settings)) { client = linked_client; server = linked_server; conns = λ k. open_connection }

abbrev pub put_echo : UpFrame
put_echo = record { frame = signed_echo; sent = record { token = ForOp 1; message = dialog_sent 1 9 }; connection = 0; opening = 1 }

abbrev pub linked_channels : RepeatWorld
linked_channels = record {
  world = record (bytes_start some_settings) {
    values = linked_values;
    wires = λ k. record { client_end = linked_client_end k; server_end = linked_server_end k; up = []; down = [] };
    keys = some_keys;
    numbers = 2;
  };
  ups = put_echo ∷ [];
  downs = [];
  openings = λ k. 1;
}

abbrev pub given : List RepeatEvent → RepeatWorld
given es = repeat_run some_settings es linked_channels

-- ---- what is looked at

abbrev pub acts_of_one : List RepeatEvent → ℕ
acts_of_one es = repeat_acts some_settings es linked_channels 1

abbrev pub told_status : Option DownFrame → Option ℕ
told_status None = None
told_status (Some d) = Some (header_in d.frame).status

abbrev pub told_signed : Option DownFrame → Bool
told_signed None = false
told_signed (Some d) = carries_signature d.frame

abbrev pub status_at : RepeatWorld → ℕ → Option ℕ
status_at r n = told_status (slice_get r.downs n)

abbrev pub is_signed_at : RepeatWorld → ℕ → Bool
is_signed_at r n = told_signed (slice_get r.downs n)

abbrev pub outcome_in : RepeatWorld → ℕ → Outcome
outcome_in r g = r.world.values.client.outcome g

-- ---- what is signed of frames that are put on channel 0

abbrev pub places_signed : List SignedEntry → List KeyPlace
places_signed [] = []
places_signed (e ∷ es) = e.place ∷ places_signed es

abbrev pub signed_places : List UpFrame → List KeyPlace
signed_places us = places_signed (entries_up (watching linked_channels) 0 linked_channels us)

-- an ECHO that nobody signed
abbrev pub put_bare : UpFrame
put_bare = record { frame = echo 1 0; sent = record { token = ForOp 1; message = dialog_sent 1 9 }; connection = 0; opening = 1 }
