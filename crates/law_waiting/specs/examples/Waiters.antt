-- A file that two clients have open, each over its own connection and session; all three have the number of their open, 1 or 2.
use Rattle.std.specs.Prelude.{ℕ, ◌==◌, Bool, true, false, ◌||◌, List, [], ◌∷◌, length, replicate, Option, Some, None, option_map, map}
use Rattle.std.specs.Prelude.{Result, Ok, Err}
use Rattle.spec_exchange.specs.Table.{is_filled}
use Rattle.spec_exchange.specs.Content.{meets}
use Rattle.spec_exchange.specs.Commands.{Command, Lock, has_bit, deletes_on_close}
use Rattle.spec_exchange.specs.State.{Server, Open, Message, Heard}
use Rattle.spec_exchange.specs.Files.{exists_in, exists, is_directory, has_below, is_full_directory}
use Rattle.spec_exchange.specs.Ranges.{overlaps, is_denied, any_wraps, count_owned, add_ranges, prepended, take_range, take_ranges, stands_or}
use Rattle.spec_exchange.specs.Ranges.{lock_ranges, unlock_ranges, change_ranges, without_owner}
use Rattle.spec_exchange.specs.Opens.{opens_in, file_has_open, goes, pending_records, shut_records, gone_records, left_file_records, leave_records, is_kept_back}
use Rattle.spec_exchange.specs.CheckSetup.{count_channels}
use Rattle.spec_exchange.specs.Records.{records_size, entry_bytes, fits}
use Rattle.spec_exchange.specs.Effects.{lock_records, plain_in, leave_all, staying_in, ranges_staying, leave_all_records, end_records}
use Rattle.spec_exchange.specs.Step.{due_in}
use Rattle.spec_exchange.specs.Fold.{nothing_yet}
use Rattle.law_waiting.specs.held.Held.{first_in_the_way, would_wait}
use Rattle.law_waiting.specs.wait_steps.WaitStep.{WaitState, WaitTurn, Target, WaitEvent, Serves, Cancels, Response, Responses, WaitRefusal, StepMishap, WaitAnswer}
use Rattle.law_waiting.specs.wait_steps.WaitStep.{waiting_on, wait_step, tried, first_free, sent_before, in_place, waiter_named, without_named}
use Rattle.law_waiting.specs.wait_steps.WaitStep.{without_connection}
use Rattle.law_waiting.specs.wait_runs.WaitRuns.{behind}

abbrev pub row : Open
row = record {
  file = 1;
  access = 0x3;
  share = 0x7;
  options = 0;
  action = 1;
  persistent = false;
  client_guid = 7;
  create_guid = None;
  user = [];
  timeout = 0;
}

abbrev pub two_opens : Server
two_opens = record nothing_yet {
  entries = record { file = 1; path = 97 ∷ [] } ∷ [];
  next_file = 2;
  opens = 1 ∷ 2 ∷ [];
  standing = λ o. (o == 1) || (o == 2);
  opened = λ o. row;
  session_of_open = λ o. Some o;
  tree_of_open = λ o. 1;
  present = λ s. (s == 1) || (s == 2);
  sessions = 2;
  trees = λ s. record { id = 1; pipes = false } ∷ [];
  connections = 1 ∷ 2 ∷ [];
  session_on = λ k. Some k;
}

-- ---- what they ask

abbrev pub asks : ℕ → ℕ → Command → Message
asks k id command = record {
  connection = k;
  client_guid = 7;
  session_id = k;
  tree_id = 1;
  message_id = id;
  channel_sequence = 0;
  replay = false;
  fault = None;
  command = command;
}

-- a LOCK of one element, by the slot of this index and its number
abbrev pub lock_by : ℕ → ℕ → ℕ → ℕ → ℕ → ℕ → Command
lock_by k index number at length flags = Lock k index number (record { at = at; length = length; flags = flags } ∷ [])

-- without a slot
abbrev pub lock : ℕ → ℕ → ℕ → ℕ → Command
lock k at length flags = lock_by k 0 0 at length flags

abbrev pub plain_turn : WaitEvent → WaitTurn
plain_turn event = record { now = 100; at_once = false; event = event; lacks = false; mishaps = [] }

abbrev pub sends : ℕ → ℕ → Command → WaitTurn
sends k id command = plain_turn (Serves (Heard (asks k id command)))

abbrev pub cancels : ℕ → Target → WaitTurn
cancels k target = plain_turn (Cancels k target)

abbrev pub at_once : WaitTurn → WaitTurn
at_once t = record t { at_once = true }

-- its steps meet these mishaps
abbrev pub unlucky : List (Option StepMishap) → WaitTurn → WaitTurn
unlucky mishaps t = record t { mishaps = mishaps }

-- client 1 locks bytes 0 to 9 for itself alone
abbrev pub locks_ten : WaitTurn
locks_ten = sends 1 5 (lock 1 0 10 0x12)

abbrev pub unlocks_ten : WaitTurn
unlocks_ten = sends 1 6 (lock 1 0 10 0x4)

-- client 2 would lock them too
abbrev pub wants_ten : WaitTurn
wants_ten = sends 2 8 (lock 2 0 10 0x2)

-- ---- what they are told: the connection, the MessageId, the AsyncId and the status of each response

pub record ToldResponse : Type 0 where
  pub connection : ℕ
  pub message : ℕ
  pub async_id : ℕ
  pub status : ℕ

abbrev pub told_response : Response → ToldResponse
told_response l = record { connection = l.connection; message = l.message; async_id = l.async_id; status = l.reply.status }

abbrev pub response : ℕ → ℕ → ℕ → ℕ → ToldResponse
response connection message async_id status = record { connection = connection; message = message; async_id = async_id; status = status }

pub data SeenAnswer : Type 0 where
  Hears : (own : Option ToldResponse) (finals : List ToldResponse) (waits : ℕ) (starved : Bool) → SeenAnswer
  Breaks : (refusal : WaitRefusal) (waits : ℕ) (starved : Bool) → SeenAnswer

abbrev pub seen_by : WaitState → Result Responses WaitRefusal → SeenAnswer
seen_by w (Ok r) = Hears (option_map told_response r.own) (map told_response r.finals) (length w.waiters) w.starved
seen_by w (Err e) = Breaks e (length w.waiters) w.starved

abbrev pub seen_in : WaitAnswer → SeenAnswer
seen_in A = seen_by A.waiting A.result

-- the answer to the last turn
abbrev pub seen_after : List WaitTurn → WaitTurn → SeenAnswer
seen_after before t = seen_in (wait_step (behind (waiting_on two_opens) before) t)

-- ---- states

-- the server where client 1 has unlocked its bytes again
abbrev pub unlocked : Server
unlocked = (behind (waiting_on two_opens) (locks_ten ∷ unlocks_ten ∷ [])).server

-- 1,024 waiters
abbrev pub full : WaitState
full = record (waiting_on (behind (waiting_on two_opens) (locks_ten ∷ [])).server) {
  waiters = replicate 1024 (record { message = asks 2 8 (lock 2 0 10 0x2); async_id = 1 });
  ids_given = 1024;
}

-- all AsyncIds were given
abbrev pub no_ids_left : WaitState
no_ids_left = record (behind (waiting_on two_opens) (locks_ten ∷ [])) { ids_given = 0xffff_ffff_ffff_ffff }

unfoldable pub computed : ℕ
unfolding is_filled meets has_bit deletes_on_close exists_in exists is_directory has_below is_full_directory overlaps is_denied any_wraps
    count_owned add_ranges prepended take_range take_ranges stands_or lock_ranges unlock_ranges change_ranges without_owner opens_in
    file_has_open goes pending_records shut_records gone_records left_file_records leave_records is_kept_back count_channels records_size
    entry_bytes fits lock_records plain_in leave_all staying_in ranges_staying leave_all_records end_records due_in first_in_the_way
    would_wait wait_step tried first_free sent_before in_place waiter_named without_named without_connection behind
computed = 0
