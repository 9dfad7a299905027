-- The model's values of a LOCK that waits, as the list keeps it.
use Rattle.std.specs.Prelude.{◌≡◌, ℕ, ◌+◌, ◌&&◌, nat_lt, not, if◌then◌else◌, List, [], ◌∷◌, Option, None}
use Rattle.spec_exchange.specs.Commands.{Lock}
use Rattle.spec_exchange.specs.Ranges.{count_owned, wraps}
use Rattle.spec_exchange.specs.State as model
use Rattle.law_waiting.specs.held.Held.{first_in_the_way}
use Rattle.law_waiting.specs.wait_steps.WaitStep as waits
use Rattle.wait_locks.specs.declared.waiter.Waiter.{Waiter}

-- its message, which carries no fault
abbrev pub kept_message : Waiter → model.Message
kept_message w = record {
  connection = w.connection;
  client_guid = w.client_guid;
  session_id = w.session_id;
  tree_id = w.tree_id;
  message_id = w.message_id;
  channel_sequence = w.channel_sequence;
  replay = w.replay;
  fault = None;
  command = Lock w.file w.index w.number (w.element ∷ []);
}

abbrev pub waiter_of : Waiter → waits.Waiter
waiter_of w = record { message = kept_message w; async_id = w.async_id }

-- it keeps this message
pub record KeepsMessage (w : Waiter) (m : model.Message) (async_id : ℕ) : Type 0 where
  pub message : m ≡ kept_message w
  pub id : w.async_id ≡ async_id

-- what a range waits for, where its owner has at most 1,023 others and it doesn't pass the last byte
abbrev pub in_the_way : List model.Range → model.Range → Option model.Range
in_the_way standing wanted =
    if not (nat_lt 1024 (count_owned wanted.owner standing + 1)) && not (wraps wanted) then first_in_the_way standing wanted else None
