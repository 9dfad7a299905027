-- No session's id, in the client or in what waits, is above a number, and no tree's above the last one.
use Rattle.std.specs.Prelude.{ℕ, ◌+◌, ◌≤◌, List, [], ◌∷◌}
use Rattle.spec_exchange.specs.Opens.{id_of, max_ids}
use Rattle.spec_exchange.specs.CheckSetup.{last_tree}
use Rattle.spec_exchange.specs.Client.{Client}
use Rattle.spec_exchange.specs.Network.{Conn, Event, Sent, Received, Settings, run, start}
use Rattle.law_ties.specs.wire_facts.Steps.{restarts_in}

abbrev pub LowUp : ℕ → List Sent → Type 0
LowUp n [] = Unit {0}
LowUp n (x ∷ xs) = (x.message.session_id ≤ n) × (x.message.tree_id ≤ last_tree) × LowUp n xs

abbrev pub LowDown : ℕ → List Received → Type 0
LowDown n [] = Unit {0}
LowDown n (y ∷ ys) = (y.reply.session_id ≤ n) × (y.reply.tree_id ≤ last_tree) × LowDown n ys

pub record Low (n : ℕ) (c : Client) (conns : ℕ → Conn) : Type 0 where
  pub session : c.session ≤ n
  pub pending : c.pending ≤ n
  pub accepted : c.accepted ≤ n
  pub tree : c.tree ≤ last_tree
  pub up : (k : ℕ) → LowUp n (conns k).up
  pub down : (k : ℕ) → LowDown n (conns k).down

-- the last id of the last epoch that these events may begin
abbrev pub last_id : List Event → ℕ
last_id events = id_of (1 + restarts_in events) max_ids

abbrev pub IdsAreLow : Type 0
IdsAreLow =
    (z : Settings) (events : List Event) → Low (last_id events) (run events (start z)).client (run events (start z)).conns
