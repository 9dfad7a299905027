-- What the definitions make of the first messages of a frame by what was given, whoever shares the server.
use Rattle.std.specs.Prelude.{◌≡◌, ℕ, Bool, false, not, if◌then◌else◌, List, [], ◌∷◌, ◌++◌, take, Option, Some, None, is_some}
use Rattle.spec_exchange.specs.State as model
use Rattle.spec_world.specs.Settings.{ServerSettings}
use Rattle.spec_world.specs.Ends.{ServerEnd, Logons}
use Rattle.spec_world.specs.Hearing as hearing
use Rattle.spec_world.specs.Connection.{beginning, heard_message}
use Rattle.spec_world.specs.Given as gives
use Rattle.spec_world.specs.Given.{Given, dealt_all, dealt_turn, has_event, is_past_setups}
use Rattle.spec_world.specs.Related.{Turn, Goes, Fails, turn_of}

-- ---- the messages of a frame that have an event, as they are when it is given to the server

abbrev pub asks_it : gives.Dealt → hearing.Checked → Option model.Message → Bool
asks_it d c None = false
asks_it d c (Some m) = if has_event m.command then not (is_past_setups d.setups c.header) else false

abbrev pub asked_in : ServerSettings → ℕ → ServerEnd → gives.Dealt → Turn → List hearing.Checked
asked_in z k f d (Goes c) = if asks_it d c (heard_message z d.going.logons k f c) then c ∷ [] else []
asked_in z k f d (Fails status) = []

-- behind a stop none has one
unfoldable pub asked_all : ServerSettings → ℕ → ℕ → List ℕ → ServerEnd → gives.Dealt → List hearing.Checked → List hearing.Checked
asked_all z k now fresh f d [] = []
asked_all z k now fresh f d (c ∷ cs) =
    if is_some d.stopped then []
    else asked_in z k f d (turn_of d.going.carried c)
    ++ asked_all z k now fresh f (dealt_turn z k now fresh f d c (turn_of d.going.carried c)) cs

-- as a frame begins, behind so many SESSION_SETUPs of its connection
abbrev pub first_dealt : model.Server → Logons → ServerEnd → ℕ → List Given → gives.Dealt
first_dealt s L f before given = record {
  going = beginning s L f;
  left = given;
  setups = before;
  lacked = false;
  missing = false;
  stopped = None;
}

-- ---- the first messages by what was given, whatever is given to those behind them

abbrev pub with_left : gives.Dealt → List Given → gives.Dealt
with_left d l = record d { left = l }

-- with those of them that have an event
pub record GivenSoFar (z : ServerSettings) (k now : ℕ) (fresh : List ℕ) (f : ServerEnd) (first : gives.Dealt) (cs : List hearing.Checked)
    (at : ℕ) (d : gives.Dealt) : Type 0 where
  pub given : List Given
  pub asks : List hearing.Checked
  pub is : (later : List Given) (rest : List hearing.Checked)
      → dealt_all z k now fresh f (with_left first (given ++ later)) (take at cs ++ rest) ≡ dealt_all z k now fresh f (with_left d later) rest
  pub asked : (later : List Given) (rest : List hearing.Checked)
      → asked_all z k now fresh f (with_left first (given ++ later)) (take at cs ++ rest)
      ≡ asks ++ asked_all z k now fresh f (with_left d later) rest

-- one message in its turn, by what it takes of what is given
pub record GivenTurn (z : ServerSettings) (k now : ℕ) (fresh : List ℕ) (f : ServerEnd) (d : gives.Dealt) (c : hearing.Checked)
    (xs : List Given) (asks : List hearing.Checked) (e : gives.Dealt) : Type 0 where
  pub is : (later : List Given) → dealt_turn z k now fresh f (with_left d (xs ++ later)) c (turn_of d.going.carried c) ≡ with_left e later
  pub asked : (later : List Given) → asked_in z k f (with_left d later) (turn_of d.going.carried c) ≡ asks
