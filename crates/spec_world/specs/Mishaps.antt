-- A frame over a server that no one else uses (this project's): each event is answered by the step, but where it found no memory or
-- the server had stopped. Without a mishap it is `connection_step`.
use Rattle.std.specs.Prelude.{◌≡◌, ℕ, true, false, not, ◌&&◌, if◌then◌else◌, List, [], ◌∷◌, Option, Some, None, is_some, Result, Ok, Err, ⊤}
use Rattle.spec_exchange.specs.Table.{is_filled}
use Rattle.spec_exchange.specs.State.{Server, Message, Heard}
use Rattle.spec_exchange.specs.Network.{answer_to}
use Rattle.spec_world.specs.Settings.{ServerSettings}
use Rattle.spec_world.specs.Ends.{ServerEnd, Logons, ConnEnd}
use Rattle.spec_world.specs.Hearing.{Checked, Frame, check_frame}
use Rattle.spec_world.specs.Related.{Turn, Goes, Fails, turn_of}
use Rattle.spec_world.specs.Connection.{Going, heard_message, went_heard, went_turn, beginning, ended_by}
use Rattle.spec_world.specs.Given.{Given, Answered, NoMemory, Stops, Dealt, GivenStep, has_event, dealt_by, dealt_step}
use Rattle.spec_world.specs.Lacking.{IsAsBefore}

-- what befell an event
pub data Mishap : Type 0 where
  Lacks : (server : Server) → Mishap  -- it found no memory, and left the server so
  Halts : (count : ℕ) → Mishap  -- the server has stopped

-- what is given for an event: the step's own answer, where nothing befell it
abbrev pub own_given : ℕ → List ℕ → Going → Message → Option Mishap → Given
own_given now fresh g m None = Answered now fresh g.logons (answer_to g.server now m m.command)
own_given now fresh g m (Some (Lacks t)) = NoMemory t
own_given now fresh g m (Some (Halts count)) = Stops count

-- ---- one message after the other, each with an event taking the next of what befell

pub record Owned : Type 0 where
  pub dealt : Dealt
  pub mishaps : List (Option Mishap)

abbrev pub owned_next : ServerSettings → ℕ → ℕ → List ℕ → ServerEnd → Owned → Checked → Message → List (Option Mishap) → Owned
owned_next z k now fresh f w c m [] = record w { dealt = record w.dealt { missing = true } }
owned_next z k now fresh f w c m (x ∷ xs) = record {
  dealt = dealt_by z k f w.dealt c (own_given now fresh w.dealt.going m x);
  mishaps = xs;
}

abbrev pub owned_aside : ServerSettings → ℕ → ℕ → List ℕ → ServerEnd → Owned → Checked → Option Message → Owned
owned_aside z k now fresh f w c m = record w { dealt = record w.dealt { going = went_heard z k now fresh f w.dealt.going c m } }

abbrev pub owned_heard : ServerSettings → ℕ → ℕ → List ℕ → ServerEnd → Owned → Checked → Option Message → Owned
owned_heard z k now fresh f w c None = owned_aside z k now fresh f w c None
owned_heard z k now fresh f w c (Some m) =
    if has_event m.command then owned_next z k now fresh f w c m w.mishaps else owned_aside z k now fresh f w c (Some m)

abbrev pub owned_turn : ServerSettings → ℕ → ℕ → List ℕ → ServerEnd → Owned → Checked → Turn → Owned
owned_turn z k now fresh f w old (Goes c) = owned_heard z k now fresh f w c (heard_message z w.dealt.going.logons k f c)
owned_turn z k now fresh f w old (Fails status) =
    record w { dealt = record w.dealt { going = went_turn z k now fresh f w.dealt.going old (Fails status) } }

-- behind a stop no message has an event
unfoldable pub owned_all : ServerSettings → ℕ → ℕ → List ℕ → ServerEnd → Owned → List Checked → Owned
owned_all z k now fresh f w [] = w
owned_all z k now fresh f w (c ∷ cs) =
    if is_some w.dealt.stopped then w
    else owned_all z k now fresh f (owned_turn z k now fresh f w c (turn_of w.dealt.going.carried c)) cs

-- ---- the whole of a frame

abbrev pub owning : Server → Logons → ServerEnd → List (Option Mishap) → Owned
owning s L f mishaps = record {
  dealt = record { going = beginning s L f; left = []; setups = 0; lacked = false; missing = false; stopped = None };
  mishaps = mishaps;
}

abbrev pub owned_of : ServerSettings → ℕ → ℕ → List ℕ → Server → Logons → ServerEnd → List (Option Mishap)
    → Result Frame ConnEnd → GivenStep
owned_of z k now fresh s L f mishaps (Err why) = record {
  step = ended_by s L f None why;
  lacked = false;
  setups = 0;
  matches = not (is_filled mishaps);
}
owned_of z k now fresh s L f mishaps (Ok x) =
    let w = owned_all z k now fresh x.server_end (owning s L x.server_end mishaps) x.messages in
    record {
      step = dealt_step x.server_end x.sealed w.dealt.going w.dealt.stopped;
      lacked = w.dealt.lacked;
      setups = w.dealt.setups;
      matches = not w.dealt.missing && not (is_filled w.mishaps);
    }

abbrev pub owned_step : ServerSettings → ℕ → ℕ → List ℕ → Server → Logons → ServerEnd → List (Option Mishap) → List ℕ → GivenStep
owned_step z k now fresh s L f mishaps frame = owned_of z k now fresh s L f mishaps (check_frame f frame)

-- ---- an event that found no memory left the server as before, or changed by one expiry alone

abbrev pub LeavesIt : Server → ℕ → Message → Option Mishap → Type 0
LeavesIt s now m None = ⊤
LeavesIt s now m (Some (Lacks t)) = IsAsBefore s now (Heard m) t
LeavesIt s now m (Some (Halts count)) = ⊤

abbrev pub LeavesNext : Owned → ℕ → Message → List (Option Mishap) → Type 0
LeavesNext w now m [] = ⊤
LeavesNext w now m (x ∷ xs) = LeavesIt w.dealt.going.server now m x

abbrev pub LeavesHeard : Owned → ℕ → Option Message → Type 0
LeavesHeard w now None = ⊤
LeavesHeard w now (Some m) = has_event m.command ≡ true → LeavesNext w now m w.mishaps

abbrev pub LeavesTurn : ServerSettings → ℕ → ℕ → ServerEnd → Owned → Turn → Type 0
LeavesTurn z k now f w (Goes c) = LeavesHeard w now (heard_message z w.dealt.going.logons k f c)
LeavesTurn z k now f w (Fails status) = ⊤

unfoldable pub LeaveAll : ServerSettings → ℕ → ℕ → List ℕ → ServerEnd → Owned → List Checked → Type 0
LeaveAll z k now fresh f w [] = ⊤
LeaveAll z k now fresh f w (c ∷ cs) =
    LeavesTurn z k now f w (turn_of w.dealt.going.carried c)
    × LeaveAll z k now fresh f (owned_turn z k now fresh f w c (turn_of w.dealt.going.carried c)) cs

abbrev pub AreLeft : ServerSettings → ℕ → ℕ → List ℕ → Server → Logons → List (Option Mishap) → Result Frame ConnEnd → Type 0
AreLeft z k now fresh s L mishaps (Err why) = ⊤
AreLeft z k now fresh s L mishaps (Ok x) = LeaveAll z k now fresh x.server_end (owning s L x.server_end mishaps) x.messages
