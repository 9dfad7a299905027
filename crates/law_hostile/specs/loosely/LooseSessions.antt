-- Sessions that are over, on runs of the model of values where messages are lost, overtake each other, or are heard from nowhere.
use Rattle.std.specs.Prelude.{◌≡◌, ℕ, ◌≤◌, false, List, ◌++◌}
use Rattle.spec_exchange.specs.State.{Server}
use Rattle.spec_exchange.specs.CheckSetup.{is_new}
use Rattle.spec_exchange.specs.Opens.{id_of}
use Rattle.spec_exchange.specs.Network.{Settings, start}
use Rattle.law_hostile.specs.loosely.LooseRuns.{LooseEvent, loose_run}

-- this id was given to a session, and no connection makes that session any more
pub record NoMoreMade (s : Server) (x : ℕ) : Type 0 where
  pub given : x ≤ id_of s.epoch s.session_ids_given
  pub unmade : (k : ℕ) → is_new x (s.making k) ≡ false

-- and it isn't there
pub record IsOver (s : Server) (x : ℕ) : Type 0 where
  pub made : NoMoreMade s x
  pub absent : s.present x ≡ false

-- it isn't made again, and one that is over is never there again
pub record StaysOver (es more : List LooseEvent) (z : Settings) : Type 0 where
  pub made :
      (x : ℕ) → NoMoreMade (loose_run es (start z)).server x → NoMoreMade (loose_run (es ++ more) (start z)).server x
  pub over : (x : ℕ) → IsOver (loose_run es (start z)).server x → IsOver (loose_run (es ++ more) (start z)).server x

abbrev pub SessionsStayOver : Type 0
SessionsStayOver = (z : Settings) (es more : List LooseEvent) → StaysOver es more z
