-- A frame with whose events no one else's came between: to its connection the server is one that no one else uses.
use Rattle.std.specs.Prelude.{◌≡◌, ◌+◌, ◌≤◌, ℕ, true, List, [], ◌∷◌, length, Option, Some, Ok, ⊤}
use Rattle.spec_exchange.specs.State as model
use Rattle.spec_world.specs.Connection.{ConnectionStep}
use Rattle.spec_world.specs.Ends.{ServerEnd, Logons, Stopped}
use Rattle.spec_world.specs.Given.{GivenStep}
use Rattle.spec_world.specs.Hearing.{Frame, check_frame}
use Rattle.spec_world.specs.Mishaps.{AreLeft, Mishap, owned_step}
use Rattle.spec_world.specs.Settings.{ServerSettings}
use Rattle.serve_turns.specs.connection_turns.Frames.{TakesFrame}
use Rattle.serve_turns.specs.event_book.History.{Course, MeetsFrom, On, Placed, Stand}

-- turns that stand in a row from a place on
abbrev pub InARow : ℕ → List Placed → Type 0
InARow place [] = ⊤
InARow place (x ∷ xs) = (x.0 ≡ place) × InARow (place + 1) xs

-- each of their events met what its place found: in front of none the journal was written anew
abbrev pub AllAsFound : ServerSettings → Course → List Placed → Type 0
AllAsFound z h [] = ⊤
AllAsFound z h (x ∷ xs) = MeetsFrom z (h.found x.0) x.1 (h.given x.0) (h.found (x.0 + 1)) × AllAsFound z h xs

-- Unless the server stopped, the place behind such turns found what the frame's step left. Behind no turns nothing is told.
abbrev pub FindsBehind : Course → ℕ → List Placed → ConnectionStep → Type 0
FindsBehind h place [] step = ⊤
FindsBehind h place (x ∷ xs) step = ((count : ℕ) → step.ends ≡ Some (Stopped count) → ⊥)
    → (s : Stand) × (h.found (place + length (x ∷ xs)) ≡ On s) × (s.server ≡ step.server) × (s.logons ≡ step.logons)

-- The step is that of the whole frame from this state on, where just this befell its events: one that found no memory left the server as
-- before, or behind one expiry alone.
pub record IsOfWhole (z : ServerSettings) (h : Course) (k now : ℕ) (fresh : List ℕ) (server : model.Server) (logons : Logons)
    (f : ServerEnd)
    (frame : List ℕ) (place : ℕ) (turns : List Placed) (step : ConnectionStep) : Type 0 where
  pub mishaps : List (Option Mishap)
  pub step_is : step ≡ (owned_step z k now fresh server logons f mishaps frame).step
  pub matches : (owned_step z k now fresh server logons f mishaps frame).matches ≡ true
  pub left : AreLeft z k now fresh server logons mishaps (check_frame f frame)
  pub behind : FindsBehind h place turns step

-- It is so of each frame that its check lets pass and that was taken, not of one that ended for memory, whose turns stand in a row from a
-- place where the server went on, with the journal written anew in front of none of them, if its connection has random bytes left for as
-- many SESSION_SETUPs as the frame has messages: from the state on that this place found, or whatever a frame without turns may begin at.
abbrev pub AloneFrames : Type 0
AloneFrames = (z : ServerSettings) (h : Course) (k : ℕ) (f : ServerEnd) (before : ℕ) (frame : List ℕ) (turns : List Placed) (G : GivenStep)
    (t : TakesFrame z h k f before frame turns G) (x : Frame) (place : ℕ) (s : Stand) → AllAsFound z h turns → check_frame f frame ≡ Ok x
    → before + length x.messages ≤ 4096 → InARow place turns → h.found place ≡ On s
    → IsOfWhole z h k t.now t.fresh t.server t.logons f frame place turns G.step
