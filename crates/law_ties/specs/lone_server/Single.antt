-- What each event of a frame is given over a server that no one else uses.
use Rattle.std.specs.Prelude.{◌≡◌, ℕ, ◌+◌, ◌≤◌, if◌then◌else◌, List, [], ◌∷◌, ◌++◌, length, Option, Some, None, is_some, Ok}
use Rattle.spec_exchange.specs.State.{Server, Message}
use Rattle.spec_world.specs.Connection.{heard_message}
use Rattle.spec_world.specs.Ends.{ServerEnd, Logons}
use Rattle.spec_world.specs.Given.{Given, has_event, given_of}
use Rattle.spec_world.specs.Hearing.{Checked, Frame}
use Rattle.spec_world.specs.Mishaps.{Mishap, Owned, own_given, owned_of, owned_turn, owning}
use Rattle.spec_world.specs.Related.{Turn, Goes, Fails, turn_of}
use Rattle.spec_world.specs.Settings.{ServerSettings}

abbrev pub given_next : ℕ → List ℕ → Owned → Message → List (Option Mishap) → List Given
given_next now fresh w m [] = []
given_next now fresh w m (x ∷ xs) = own_given now fresh w.dealt.going m x ∷ []

abbrev pub given_heard : ℕ → List ℕ → Owned → Option Message → List Given
given_heard now fresh w None = []
given_heard now fresh w (Some m) = if has_event m.command then given_next now fresh w m w.mishaps else []

abbrev pub given_turn : ServerSettings → ℕ → ℕ → List ℕ → ServerEnd → Owned → Turn → List Given
given_turn z k now fresh f w (Goes c) = given_heard now fresh w (heard_message z w.dealt.going.logons k f c)
given_turn z k now fresh f w (Fails status) = []

-- each event the answer of the step at the state that it finds, or what befell it
unfoldable pub single_givens : ServerSettings → ℕ → ℕ → List ℕ → ServerEnd → Owned → List Checked → List Given
single_givens z k now fresh f w [] = []
single_givens z k now fresh f w (c ∷ cs) =
    if is_some w.dealt.stopped then []
    else given_turn z k now fresh f w (turn_of w.dealt.going.carried c)
    ++ single_givens z k now fresh f (owned_turn z k now fresh f w c (turn_of w.dealt.going.carried c)) cs

abbrev pub singles : ServerSettings → ℕ → ℕ → List ℕ → Server → Logons → List (Option Mishap) → Frame → List Given
singles z k now fresh s L mishaps x = single_givens z k now fresh x.server_end (owning s L x.server_end mishaps) x.messages

-- the step of the frame is that of its events, one after the other
abbrev pub SingleEvents : Type 0
SingleEvents =
    (z : ServerSettings) (k now : ℕ) (fresh : List ℕ) (before : ℕ) (s : Server) (L : Logons) (f : ServerEnd) (mishaps : List (Option Mishap))
    (x : Frame) → before + length x.messages ≤ 4096
    → ((given_of z k now fresh before s L f (singles z k now fresh s L mishaps x) (Ok x)).step
    ≡ (owned_of z k now fresh s L f mishaps (Ok x)).step)
    × ((given_of z k now fresh before s L f (singles z k now fresh s L mishaps x) (Ok x)).lacked
    ≡ (owned_of z k now fresh s L f mishaps (Ok x)).lacked)
