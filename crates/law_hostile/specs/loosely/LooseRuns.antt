-- Runs of the model of values on a network that also loses single messages, delivers them in another order, and gives the server
-- messages that none of its lists has: between its events a message or a reply that waits is lost, or the one behind it overtakes it,
-- or the server hears one that isn't signed or sealed as owed, or asks for nothing, or sets up a session for the client's user, and its
-- answer goes nowhere.
use Rattle.std.specs.Prelude.{◌≡◌, ℕ, zero, suc, ◌+◌, ◌≤◌, Bool, true, false, not, ◌&&◌, ◌||◌, ◌==◌, if◌then◌else◌, List, [], ◌∷◌, is_some}
use Rattle.spec_exchange.specs.Table.{put}
use Rattle.spec_exchange.specs.Content.{same_bytes}
use Rattle.spec_exchange.specs.Commands.{Command, Aside, Setup, Shows, Logon}
use Rattle.spec_exchange.specs.State.{Message, Answer, no_later}
use Rattle.spec_exchange.specs.Operations.{is_ok}
use Rattle.spec_exchange.specs.Client.{Client}
use Rattle.spec_exchange.specs.Network.{World, Event, Conn, Sent, Settings, happens, start, with_answer, answer, traced, logged, is_own}
use Rattle.spec_exchange.specs.Runs.{acts_now, is_once, is_send_of, never_acted}
use Rattle.spec_exchange.specs.Statements.{NeverAfterNewer}
use Rattle.law_sessions.specs.sessions.Sessions.{logon_user}

-- ---- lists, whose places count from 0

-- what stands at this place is gone
unfoldable pub without_at : {X : Type 0} → ℕ → List X → List X
without_at n [] = []
without_at zero (x ∷ xs) = xs
without_at (suc n) (x ∷ xs) = x ∷ without_at n xs

-- what stands behind this place stands before it
unfoldable pub overtaken_at : {X : Type 0} → ℕ → List X → List X
overtaken_at n [] = []
overtaken_at n (x ∷ []) = x ∷ []
overtaken_at zero (x ∷ y ∷ xs) = y ∷ x ∷ xs
overtaken_at (suc n) (x ∷ y ∷ xs) = x ∷ overtaken_at n (y ∷ xs)

abbrev pub loses : Conn → Bool → ℕ → Conn
loses c true n = record c { up = without_at n c.up }
loses c false n = record c { down = without_at n c.down }

abbrev pub overtakes : Conn → Bool → ℕ → Conn
overtakes c true n = record c { up = overtaken_at n c.up }
overtakes c false n = record c { down = overtaken_at n c.down }

-- ---- events and runs

pub data LooseEvent : Type 0 where
  Meets : (event : Event) → LooseEvent
  Loses : (k : ℕ) (up : Bool) (place : ℕ) → LooseEvent
  Overtakes : (k : ℕ) (up : Bool) (place : ℕ) → LooseEvent
  Hears : (sent : Sent) → LooseEvent  -- the server, what no list has; a message by which an operation may act is none

abbrev pub with_connection : World → ℕ → Conn → World
with_connection w k c = record w { conns = put w.conns k c }

-- NEGOTIATE and ECHO
abbrev pub is_aside : Command → Bool
is_aside (Aside status) = true
is_aside _ = false

-- it isn't signed or sealed as owed, or asks for nothing
abbrev pub is_idle : Message → Bool
is_idle m = is_some m.fault || is_aside m.command

-- no logon, or this user's
abbrev pub shows_user : List ℕ → Shows → Bool
shows_user user (Logon other) = same_bytes other user
shows_user user _ = true

-- a SESSION_SETUP that shows so
abbrev pub is_own_logon : Client → Command → Bool
is_own_logon c (Setup request) = shows_user (logon_user c.who.logon) request.shows
is_own_logon c _ = false

-- of the client's ClientGuid, and of the sequence 0
abbrev pub sets_up_own : Client → Message → Bool
sets_up_own c m = (m.channel_sequence == 0) && ((m.client_guid == c.who.guid) && is_own_logon c m.command)

-- what the server may hear though no list has it: such a SESSION_SETUP is no operation's
abbrev pub may_hear : Client → Sent → Bool
may_hear c x = is_idle x.message || (not (is_own x.token) && sets_up_own c x.message)

-- the step is taken, its records and its place in the log stand, and no list changes
abbrev pub heard_apart : World → Sent → Answer → World
heard_apart w x A = record (with_answer w A) {
  moment = no_later (w.moment + 1);
  log = logged w x A (traced w x A);
  trace = traced w x A;
}

abbrev pub loose_happens : World → LooseEvent → World
loose_happens w (Meets e) = happens w e
loose_happens w (Loses k up place) = with_connection w k (loses (w.conns k) up place)
loose_happens w (Overtakes k up place) = with_connection w k (overtakes (w.conns k) up place)
loose_happens w (Hears x) = if may_hear w.client x then heard_apart w x (answer w x) else w

unfoldable pub loose_run : List LooseEvent → World → World
loose_run [] w = w
loose_run (e ∷ es) w = loose_run es (loose_happens w e)

abbrev pub loose_acts_now : World → LooseEvent → ℕ → Bool
loose_acts_now w (Meets e) g = acts_now w e g
loose_acts_now w (Loses k up place) g = false
loose_acts_now w (Overtakes k up place) g = false
loose_acts_now w (Hears x) g = may_hear w.client x && (is_send_of g x.token && (answer w x).acted)

unfoldable pub loose_acts : List LooseEvent → World → ℕ → ℕ
loose_acts [] w g = 0
loose_acts (e ∷ es) w g = (if loose_acts_now w e g then 1 else 0) + loose_acts es (loose_happens w e) g

-- ---- what is said of them

pub record LooseOnce (es : List LooseEvent) (w : World) : Type 0 where
  pub at_most : (g : ℕ) → is_once ((loose_run es w).client.op g) ≡ true → loose_acts es w g ≤ 1
  pub acknowledged :
      (g : ℕ) → is_once ((loose_run es w).client.op g) ≡ true → is_ok ((loose_run es w).client.outcome g) ≡ true
      → loose_acts es w g ≡ 1
  -- so far
  pub never :
      (g : ℕ) → is_once ((loose_run es w).client.op g) ≡ true → never_acted ((loose_run es w).client.outcome g) ≡ true
      → loose_acts es w g ≡ 0

abbrev pub LooselyOnce : Type 0
LooselyOnce = (z : Settings) (es : List LooseEvent) → LooseOnce es (start z)

abbrev pub LooselyNewer : Type 0
LooselyNewer = (z : Settings) (es : List LooseEvent) → NeverAfterNewer (loose_run es (start z))
