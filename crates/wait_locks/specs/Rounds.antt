-- What becomes of the first waiter that no range holds up, and of all.
use Rattle.server_core.specs.Shown.{config_of, disk_of, state_of, stopped_of}
use Rattle.std.specs.Prelude.{◌≡◌, ℕ, ◌+◌, ⊤, List, [], ◌∷◌, ◌++◌, map, length, Option, Some, None, Result, Ok, Err}
use Rattle.spec_exchange.specs.State as model
use Rattle.spec_exchange.specs.Step.{step}
use Rattle.spec_crypto.specs.tokens.Tokens.{Users}
use Rattle.spec_world.specs.Ends.{Logons}
use Rattle.law_waiting.specs.wait_steps.WaitStep.{AllHeld, Fails, Free, Lacks, StepMishap, Tried, first_free, later_to, trial, tried}
use Rattle.law_waiting.specs.wait_steps.WaitStep as waits
use Rattle.server_checks.specs.declared.event_heard.event.ServerEvent.{ServerEvent}
use Rattle.server_checks.specs.declared.setups.error.EventError.{EventError}
use Rattle.server_checks.specs.declared.setups.error.EventError.TheVariants.{DiskFault}
use Rattle.server_core.specs.journaled_tables.Holds.{JournaledHolds}
use Rattle.wait_locks.specs.Kept.{waiter_of}
use Rattle.wait_locks.specs.Shown.{FaultIs}
use Rattle.wait_locks.specs.Stepping.{HoldsTill, StepGoes, Steps}
use Rattle.wait_locks.specs.Told.{response_of}
use Rattle.wait_locks.specs.declared.later.Later.{Later}
use Rattle.wait_locks.specs.declared.trying.Round.{Round}
use Rattle.wait_locks.specs.declared.trying.Round.TheVariants as rounds
use Rattle.wait_locks.specs.declared.wait_server.WaitServer.{WaitServer}

-- what no round changes
pub record IsRest {D : Type 0} (old new : WaitServer D) : Type 0 where
  pub config : (config_of new.server) ≡ (config_of old.server)
  pub alloc : new.alloc ≡ old.alloc
  pub ids_given : new.ids_given ≡ old.ids_given
  pub starved : new.starved ≡ old.starved

-- one that went isn't in the list any more
abbrev pub IsFewer : Round → ℕ → ℕ → Type 0
IsFewer rounds.Went before after = after + 1 ≡ before
IsFewer r before after = ⊤

-- the same list, and the same responses
pub record SameLists {D : Type 0} (old new : WaitServer D) (before after : List Later) : Type 0 where
  pub waiters : new.waiters.items ≡ old.waiters.items
  pub finals : after ≡ before

abbrev pub users_of : {D : Type 0} → WaitServer D → Users
users_of c = (config_of c.server).users

module _ {D : Type 0} (told : Type 0) (seen : D → List ℕ) (may_leave : D → List ℕ → Type 0) (moment : D → ℕ) (left_since : D → ℕ → List ℕ → Type 0) (faults : D → ℕ) (now : ℕ) (own : ServerEvent)
    (old new : WaitServer D) (before after : List Later) where
  -- a step of a waiter, with the state that it leaves
  pub record RoundMet (s : model.Server) (L : Logons) (records : List model.Record) (es : List waits.Waiter) (w : waits.Waiter) (x : StepMishap)
      (t : model.Server) : Type 0 where
    pub front : List model.Record
    pub goes : StepGoes told seen may_leave moment left_since faults (users_of old) now own (state_of old.server) (state_of new.server) L records
        (trial s now es w (Some x)) L front
    pub holds : HoldsTill told seen may_leave (state_of new.server) t L (records ++ front)
    pub lists : SameLists old new before after

  pub record RoundWent (s : model.Server) (L : Logons) (records : List model.Record) (es : List waits.Waiter) (w : waits.Waiter)
      (ls : List waits.Waiter) : Type 0 where
    pub front : List model.Record
    pub goes : StepGoes told seen may_leave moment left_since faults (users_of old) now own (state_of old.server) (state_of new.server) L records (trial s now es w None) L front
    pub holds : JournaledHolds told seen may_leave (state_of new.server) (step s now (model.Heard w.message)).server L (records ++ front)
    pub waiters : map waiter_of new.waiters.items ≡ es ++ ls
    pub finals : map response_of after ≡ map response_of before ++ later_to w (step s now (model.Heard w.message)).reply ∷ []

  -- of a waiter between those before it and those behind it
  abbrev pub RoundIs : Round → model.Server → Logons → List model.Record → List waits.Waiter → waits.Waiter → List waits.Waiter → Type 0
  RoundIs rounds.AllHeld s L records es w ls = ⊥
  RoundIs rounds.Went s L records es w ls = ((stopped_of new.server) ≡ None) × RoundWent s L records es w ls
  RoundIs rounds.Lacks s L records es w ls =
      ((stopped_of new.server) ≡ None) × ((t : model.Server) × RoundMet s L records es w (Lacks t) t)
  RoundIs (rounds.Fails count) s L records es w ls =
      ((stopped_of new.server) ≡ Some count) × ((t : model.Server) × RoundMet s L records es w (Fails t count) t)
      × (count ≡ faults (disk_of new.server))

  -- the first waiter that no range holds up, where one is
  abbrev pub FreeIs : Round → model.Server → Logons → List model.Record → Type 0
  FreeIs r s L records = (es : List waits.Waiter) × (w : waits.Waiter) × (ls : List waits.Waiter)
      × (first_free s (map waiter_of old.waiters.items) ≡ Free es w ls) × RoundIs r s L records es w ls

  abbrev pub NextIs : Round → model.Server → Logons → List model.Record → Type 0
  NextIs rounds.AllHeld s L records = (first_free s (map waiter_of old.waiters.items) ≡ AllHeld) × (new ≡ old) × (after ≡ before)
  NextIs rounds.Went s L records = FreeIs rounds.Went s L records
  NextIs rounds.Lacks s L records = FreeIs rounds.Lacks s L records
  NextIs (rounds.Fails count) s L records = FreeIs (rounds.Fails count) s L records

-- ---- all are tried, whatever befalls their steps

abbrev pub IsMet : {T : Type 0} → Result T EventError → Option ℕ → Type 0
IsMet (Ok x) failed = failed ≡ None
IsMet (Err (DiskFault count)) failed = failed ≡ Some count
IsMet (Err x) failed = ⊥

pub record TriedBy {D : Type 0} (told : Type 0) (seen : D → List ℕ) (may_leave : D → List ℕ → Type 0) (moment : D → ℕ) (left_since : D → ℕ → List ℕ → Type 0) (faults : D → ℕ) (now : ℕ) (own : ServerEvent)
    (old new : WaitServer D) (before after : List Later) (L : Logons) (records : List model.Record) (T : Tried) : Type 0 where
  pub written : List model.Record
  pub steps : Steps told seen may_leave moment left_since faults (users_of old) now own (state_of old.server) (state_of new.server) L records T.made L written
  pub holds : HoldsTill told seen may_leave (state_of new.server) T.server L (records ++ written)
  pub waiters : map waiter_of new.waiters.items ≡ T.waiters
  pub starved : new.starved ≡ T.starved
  pub stopped : (stopped_of new.server) ≡ T.failed
  pub finals : T.failed ≡ None → map response_of after ≡ map response_of before ++ T.finals

abbrev pub AllTried : {D : Type 0} {T : Type 0} → Type 0 → (D → List ℕ) → (D → List ℕ → Type 0) → (D → ℕ) → (D → ℕ → List ℕ → Type 0) → (D → ℕ) → ℕ → ServerEvent → WaitServer D → WaitServer D
    → List Later → List Later → Result T EventError → model.Server → Logons → List model.Record → Type 0
AllTried told seen may_leave moment left_since faults now own old new before after result s L records =
    (mishaps : List (Option StepMishap))
    × TriedBy told seen may_leave moment left_since faults now own old new before after L records
    (tried now s (map waiter_of old.waiters.items) mishaps (length (map waiter_of old.waiters.items)))
    × FaultIs faults new.server result
    × IsMet result (tried now s (map waiter_of old.waiters.items) mishaps (length (map waiter_of old.waiters.items))).failed
