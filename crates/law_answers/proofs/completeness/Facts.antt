-- What the settling of a world takes from the laws below, and worlds of which that is known.
use Rattle.std.proofs.Common.{ℕ, ◌+◌, Bool, if◌then◌else◌, zero, suc}
use Rattle.spec_exchange.specs.Client.{AskedTree}
use Rattle.spec_exchange.specs.Network.{World, Event, happens}
use Rattle.law_sessions.specs.messages.Connections.{Connections}
use Rattle.std.proofs.Common.{◌≡◌, ◌<◌, true, false, arith, ap, refl, Option, Some, None}
use Rattle.std.proofs.Common.{◌≤◌, ◌≢◌, List, ◌∷◌}
use Rattle.spec_exchange.specs.Client.{AskedTree, create_for}
use Rattle.spec_exchange.specs.Status.{success, user_session_deleted}
use Rattle.spec_exchange.specs.State.{Accept}
use Rattle.spec_exchange.specs.Step.{step}
use Rattle.spec_exchange.specs.Operations.{OpClose, is_unsettled, is_ok, is_create, weight, charge}
use Rattle.spec_exchange.specs.Network.{Sent, Submit, answer}
use Rattle.law_sessions.specs.messages.Connections.{copies}
use Rattle.law_sessions.specs.messages.Connections.{is_bound}
use Rattle.law_sessions.specs.sessions.Sessions.{Making, makes_session}
use Rattle.law_answers.proofs.completeness.Taking.{Ends}
use Rattle.law_sessions.specs.sessions.Dialogs.{Channels, MakingTalks}

-- how many of the channels below n are ready
unfoldable pub count_on : (ℕ → Bool) → ℕ → ℕ
count_on f zero = 0
count_on f (suc m) = (if f m then 1 else 0) + count_on f m

pub record Facts (w : World) : Type 0 where
  pub acted : ℕ → ℕ
  pub fit : Connections w.client w.conns acted
  pub channels : Channels w.client w.conns
  pub making_talks : MakingTalks w.client
  pub making : Making w.client
  pub live_alone : w.client.live ≡ true → w.client.making ≡ None
  pub counted : w.client.channels ≡ count_on w.client.ready 256
  pub live_channels : w.client.live ≡ true → 0 < w.client.channels
  pub client_low : (k : ℕ) → (w.conns k).client_open ≡ true → k < 256
  pub server_low : (k : ℕ) → (w.conns k).server_open ≡ true → k < 256
  -- what is outstanding on a channel with two open ends waits there
  pub carried : (g k : ℕ) → w.client.outstanding_on g ≡ Some k → (w.conns k).client_open ≡ true
      → (w.conns k).server_open ≡ true → 1 ≤ copies g (w.conns k)
  -- a connection that the server doesn't hold is taken in
  pub accepts : (k : ℕ) → k < 256 → (w.conns k).server_open ≡ false → (step w.server w.moment (Accept k)).reply.status ≡ success
  -- what waits for a create that settled waits for one that is Ok
  pub create_ok : (g : ℕ) → 0 < g → g ≤ w.client.taken → is_unsettled (w.client.outcome g) ≡ true
      → is_create (w.client.op g) ≡ false → is_unsettled (w.client.outcome (create_for w.client g)) ≡ false
      → is_ok (w.client.outcome (create_for w.client g)) ≡ true
  pub limits : (g : ℕ) → 0 < g → g ≤ w.client.taken → charge (weight (w.client.op g)) ≤ 512
  pub beyond : w.client.op 0 ≡ OpClose 0

-- the events of which each but Submit is one
abbrev pub is_submit : Event → Bool
is_submit (Submit g op) = true
is_submit _ = false

-- worlds of a kind that each event leads to again
pub record Always (K : World → Type 0) : Type 0 where
  pub step : (w : World) (e : Event) → K w → K (happens w e)
  pub facts : (w : World) → K w → Facts w
  pub stays : (w : World) (e : Event) (g : ℕ) → K w → is_unsettled (w.client.outcome g) ≡ false
      → is_unsettled ((happens w e).client.outcome g) ≡ false
  pub taken : (w : World) (e : Event) → is_submit e ≡ false → (happens w e).client.taken ≡ w.client.taken
  pub number : (w : World) (e : Event) → w.client.session_number ≤ (happens w e).client.session_number

-- no operation on a ready channel with two open ends hears that its session is gone
abbrev pub StaysPresent : World → Type 0
StaysPresent w = (k : ℕ) (x : Sent) (rest : List Sent) → w.client.ready k ≡ true → (w.conns k).client_open ≡ true
    → (w.conns k).server_open ≡ true → (w.conns k).up ≡ x ∷ rest → (answer w x).reply.status ≢ user_session_deleted

-- the session that waits for its tree has an id above that of the one before it
abbrev pub Rises : World → Type 0
Rises w = (k : ℕ) → w.client.stage k ≡ AskedTree → w.client.session < w.client.pending

abbrev pub AllRise : (World → Type 0) → Type 0
AllRise K = (w : World) → K w → Rises w

pub record AllPresent (K : World → Type 0) : Type 0 where
  pub present : (w : World) → K w → StaysPresent w
  pub rise : AllRise K

no_making : (m : Option ℕ) (k : ℕ) → m ≡ None → m ≡ Some k → (P : Type 0) → P
no_making m k e f P = absurd (grind arith)

-- what is known where a dialog's last reply comes
pub ends_of : (w : World) (k : ℕ) → Facts w → Ends w.client k
ends_of w k f =
    record {
      bound = λ e. f.fit.stages k (ap is_bound e);
      dead = λ e. dead e (w.client.live) refl;
    }
  where
    dead : w.client.stage k ≡ AskedTree → (b : Bool) → w.client.live ≡ b → w.client.live ≡ false
    dead e true l = no_making w.client.making k (f.live_alone l) (f.making k (ap makes_session e)) _
    dead e false l = l
