-- What holds of the client's dialogs, its ready channels and their numbers in every world over bytes that a run leads to.
use Rattle.std.specs.Prelude.{◌≡◌, ℕ, ◌≤◌, Bool, true, false, not, List, Some}
use Rattle.spec_exchange.specs.Client.{Stage, Apart, SaidNegotiate, SaidFirst, SaidSecond, AskedTree}
use Rattle.spec_world.specs.Settings.{WorldSettings}
use Rattle.spec_world.specs.World.{World}
use Rattle.spec_world.specs.Events.{ByteEvent, bytes_run, bytes_start}
use Rattle.spec_world.specs.Statements.{AcceptedIsKept}

-- a dialog that makes a new session
abbrev pub makes_new : Stage → Bool
makes_new Apart = false
makes_new (SaidNegotiate bound) = not bound
makes_new (SaidFirst bound) = not bound
makes_new (SaidSecond bound) = not bound
makes_new AskedTree = true

-- a dialog that binds a further channel
abbrev pub binds : Stage → Bool
binds Apart = false
binds (SaidNegotiate bound) = bound
binds (SaidFirst bound) = bound
binds (SaidSecond bound) = bound
binds AskedTree = false

pub record Counted (w : World) : Type 0 where
  -- one new session is in the making at most, while none is live; and while none is live no channel is ready or bound
  pub making : (k : ℕ) → makes_new (w.values.client.stage k) ≡ true → w.values.client.making ≡ Some k
  pub not_live : (k : ℕ) → w.values.client.making ≡ Some k → w.values.client.live ≡ false
  pub none_ready : w.values.client.live ≡ false → (k : ℕ) → w.values.client.ready k ≡ false
  pub none_binds : w.values.client.live ≡ false → (k : ℕ) → binds (w.values.client.stage k) ≡ false
  -- a ready channel's dialog is over, and its end is open
  pub apart : (k : ℕ) → w.values.client.ready k ≡ true → (w.values.client.stage k ≡ Apart) × ((w.values.conns k).client_open ≡ true)
  pub stages : (k : ℕ) → (w.values.conns k).client_open ≡ true → (w.wires k).client_end.stage ≡ w.values.client.stage k
  -- numbers
  pub given : (k : ℕ) → w.values.client.ready k ≡ true → (w.wires k).client_end.channel ≤ w.numbers
  pub own :
      (j k : ℕ) → w.values.client.ready j ≡ true → w.values.client.ready k ≡ true →
      (w.wires j).client_end.channel ≡ (w.wires k).client_end.channel → j ≡ k
  -- of a new session whose TREE_CONNECT was asked
  pub asked : (k : ℕ) → w.values.client.stage k ≡ AskedTree → ((w.wires k).client_end.channel ≡ 1) × (w.numbers ≡ 1)

-- over every run, tampered with or not
abbrev pub AcceptedIsAlwaysKept : Type 0
AcceptedIsAlwaysKept = (z : WorldSettings) (events : List ByteEvent) → AcceptedIsKept (bytes_run z events (bytes_start z))
