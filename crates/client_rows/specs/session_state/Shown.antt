-- What a session of the code shows of a client of the model: an equation for each column of its session and its channels.
-- All other columns are free.
use Rattle.std.specs.Prelude.{◌≡◌, ℕ, ◌≤◌, Bool, false, if◌then◌else◌, length, slice_index_or}
use Rattle.std.specs.List.{sum_by}
use Rattle.client_rows.specs.declared.session_state.session.Session.{Session}
use Rattle.client_rows.specs.declared.session_state.session.Cut.{Cut}
use Rattle.client_rows.specs.declared.session_state.session.Cut.TheVariants as cuts
use Rattle.spec_exchange.specs.Client.{Client, ends_at_cut}

-- 1 where it is ready
abbrev pub one : Bool → ℕ
one ready = if ready then 1 else 0

-- a channel is ready; none from 256 on is
abbrev pub ready_at : Session → ℕ → Bool
ready_at s k = slice_index_or s.ready k false

pub record ClientShowsSession (s : Session) (c : Client) : Type 0 where
  pub live : c.live ≡ s.live
  pub session : c.session ≡ s.id
  pub number : c.session_number ≡ s.number
  pub tree : c.tree ≡ s.tree
  pub sequence : c.sequence ≡ s.sequence
  pub channels : c.channels ≡ s.channels
  pub ready : (k : ℕ) → c.ready k ≡ ready_at s k
  -- the ready ones are counted, and there are none without a session
  pub counted : sum_by one s.ready ≡ s.channels
  pub apart : s.live ≡ false → s.channels ≡ 0
  pub sized : length s.ready ≡ 256
  pub within : s.sequence ≤ 32767

-- what a cut of a channel comes to
abbrev pub cut_told : Client → ℕ → Cut
cut_told c k = if c.ready k then (if ends_at_cut c then cuts.Ends else cuts.Lost) else cuts.Nothing
