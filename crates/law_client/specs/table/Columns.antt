-- What a client's table holds of each operation, as tests: those that never change, and those that events change.
use Rattle.std.specs.Prelude.{◌≡◌, ℕ, ◌<◌, ◌≤◌, Bool, true, false, is_some}
use Rattle.spec_exchange.specs.Operations.{is_create, is_ok, is_unsettled, persists, holds_up}
use Rattle.spec_exchange.specs.Client.{Client, create_for, is_gone}

-- what was taken
pub record Ops : Type 0 where
  pub taken : ℕ
  pub create : ℕ → Bool  -- it is a create
  pub of : ℕ → ℕ  -- the create whose open it is on; a create is on its own
  pub holds : ℕ → ℕ → Bool  -- of one open, the second waits for the first
  pub persist : ℕ → Bool

-- how it stands
pub record Standing : Type 0 where
  pub unsettled : ℕ → Bool
  pub ok : ℕ → Bool
  pub sent : ℕ → Bool  -- it went out itself
  pub out : ℕ → Bool  -- it, or a request to attach in its place, is outstanding
  pub gone : ℕ → Bool  -- of a create: it gives no open any more
  pub live : Bool

abbrev pub ops_of : Client → Ops
ops_of c = record {
  taken = c.taken;
  create = λ g. is_create (c.op g);
  of = λ g. create_for c g;
  holds = λ h g. holds_up (c.op h) (c.op g);
  persist = λ g. persists (c.op g);
}

abbrev pub standing_of : Client → Standing
standing_of c =
    record {
      unsettled = λ g. is_unsettled (c.outcome g);
      ok = λ g. is_ok (c.outcome g);
      sent = c.sent;
      out = λ g. is_some (c.outstanding_on g);
      gone = λ x. is_gone c x;
      live = c.live;
    }

-- each lower one of its open that holds it up is settled
abbrev pub IsClientFirst : Ops → Standing → ℕ → Type 0
IsClientFirst o s g = (h : ℕ) → 0 < h → h < g → o.of h ≡ o.of g → o.holds h g ≡ true → s.unsettled h ≡ false

-- all of an open are settled
abbrev pub ClientAllSettled : Ops → Standing → ℕ → Type 0
ClientAllSettled o s x = (g : ℕ) → 0 < g → g ≤ o.taken → o.create g ≡ false → o.of g ≡ x → s.unsettled g ≡ false
