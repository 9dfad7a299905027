use Rattle.std.proofs.Common.{ℕ, ◌<◌, ◌≤◌, inl, inr, arith}
use Rattle.spec_exchange.specs.Operations.{is_create}
use Rattle.spec_exchange.specs.Client.{Client, create_for}
use Rattle.law_client.specs.table.Kept.{TableKept}
use Rattle.law_client.proofs.table.Moves.{true_or_false}
use Rattle.law_client.proofs.table.Waiting.{first_waits}
use Rattle.law_client.proofs.table.settled_law.Goals as goal

its_create : (c : Client) (g : ℕ) → TableKept c → 0 < g → g ≤ c.taken → 0 < create_for c g
its_create c g i above within =
    elim (true_or_false (is_create (c.op g))) as (λ _. 0 < create_for c g) [
      | inl e ↦ (let q = i.ordered.itself g e in omega arith)
      | inr e ↦ (i.ordered.owned g above within e).0
    ]

pub returns : goal.returns
returns s = λ c g i above within h. first_waits c g i.ordered (its_create c g i above within) (i.stands.settled_first g above within h)
