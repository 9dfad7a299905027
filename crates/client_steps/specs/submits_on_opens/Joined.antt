-- An operation that comes onto an open that there is.
use Rattle.std.specs.Prelude.{◌≡◌, ℕ, true, false, length}
use Rattle.spec_exchange.specs.Operations.{Op, create_of, is_create, persists}
use Rattle.spec_exchange.specs.Client.{Client}
use Rattle.law_client.specs.table.Kept.{TableKept}
use Rattle.client_tables.specs.declared.choice.finding.Attached.{Attached}
use Rattle.client_tables.specs.declared.opens.opening.Open.{Open}
use Rattle.client_tables.specs.declared.whole_table.parts.Table.{Table}
use Rattle.client_tables.specs.whole_table.Shown.{ShowsTable}
use Rattle.client_tables.specs.declared.attached_opens.opened.Opened.{Opened}
use Rattle.client_steps.specs.submits_on_opens.Keeping.{SubmitKeeps}

-- the open of a create that was taken, as the client has it
pub record SubmitJoins (t : Table) (own : Attached) (known : Opened) (mark : Open) (c : Client) (create : ℕ) (op : Op) : Type 0 where
  pub shown : ShowsTable t c
  pub kept : TableKept c
  pub made : is_create (c.op create) ≡ true
  pub other : is_create op ≡ false
  pub names : (g : ℕ) → create_of g op ≡ create
  pub session : c.attached create ≡ own.session
  pub shut : c.closed_ok create ≡ known.shut
  pub persist : persists (c.op create) ≡ known.persist
  pub marked : SubmitKeeps t.rows.items (length t.rows.items) c.op create mark
