-- A client's table with its opens: what they keep among themselves, and what they show.
use Rattle.std.specs.Prelude.{◌≡◌, ℕ, ◌<◌, List, length}
use Rattle.spec_exchange.specs.Client.{Client}
use Rattle.client_values.specs.declared.operations.shapes.Kind.TheVariants as kinds
use Rattle.client_rows.specs.operation_rows.Rows.{kind, owner}
use Rattle.client_tables.specs.declared.choice.finding.Attached.{Attached}
use Rattle.client_tables.specs.declared.opens.opening.Open.{Open}
use Rattle.client_tables.specs.declared.whole_table.parts.Table.{Table}
use Rattle.client_tables.specs.whole_table.Shown.{TableFits, ShowsTable}
use Rattle.client_tables.specs.declared.attached_opens.opened.Opened.{Opened}
use Rattle.client_tables.specs.attached_opens.Known.{ShowsOpened}
use Rattle.client_tables.specs.attached_opens.Opens.{FitsOpens, ShowsAttached}
use Rattle.client_steps.specs.submitting.Marked.{FitsMarks, ShowsMarks}

pub record FitsWhole (t : Table) (attached : List Attached) (opened : List Opened) (marks : List Open) : Type 0 where
  pub table : TableFits t
  pub opens : FitsOpens t.rows.items attached
  pub marked : FitsMarks t.rows.items marks
  pub known : length opened ≡ length attached
  pub counted : length marks ≡ length attached
  -- a create is on its own open
  pub homes : (g : ℕ) → 0 < g → g < length t.rows.items → kind t.rows.items g ≡ kinds.Create → owner t.rows.items g ≡ g

pub record ShowsWhole (t : Table) (opens : List Attached) (known : List Opened) (marks : List Open) (c : Client) : Type 0 where
  pub table : ShowsTable t c
  pub attached : ShowsAttached t.rows.items opens c
  pub opened : ShowsOpened t.rows.items known c
  pub marked : ShowsMarks t.rows.items marks c.op
