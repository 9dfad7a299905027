-- A client as a whole: what it keeps among its parts, and what they show of a client of the model.
use Rattle.std.specs.Prelude.{ℕ, List}
use Rattle.spec_exchange.specs.Client.{Client}
use Rattle.client_tables.specs.declared.opens.opening.Open.{Open}
use Rattle.client_tables.specs.declared.choice.finding.Attached.{Attached}
use Rattle.client_tables.specs.declared.whole_table.parts.Table.{Table}
use Rattle.client_tables.specs.declared.attached_opens.opened.Opened.{Opened}
use Rattle.client_steps.specs.unsent.Ascending.{Ascends}
use Rattle.client_steps.specs.submitting.Whole.{FitsWhole, ShowsWhole}
use Rattle.client_steps.specs.declared.whole_client.client.Client.{Client as Core}

-- whatever client of the model it shows: table and opens, and by operation the next higher one of its open
pub record FitsAll (t : Table) (own : List Attached) (infos : List Opened) (tops : List Open) (up : List ℕ) : Type 0 where
  pub whole : FitsWhole t own infos tops
  pub later : Ascends t.rows.items up

abbrev pub FitsClient : Core → Type 0
FitsClient x = FitsAll x.table x.attached.items x.opened.items x.marks.items x.later.items

abbrev pub ShowsClient : Core → Client → Type 0
ShowsClient x c = ShowsWhole x.table x.attached.items x.opened.items x.marks.items c
