use Rattle.client_rows.specs.operation_rows.Rows.{row_at}
use Rattle.client_steps.proofs.whole_client.Higher.{create_of_kind}
use Rattle.client_steps.proofs.whole_client.client.Client.take.Goals as goal

pub take_other-requires : goal.take_other-requires
take_other-requires c =
    let create = c.in-Some.create in
    let w = c.requires.made c.in-Some.ensures.0 create c.in-Some.ensures.1 in
    record {
      fits = c.requires.fits;
      few = c.requires.few;
      room = c.requires.room;
      later = c.requires.later;
      limits = c.requires.limits;
      above = w.0;
      within = w.1;
      made = create_of_kind (row_at c.args.self.now.table.rows.items create).kind w.2;
      other = c.in-Some.ensures.0;
      names = c.in-Some.ensures.1;
    }

pub take_create-requires : goal.take_create-requires
take_create-requires c =
    record {
      fits = c.requires.fits;
      some = c.requires.some;
      few = c.requires.few;
      room = c.requires.room;
      later = c.requires.later;
      limits = c.requires.limits;
      made = c.in-None.ensures;
    }

pub returns-in-Some : goal.returns-in-Some
returns-in-Some c =
    let e = c.take_other.ensures in
    record { fits = e.fits; shown = e.shown; kept = e.kept }

pub returns-in-None : goal.returns-in-None
returns-in-None c =
    let e = c.take_create.ensures in
    record { fits = e.fits; shown = e.shown; kept = e.kept }
