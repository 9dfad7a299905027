use Rattle.spec_exchange.specs.Client.{finish}
use Rattle.client_values.specs.outcomes.Meaning.{why_of}
use Rattle.client_tables.proofs.attached_opens.Kept.{places_goes}
use Rattle.client_steps.proofs.whole_client.Around.{fits_around, shows_around}
use Rattle.client_steps.proofs.whole_client.client.Client.finish.Goals as goal

pub finish-requires : goal.finish-requires
finish-requires c = record { fits = c.requires.fits.whole.table }

pub returns : goal.returns
returns c =
    let x = c.args.self.now in
    let t = x.table in
    let u = c.finish.new.self in
    let e = c.finish.ensures in
    let m = places_goes t.rows.items u.rows.items e.settles in
    record {
      fits = fits_around t u x.attached.items x.opened.items x.marks.items m x.later.items e.fits c.requires.fits;
      shown = λ d s. shows_around t u x.attached.items x.opened.items x.marks.items m (finish d (why_of c.args.why)) (e.shown d s.table)
          s.attached s.opened s.marked;
    }
