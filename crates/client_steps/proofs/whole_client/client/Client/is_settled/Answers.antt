use Rattle.client_steps.proofs.whole_client.Around.{fits_around, same_places, shows_around}
use Rattle.client_steps.proofs.whole_client.client.Client.is_settled.Goals as goal

pub is_settled-requires : goal.is_settled-requires
is_settled-requires c = record { fits = c.requires.fits.whole.table }

pub returns : goal.returns
returns c =
    let x = c.args.self.now in
    let t = x.table in
    let u = c.is_settled.new.self in
    let e = c.is_settled.ensures in
    let m = same_places t.rows.items u.rows.items (λ i. (e.rows i).items) in
    record {
      fits = fits_around t u x.attached.items x.opened.items x.marks.items m x.later.items e.fits c.requires.fits;
      shown = λ d s. shows_around t u x.attached.items x.opened.items x.marks.items m d (e.shown d s.table) s.attached s.opened s.marked;
      told = λ d s. e.told d s.table;
    }
