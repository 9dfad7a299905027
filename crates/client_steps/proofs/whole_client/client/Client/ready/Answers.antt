use Rattle.spec_exchange.specs.Client.{Client}
use Rattle.spec_exchange.specs.ClientStep.{ready_after}
use Rattle.client_tables.specs.attached_opens.Known.{ShowsOpened}
use Rattle.client_tables.specs.attached_opens.Opens.{ShowsAttached}
use Rattle.client_steps.specs.submitting.Marked.{ShowsMarks}
use Rattle.client_steps.proofs.whole_client.Around.{fits_around, ready_any, same_places, shows_around}
use Rattle.client_steps.proofs.whole_client.client.Client.ready.Goals as goal

pub ready-requires : goal.ready-requires
ready-requires c = record { fits = c.requires.fits.whole.table; apart = c.requires.apart }

pub returns : goal.returns
returns c =
    let x = c.args.self.now in
    let t = x.table in
    let rows = t.rows.items in
    let u = c.ready.new.self in
    let e = c.ready.ensures in
    let k = c.args.channel in
    let z = c.args.session in
    let y = c.args.tree in
    let m = same_places rows u.rows.items (λ i. (e.rows i).items) in
    record {
      fits = fits_around t u x.attached.items x.opened.items x.marks.items m x.later.items e.fits c.requires.fits;
      shown = λ d s. shows_around t u x.attached.items x.opened.items x.marks.items m (ready_after d k z y) (e.shown d s.table)
          (ready_any (λ (w : Client). ShowsAttached rows x.attached.items w) d k z y s.attached s.attached s.attached)
          (ready_any (λ (w : Client). ShowsOpened rows x.opened.items w) d k z y s.opened s.opened s.opened)
          (ready_any (λ (w : Client). ShowsMarks rows x.marks.items w.op) d k z y s.marked s.marked s.marked);
      told = λ d s. e.told d s.table;
    }
