use Rattle.spec_exchange.specs.Client.{Client}
use Rattle.spec_exchange.specs.ClientStep.{cut_after}
use Rattle.client_tables.specs.attached_opens.Known.{ShowsOpened}
use Rattle.client_tables.specs.attached_opens.Opens.{ShowsAttached}
use Rattle.client_steps.specs.submitting.Marked.{ShowsMarks}
use Rattle.client_steps.proofs.whole_client.Around.{cut_any, fits_around, shows_around}
use Rattle.client_steps.proofs.whole_client.client.Client.cut.Goals as goal

pub cut-requires : goal.cut-requires
cut-requires c = record { fits = c.requires.fits.whole.table }

pub returns : goal.returns
returns c =
    let x = c.args.self.now in
    let t = x.table in
    let rows = t.rows.items in
    let u = c.cut.new.table in
    let e = c.cut.ensures in
    let k = c.args.channel in
    record {
      fits = fits_around t u x.attached.items x.opened.items x.marks.items e.places x.later.items e.fits c.requires.fits;
      shown = λ d s kept. shows_around t u x.attached.items x.opened.items x.marks.items e.places (cut_after d k) (e.shown d s.table kept)
          (cut_any (λ (w : Client). ShowsAttached rows x.attached.items w) d k s.attached s.attached s.attached)
          (cut_any (λ (w : Client). ShowsOpened rows x.opened.items w) d k s.opened s.opened s.opened)
          (cut_any (λ (w : Client). ShowsMarks rows x.marks.items w.op) d k s.marked s.marked s.marked);
      told = λ d s. e.told d s.table;
    }
