use Rattle.std.proofs.Common.{◌<◌, length, sym, subst}
use Rattle.client_steps.proofs.sent_requests.requests.create_at.Goals as goal

pub returns : goal.returns
returns c =
    let e = c.owner_of-create.ensures in
    let o = c.requires.fits.owned c.args.index c.requires.above c.requires.within in
    record {
      is = e;
      above = subst (λ y. 0 < y) (sym e) o.0;
      within = subst (λ y. y < length c.args.table.now.rows.items) (sym e) o.1;
    }
