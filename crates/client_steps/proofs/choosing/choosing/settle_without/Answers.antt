use Rattle.std.proofs.Common.{sym, ap, ◌∙◌, subst}
use Rattle.spec_exchange.specs.Table.{put}
use Rattle.spec_exchange.specs.Operations.{NoSlot}
use Rattle.spec_exchange.specs.Client.{Client}
use Rattle.client_tables.proofs.pushes.Picked.{first_so, no_slot_put}
use Rattle.client_tables.specs.whole_table.Shown.{ShowsTable}
use Rattle.client_tables.proofs.attached_opens.Kept.{places_goes}
use Rattle.client_steps.proofs.choosing.choosing.settle_without.Goals as goal

pub returns : goal.returns
returns c =
    let t = c.args.table.now in
    let x = c.args.index in
    let e = c.settle.ensures in
    let u = c.settle.new.self in
    record {
      fits = e.fits;
      session = e.session;
      places = places_goes t.rows.items u.rows.items e.settles;
      shown = λ d k s l. (
          let a = s.rows.places.is_taken x c.requires.above c.requires.within in
          let q = c.create_of-create.ensures ∙ sym (s.rows.places.creates x c.requires.above a) in
          subst (λ (z : Client). ShowsTable u z)
          (ap (λ y. record d { outcome = put d.outcome x (NoSlot y) }) q ∙ sym (no_slot_put d k x l))
          (e.shown d s (first_so d k x l))
          );
    }
