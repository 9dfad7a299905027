use Rattle.std.proofs.Common.{ap, ◌∙◌}
use Rattle.spec_exchange.specs.Texts.{utf16_length}
use Rattle.spec_exchange.specs.Listing.{entry_part}
use Rattle.store_files.proofs.file_tree.Listings.{too_long, not_long, ends_at}
use Rattle.store_files.proofs.file_tree.list.end_in.Goals as goal

pub returns-then-begin-size : goal.returns-then-begin-size
returns-then-begin-size c =
    let u = c.units.ensures ∙ ap utf16_length c.as_bytes.ensures.value in
    let p = c.entry_part.ensures.is in
    let t = c.if-begin-size.true in
    too_long c.args.at (entry_part c.args.class) (utf16_length c.args.name.now) c.args.room (rw (p, u) at t)

pub returns : goal.returns
returns c =
    let u = c.units.ensures ∙ ap utf16_length c.as_bytes.ensures.value in
    let p = c.entry_part.ensures.is in (
      rw (p, u) (ends_at c.args.at (entry_part c.args.class) (utf16_length c.args.name.now)),
      not_long c.args.at (entry_part c.args.class) (utf16_length c.args.name.now) c.args.room (rw (p, u) at c.if-begin-size.false),
    )
