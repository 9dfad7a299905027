use Rattle.std.proofs.Common.{ap}
use Rattle.spec_exchange.specs.State as model
use Rattle.server_effects.proofs.expiry.Behind.{gone_parts, gone_files, goes_so, back_at}
use Rattle.server_effects.proofs.expiry.expiry.take_file.Goals as goal

pub returns-in-Ok-clause-shows : goal.returns-in-Ok-clause-shows
returns-in-Ok-clause-shows c = λ s o f st none k opens files undated w less.
    let g = goes_so s o c.args.fate c.goes.result c.goes.ensures w in
    let e = ap (λ (r : model.Open). r.file) k.row_is.1.opened_is in
    let d = gone_files _ s o c.goes.result c.in-Ok.gone c.args.taken.row.file g e
    (c.in-Ok.ensures s files (gone_parts s o c.goes.result _ f st g e)) in
    c.expire_taken.ensures.shows s o f st k opens d.1 d.0 undated w c.requires.room less

pub returns-in-Err-clause-shows : goal.returns-in-Err-clause-shows
returns-in-Err-clause-shows c = λ s o f st none k opens files undated w less.
    let g = goes_so s o c.args.fate c.goes.result c.goes.ensures w in
    let e = ap (λ (r : model.Open). r.file) k.row_is.1.opened_is in (
      back_at _ _ s o c.args.taken f k opens st none undated c.put_back.ensures,
      c.in-Err.ensures s files (gone_parts s o c.goes.result _ f st g e),
    )

pub returns-in-Ok-clause-back : goal.returns-in-Ok-clause-back
returns-in-Ok-clause-back c = c.expire_taken.ensures.room c.requires.room
