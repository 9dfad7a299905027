use Rattle.server_effects.proofs.Closes.{kept_tables, gone_tables, left_tables}
use Rattle.server_effects.proofs.Parted.{kept_of, gone_of, stays_of}
use Rattle.server_effects.proofs.closing.part.Goals as goal

pub returns-in-Stays-clause-shows : goal.returns-in-Stays-clause-shows
returns-in-Stays-clause-shows c = λ s h x.
    let e = stays_of _ _ (c.in-Stays.ensures s h x) in left_tables c.args.t.now s c.args.file e.0 e.1 h

pub returns-in-Unmarked-clause-shows : goal.returns-in-Unmarked-clause-shows
returns-in-Unmarked-clause-shows c = λ s h x.
    kept_tables c.args.t.now c.mark.new.self s c.args.file (kept_of _ _ (c.in-Unmarked.ensures s h x)) h (c.mark.ensures.shown s h.files)

pub returns-in-Goes-clause-shows : goal.returns-in-Goes-clause-shows
returns-in-Goes-clause-shows c = λ s h x.
    let e = gone_of _ _ (c.in-Goes.ensures s h x) in
    gone_tables c.remove.new.t s c.args.file e.0 e.1 (c.remove.ensures.shows s h x e.1)
