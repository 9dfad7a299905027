use Rattle.std.proofs.Common.{ap, ◌∙◌, take}
use Rattle.client_tables.proofs.opens.Longer.{cut_back, goes_back}
use Rattle.client_tables.proofs.opens.noting.note.Goals as goal

pub returns-in-Err-clause-kept : goal.returns-in-Err-clause-kept
returns-in-Err-clause-kept c = c.truncate.ensures.items ∙ ap (λ i. take i c.list_and_cover.new.holders.items) c.length_of-begin.ensures
    ∙ cut_back c.args.holders.now.items c.list_and_cover.new.holders.items c.list_and_cover.ensures.goes

pub returns-in-Err-clause-goes : goal.returns-in-Err-clause-goes
returns-in-Err-clause-goes c = goes_back c.args.holders.now.items c.truncate.new.self.items
    (c.truncate.ensures.items ∙ ap (λ i. take i c.list_and_cover.new.holders.items) c.length_of-begin.ensures
    ∙ cut_back c.args.holders.now.items c.list_and_cover.new.holders.items c.list_and_cover.ensures.goes)
