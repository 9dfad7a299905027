use Rattle.std.proofs.Common.{ℕ, Option, subst}
use Rattle.store_opens.specs.open_table.Changes.{closed_in}
use Rattle.store_opens.specs.open_table.Shown.{ShowsOpens}
use Rattle.server_effects.proofs.Closes.{closed_tables}
use Rattle.server_effects.proofs.closing.shut.Goals as goal

pub returns-clause-shows : goal.returns-clause-shows
returns-clause-shows c = λ s x f h st e. closed_tables c.args.t.now c.close.new.self s c.args.id x (s.opened c.args.id).create_guid h
    (subst (λ (o : Option ℕ). ShowsOpens c.close.new.self (closed_in s c.args.id o)) e (c.close.ensures.shows s f h.opens st))
