use Rattle.std.proofs.Common.{map, ap, sym, ◌∙◌}
use Rattle.spec_exchange.specs.Verdict.{TurnDown}
use Rattle.store_files.specs.file_tree.Listed.{model_named}
use Rattle.server_checks.proofs.Listings.{none_listed}
use Rattle.server_checks.proofs.check_open.listing_of.Goals as goal

pub returns-then-listed : goal.returns-then-listed
returns-then-listed c = λ k last all g y. c.show.ensures k last all (sym y ∙ c.if-listed.true)

pub returns : goal.returns
returns c = λ k last all g y. c.turn_down.ensures k
    ∙ (ap (TurnDown c.args.id) (c.none_wanted.ensures last g)
    ∙ none_listed c.args.id c.args.class last all (map model_named c.args.listed.entries.items) (sym y ∙ c.if-listed.false))
