use Rattle.std.proofs.Common.{inr, ◌∙◌}
use Rattle.client_book.proofs.Began.{fails_few, fails_last}
use Rattle.client_book.proofs.book.ClientBook.fail.Goals as goal

pub give_up-requires : goal.give_up-requires
give_up-requires c = c.count_failed.ensures.client.stopped ∙ c.requires

pub returns-then-few : goal.returns-then-few
returns-then-few c =
    inr (fails_few c.args.self.now c.count_failed.new.self c.args.channel c.count_failed.ensures.shared c.requires
    c.count_failed.ensures.client c.if-few.true)

pub returns : goal.returns
returns c =
    fails_last c.args.self.now c.count_failed.new.self c.args.channel c.count_failed.ensures.shared c.give_up.new.self c.give_up.result
    c.count_failed.ensures.client c.if-few.false c.give_up.ensures
