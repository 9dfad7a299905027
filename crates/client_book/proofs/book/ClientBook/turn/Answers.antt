use Rattle.std.proofs.Common.{inl, inr}
use Rattle.client_book.proofs.book.ClientBook.turn.Goals as goal

pub returns-in-Submit : goal.returns-in-Submit
returns-in-Submit c = rw c.in-Submit.is c.take.ensures

pub returns-in-Begin : goal.returns-in-Begin
returns-in-Begin c = rw c.in-Begin.is (inr c.begin.ensures)

pub returns-in-Failed : goal.returns-in-Failed
returns-in-Failed c = rw c.in-Failed.is c.fail.ensures

pub returns-in-Accept : goal.returns-in-Accept
returns-in-Accept c = rw c.in-Accept.is (inr c.accept.ensures)

pub returns-in-Ready : goal.returns-in-Ready
returns-in-Ready c = rw c.in-Ready.is c.ready.ensures

pub returns-in-Refused : goal.returns-in-Refused
returns-in-Refused c = rw c.in-Refused.is c.refused.ensures

pub returns-in-Leave : goal.returns-in-Leave
returns-in-Leave c = rw c.in-Leave.is (inr c.leave.ensures)

pub returns-in-Finish : goal.returns-in-Finish
returns-in-Finish c = rw c.in-Finish.is c.give.ensures

pub returns-in-Push : goal.returns-in-Push
returns-in-Push c = rw c.in-Push.is c.take-in-Push.ensures

pub returns-in-Hear : goal.returns-in-Hear
returns-in-Hear c = rw c.in-Hear.is c.hear.ensures

pub returns-in-Cut : goal.returns-in-Cut
returns-in-Cut c = rw c.in-Cut.is c.take-in-Cut.ensures

pub returns-in-Lack : goal.returns-in-Lack
returns-in-Lack c = rw c.in-Lack.is (inl c.stop.ensures)
