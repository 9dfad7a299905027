use Rattle.std.proofs.Common.{inr, refl}
use Rattle.client_book.proofs.book.ClientBook.tell.Goals as goal

pub returns-in-Nothing : goal.returns-in-Nothing
returns-in-Nothing c = rw c.in-Nothing.is (inr (refl, refl))

pub returns-in-CloseChannel : goal.returns-in-CloseChannel
returns-in-CloseChannel c = rw c.in-CloseChannel.is (inr (refl, refl))

pub returns-in-CloseChannels : goal.returns-in-CloseChannels
returns-in-CloseChannels c = rw c.in-CloseChannels.is (inr (refl, refl))

pub returns-in-AllSettled : goal.returns-in-AllSettled
returns-in-AllSettled c = rw c.in-AllSettled.is (inr (refl, refl))

pub returns-in-Sends : goal.returns-in-Sends
returns-in-Sends c = rw c.in-Sends.is c.send.ensures

pub returns-in-Asks : goal.returns-in-Asks
returns-in-Asks c = rw c.in-Asks.is c.send-in-Asks.ensures
