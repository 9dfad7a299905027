use Rattle.std.proofs.Common.{refl, ap}
use Rattle.std.proofs.Common.{Bool}
use Rattle.client_book.specs.Steps.{shared_of}
use Rattle.client_book.proofs.book.ClientBook.open.Goals as goal

pub returns-clause-client : goal.returns-clause-client
returns-clause-client c = record { client = refl; salt = refl; stopped = refl }

pub returns-clause-shared : goal.returns-clause-shared
returns-clause-shared c = ap (λ (b : Bool). record (shared_of c.args.self.now) { opened = b }) c.either-self.ensures
