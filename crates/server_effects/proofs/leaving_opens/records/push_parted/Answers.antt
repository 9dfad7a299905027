use Rattle.std.proofs.Common.{sym}
use Rattle.std.proofs.lemmas.List.{append-nil}
use Rattle.server_effects.proofs.leaving_opens.records.push_parted.Goals as goal

pub returns-in-Stays : goal.returns-in-Stays
returns-in-Stays c = rw c.in-Stays.is (sym (append-nil _))

pub returns-in-Unmarked : goal.returns-in-Unmarked
returns-in-Unmarked c = rw c.in-Unmarked.is c.push_record.ensures

pub returns-in-Goes : goal.returns-in-Goes
returns-in-Goes c = rw c.in-Goes.is c.push_record-in-Goes.ensures
