use Rattle.std.proofs.Common.{[]}
use Rattle.law_wire.proofs.messages.Streams.{one_list, whole_stays, refusal_stays, frame_again, cut_from}
use Rattle.law_wire.proofs.messages.frames.frames_law.Goals as goal

pub returns-clause-one : goal.returns-clause-one
returns-clause-one c = one_list

pub returns-clause-stays : goal.returns-clause-stays
returns-clause-stays c = whole_stays

pub returns-clause-refused : goal.returns-clause-refused
returns-clause-refused c = refusal_stays

pub returns-clause-again : goal.returns-clause-again
returns-clause-again c = frame_again

pub returns-clause-cut : goal.returns-clause-cut
returns-clause-cut c = λ cs left calls. cut_from cs [] left calls
