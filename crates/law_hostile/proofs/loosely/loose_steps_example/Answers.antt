use Rattle.law_hostile.proofs.loosely.Rows.{request_lost, reply_lost, request_ahead, reply_ahead, one_heard, none_moved, none_heard}
use Rattle.law_hostile.proofs.loosely.Rows.{none_answered, badly_heard, badly_denied, session_heard, session_refused, user_refused}
use Rattle.law_hostile.proofs.loosely.loose_steps_example.Goals as goal

pub returns : goal.returns
returns c = record {
  request_lost = request_lost;
  reply_lost = reply_lost;
  request_ahead = request_ahead;
  reply_ahead = reply_ahead;
  heard = one_heard;
  unmoved = none_moved;
  unanswered = none_answered;
  refused = none_heard;
  faulty = badly_heard;
  begun = session_heard;
  other = session_refused;
  user = user_refused;
  denied = badly_denied;
}
