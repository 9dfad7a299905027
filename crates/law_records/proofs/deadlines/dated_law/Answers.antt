use Rattle.spec_exchange.specs.Step.{with_deadlines}
use Rattle.law_server.proofs.tables.SessionEffects.{deadlines_keeps}
use Rattle.law_records.proofs.deadlines.Checks.{checked, ruled}
use Rattle.law_records.proofs.deadlines.Expired.{expired, front}
use Rattle.law_records.proofs.deadlines.Records.{owing}
use Rattle.law_records.proofs.deadlines.Replies.{acted, told}
use Rattle.law_records.proofs.deadlines.dated_law.Goals as goal

pub returns : goal.returns
returns c = record {
  checks = λ s now m. checked s (with_deadlines s now).deadline m;
  ruled = λ s now e. ruled s (with_deadlines s now).deadline e;
  owed = λ s now r. owing s (with_deadlines s now).deadline now r;
  told = λ s now r. told s (with_deadlines s now).deadline now r;
  acted = λ s now r. acted s (with_deadlines s now).deadline now r;
  front = λ s now g o. front s (with_deadlines s now).deadline g o;
  expired = expired;
  fits = deadlines_keeps;
}
