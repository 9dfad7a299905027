use Rattle.std.proofs.Common.{None, sym, refl, ◌∙◌}
use Rattle.conn_core.proofs.frame_messages.Headers.{true_is_not_false, headless}
use Rattle.conn_core.proofs.frame_messages.Ones.{one_goes, one_ends}
use Rattle.conn_core.proofs.frame_messages.checking.check_one.Goals as goal

pub returns-in-Err-clause-turn : goal.returns-in-Err-clause-turn
returns-in-Err-clause-turn c = λ k guid f s.
    absurd (true_is_not_false (sym c.requires.long ∙ headless c.args.message.now c.in-Err.field-0 c.in-Err.ensures))

pub returns-in-Ok-admit-clause-turn : goal.returns-in-Ok-admit-clause-turn
returns-in-Ok-admit-clause-turn c = λ k guid f s.
    one_goes k guid c.in-Ok.header c.args.message.now f c.args.place.sealed c.args.place.barred c.args.place.first c.admit.new.conn
    c.args.span (record {
      header = c.in-Ok.header;
      related = c.is_related-related.result;
      fault = c.fault_of-fault.result;
      fails = None;
      span = c.args.span;
    }) tt c.in-Ok.ensures (c.in-Ok-admit.ensures.admits k guid f s) refl c.is_related-related.ensures
    (c.fault_of-fault.ensures.fault k guid f s) refl refl

pub returns-in-Err-admit-clause-turn : goal.returns-in-Err-admit-clause-turn
returns-in-Err-admit-clause-turn c = λ k guid f s.
    one_ends k guid c.in-Ok.header c.args.message.now f c.args.place.sealed c.args.place.barred c.args.place.first c.admit.new.conn
    c.args.span c.in-Err-admit.cause c.in-Ok.ensures (c.in-Err-admit.ensures.admits k guid f s)
