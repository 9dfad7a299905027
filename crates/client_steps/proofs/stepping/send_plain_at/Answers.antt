use Rattle.std.proofs.Common.{sym, ◌∙◌}
use Rattle.client_steps.proofs.stepping.send_plain_at.Goals as goal

pub returns-then-was_sent : goal.returns-then-was_sent
returns-then-was_sent c =
    let e = c.send_again_at.ensures in
    record {
      fits = e.fits;
      session = e.session;
      place = e.place;
      shown = λ d slot s lock. e.shown d slot s lock (s.rows.sends.sent_is c.args.index ∙ sym c.was_sent.ensures ∙ c.if-was_sent.true);
    }

pub returns : goal.returns
returns c =
    let e = c.send_first_at.ensures in
    record {
      fits = e.fits;
      session = e.session;
      place = e.place;
      shown = λ d slot s lock. e.shown d slot s lock (s.rows.sends.sent_is c.args.index ∙ sym c.was_sent.ensures ∙ c.if-was_sent.false);
    }
