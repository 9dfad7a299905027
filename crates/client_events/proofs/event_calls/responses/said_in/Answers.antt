use Rattle.std.proofs.lemmas.Result.{IfOk-weaker, on_err_weaker}
use Rattle.client_steps.proofs.responses.Heard.{clash}
use Rattle.client_events.proofs.event_calls.responses.said_in.Goals as goal

pub returns-then-asking : goal.returns-then-asking
returns-then-asking c =
    record {
      reads = λ d s e a. absurd (clash c.args.asking c.if-asking.true a);
      lacks = tt;
    }

pub reply_in-requires : goal.reply_in-requires
reply_in-requires c = record { fits = c.requires.fits; above = c.requires.above; within = c.requires.within }

pub returns-then-status-eq0 : goal.returns-then-status-eq0
returns-then-status-eq0 c =
    let e = c.reply_in.ensures in
    record {
      reads = IfOk-weaker c.reply_in.result _ _ (λ v is d s z a. is d s) e.reads;
      lacks = on_err_weaker c.reply_in.result (λ is d s. (c.if-asking.false, c.if-status-eq0.true, is d s)) e.lacks;
    }

pub returns : goal.returns
returns c =
    record {
      reads = λ d s e a. absurd (c.if-status-eq0.false e);
      lacks = tt;
    }
