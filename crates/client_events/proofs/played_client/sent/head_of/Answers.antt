use Rattle.std.proofs.Common.{Bool, if◌then◌else◌, sym, subst}
use Rattle.spec_exchange.specs.Client.{ask_message, own_message}
use Rattle.client_steps.specs.sent_requests.Sent.{IsHead}
use Rattle.client_events.proofs.played_client.Coming.{not_taken}
use Rattle.client_events.proofs.played_client.sent.head_of.Goals as goal

pub returns-then-not-has_op-clause-none : goal.returns-then-not-has_op-clause-none
returns-then-not-has_op-clause-none c = λ d s.
    not_taken c.args.client.now d c.args.index s (c.has_op.ensures.none c.if-not-has_op.true)

pub own_head-requires : goal.own_head-requires
own_head-requires c =
    record {
      fits = c.requires.fits.whole.table;
      above = c.has_op.ensures.above c.if-not-has_op.false;
      within = c.has_op.ensures.within c.if-not-has_op.false;
    }

pub returns-then-asking : goal.returns-then-asking
returns-then-asking c =
    let g = c.args.index in
    record {
      message = λ d k id s. subst (λ (b : Bool). IsHead c.ask_head.result (if b then ask_message d k id g else own_message d k id g))
          (sym c.if-asking.true) (c.ask_head.ensures d k id g s.table);
      none = tt;
    }

pub returns : goal.returns
returns c =
    let g = c.args.index in
    record {
      message = λ d k id s. subst (λ (b : Bool). IsHead c.own_head.result (if b then ask_message d k id g else own_message d k id g))
          (sym c.if-asking.false) (c.own_head.ensures d k id s.table);
      none = tt;
    }
