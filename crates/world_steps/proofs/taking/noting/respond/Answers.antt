use Rattle.std.proofs.Common.{ℕ, nat_lt, length, sym, ap, ◌∙◌, subst}
use Rattle.client_events.specs.declared.event_calls.steps.Act.{Act}
use Rattle.world_steps.proofs.Refusing.{result_with}
use Rattle.world_steps.specs.taking.Replies.{Responds}
use Rattle.world_steps.proofs.taking.noting.respond.Goals as goal

pub returns-in-Ok : goal.returns-in-Ok
returns-in-Ok c =
    let before = c.settled_in-before in
    let behind = c.settled_in-behind in
    result_with c.noted.result
    (λ act is. record {
      responds = subst (λ (v : Act). Responds c.args.client.now c.args.k c.args.response.now.number c.args.response.now.asking
          c.args.reply.status c.args.reply.body v c.tell.new.client) (sym is.0) c.in-Ok.ensures;
      settles = nat_lt before.result behind.result;
      grows = λ d e shown shows. sym (ap (λ (n : ℕ). nat_lt n behind.result) (before.ensures d shown))
          ∙ sym (ap (λ (n : ℕ). nat_lt (length d.order) n) (behind.ensures e shows));
      notes = is.1;
    }) c.noted.ensures
