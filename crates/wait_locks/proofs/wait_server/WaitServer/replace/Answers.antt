use Rattle.std.proofs.Common.{Some, ap, map, slice_set, sym, ◌+◌, ◌∙◌}
use Rattle.law_waiting.specs.wait_steps.WaitStep as waits
use Rattle.wait_locks.proofs.Sends.{index_any, told_behind}
use Rattle.wait_locks.specs.Kept.{kept_message, waiter_of}
use Rattle.wait_locks.proofs.wait_server.WaitServer.replace.Goals as goal

pub returns-clause-lists : goal.returns-clause-lists
returns-clause-lists g c = λ w d e i p.
    let ws = c.args.self.now.waiters.items in let k = c.args.waiter.now in let id = c.args.self.now.ids_given + 1 in
    record {
      waiters = ap (λ z. map waiter_of (slice_set ws c.args.place z)) c.with_id-new.ensures ∙ sym (p id)
          ∙ ap (λ us. waits.in_place (waiter_of (record k { async_id = id })) us) e
          ∙ ap (λ n. waits.in_place (record { message = kept_message k; async_id = n + 1 }) w.waiters) i;
      ids_given = ap (λ n. n + 1) i;
      own = ap Some
          (c.pending_to.ensures.response ∙ ap (λ z. waits.pending_to (waiter_of z)) c.with_id-new.ensures
          ∙ ap (λ n. waits.pending_to (record { message = kept_message k; async_id = n + 1 })) i);
      alone = c.pending_to.ensures.alone;
      finals = told_behind c.args.finals.now.items _ c.cancelled_to.result _ c.push_reserved.ensures.items
          (c.cancelled_to.ensures
          ∙ ap (λ z. waits.cancelled_to (waiter_of z)) (c.index.ensures ∙ index_any ws c.args.place c.requires.1 c.index.result.now d));
    }
