use Rattle.std.proofs.Common.{arith, refl, sym, ◌∙◌}
use Rattle.std.proofs.lemmas.List.{reverse-reverse}
use Rattle.serve_turns.specs.shared_book.Words.{view_of}
use Rattle.client_channels.proofs.channel_threads.Submitting.{none_left, submits_all, submits_more, submits_none}
use Rattle.client_channels.proofs.channel_threads.running.submit_all.Goals as goal

pub loop-kind-init : goal.loop-kind-init
loop-kind-init g c = record {
  same = (refl, refl, refl);
  few = (let few = c.requires.few in let long = c.reverse.ensures.len in omega arith);
  done = refl;
}

pub loop-kind-preserved : goal.loop-kind-preserved
loop-kind-preserved g c =
    let i = c.loop-kind.invariant in
    let same = c.ask.ensures.same in
    let few = i.few in
    let long = c.in-Some.ensures.len in
    record {
      same = (same.0 ∙ i.same.0, same.1 ∙ i.same.1, same.2 ∙ i.same.2);
      few = omega arith;
      done =
          submits_more (view_of c.loop-kind.seat).own (view_of c.ask.new.seat).own c.loop-kind.number c.loop-kind.ops.items
          c.pop.new.self.items
          c.in-Some.kind c.ask.result c.in-Some.ensures.items c.ask.ensures.turns
          ∙ i.done;
    }

pub returns-clause-submits : goal.returns-clause-submits
returns-clause-submits g c =
    let i = c.loop-kind.invariant in
    submits_all (view_of c.loop-kind.seat).own c.loop-kind.number c.loop-kind.ops.items c.args.ops.items
    (none_left c.loop-kind.ops.items (sym c.loop-kind.ops.ok.0 ∙ c.in_default.ensures.cases.0))
    (i.done ∙ submits_none (view_of c.args.seat.now).own c.args.ops.items _ c.requires.none
    c.reverse.ensures.items
    (reverse-reverse c.args.ops.items))

pub returns-clause-same : goal.returns-clause-same
returns-clause-same g c = c.loop-kind.invariant.same
