use Rattle.std.proofs.Common.{◌≡◌, ◌-◌, ◌<◌, suc, length, subst, ◌∙◌, sym, arith}
use Rattle.spec_wire.specs.messages.Contexts.{contexts_end}
use Rattle.spec_wire.proofs.messages.ContextEnds.{one_more, none_more, past_end, ends_behind}
use Rattle.wire_bytes.proofs.headers.contexts.end_of.Goals as goal

pub returns-in_default : goal.returns-in_default
returns-in_default c =
    let some : c.loop-left.left ≡ suc (c.loop-left.left - 1) = omega arith in
    let past : length c.args.m.now < contexts_end c.args.m.now c.loop-left.end c.loop-left.left =
    past_end c.loop-left.left (c.loop-left.left - 1) c.args.m.now c.loop-left.end (length c.args.m.now) some
    c.in_default.ensures.end in
    subst (λ x. length c.args.m.now < x) c.loop-left.invariant.0 past

pub loop-left-preserved : goal.loop-left-preserved
loop-left-preserved c =
    let some : c.loop-left.left ≡ suc (c.loop-left.left - 1) = omega arith in (
      sym (one_more c.loop-left.left (c.loop-left.left - 1) c.args.m.now c.loop-left.end c.in-Some.context.end some
          c.in-Some.ensures.end.0) ∙ c.loop-left.invariant.0,
      c.in-Some.ensures.end.1,
    )

pub returns : goal.returns
returns c =
    let none : c.loop-left.left ≡ 0 = omega arith in
    let end : c.loop-left.end ≡ contexts_end c.args.m.now c.args.at c.args.count =
    sym (none_more c.loop-left.left c.args.m.now c.loop-left.end none) ∙ c.loop-left.invariant.0 in
    let later = ends_behind c.args.count c.args.m.now c.args.at in
    (end, omega (arith, end, later), c.loop-left.invariant.1)
