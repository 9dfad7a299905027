use Rattle.std.proofs.Common.{◌≡◌, ◌-◌, suc, ◌∷◌, true, false, length, sym, ap, ◌∙◌, arith}
use Rattle.spec_wire.specs.messages.Contexts.{contexts_in, contexts_end}
use Rattle.spec_wire.specs.messages.Offer.{all_fit, lists_fit}
use Rattle.wire_bytes.proofs.negotiate_contexts.Walk.{context, IsNext, next_context, no_context, walks_on, walked, walks_past, too_few}
use Rattle.wire_bytes.proofs.negotiate_contexts.Walk.{enough, none_fits, fit_more, fit_first, fit_none}
use Rattle.wire_bytes.proofs.negotiate_contexts.reading.all_fit.Goals as goal

pub returns-in_default : goal.returns-in_default
returns-in_default c =
    let m = c.args.bytes.now in
    let behind = c.loop-left.end in
    let left = c.loop-left.left in
    let some : left ≡ suc (left - 1) = omega arith in
    too_few (contexts_end m 0 c.args.count) (length m) (all_fit (contexts_in m 0 c.args.count))
    (walks_past m c.args.count behind left (left - 1) c.loop-left.invariant.0 some c.in_default.ensures.end)

pub returns-then-not-lists_fit : goal.returns-then-not-lists_fit
returns-then-not-lists_fit c =
    let m = c.args.bytes.now in
    let behind = c.loop-left.end in
    let left = c.loop-left.left in
    let some : left ≡ suc (left - 1) = omega arith in
    let kind = c.in-Some.context.kind in
    let bytes = c.in-Some.context.bytes.now in
    let end = c.in-Some.context.end in
    let is : IsNext m behind kind bytes end = record {
      is_kind = c.in-Some.ensures.found.0;
      is_bytes = c.in-Some.ensures.found.1;
      is_end = c.in-Some.ensures.end.0;
    } in
    let cs : contexts_in m behind left ≡ context kind bytes ∷ contexts_in m end (left - 1) = next_context m behind left
    (left - 1) kind bytes end some is in
    let unfit : lists_fit (context kind bytes) ≡ false = sym c.lists_fit.ensures ∙ c.if-not-lists_fit.true in
    none_fits _ (all_fit (contexts_in m 0 c.args.count)) (sym c.loop-left.invariant.1 ∙ ap all_fit cs
    ∙ fit_first (context kind bytes) (contexts_in m end (left - 1)) unfit)

pub loop-left-preserved : goal.loop-left-preserved
loop-left-preserved c =
    let m = c.args.bytes.now in
    let behind = c.loop-left.end in
    let left = c.loop-left.left in
    let some : left ≡ suc (left - 1) = omega arith in
    let kind = c.in-Some.context.kind in
    let bytes = c.in-Some.context.bytes.now in
    let end = c.in-Some.context.end in
    let is : IsNext m behind kind bytes end = record {
      is_kind = c.in-Some.ensures.found.0;
      is_bytes = c.in-Some.ensures.found.1;
      is_end = c.in-Some.ensures.end.0;
    } in
    let cs : contexts_in m behind left ≡ context kind bytes ∷ contexts_in m end (left - 1) = next_context m behind left
    (left - 1) kind bytes end some is in
    let fit : lists_fit (context kind bytes) ≡ true = sym c.lists_fit.ensures ∙ c.if-not-lists_fit.false in (
      walks_on m c.args.count behind left (left - 1) kind bytes end c.loop-left.invariant.0 some is c.in-Some.ensures.end.1,
      sym (ap all_fit cs ∙ fit_more (context kind bytes) (contexts_in m end (left - 1)) fit) ∙ c.loop-left.invariant.1,
    )

pub returns : goal.returns
returns c =
    let m = c.args.bytes.now in
    let behind = c.loop-left.end in
    let left = c.loop-left.left in
    let none : left ≡ 0 = omega arith in
    enough (contexts_end m 0 c.args.count) (length m) (all_fit (contexts_in m 0 c.args.count))
    (walked m c.args.count behind left c.loop-left.invariant.0 none)
    (sym c.loop-left.invariant.1 ∙ ap all_fit (no_context m behind left none) ∙ fit_none)
