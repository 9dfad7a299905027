use Rattle.std.proofs.Common.{◌≡◌, ◌-◌, ◌<◌, ◌≤◌, ◌&&◌, suc, [], ◌∷◌, true, false, length, refl, sym, ap, ◌∙◌, arith}
use Rattle.spec_wire.specs.messages.Contexts.{contexts_in, contexts_end}
use Rattle.spec_wire.specs.messages.Offer.{is_known, has_id, doubled}
use Rattle.wire_bytes.proofs.negotiate_contexts.Walk.{context, IsNext, next_context, no_context, walks_on, walks_past, doubled_here}
use Rattle.wire_bytes.proofs.negotiate_contexts.Walk.{doubled_later, doubled_none}
use Rattle.wire_bytes.proofs.negotiate_contexts.reading.doubled.Goals as goal

pub loop-left-init : goal.loop-left-init
unfolding has_id
loop-left-init c = (record { ends = refl; inside = omega arith }, ([], record { preauth = refl; encryption = refl; signing = refl }, refl))

pub returns-in_default : goal.returns-in_default
returns-in_default c =
    let m = c.args.bytes.now in
    let behind = c.loop-left.end in
    let left = c.loop-left.left in
    let some : left ≡ suc (left - 1) = omega arith in
    let past : length m < contexts_end m 0 c.args.count = walks_past m c.args.count behind left (left - 1)
    c.loop-left.invariant.0 some c.in_default.ensures.end in
    let fits : contexts_end m 0 c.args.count ≤ length m = c.requires in
    absurd (omega (arith, past, fits))

pub returns-then-doubles : goal.returns-then-doubles
returns-then-doubles c =
    let m = c.args.bytes.now in
    let behind = c.loop-left.end in
    let left = c.loop-left.left in
    let some : left ≡ suc (left - 1) = omega arith in
    let kind = c.in-Some.context.kind in
    let bytes = c.in-Some.context.bytes.now in
    let end = c.in-Some.context.end in
    let is : IsNext m behind kind bytes end = record {
      is_kind = c.in-Some.ensures.found.0;
      is_bytes = c.in-Some.ensures.found.1;
      is_end = c.in-Some.ensures.end.0;
    } in
    let cs : contexts_in m behind left ≡ context kind bytes ∷ contexts_in m end (left - 1) = next_context m behind left
    (left - 1) kind bytes end some is in
    let (before, saw, same) = c.loop-left.invariant.1 in
    let twice : (is_known kind && has_id kind before) ≡ true = sym (c.doubles.ensures before saw) ∙ c.if-doubles.true in
    sym same ∙ ap (doubled before) cs ∙ doubled_here before (context kind bytes) (contexts_in m end (left - 1)) twice

pub loop-left-preserved : goal.loop-left-preserved
loop-left-preserved c =
    let m = c.args.bytes.now in
    let behind = c.loop-left.end in
    let left = c.loop-left.left in
    let some : left ≡ suc (left - 1) = omega arith in
    let kind = c.in-Some.context.kind in
    let bytes = c.in-Some.context.bytes.now in
    let end = c.in-Some.context.end in
    let is : IsNext m behind kind bytes end = record {
      is_kind = c.in-Some.ensures.found.0;
      is_bytes = c.in-Some.ensures.found.1;
      is_end = c.in-Some.ensures.end.0;
    } in
    let cs : contexts_in m behind left ≡ context kind bytes ∷ contexts_in m end (left - 1) = next_context m behind left
    (left - 1) kind bytes end some is in
    let (before, saw, same) = c.loop-left.invariant.1 in
    let once : (is_known kind && has_id kind before) ≡ false = sym (c.doubles.ensures before saw) ∙ c.if-doubles.false in (
      walks_on m c.args.count behind left (left - 1) kind bytes end c.loop-left.invariant.0 some is c.in-Some.ensures.end.1,
      (
        kind ∷ before,
        c.with_kind-seen.ensures before saw,
        sym (ap (doubled before) cs ∙ doubled_later before (context kind bytes) (contexts_in m end (left - 1)) once)
            ∙ same,
      ),
    )

pub returns : goal.returns
returns c =
    let m = c.args.bytes.now in
    let behind = c.loop-left.end in
    let left = c.loop-left.left in
    let none : left ≡ 0 = omega arith in
    let (before, saw, same) = c.loop-left.invariant.1 in
    sym same ∙ ap (doubled before) (no_context m behind left none) ∙ doubled_none before
