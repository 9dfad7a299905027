use Rattle.std.proofs.Common.{◌≡◌, ◌-◌, ◌<◌, ◌≤◌, suc, ℕ, ◌∷◌, true, Some, length, sym, ap, ◌∙◌, arith}
use Rattle.spec_wire.specs.messages.Contexts.{contexts_in, contexts_end}
use Rattle.spec_wire.specs.messages.Offer.{all_fit, lists_fit, first_of}
use Rattle.wire_bytes.proofs.negotiate_contexts.Walk.{context, IsNext, next_context, no_context, walks_on, walks_past, fit_each}
use Rattle.wire_bytes.proofs.negotiate_contexts.Walk.{first_here, first_later, first_none}
use Rattle.wire_bytes.proofs.negotiate_contexts.reading.first_of.Goals as goal

pub returns-in_default : goal.returns-in_default
returns-in_default c =
    let m = c.args.bytes.now in
    let behind = c.loop-left.end in
    let left = c.loop-left.left in
    let some : left ≡ suc (left - 1) = omega arith in
    let past : length m < contexts_end m 0 c.args.count = walks_past m c.args.count behind left (left - 1)
    c.loop-left.invariant.0 some c.in_default.ensures.end in
    let fits : contexts_end m 0 c.args.count ≤ length m = c.requires.fits in
    absurd (omega (arith, past, fits))

pub returns-then-context-kind : goal.returns-then-context-kind
returns-then-context-kind c =
    let m = c.args.bytes.now in
    let behind = c.loop-left.end in
    let left = c.loop-left.left in
    let some : left ≡ suc (left - 1) = omega arith in
    let kind = c.in-Some.context.kind in
    let bytes = c.in-Some.context.bytes.now in
    let end = c.in-Some.context.end in
    let is : IsNext m behind kind bytes end = record {
      is_kind = c.in-Some.ensures.found.0;
      is_bytes = c.in-Some.ensures.found.1;
      is_end = c.in-Some.ensures.end.0;
    } in
    let cs : contexts_in m behind left ≡ context kind bytes ∷ contexts_in m end (left - 1) = next_context m behind left
    (left - 1) kind bytes end some is in
    let here : kind ≡ c.args.kind = c.if-context-kind.true in
    let rest = contexts_in m end (left - 1) in
    let fits : lists_fit (context kind bytes) ≡ true =
    (fit_each (context kind bytes) rest (sym (ap all_fit cs) ∙ c.loop-left.invariant.2)).0 in (
      sym c.loop-left.invariant.1 ∙ ap (first_of c.args.kind) cs ∙ first_here c.args.kind (context kind bytes) rest here
          ∙ ap (λ (k : ℕ). Some (context k bytes)) here,
      ap (λ (k : ℕ). lists_fit (context k bytes)) (sym here) ∙ fits,
    )

pub loop-left-preserved : goal.loop-left-preserved
loop-left-preserved c =
    let m = c.args.bytes.now in
    let behind = c.loop-left.end in
    let left = c.loop-left.left in
    let some : left ≡ suc (left - 1) = omega arith in
    let kind = c.in-Some.context.kind in
    let bytes = c.in-Some.context.bytes.now in
    let end = c.in-Some.context.end in
    let is : IsNext m behind kind bytes end = record {
      is_kind = c.in-Some.ensures.found.0;
      is_bytes = c.in-Some.ensures.found.1;
      is_end = c.in-Some.ensures.end.0;
    } in
    let cs : contexts_in m behind left ≡ context kind bytes ∷ contexts_in m end (left - 1) = next_context m behind left
    (left - 1) kind bytes end some is in
    let rest = contexts_in m end (left - 1) in
    let later = first_later c.args.kind (context kind bytes) rest c.if-context-kind.false in (
      walks_on m c.args.count behind left (left - 1) kind bytes end c.loop-left.invariant.0 some is c.in-Some.ensures.end.1,
      sym (ap (first_of c.args.kind) cs ∙ later) ∙ c.loop-left.invariant.1,
      (fit_each (context kind bytes) rest (sym (ap all_fit cs) ∙ c.loop-left.invariant.2)).1,
    )

pub returns : goal.returns
returns c =
    let m = c.args.bytes.now in
    let behind = c.loop-left.end in
    let left = c.loop-left.left in
    let none : left ≡ 0 = omega arith in
    sym c.loop-left.invariant.1 ∙ ap (first_of c.args.kind) (no_context m behind left none) ∙ first_none c.args.kind
