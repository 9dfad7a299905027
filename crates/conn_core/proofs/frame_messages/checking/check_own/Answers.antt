use Rattle.std.proofs.Common.{ℕ, List, length, option_copied, refl, sym, ap, subst, ◌∙◌}
use Rattle.spec_world.specs.Hearing.{begins_sealed, is_too_long}
use Rattle.std.specs.Vec.{with_items}
use Rattle.conn_core.specs.frame_messages.Checking.{InOrder, places_of}
use Rattle.conn_core.proofs.frame_messages.Whole.{goes_by, ends_by, written}
use Rattle.conn_core.proofs.frame_messages.checking.check_own.Goals as goal

pub returns-in-Ok-check_all-clause-order : goal.returns-in-Ok-check_all-clause-order
returns-in-Ok-check_all-clause-order c =
    subst (λ (b : List ℕ). InOrder 0 (length b) (places_of c.in-Ok-check_all.messages.items)) c.as_slice-3.ensures.value
    c.in-Ok-check_all.ensures.places

pub returns-in-Ok-check_all-clause-checks : goal.returns-in-Ok-check_all-clause-checks
returns-in-Ok-check_all-clause-checks c = λ k guid f shown.
    let now : List ℕ = c.text_at.new.frame in
    let whole = written now c.args.frame.items c.args.frame.len (sym (c.text_at.auto.frame ∙ c.as_mut_slice.ensures.len)) in
    goes_by k guid c.args.frame.items c.as_mut_slice.result.now c.text_at.new.frame c.as_slice-3.result.now f c.args.conn.now
    c.check_all.new.conn (option_copied c.as_ref.result) c.begins_sealed-sealed.result c.args.now c.in-Ok.from (record {
      bytes = with_items c.args.frame now;
      messages = c.in-Ok-check_all.messages;
      sealed = c.begins_sealed-sealed.result;
      moment = c.args.now;
    }) (sym (c.is_too_long.ensures.is ∙ ap (λ (b : List ℕ). is_too_long c.args.conn.now.logon.keys b) c.as_slice.ensures.value)
    ∙ c.if-is_too_long.false)
    (c.begins_sealed-sealed.ensures ∙ ap (λ (b : List ℕ). begins_sealed b) c.as_slice-2.ensures.value)
    c.as_mut_slice.ensures.value (c.as_slice-3.ensures.value ∙ whole)
    c.as_ref.ensures.value shown refl refl whole c.in-Ok.ensures.text (c.in-Ok-check_all.ensures.checks k guid f shown)

pub returns-in-Err-check_all-clause-checks : goal.returns-in-Err-check_all-clause-checks
returns-in-Err-check_all-clause-checks c = λ k guid f shown.
    let now : List ℕ = c.text_at.new.frame in
    let whole = written now c.args.frame.items c.args.frame.len (sym (c.text_at.auto.frame ∙ c.as_mut_slice.ensures.len)) in
    ends_by k guid c.args.frame.items c.as_mut_slice.result.now c.text_at.new.frame c.as_slice-3.result.now f c.args.conn.now
    (option_copied c.as_ref.result) c.begins_sealed-sealed.result c.in-Ok.from c.in-Err-check_all.cause
    (sym (c.is_too_long.ensures.is ∙ ap (λ (b : List ℕ). is_too_long c.args.conn.now.logon.keys b) c.as_slice.ensures.value)
    ∙ c.if-is_too_long.false)
    (c.begins_sealed-sealed.ensures ∙ ap (λ (b : List ℕ). begins_sealed b) c.as_slice-2.ensures.value)
    c.as_mut_slice.ensures.value (c.as_slice-3.ensures.value ∙ whole)
    c.as_ref.ensures.value shown c.in-Ok.ensures.text (c.in-Err-check_all.ensures.checks k guid f shown)
