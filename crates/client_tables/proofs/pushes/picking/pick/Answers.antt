use Rattle.std.proofs.Common.{◌<◌, length, sym, ◌∙◌, subst, arith}
use Rattle.spec_exchange.specs.Client.{create_for, goes_itself, is_free, needs_slot}
use Rattle.client_rows.specs.lock_slots.Shown.{ShowsSlots}
use Rattle.client_tables.proofs.pushes.Picked.{bounded_slot, has_slot, lacks_it, no_need, none_slot, some_slot, tests_are, without_slot}
use Rattle.client_tables.proofs.pushes.picking.pick.Goals as goal

pub returns-then-not-takes_slot : goal.returns-then-not-takes_slot
returns-then-not-takes_slot c =
    let rows = c.args.rows.now in
    let x = c.args.index in
    record {
      some = λ d holders prices watchers k credits n slotless s o. without_slot d k credits slotless x n
          (tests_are rows holders prices watchers d x c.requires.above c.requires.within s
          ∙ sym (c.takes_slot.ensures d (create_for d x) o.in_session o.attached_in) ∙ c.if-not-takes_slot.true);
      none = λ d holders prices watchers k credits n slotless s o. tt;
      lacks = λ d holders prices watchers k credits s o i r w. tt;
      has = λ d holders prices watchers s o. no_need (goes_itself d x) (needs_slot d x) (is_free d (create_for d x) 0)
          (tests_are rows holders prices watchers d x c.requires.above c.requires.within s
          ∙ sym (c.takes_slot.ensures d (create_for d x) o.in_session o.attached_in) ∙ c.if-not-takes_slot.true);
      slot = omega arith;
      few = omega arith;
    }

pub returns : goal.returns
returns c =
    let rows = c.args.rows.now in
    let slots = c.args.slots.now in
    let x = c.args.index in
    record {
      some = λ d holders prices watchers k credits n slotless s o. some_slot d k credits slotless x n c.free_slot.result
          (tests_are rows holders prices watchers d x c.requires.above c.requires.within s
          ∙ sym (c.takes_slot.ensures d (create_for d x) o.in_session o.attached_in) ∙ c.if-not-takes_slot.false)
          (c.free_slot.ensures.shown d (create_for d x) (subst (λ z. 0 < z) (sym (c.number.ensures d o.in_session)) o.counted)
          (subst (λ z. ShowsSlots rows slots z d (create_for d x))
          (sym (c.number.ensures d o.in_session)) o.has_slots));
      none = λ d holders prices watchers k credits n slotless s o. none_slot d k credits slotless x n c.free_slot.result
          (tests_are rows holders prices watchers d x c.requires.above c.requires.within s
          ∙ sym (c.takes_slot.ensures d (create_for d x) o.in_session o.attached_in) ∙ c.if-not-takes_slot.false)
          (c.free_slot.ensures.shown d (create_for d x) (subst (λ z. 0 < z) (sym (c.number.ensures d o.in_session)) o.counted)
          (subst (λ z. ShowsSlots rows slots z d (create_for d x))
          (sym (c.number.ensures d o.in_session)) o.has_slots));
      lacks = λ d holders prices watchers k credits s o i r w. lacks_it rows holders prices watchers d x c.requires.above
          c.requires.within s k credits c.free_slot.result i r w
          (tests_are rows holders prices watchers d x c.requires.above c.requires.within s
          ∙ sym (c.takes_slot.ensures d (create_for d x) o.in_session o.attached_in) ∙ c.if-not-takes_slot.false)
          (c.free_slot.ensures.shown d (create_for d x) (subst (λ z. 0 < z) (sym (c.number.ensures d o.in_session)) o.counted)
          (subst (λ z. ShowsSlots rows slots z d (create_for d x))
          (sym (c.number.ensures d o.in_session)) o.has_slots));
      has = λ d holders prices watchers s o. has_slot d x c.free_slot.result
          (c.free_slot.ensures.shown d (create_for d x) (subst (λ z. 0 < z) (sym (c.number.ensures d o.in_session)) o.counted)
          (subst (λ z. ShowsSlots rows slots z d (create_for d x))
          (sym (c.number.ensures d o.in_session)) o.has_slots));
      slot = bounded_slot (length slots) c.free_slot.result c.free_slot.ensures.within;
      few = c.free_slot.ensures.few;
    }
