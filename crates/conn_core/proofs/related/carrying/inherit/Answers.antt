use Rattle.std.proofs.Common.{◌<◌, false, true, Bool, length, ap, subst, ◌∙◌}
use Rattle.std.proofs.lemmas.Option.{slice_get_within}
use Rattle.spec_wire.specs.declared.messages.header.Header.{Header}
use Rattle.spec_world.specs.Related.{with_file}
use Rattle.conn_core.specs.frame_messages.Checking.{bytes_of}
use Rattle.conn_core.specs.related.Carrying.{TakesOver}
use Rattle.conn_core.proofs.related.Denied.{set_denied}
use Rattle.conn_core.proofs.related.Inherited.{nothing, changed, put_into, ends_apart, ends_failed, ends_well}
use Rattle.conn_core.proofs.related.Inherited.{stays_there, stays_same, others_of, order_of, inside_of, set_setups}
use Rattle.conn_core.proofs.related.carrying.inherit.Goals as goal

pub put_message-requires : goal.put_message-requires
put_message-requires c = slice_get_within c.args.frame.now.messages.items c.args.at c.checked.result.now c.checked.ensures

pub put_file_in-requires : goal.put_file_in-requires
put_file_in-requires c =
    let x = c.args.frame.now in
    let y = c.put_message.new.frame in
    let a = c.checked.result.now in
    let b = c.take_over-goes.new.checked in
    inside_of x c.args.at a b.span y.bytes.items c.requires c.checked.ensures c.take_over-goes.ensures.span c.put_message.ensures.rest.0

pub returns-then-not-is_related-clause-turn : goal.returns-then-not-is_related-clause-turn
returns-then-not-is_related-clause-turn c = λ m n k is_m is_n is same none.
    ends_apart c.args.frame.now c.args.at c.args.before.now c.checked.result.now m n k c.checked.ensures
    c.if-not-is_related.true is_m is_n is
    same none

pub returns-then-not-is_related-clause-place : goal.returns-then-not-is_related-clause-place
returns-then-not-is_related-clause-place c = λ m n is_m is_n. stays_same c.args.frame.now c.args.at m n is_m is_n

pub returns-then-not-is_related-clause-others : goal.returns-then-not-is_related-clause-others
returns-then-not-is_related-clause-others c = nothing c.args.at c.args.frame.now

pub returns-then-not-goes-clause-turn : goal.returns-then-not-goes-clause-turn
returns-then-not-goes-clause-turn c = λ m n k is_m is_n is same none.
    let x = c.args.frame.now in
    let y = c.put_message.new.frame in
    let a = c.checked.result.now in
    let b = c.take_over-goes.new.checked in
    let less : c.args.at < length x.messages.items = slice_get_within x.messages.items c.args.at a c.checked.ensures in
    let over : TakesOver a c.args.before.now false b =
    subst (λ (g : Bool). TakesOver a c.args.before.now g b) c.if-not-goes.true c.take_over-goes.ensures in
    let moved = changed c.args.at x y a b c.checked.ensures c.put_message.ensures.list over.span c.put_message.ensures.rest.0
    c.put_message.ensures.rest.1 c.put_message.ensures.rest.2 in
    ends_failed x y c.args.at c.args.before.now a b m n k less moved c.if-not-is_related.false over
    c.put_message.ensures.rest.0 is_m is_n is
    same

pub returns-then-not-goes-clause-place : goal.returns-then-not-goes-clause-place
returns-then-not-goes-clause-place c = λ m n is_m is_n.
    let x = c.args.frame.now in
    let y = c.put_message.new.frame in
    let a = c.checked.result.now in
    let b = c.take_over-goes.new.checked in
    let less : c.args.at < length x.messages.items = slice_get_within x.messages.items c.args.at a c.checked.ensures in
    let moved = changed c.args.at x y a b c.checked.ensures c.put_message.ensures.list c.take_over-goes.ensures.span
    c.put_message.ensures.rest.0 c.put_message.ensures.rest.1 c.put_message.ensures.rest.2 in
    stays_there x y c.args.at c.args.before.now c.take_over-goes.result a b m n less moved c.take_over-goes.ensures is_m is_n

pub returns-then-not-goes-clause-others : goal.returns-then-not-goes-clause-others
returns-then-not-goes-clause-others c =
    let x = c.args.frame.now in
    let y = c.put_message.new.frame in
    let a = c.checked.result.now in
    let b = c.take_over-goes.new.checked in
    others_of c.args.at x y a b (changed c.args.at x y a b c.checked.ensures c.put_message.ensures.list c.take_over-goes.ensures.span
    c.put_message.ensures.rest.0 c.put_message.ensures.rest.1 c.put_message.ensures.rest.2)

pub returns-then-not-goes-clause-order : goal.returns-then-not-goes-clause-order
returns-then-not-goes-clause-order c =
    let x = c.args.frame.now in
    let y = c.put_message.new.frame in
    let a = c.checked.result.now in
    let b = c.take_over-goes.new.checked in
    order_of c.args.at x y a b (changed c.args.at x y a b c.checked.ensures c.put_message.ensures.list c.take_over-goes.ensures.span
    c.put_message.ensures.rest.0 c.put_message.ensures.rest.1 c.put_message.ensures.rest.2)

pub returns-clause-turn : goal.returns-clause-turn
returns-clause-turn c = λ m n k is_m is_n is same none.
    let x = c.args.frame.now in
    let y = c.put_message.new.frame in
    let a = c.checked.result.now in
    let b = c.take_over-goes.new.checked in
    let w = c.put_file_in.new.frame in
    let less : c.args.at < length x.messages.items = slice_get_within x.messages.items c.args.at a c.checked.ensures in
    let over : TakesOver a c.args.before.now true b =
    subst (λ (g : Bool). TakesOver a c.args.before.now g b) c.if-not-goes.false c.take_over-goes.ensures in
    let inside = inside_of x c.args.at a b.span y.bytes.items c.requires c.checked.ensures over.span c.put_message.ensures.rest.0 in
    let first = changed c.args.at x y a b c.checked.ensures c.put_message.ensures.list over.span c.put_message.ensures.rest.0
    c.put_message.ensures.rest.1 c.put_message.ensures.rest.2 in
    let moved = put_into c.args.at x y w a b (with_file b.header.command c.args.before.now.file (bytes_of y.bytes.items b.span)) first
    c.put_message.ensures.rest.0 c.put_file_in.ensures.rest.0 c.put_file_in.ensures.rest.1 c.put_file_in.ensures.rest.2
    c.put_file_in.ensures.bytes c.put_file_in.ensures.long inside.0 inside.1 in
    ends_well x y w c.args.at c.args.before.now a b m n k less moved c.if-not-is_related.false over c.put_message.ensures.rest.0
    c.put_file_in.ensures.bytes c.put_file_in.ensures.long inside.0 inside.1 is_m is_n is same none

pub returns-clause-place : goal.returns-clause-place
returns-clause-place c = λ m n is_m is_n.
    let x = c.args.frame.now in
    let y = c.put_message.new.frame in
    let a = c.checked.result.now in
    let b = c.take_over-goes.new.checked in
    let w = c.put_file_in.new.frame in
    let less : c.args.at < length x.messages.items = slice_get_within x.messages.items c.args.at a c.checked.ensures in
    let inside = inside_of x c.args.at a b.span y.bytes.items c.requires c.checked.ensures c.take_over-goes.ensures.span
    c.put_message.ensures.rest.0 in
    let first = changed c.args.at x y a b c.checked.ensures c.put_message.ensures.list c.take_over-goes.ensures.span
    c.put_message.ensures.rest.0 c.put_message.ensures.rest.1 c.put_message.ensures.rest.2 in
    let moved = put_into c.args.at x y w a b (with_file b.header.command c.args.before.now.file (bytes_of y.bytes.items b.span)) first
    c.put_message.ensures.rest.0 c.put_file_in.ensures.rest.0 c.put_file_in.ensures.rest.1 c.put_file_in.ensures.rest.2
    c.put_file_in.ensures.bytes c.put_file_in.ensures.long inside.0 inside.1 in
    stays_there x w c.args.at c.args.before.now c.take_over-goes.result a b m n less moved c.take_over-goes.ensures is_m is_n

pub returns-clause-others : goal.returns-clause-others
returns-clause-others c =
    let x = c.args.frame.now in
    let y = c.put_message.new.frame in
    let a = c.checked.result.now in
    let b = c.take_over-goes.new.checked in
    let w = c.put_file_in.new.frame in
    let inside = inside_of x c.args.at a b.span y.bytes.items c.requires c.checked.ensures c.take_over-goes.ensures.span
    c.put_message.ensures.rest.0 in
    let first = changed c.args.at x y a b c.checked.ensures c.put_message.ensures.list c.take_over-goes.ensures.span
    c.put_message.ensures.rest.0 c.put_message.ensures.rest.1 c.put_message.ensures.rest.2 in
    others_of c.args.at x w a b
    (put_into c.args.at x y w a b (with_file b.header.command c.args.before.now.file (bytes_of y.bytes.items b.span)) first
    c.put_message.ensures.rest.0 c.put_file_in.ensures.rest.0 c.put_file_in.ensures.rest.1 c.put_file_in.ensures.rest.2
    c.put_file_in.ensures.bytes c.put_file_in.ensures.long inside.0 inside.1)

pub returns-clause-order : goal.returns-clause-order
returns-clause-order c =
    let x = c.args.frame.now in
    let y = c.put_message.new.frame in
    let a = c.checked.result.now in
    let b = c.take_over-goes.new.checked in
    let w = c.put_file_in.new.frame in
    let inside = inside_of x c.args.at a b.span y.bytes.items c.requires c.checked.ensures c.take_over-goes.ensures.span
    c.put_message.ensures.rest.0 in
    let first = changed c.args.at x y a b c.checked.ensures c.put_message.ensures.list c.take_over-goes.ensures.span
    c.put_message.ensures.rest.0 c.put_message.ensures.rest.1 c.put_message.ensures.rest.2 in
    order_of c.args.at x w a b
    (put_into c.args.at x y w a b (with_file b.header.command c.args.before.now.file (bytes_of y.bytes.items b.span)) first
    c.put_message.ensures.rest.0 c.put_file_in.ensures.rest.0 c.put_file_in.ensures.rest.1 c.put_file_in.ensures.rest.2
    c.put_file_in.ensures.bytes c.put_file_in.ensures.long inside.0 inside.1)

pub returns-then-not-goes-clause-denied : goal.returns-then-not-goes-clause-denied
returns-then-not-goes-clause-denied c =
    set_denied c.args.frame.now.messages.items c.put_message.new.frame.messages.items c.args.at c.checked.result.now
    c.take_over-goes.new.checked c.checked.ensures c.put_message.ensures.list c.take_over-goes.ensures.fault

pub returns-clause-denied : goal.returns-clause-denied
returns-clause-denied c =
    set_denied c.args.frame.now.messages.items c.put_file_in.new.frame.messages.items c.args.at c.checked.result.now
    c.take_over-goes.new.checked c.checked.ensures (c.put_file_in.ensures.rest.0 ∙ c.put_message.ensures.list)
    c.take_over-goes.ensures.fault

pub returns-then-not-goes-clause-setups : goal.returns-then-not-goes-clause-setups
returns-then-not-goes-clause-setups c =
    set_setups c.args.frame.now.messages.items c.put_message.new.frame.messages.items c.args.at c.checked.result.now
    c.take_over-goes.new.checked c.checked.ensures c.put_message.ensures.list
    (ap (λ (h : Header). h.command) c.take_over-goes.ensures.header)

pub returns-clause-setups : goal.returns-clause-setups
returns-clause-setups c =
    set_setups c.args.frame.now.messages.items c.put_file_in.new.frame.messages.items c.args.at c.checked.result.now
    c.take_over-goes.new.checked c.checked.ensures (c.put_file_in.ensures.rest.0 ∙ c.put_message.ensures.list)
    (ap (λ (h : Header). h.command) c.take_over-goes.ensures.header)
