use Rattle.std.proofs.Common.{◌≡◌, ℕ, ◌+◌, ◌==◌, ◌||◌, Bool, false, List, drop, length, vec_len, slice_index_or, refl}
use Rattle.std.proofs.Common.{sym, ap, subst, ◌∙◌, Ok, Err, is_some}
use Rattle.std.proofs.Common.{arith, [], ◌∷◌}
use Rattle.std.proofs.lemmas.List.Elements.{All-append, All-cons, All-nil}
use Rattle.spec_wire.specs.declared.messages.header.Span.{Span}
use Rattle.spec_world.specs.Messages.{has_header}
use Rattle.conn_core.specs.declared.frame_messages.checked.Checked.{Checked}
use Rattle.conn_core.specs.frame_messages.Checking.{AllDenied, IsDenied, bytes_of}
use Rattle.conn_core.proofs.frame_messages.Steps.{Loops, Places, loops_first, loops_next, loops_ends, loops_whole}
use Rattle.conn_core.proofs.frame_messages.Steps.{place_fits, place_heads, as_placed}
use Rattle.conn_core.proofs.frame_messages.Steps.{places_first, places_next, places_whole}
use Rattle.conn_core.proofs.frame_messages.checking.check_each.Goals as goal

abbrev none : Span
none = record { start = 0; end = 0 }

pub loop-part-init : goal.loop-part-init
loop-part-init c =
    let checked = subst (λ (ms : List Checked). Loops c.args.conn.now c.args.conn.now c.args.sealed c.args.bytes.now
    (drop c.args.from c.args.bytes.now) c.args.spans.now 0 false ms) (sym c.in_ok-messages.ensures.items)
    (loops_first c.args.conn.now c.args.sealed c.args.bytes.now (drop c.args.from c.args.bytes.now) c.args.spans.now) in
    let placed = places_first c.args.bytes.now c.args.from c.args.spans.now c.in_ok-messages.messages.items c.in_ok-messages.ensures.items
    c.requires.text c.requires.order in
    let denied = subst (λ (ms : List Checked). AllDenied ms) (sym c.in_ok-messages.ensures.items)
    (All-nil (λ (n : Checked). IsDenied n.fault)) in
    (checked, placed, denied, refl)

pub moved-span-requires : goal.moved-span-requires
moved-span-requires c =
    let x = place_fits c.args.bytes.now c.args.from c.args.spans.now c.loop-part.part-index
    (slice_index_or c.args.spans.now c.loop-part.part-index none) none c.requires.spans
    (let t = c.loop-part-test.true in omega (arith, t)) refl c.requires.text in
    let first = x.0 in
    let last = x.1 in
    let short = c.requires.short in
    (omega (arith, first, last, short), omega (arith, last, short))

pub placed-message-requires : goal.placed-message-requires
placed-message-requires c =
    let x = place_fits c.args.bytes.now c.args.from c.args.spans.now c.loop-part.part-index
    (slice_index_or c.args.spans.now c.loop-part.part-index none) none c.requires.spans
    (let t = c.loop-part-test.true in omega (arith, t)) refl c.requires.text in
    let first = x.0 in
    let last = x.1 in
    let start = c.moved-span.ensures.0 in
    let end = c.moved-span.ensures.1 in
    (omega (arith, first, start, end), omega (arith, last, end))

pub check_one-requires-clause-long : goal.check_one-requires-clause-long
check_one-requires-clause-long c =
    ap (λ (b : List ℕ). has_header b) c.placed-message.ensures.value
    ∙ place_heads c.args.bytes.now c.args.from c.args.spans.now c.loop-part.part-index
    (slice_index_or c.args.spans.now c.loop-part.part-index none) none c.moved-span.result c.requires.spans
    (let t = c.loop-part-test.true in omega (arith, t)) refl
    c.moved-span.ensures.0 c.moved-span.ensures.1

pub returns-in-Err-clause-checks : goal.returns-in-Err-clause-checks
returns-in-Err-clause-checks c = λ k guid f shown.
    let count : vec_len c.loop-part.messages ≡ length c.loop-part.messages.items = omega (arith, c.loop-part.messages.ok.0) in
    let first : c.is_empty.result ≡ (length c.loop-part.messages.items == 0) = c.is_empty.ensures ∙ ap (λ (n : ℕ). n == 0) count in
    loops_ends c.args.conn.now c.loop-part.conn c.check_one.new.conn c.args.sealed c.args.bytes.now c.args.from c.args.spans.now
    c.loop-part.part-index c.loop-part.barred c.loop-part.messages.items
    (slice_index_or c.args.spans.now c.loop-part.part-index none) none c.moved-span.result c.in-Err.cause k guid f c.requires.spans
    (let t = c.loop-part-test.true in omega (arith, t)) refl c.moved-span.ensures.0 c.moved-span.ensures.1
    (λ j g e h. as_placed j g e c.args.sealed c.loop-part.barred c.is_empty.result (length c.loop-part.messages.items == 0)
    c.check_one.new.conn c.placed-message.result.now (bytes_of c.args.bytes.now c.moved-span.result) c.moved-span.result
    (Err c.in-Err.cause)
    first c.placed-message.ensures.value (c.in-Err.ensures.turn j g e h)) c.loop-part.invariant.0 shown

pub loop-part-preserved : goal.loop-part-preserved
loop-part-preserved c =
    let count : vec_len c.loop-part.messages ≡ length c.loop-part.messages.items = omega (arith, c.loop-part.messages.ok.0) in
    let first : c.is_empty.result ≡ (length c.loop-part.messages.items == 0) = c.is_empty.ensures ∙ ap (λ (n : ℕ). n == 0) count in
    let m = c.in-Ok.checked in
    let kept = loops_next c.args.conn.now c.loop-part.conn c.check_one.new.conn c.args.sealed c.args.bytes.now c.args.from c.args.spans.now
    c.loop-part.part-index c.loop-part.barred c.loop-part.messages.items
    (slice_index_or c.args.spans.now c.loop-part.part-index none) none c.moved-span.result m c.requires.spans
    (let t = c.loop-part-test.true in omega (arith, t)) refl
    c.requires.text c.moved-span.ensures.0 c.moved-span.ensures.1
    (λ j g e h. as_placed j g e c.args.sealed c.loop-part.barred c.is_empty.result (length c.loop-part.messages.items == 0)
    c.check_one.new.conn c.placed-message.result.now (bytes_of c.args.bytes.now c.moved-span.result) c.moved-span.result (Ok m)
    first c.placed-message.ensures.value (c.in-Ok.ensures.turn j g e h)) c.loop-part.invariant.0 in
    let setup : (c.loop-part.barred || ((m.header.command == 1) || is_some m.fault)) ≡ c.bars-barred.result = sym c.bars-barred.ensures in
    let placed = places_next c.args.from (length c.args.bytes.now) c.args.spans.now c.loop-part.part-index c.loop-part.messages.items
    (slice_index_or c.args.spans.now c.loop-part.part-index none) none c.moved-span.result m
    (let t = c.loop-part-test.true in omega (arith, t)) refl c.moved-span.ensures.0 c.moved-span.ensures.1 c.in-Ok.ensures.place
    c.loop-part.invariant.1 in
    let denied = subst (λ (ms : List Checked). AllDenied ms) (sym c.in-Ok-push.ensures.items)
    (All-append (λ (n : Checked). IsDenied n.fault) c.loop-part.messages.items (m ∷ []) c.loop-part.invariant.2
    (All-cons (λ (n : Checked). IsDenied n.fault) m [] c.in-Ok.ensures.denied (All-nil (λ (n : Checked). IsDenied n.fault)))) in
    let shown = subst (λ (b : Bool). Loops c.args.conn.now c.check_one.new.conn c.args.sealed c.args.bytes.now
    (drop c.args.from c.args.bytes.now) c.args.spans.now (c.loop-part.part-index + 1) b c.push.new.self.items) setup
    (subst (λ (ms : List Checked). Loops c.args.conn.now c.check_one.new.conn c.args.sealed c.args.bytes.now
    (drop c.args.from c.args.bytes.now) c.args.spans.now (c.loop-part.part-index + 1)
    (c.loop-part.barred || ((m.header.command == 1) || is_some m.fault)) ms) (sym c.in-Ok-push.ensures.items) kept) in
    let stands = subst (λ (ms : List Checked). Places c.args.from (length c.args.bytes.now) c.args.spans.now
    (c.loop-part.part-index + 1) ms)
    (sym c.in-Ok-push.ensures.items) placed in
    (shown, stands, denied, c.in-Ok.ensures.spare ∙ c.loop-part.invariant.3)

pub returns-in-Err-clause-spare : goal.returns-in-Err-clause-spare
returns-in-Err-clause-spare c = c.in-Err.ensures.spare ∙ c.loop-part.invariant.3

pub returns-clause-spare : goal.returns-clause-spare
returns-clause-spare c = c.loop-part.invariant.3

pub returns-clause-places : goal.returns-clause-places
returns-clause-places c =
    places_whole c.args.from (length c.args.bytes.now) c.args.spans.now c.loop-part.part-index c.loop-part.messages.items
    (let t = c.loop-part-test.false in omega (arith, t)) c.loop-part.invariant.1

pub returns-clause-denied : goal.returns-clause-denied
returns-clause-denied c = c.loop-part.invariant.2

pub returns-clause-checks : goal.returns-clause-checks
returns-clause-checks c = λ k guid f shown.
    loops_whole c.args.conn.now c.loop-part.conn c.args.sealed c.args.bytes.now (drop c.args.from c.args.bytes.now) c.args.spans.now
    c.loop-part.part-index c.loop-part.barred c.loop-part.messages.items k guid f c.requires.some
    (let t = c.loop-part-test.false in omega (arith, t))
    c.loop-part.invariant.0 shown
