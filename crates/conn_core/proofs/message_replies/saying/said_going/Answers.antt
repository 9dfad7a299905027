use Rattle.std.proofs.Common.{◌≡◌, ◌∙◌, ◌==◌, ◌≤◌, ℕ, List, true, false, length, sym, ap, subst}
use Rattle.std.specs.Prelude.{slice_get}
use Rattle.spec_wire.specs.declared.messages.header.Header.{Header}
use Rattle.spec_world.specs.Hearing as hearing
use Rattle.conn_core.specs.declared.frame_messages.checked.Checked.{Checked}
use Rattle.conn_core.specs.message_replies.Replying.{Grants, IsLike}
use Rattle.conn_core.proofs.message_replies.Parts.{aside_echoes, aside_greets, aside_heard, differs, inside, part_long, same_message}
use Rattle.conn_core.proofs.message_replies.saying.said_going.Goals as goal

pub checked-checked-requires : goal.checked-checked-requires
checked-checked-requires c = inside c.args.answers.now.asked.now.messages.items c.args.at c.requires.0 c.requires.1

pub returns-then-checked-eq-NEGOTIATE-clause-grants : goal.returns-then-checked-eq-NEGOTIATE-clause-grants
returns-then-checked-eq-NEGOTIATE-clause-grants c = λ m e.
    let m0 = c.checked-checked.result.now in
    let same : m0 ≡ m = same_message (slice_get c.args.answers.now.asked.now.messages.items c.args.at) m m0 e c.checked-checked.ensures in
    subst (λ (k : Checked). Grants k.header.credits c.args.conn.now c.greeted.new.conn) same c.greeted.ensures.grants

pub returns-then-checked-eq-NEGOTIATE-clause-place : goal.returns-then-checked-eq-NEGOTIATE-clause-place
returns-then-checked-eq-NEGOTIATE-clause-place c = c.greeted.ensures.place

pub returns-then-checked-eq-NEGOTIATE-clause-said : goal.returns-then-checked-eq-NEGOTIATE-clause-said
returns-then-checked-eq-NEGOTIATE-clause-said c = λ z f m x e keys shown hello.
    let m0 = c.checked-checked.result.now in
    let same : m0 ≡ m = same_message (slice_get c.args.answers.now.asked.now.messages.items c.args.at) m m0 e c.checked-checked.ensures in
    let like : IsLike m0 x = subst (λ (k : Checked). IsLike k x) (sym same) shown.like in
    let greets : hearing.is_negotiate x.header ≡ true = ap (λ (h : Header). h.command == 0) like.header
    ∙ ap (λ (n : ℕ). n == 0) c.if-checked-eq-NEGOTIATE.true in
    let now = c.args.answers.now.asked.now.moment in
    aside_greets z now f c.args.conn.now.window x (slice_get c.args.answers.now.replies.now.items.items c.args.place)
    c.greeted.result greets
    (c.greeted.ensures.said z now f x keys like (shown.like.fault ∙ ap (λ (k : Checked). k.fault) (sym same)) greets hello)

pub returns-then-checked-eq-NEGOTIATE-clause-fits : goal.returns-then-checked-eq-NEGOTIATE-clause-fits
returns-then-checked-eq-NEGOTIATE-clause-fits c = λ shorts hello. c.greeted.ensures.fits hello

pub echoed-requires : goal.echoed-requires
echoed-requires c =
    let has = c.requires in
    let m = has.0 in
    subst (λ (b : List ℕ). 64 ≤ length b) (sym (c.message.ensures m has.1))
    (part_long m.span.start m.span.end c.args.answers.now.asked.now.bytes.items has.2 has.3)

pub returns-then-checked-eq-ECHO-clause-grants : goal.returns-then-checked-eq-ECHO-clause-grants
returns-then-checked-eq-ECHO-clause-grants c = λ m e.
    let m0 = c.checked-checked.result.now in
    let same : m0 ≡ m = same_message (slice_get c.args.answers.now.asked.now.messages.items c.args.at) m m0 e c.checked-checked.ensures in
    subst (λ (k : Checked). Grants k.header.credits c.args.conn.now c.echoed.new.conn) same c.echoed.ensures.grants

pub returns-then-checked-eq-ECHO-clause-place : goal.returns-then-checked-eq-ECHO-clause-place
returns-then-checked-eq-ECHO-clause-place c = c.echoed.ensures.place

pub returns-then-checked-eq-ECHO-clause-said : goal.returns-then-checked-eq-ECHO-clause-said
returns-then-checked-eq-ECHO-clause-said c = λ z f m x e keys shown hello.
    let m0 = c.checked-checked.result.now in
    let same : m0 ≡ m = same_message (slice_get c.args.answers.now.asked.now.messages.items c.args.at) m m0 e c.checked-checked.ensures in
    let like : IsLike m0 x = subst (λ (k : Checked). IsLike k x) (sym same) shown.like in
    let other : hearing.is_negotiate x.header ≡ false = ap (λ (h : Header). h.command == 0) like.header
    ∙ differs m0.header.command 0 c.if-checked-eq-NEGOTIATE.false in
    let echoes : (x.header.command == 13) ≡ true = ap (λ (h : Header). h.command == 13) like.header
    ∙ ap (λ (n : ℕ). n == 13) c.if-checked-eq-ECHO.true in
    let now = c.args.answers.now.asked.now.moment in
    aside_echoes z now f c.args.conn.now.window x (slice_get c.args.answers.now.replies.now.items.items c.args.place)
    c.echoed.result other echoes
    (c.echoed.ensures.said z now f x keys like (shown.like.fault ∙ ap (λ (k : Checked). k.fault) (sym same))
    (shown.bytes ∙ sym (c.message.ensures m e)) other)

pub returns-then-checked-eq-ECHO-clause-fits : goal.returns-then-checked-eq-ECHO-clause-fits
returns-then-checked-eq-ECHO-clause-fits c = λ shorts hello. c.echoed.ensures.fits

pub returns-clause-grants : goal.returns-clause-grants
returns-clause-grants c = λ m e.
    let m0 = c.checked-checked.result.now in
    let same : m0 ≡ m = same_message (slice_get c.args.answers.now.asked.now.messages.items c.args.at) m m0 e c.checked-checked.ensures in
    subst (λ (k : Checked). Grants k.header.credits c.args.conn.now c.answered.new.conn) same c.answered.ensures.grants

pub returns-clause-place : goal.returns-clause-place
returns-clause-place c = c.answered.ensures.place

pub returns-clause-said : goal.returns-clause-said
returns-clause-said c = λ z f m x e keys shown hello.
    let m0 = c.checked-checked.result.now in
    let same : m0 ≡ m = same_message (slice_get c.args.answers.now.asked.now.messages.items c.args.at) m m0 e c.checked-checked.ensures in
    let like : IsLike m0 x = subst (λ (k : Checked). IsLike k x) (sym same) shown.like in
    let other : hearing.is_negotiate x.header ≡ false = ap (λ (h : Header). h.command == 0) like.header
    ∙ differs m0.header.command 0 c.if-checked-eq-NEGOTIATE.false in
    let none : (x.header.command == 13) ≡ false = ap (λ (h : Header). h.command == 13) like.header
    ∙ differs m0.header.command 13 c.if-checked-eq-ECHO.false in
    aside_heard z c.args.answers.now.asked.now.moment f c.args.conn.now.window x
    (slice_get c.args.answers.now.replies.now.items.items c.args.place) c.answered.result other none
    (c.answered.ensures.said f x keys like)

pub returns-clause-fits : goal.returns-clause-fits
returns-clause-fits c = λ shorts hello. c.answered.ensures.fits shorts
