use Rattle.std.proofs.Common.{◌≡◌, ◌∙◌, ℕ, Option, sym, ap, subst}
use Rattle.std.specs.Prelude.{slice_get}
use Rattle.conn_core.specs.declared.frame_messages.checked.Checked.{Checked}
use Rattle.conn_core.specs.message_replies.Replying.{Grants, IsLike, SaidIf, aside_status}
use Rattle.conn_core.proofs.message_replies.Parts.{inside, same_message}
use Rattle.conn_core.proofs.message_replies.saying.said_by.Goals as goal

pub checked-checked-requires : goal.checked-checked-requires
checked-checked-requires c = inside c.args.answers.now.asked.now.messages.items c.args.at c.requires.0 c.requires.1

pub returns-in-Some-clause-grants : goal.returns-in-Some-clause-grants
returns-in-Some-clause-grants c = λ m e.
    let m0 = c.checked-checked.result.now in
    let same : m0 ≡ m = same_message (slice_get c.args.answers.now.asked.now.messages.items c.args.at) m m0 e c.checked-checked.ensures in
    subst (λ (k : Checked). Grants k.header.credits c.args.conn.now c.refusal.new.conn) same c.refusal.ensures.grants

pub returns-in-Some-clause-place : goal.returns-in-Some-clause-place
returns-in-Some-clause-place c = c.refusal.ensures.place

pub returns-in-Some-clause-said : goal.returns-in-Some-clause-said
returns-in-Some-clause-said c = λ z f m x e keys shown hello.
    let m0 = c.checked-checked.result.now in
    let same : m0 ≡ m = same_message (slice_get c.args.answers.now.asked.now.messages.items c.args.at) m m0 e c.checked-checked.ensures in
    let like : IsLike m0 x = subst (λ (k : Checked). IsLike k x) (sym same) shown.like in
    let fails = ap (λ (k : Checked). k.fails) (sym same) ∙ c.in-Some.is in
    subst (λ (o : Option ℕ). SaidIf z c.args.answers.now.asked.now.moment f c.args.conn.now.window x o (aside_status x)
    (slice_get c.args.answers.now.replies.now.items.items c.args.place) c.refusal.result)
    (sym fails) (c.refusal.ensures.said f x keys like)

pub returns-in-Some-clause-fits : goal.returns-in-Some-clause-fits
returns-in-Some-clause-fits c = λ shorts hello. c.refusal.ensures.fits

pub returns-in-None-clause-said : goal.returns-in-None-clause-said
returns-in-None-clause-said c = λ z f m x e keys shown hello.
    let m0 = c.checked-checked.result.now in
    let same : m0 ≡ m = same_message (slice_get c.args.answers.now.asked.now.messages.items c.args.at) m m0 e c.checked-checked.ensures in
    let goes = ap (λ (k : Checked). k.fails) (sym same) ∙ c.in-None.is in
    subst (λ (o : Option ℕ). SaidIf z c.args.answers.now.asked.now.moment f c.args.conn.now.window x o (aside_status x)
    (slice_get c.args.answers.now.replies.now.items.items c.args.place) c.said_going.result)
    (sym goes) (c.said_going.ensures.said z f m x e keys shown hello)
