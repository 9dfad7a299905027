use Rattle.std.proofs.Common.{◌≡◌, ◌∙◌, ◌+◌, ◌==◌, ℕ, Bool, true, if◌then◌else◌, drop, refl, sym, ap, subst, arith}
use Rattle.std.specs.Prelude.{slice_get}
use Rattle.spec_wire.specs.declared.messages.header.Header.{Header}
use Rattle.spec_wire.specs.credits.Window.{HeldIds, after_grant}
use Rattle.conn_core.specs.declared.frame_messages.checked.Checked.{Checked}
use Rattle.conn_core.specs.message_replies.Replying.{AreMessagesSaid, has_message_event}
use Rattle.conn_core.proofs.message_replies.Parts.{differs, inside, no_event, same_message}
use Rattle.conn_core.proofs.message_replies.Saids.{next_at, next_cancel}
use Rattle.conn_core.proofs.message_replies.saying.said.Goals as goal

pub checked-requires : goal.checked-requires
checked-requires c = inside c.args.answers.now.asked.now.messages.items c.args.at c.requires.0 c.requires.1

pub returns-then-checked-eq-CANCEL-clause-says : goal.returns-then-checked-eq-CANCEL-clause-says
returns-then-checked-eq-CANCEL-clause-says c = λ z f m x ms cs w ss e keys shown hello h.
    let m0 = c.checked.result.now in
    let same : m0 ≡ m = same_message (slice_get c.args.answers.now.asked.now.messages.items c.args.at) m m0 e c.checked.ensures in
    let cancel : (m.header.command == 12) ≡ true = ap (λ (k : Checked). k.header.command == 12) (sym same)
    ∙ ap (λ (n : ℕ). n == 12) c.if-checked-eq-CANCEL.true in
    let now = c.args.answers.now.asked.now.moment in
    let rs = c.args.answers.now.replies.now.items.items in
    let place : c.args.place ≡ c.args.place + (if has_message_event m then 1 else 0) =
    (let zero : c.args.place ≡ c.args.place + 0 = omega arith in
    zero ∙ sym (ap (λ (b : Bool). c.args.place + (if b then 1 else 0)) (no_event m cancel))) in
    subst (λ (n : ℕ). AreMessagesSaid z now f ms cs (drop n rs) c.args.conn.now.window ss w) place
    (next_cancel z now f m ms x cs (drop c.args.place rs) c.args.conn.now.window ss w
    (ap (λ (k : Header). k.command == 12) shown.like.header ∙ cancel) h)

pub returns-clause-says : goal.returns-clause-says
returns-clause-says c = λ z f m x ms cs w ss e keys shown hello h.
    let m0 = c.checked.result.now in
    let same : m0 ≡ m = same_message (slice_get c.args.answers.now.asked.now.messages.items c.args.at) m m0 e c.checked.ensures in
    let now = c.args.answers.now.asked.now.moment in
    let rs = c.args.answers.now.replies.now.items.items in
    let cancel = ap (λ (k : Header). k.command == 12) shown.like.header
    ∙ (ap (λ (k : Checked). k.header.command == 12) (sym same) ∙ differs m0.header.command 12 c.if-checked-eq-CANCEL.false) in
    let next = next_at z now f m ms x cs rs c.args.place c.args.conn.now.window ss w c.said_by.result shown.like.header cancel h
    (c.said_by.ensures.said z f m x e keys shown hello) in
    let window = (c.said_by.ensures.grants m e).window
    ∙ ap (λ (k : Header). after_grant k.credits c.args.conn.now.window) (sym shown.like.header) in (
      next.0,
      next.1,
      next.2,
      next.3,
      next.4,
      c.said_by.ensures.place,
      subst (λ (u : HeldIds). AreMessagesSaid z now f ms cs
          (drop (c.args.place + (if has_message_event m then 1 else 0)) rs) u next.1 w) (sym window) next.5,
    )

pub returns-clause-place : goal.returns-clause-place
returns-clause-place c = c.said_by.ensures.place

pub returns-then-checked-eq-CANCEL-clause-kept : goal.returns-then-checked-eq-CANCEL-clause-kept
returns-then-checked-eq-CANCEL-clause-kept c = record {
  id = refl;
  guid = refl;
  salt = refl;
  asked = refl;
  logon = refl;
  nonces = refl;
  spare = refl;
}

pub returns-clause-kept : goal.returns-clause-kept
returns-clause-kept c = (c.said_by.ensures.grants c.checked.result.now c.checked.ensures).kept

pub returns-then-checked-eq-CANCEL-clause-fits : goal.returns-then-checked-eq-CANCEL-clause-fits
returns-then-checked-eq-CANCEL-clause-fits c = λ shorts hello. tt

pub returns-clause-fits : goal.returns-clause-fits
returns-clause-fits c = λ shorts hello. c.said_by.ensures.fits shorts hello
