use Rattle.std.proofs.Common.{◌∙◌, Option, length, refl, sym, ap, subst}
use Rattle.std.specs.Prelude.{option_copied, option_map}
use Rattle.conn_core.specs.declared.reply_sealing.said.Said.{Said}
use Rattle.conn_core.specs.reply_frames.Adding.{CanWait, NextFits}
use Rattle.conn_core.proofs.reply_frames.Nexts.{alike_both}
use Rattle.conn_core.proofs.reply_frames.Whole.{begins, walks_fail}
use Rattle.conn_core.proofs.reply_frames.Closing.{closes, closes_not}
use Rattle.conn_core.proofs.reply_frames.adding.add_all.Goals as goal

pub add_each-requires-clause-none : goal.add_each-requires-clause-none
add_each-requires-clause-none c = c.requires.none.0

pub add_waiting-requires-clause-waits : goal.add_waiting-requires-clause-waits
add_waiting-requires-clause-waits c =
    subst (λ (o : Option Said). CanWait c.args.answers.now o) (sym c.as_ref.ensures.value) c.in-Ok.ensures.waits

pub add_waiting-requires-clause-room : goal.add_waiting-requires-clause-room
add_waiting-requires-clause-room c =
    subst (λ (o : Option Said). NextFits c.add_each.new.joining.frames o) (sym c.as_ref.ensures.value) c.in-Ok.ensures.room

pub returns-in-Err-clause-all : goal.returns-in-Err-clause-all
returns-in-Err-clause-all c = λ z counted f g cs ss w due.
    walks_fail z c.args.conn.now.nonces counted f g ss w c.args.answers.now
    (length c.args.answers.now.asked.now.messages.items) c.add_each.new.conn c.add_each.new.conn
    c.add_each.new.joining c.add_each.new.joining c.in-Err.why
    (c.in-Err.ensures.walks z c.args.conn.now.nonces counted f g ss w
    (begins z counted f g cs ss w c.args.answers.now c.args.conn.now c.args.joining.now due c.requires.none.0
    c.requires.none.1 c.requires.none.2))

pub returns-in-Ok-add_waiting-clause-alike : goal.returns-in-Ok-add_waiting-clause-alike
returns-in-Ok-add_waiting-clause-alike c =
    alike_both c.args.conn.now c.add_each.new.conn (record c.add_each.new.conn { nonces = c.add_waiting.new.nonces })
    c.add_each.ensures.alike
    (record { id = refl; guid = refl; salt = refl; asked = refl; logon = refl; spare = refl })

pub returns-in-Err-add_waiting-clause-alike : goal.returns-in-Err-add_waiting-clause-alike
returns-in-Err-add_waiting-clause-alike c =
    alike_both c.args.conn.now c.add_each.new.conn (record c.add_each.new.conn { nonces = c.add_waiting.new.nonces })
    c.add_each.ensures.alike
    (record { id = refl; guid = refl; salt = refl; asked = refl; logon = refl; spare = refl })

pub returns-in-Err-add_waiting-clause-all : goal.returns-in-Err-add_waiting-clause-all
returns-in-Err-add_waiting-clause-all c = λ z counted f g cs ss w due.
    closes_not z c.args.conn.now.nonces counted f g ss w c.args.answers.now c.add_each.new.conn
    (record c.add_each.new.conn { nonces = c.add_waiting.new.nonces }) c.add_each.new.joining
    c.add_waiting.new.joining c.in-Ok.walk c.add_waiting.new.nonces (option_copied c.as_ref.result) c.in-Err-add_waiting.why
    (c.in-Ok.ensures.walks z c.args.conn.now.nonces counted f g ss w
    (begins z counted f g cs ss w c.args.answers.now c.args.conn.now c.args.joining.now due c.requires.none.0
    c.requires.none.1 c.requires.none.2))
    c.as_ref.ensures.value
    (λ first guid salt sealed h all waits n rest waiting follows next j.
    c.in-Err-add_waiting.ensures.joins first counted guid salt sealed h all waits n rest waiting follows next j)

pub returns-in-Ok-add_waiting-clause-all : goal.returns-in-Ok-add_waiting-clause-all
returns-in-Ok-add_waiting-clause-all c = λ z counted f g cs ss w due.
    closes z c.args.conn.now.nonces counted f g ss w c.args.answers.now c.add_each.new.conn
    (record c.add_each.new.conn { nonces = c.add_waiting.new.nonces }) c.add_each.new.joining
    c.add_waiting.new.joining c.in-Ok.walk (option_copied c.as_ref.result) c.status_of.result
    (c.in-Ok.ensures.walks z c.args.conn.now.nonces counted f g ss w
    (begins z counted f g cs ss w c.args.answers.now c.args.conn.now c.args.joining.now due c.requires.none.0
    c.requires.none.1 c.requires.none.2))
    c.as_ref.ensures.value refl
    (c.status_of.ensures ∙ ap (λ (o : Option Said). option_map (λ (s : Said). s.header.status) o) c.as_ref-in-Ok-add_waiting.ensures.value)
    (λ first guid salt sealed h all waits n rest waiting follows next j.
    c.in-Ok-add_waiting.ensures.joins first counted guid salt sealed h all waits n rest waiting follows next j)
