use Rattle.std.proofs.Common.{Option, Ok, Err, refl, sym, subst}
use Rattle.std.specs.Prelude.{option_copied}
use Rattle.conn_core.specs.declared.reply_sealing.said.Said.{Said}
use Rattle.conn_core.specs.reply_sealing.Saying.{CanPutIf}
use Rattle.conn_core.proofs.message_replies.Parts.{inside}
use Rattle.conn_core.specs.reply_frames.Adding.{CanWait, NextFits, later_of}
use Rattle.conn_core.proofs.reply_frames.Nexts.{alike_by, later_waits, next_step, room_later}
use Rattle.conn_core.proofs.reply_frames.adding.add_next.Goals as goal

pub place_behind-place-requires : goal.place_behind-place-requires
place_behind-place-requires c = (
  inside c.args.answers.now.asked.now.messages.items c.args.at c.requires.message.0 c.requires.message.1,
  c.requires.place.0,
  c.requires.place.1,
)

pub add_between-requires-clause-waits : goal.add_between-requires-clause-waits
add_between-requires-clause-waits c =
    subst (λ (o : Option Said). CanWait c.args.answers.now o) (sym c.as_ref.ensures.value) c.requires.waits

pub add_between-requires-clause-fits : goal.add_between-requires-clause-fits
add_between-requires-clause-fits c =
    subst (λ (o : Option Said). CanPutIf o) (sym c.as_ref-2.ensures.value) (c.said-next.ensures.fits c.requires.short.0 c.requires.short.1)

pub add_between-requires-clause-room : goal.add_between-requires-clause-room
add_between-requires-clause-room c =
    subst (λ (o : Option Said). NextFits c.args.joining.now.frames o) (sym c.as_ref.ensures.value) c.requires.room

pub returns-in-Ok-clause-place : goal.returns-in-Ok-clause-place
returns-in-Ok-clause-place c = c.place_behind-place.ensures.few

pub returns-in-Ok-clause-waits : goal.returns-in-Ok-clause-waits
returns-in-Ok-clause-waits c =
    subst (λ (o : Option Said). CanWait c.args.answers.now o) (sym c.later.ensures)
    (later_waits c.args.answers.now c.args.at c.said-next.result c.args.walk.waiting c.requires.message c.said-next.ensures.place
    (c.said-next.ensures.fits c.requires.short.0 c.requires.short.1) c.requires.waits)

pub returns-in-Ok-clause-room : goal.returns-in-Ok-clause-room
returns-in-Ok-clause-room c =
    room_later c.add_between.new.joining.frames c.said-next.result c.args.walk.waiting (option_copied c.as_ref-2.result)
    (option_copied c.as_ref.result) c.later.result c.as_ref-2.ensures.value
    c.as_ref.ensures.value c.later.ensures c.in-Ok.ensures.room

pub returns-in-Ok-clause-alike : goal.returns-in-Ok-clause-alike
returns-in-Ok-clause-alike c =
    alike_by c.args.conn.now c.said-next.new.conn (record c.said-next.new.conn { nonces = c.add_between.new.nonces })
    c.said-next.ensures.kept
    refl refl refl refl refl refl

pub returns-in-Err-clause-alike : goal.returns-in-Err-clause-alike
returns-in-Err-clause-alike c =
    alike_by c.args.conn.now c.said-next.new.conn (record c.said-next.new.conn { nonces = c.add_between.new.nonces })
    c.said-next.ensures.kept
    refl refl refl refl refl refl

pub returns-in-Ok-clause-walks : goal.returns-in-Ok-clause-walks
returns-in-Ok-clause-walks c = λ z first counted f g all w s.
    next_step z first counted f g all w c.args.answers.now c.args.at c.args.conn.now c.said-next.new.conn
    (record c.said-next.new.conn { nonces = c.add_between.new.nonces }) c.args.joining.now c.add_between.new.joining c.args.walk
    c.place_behind-place.result c.requires.message.0 c.said-next.result (option_copied c.as_ref.result)
    (option_copied c.as_ref-2.result) (Ok tt)
    c.later.result s c.requires.message.1 c.place_behind-place.ensures.is c.said-next.ensures.kept refl refl c.as_ref.ensures.value
    c.as_ref-2.ensures.value c.later.ensures
    (λ m x ms cs ss e keys shown hello said. c.said-next.ensures.says z f m x ms cs w ss e keys shown hello said)
    c.in-Ok.ensures.none c.in-Ok.ensures.joins

pub returns-in-Err-clause-walks : goal.returns-in-Err-clause-walks
returns-in-Err-clause-walks c = λ z first counted f g all w s.
    next_step z first counted f g all w c.args.answers.now c.args.at c.args.conn.now c.said-next.new.conn
    (record c.said-next.new.conn { nonces = c.add_between.new.nonces }) c.args.joining.now c.add_between.new.joining c.args.walk
    c.place_behind-place.result c.requires.message.0 c.said-next.result (option_copied c.as_ref.result) (option_copied c.as_ref-2.result)
    (Err c.in-Err.why) (later_of c.said-next.result c.args.walk.waiting) s c.requires.message.1 c.place_behind-place.ensures.is
    c.said-next.ensures.kept refl refl c.as_ref.ensures.value c.as_ref-2.ensures.value refl
    (λ m x ms cs ss e keys shown hello said. c.said-next.ensures.says z f m x ms cs w ss e keys shown hello said)
    c.in-Err.ensures.none c.in-Err.ensures.joins
