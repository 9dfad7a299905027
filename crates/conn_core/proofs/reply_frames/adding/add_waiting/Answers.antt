use Rattle.std.proofs.Common.{subst}
use Rattle.std.specs.Prelude.{option_copied}
use Rattle.conn_core.specs.reply_frames.Adding.{CanWait, IsWaiting, NextFits}
use Rattle.conn_core.proofs.reply_frames.Moving.{waiting_by, waiting_none}
use Rattle.conn_core.proofs.reply_frames.Putting.{fits_shut}
use Rattle.conn_core.proofs.reply_frames.adding.add_waiting.Goals as goal

pub add-requires-clause-message : goal.add-requires-clause-message
add-requires-clause-message c = (subst (λ o. CanWait c.args.answers.now (option_copied o)) c.in-Some.is c.requires.waits).message

pub add-requires-clause-fits : goal.add-requires-clause-fits
add-requires-clause-fits c = (
  (subst (λ o. CanWait c.args.answers.now (option_copied o)) c.in-Some.is c.requires.waits).fits,
  c.requires.fits,
)

pub add-requires-clause-room : goal.add-requires-clause-room
add-requires-clause-room c = subst (λ o. NextFits c.args.joining.now.frames (option_copied o)) c.in-Some.is c.requires.room

pub returns-in-Some-clause-joins : goal.returns-in-Some-clause-joins
returns-in-Some-clause-joins c = λ first counted guid salt sealed g all waits n rest waiting follows next j.
    waiting_by c.args.keys first counted sealed g all c.args.joining.now.frames c.add.new.joining.frames c.args.nonces.now c.add.new.nonces
    c.args.joining.now.behind c.add.new.joining.behind guid salt c.args.answers.now c.in-Some.said.now waits n rest c.add.result
    (subst (λ o. IsWaiting guid salt c.args.answers.now (option_copied o) waits) c.in-Some.is waiting) next j
    (λ done front h m r reply written shows. c.add.ensures.adds first counted guid salt done front h m r n reply follows written shows)

pub returns-in-None-clause-room : goal.returns-in-None-clause-room
returns-in-None-clause-room c =
    fits_shut c.args.joining.now.frames (option_copied c.args.next)
    (subst (λ o. NextFits c.args.joining.now.frames (option_copied o)) c.in-None.is c.requires.room)

pub returns-in-None-clause-joins : goal.returns-in-None-clause-joins
returns-in-None-clause-joins c = λ first counted guid salt sealed g all waits n rest waiting follows next j.
    waiting_none c.args.keys first counted sealed g all c.args.joining.now.frames c.args.nonces.now c.args.joining.now.behind guid salt
    c.args.answers.now waits n rest (subst (λ o. IsWaiting guid salt c.args.answers.now (option_copied o) waits) c.in-None.is waiting) j
