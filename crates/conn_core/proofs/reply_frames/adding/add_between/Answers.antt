use Rattle.std.proofs.Common.{Option, refl, sym, subst}
use Rattle.std.specs.Prelude.{option_copied}
use Rattle.conn_core.specs.declared.reply_sealing.said.Said.{Said}
use Rattle.conn_core.specs.reply_sealing.Saying.{CanPutIf}
use Rattle.conn_core.specs.reply_frames.Adding.{NextFits, later_of}
use Rattle.conn_core.proofs.reply_frames.Putting.{fits_later}
use Rattle.conn_core.proofs.reply_frames.Nexts.{adds_said, none_is, none_some, some_none}
use Rattle.conn_core.proofs.reply_frames.adding.add_between.Goals as goal

pub add_waiting-requires-clause-fits : goal.add_waiting-requires-clause-fits
add_waiting-requires-clause-fits c = subst (λ o. CanPutIf (option_copied o)) c.in-Some.is c.requires.fits

pub returns-in-Some-clause-room : goal.returns-in-Some-clause-room
returns-in-Some-clause-room c =
    fits_later c.add_waiting.new.joining.frames c.in-Some.next.now (option_copied c.args.next)
    (option_copied c.args.waiting) c.add_waiting.result
    (rw c.in-Some.is refl) c.add_waiting.ensures.room

pub returns-in-Some-clause-none : goal.returns-in-Some-clause-none
returns-in-Some-clause-none c = λ none. absurd (some_none (option_copied c.args.next) c.in-Some.next.now (rw c.in-Some.is refl) none)

pub returns-in-Some-clause-joins : goal.returns-in-Some-clause-joins
returns-in-Some-clause-joins c = λ said is.
    adds_said c.args.answers.now (option_copied c.args.waiting) c.in-Some.next.now said (option_copied c.args.next) c.args.keys
    c.args.joining.now c.args.nonces.now c.add_waiting.new.joining c.add_waiting.new.nonces c.add_waiting.result (rw c.in-Some.is refl) is
    (λ first counted guid salt sealed g all waits n rest waiting follows next j.
    c.add_waiting.ensures.joins first counted guid salt sealed g all waits n rest waiting follows next j)

pub returns-in-None-clause-room : goal.returns-in-None-clause-room
returns-in-None-clause-room c =
    subst (λ (o : Option Said). NextFits c.args.joining.now.frames (later_of o (option_copied c.args.waiting)))
    (sym (none_is (option_copied c.args.next) (rw c.in-None.is refl))) c.requires.room

pub returns-in-None-clause-none : goal.returns-in-None-clause-none
returns-in-None-clause-none c = λ none. (refl, refl, refl)

pub returns-in-None-clause-joins : goal.returns-in-None-clause-joins
returns-in-None-clause-joins c = λ said is. absurd (none_some (option_copied c.args.next) said (rw c.in-None.is refl) is)
