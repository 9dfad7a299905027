use Rattle.std.proofs.Common.{List, ℕ, Ok, Err, inl, inr, refl, subst}
use Rattle.client_ends.specs.line_calls.Interim.{LineGives}
use Rattle.serve_turns.specs.shared_book.Words.{view_of}
use Rattle.client_channels.specs.channel_turns.Asides.{LineTakes}
use Rattle.client_channels.specs.channel_turns.Sides.{Breaks, Hears, Lost, Runs}
use Rattle.client_channels.proofs.channel_turns.Hearing.{line_breaks, line_takes, line_waits}
use Rattle.client_channels.proofs.channel_turns.Stepping.{aside_none}
use Rattle.client_channels.proofs.channel_turns.lines.hear_message.Goals as goal

pub returns-in-Ok-Some-clause-hears : goal.returns-in-Ok-Some-clause-hears
returns-in-Ok-Some-clause-hears g c = λ a.
    let side = Hears c.hear_or_wait.new.line c.in-Ok-Some.answer in (
      side,
      inl (subst (λ (m : List ℕ). LineTakes c.args.line.now m side) c.as_slice.ensures
          (line_takes c.args.line.now c.as_slice.result.now c.in-Ok-Some.answer c.hear_or_wait.new.line
          (λ n s. subst (λ r. LineGives n c.as_slice.result.now c.hear_or_wait.new.line (Ok r)) c.in-Ok-Some.field-0-is
          (c.in-Ok-Some.ensures n s)))),
      c.tell_answer.ensures.tells a c.hear_or_wait.new.line,
    )

pub returns-in-Ok-None-clause-hears : goal.returns-in-Ok-None-clause-hears
returns-in-Ok-None-clause-hears g c = λ a.
    let side = Runs c.hear_or_wait.new.line in (
      side,
      inl (subst (λ (m : List ℕ). LineTakes c.args.line.now m side) c.as_slice.ensures
          (line_waits c.args.line.now c.as_slice.result.now c.hear_or_wait.new.line
          (λ n s. subst (λ r. LineGives n c.as_slice.result.now c.hear_or_wait.new.line (Ok r)) c.in-Ok-None.field-0-is
          (c.in-Ok-None.ensures n s)))),
      aside_none a c.args.channel side (view_of c.args.seat.now).own,
    )

pub returns-in-Err-BadReply-clause-hears : goal.returns-in-Err-BadReply-clause-hears
returns-in-Err-BadReply-clause-hears g c = λ a. (
  Breaks,
  inl (subst (λ (m : List ℕ). LineTakes c.args.line.now m Breaks) c.as_slice.ensures
      (line_breaks c.args.line.now c.as_slice.result.now c.hear_or_wait.new.line
      (λ n s. subst (λ e. LineGives n c.as_slice.result.now c.hear_or_wait.new.line (Err e)) c.in-Err-BadReply.field-0-is
      (c.in-Err-BadReply.ensures n s)))),
  c.cut.ensures.cuts a,
)

pub returns-in-Err-Memory-clause-hears : goal.returns-in-Err-Memory-clause-hears
returns-in-Err-Memory-clause-hears g c = λ a. (Lost, inr refl, c.lack.ensures.lacks a c.args.channel Lost)

pub returns-in-Err-NoCredit-clause-hears : goal.returns-in-Err-NoCredit-clause-hears
returns-in-Err-NoCredit-clause-hears g c = λ a. (Lost, inr refl, c.lack-in-Err-NoCredit.ensures.lacks a c.args.channel Lost)

pub returns-in-Err-Spent-clause-hears : goal.returns-in-Err-Spent-clause-hears
returns-in-Err-Spent-clause-hears g c = λ a. (Lost, inr refl, c.lack-in-Err-Spent.ensures.lacks a c.args.channel Lost)
