use Rattle.std.proofs.Common.{ap, inl, inr, refl, ◌∙◌}
use Rattle.std.specs.Prelude.{Some}
use Rattle.std.proofs.KnownBytes.{Keeps-refl}
use Rattle.serve_command.proofs.command.serve_at.Goals as goal

pub returns-in-Ok : goal.returns-in-Ok
returns-in-Ok g c = λ from begins. inr (
  _,
  c.ready.ensures.place ∙ c.in-Ok.ensures.place,
  c.ready.ensures.accepted ∙ c.in-Ok.ensures.accepted,
  c.ready.ensures.calm ∙ c.in-Ok.ensures.cause,
  (λ told. c.ready.ensures.sent told ∙ c.listen.ensures.sent told),
  c.serve_on.ensures from begins,
)

pub returns-in-Err : goal.returns-in-Err
returns-in-Err g c = λ from begins.
    inl (
      c.in-Err.ensures.cause.1,
      (refl, (refl, Keeps-refl _)),
      c.in-Err.ensures.failed,
      c.listen.ensures.accepted,
      c.listen.ensures.sent,
      ap Some c.stop.ensures,
    )
