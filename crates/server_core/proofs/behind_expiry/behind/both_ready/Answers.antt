use Rattle.std.proofs.Common.{◌≡◌, ℕ, List, true, ap, length, subst, sym, ◌∙◌}
use Rattle.spec_exchange.specs.Step as steps
use Rattle.server_checks.specs.event_heard.Heard.{event_of}
use Rattle.server_core.proofs.behind_expiry.behind.both_ready.Goals as goal
use Rattle.journal_bytes.specs.record_bodies.Body.{fits_by}
use Rattle.server_core.specs.journaled_tables.Rooms.{HasRoomToWrite}
use Rattle.server_plan.specs.Plans.{OwingOf}
use Rattle.server_plan.specs.rulings.Rulings.{AbleToRule}

pub make_room-requires : goal.make_room-requires
make_room-requires g c =
    subst (λ (b : List ℕ). fits_by c.args.server.now.tables.journal (length b) ≡ true) (sym c.as_slice.ensures) c.requires

pub returns-in-Ok-clause-room : goal.returns-in-Ok-clause-room
returns-in-Ok-clause-room g c = (
  c.in-Ok.ensures.room,
  subst (λ (b : List ℕ). HasRoomToWrite c.make_room.new.server b) c.as_slice.ensures c.in-Ok.ensures.written,
)

pub returns-in-Ok-clause-shown : goal.returns-in-Ok-clause-shown
returns-in-Ok-clause-shown g c = λ s records f h a p.
    let e = event_of c.args.asked.now in
    let able = subst (λ (r : steps.Ruling). AbleToRule s r) (sym p.0) (c.ruling_law.ensures.able s e f) in
    let owing = subst (λ (r : steps.Ruling). OwingOf s r) (sym p.0) (c.plan_law.ensures.ruled s e f) in
    let x = c.in-Ok.ensures.shown s f h a able owing in (
      x.0,
      x.1 ∙ p.0,
      p.1,
      c.body_law.ensures.fits s c.args.body _ f.limit p.1 ∙ (ap (λ (j : ℕ). fits_by j (length c.args.body)) h.journal_is ∙ c.requires),
    )

pub returns-in-Ok-clause-step : goal.returns-in-Ok-clause-step
returns-in-Ok-clause-step g c = λ L k. c.in-Ok.ensures.step L k

pub returns-in-Err-clause-shown : goal.returns-in-Err-clause-shown
returns-in-Err-clause-shown g c = λ s records f h a p.
    let e = event_of c.args.asked.now in
    let able = subst (λ (r : steps.Ruling). AbleToRule s r) (sym p.0) (c.ruling_law.ensures.able s e f) in
    let owing = subst (λ (r : steps.Ruling). OwingOf s r) (sym p.0) (c.plan_law.ensures.ruled s e f) in
    c.in-Err.ensures.shown s f h a able owing
