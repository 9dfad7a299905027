use Rattle.std.proofs.Common.{ℕ, List, ◌++◌, subst, sym}
use Rattle.spec_exchange.specs.Step.{carried_out}
use Rattle.server_checks.specs.event_heard.Heard.{event_of}
use Rattle.server_core.proofs.behind_expiry.Stays.{if_ok_by}
use Rattle.server_core.proofs.behind_expiry.behind.body_behind.Goals as goal
use Rattle.journal_bytes.specs.record_bodies.Body.{IsBodyOf}
use Rattle.server_plan.specs.rulings.Rulings.{ruling_of}

pub returns-in-Ok : goal.returns-in-Ok
returns-in-Ok c = λ s records f h w b.
    let owed = (carried_out s c.args.now (ruling_of (event_of c.args.asked.now) c.args.ruling.now)).records in
    if_ok_by c.joined.result c.joined.ensures (λ v e. subst (λ (bytes : List ℕ). IsBodyOf bytes (records ++ owed)) (sym e)
    (c.joined_law.ensures c.args.front.now c.as_slice.result.now records owed b
    (subst (λ (bytes : List ℕ). IsBodyOf bytes owed) (sym c.as_slice.ensures) (c.in-Ok.ensures.told s f h w))))
