use Rattle.std.proofs.Common.{ℕ, List, ap, length, subst, sym, ◌∙◌}
use Rattle.spec_exchange.specs.Step as steps
use Rattle.spec_exchange.specs.Step.{carried_out}
use Rattle.server_checks.specs.event_heard.Heard.{event_of}
use Rattle.journal_bytes.specs.record_bodies.Body.{IsBodyOf, fits_by}
use Rattle.server_plan.proofs.Planned.{fitting, lesser}
use Rattle.server_plan.specs.rulings.Rulings.{ruling_of}
use Rattle.server_plan.proofs.plan.fitting.Goals as goal

pub returns-then-fits-clause-plan : goal.returns-then-fits-clause-plan
returns-then-fits-clause-plan c = λ s now f h e b.
    let k = subst (λ (r : steps.Ruling). IsBodyOf c.args.body (carried_out s now r).records) e b in
    fitting s now (event_of c.args.asked.now) _ e k
    (c.body_law.ensures.fits s c.args.body _ f.limit k ∙ (ap (λ (j : ℕ). fits_by j (length c.args.body)) h.journal_is
    ∙ (ap (λ (n : ℕ). fits_by c.args.t.now.journal n) (sym c.len.ensures) ∙ (sym c.fits.ensures ∙ c.if-fits.true))))

pub returns-then-fits-clause-fits : goal.returns-then-fits-clause-fits
returns-then-fits-clause-fits c =
    ap (λ (n : ℕ). fits_by c.args.t.now.journal n) (sym c.len.ensures) ∙ (sym c.fits.ensures ∙ c.if-fits.true)

pub returns-clause-plan : goal.returns-clause-plan
returns-clause-plan c = λ s now f h e b.
    let k = subst (λ (r : steps.Ruling). IsBodyOf c.args.body (carried_out s now r).records) e b in
    lesser s now (event_of c.args.asked.now) (ruling_of (event_of c.args.asked.now) c.args.ruling) _ e
    c.plan_without_records.ensures.ruling c.plan_without_records.ensures.body
    (c.body_law.ensures.fits s c.args.body _ f.limit k ∙ (ap (λ (j : ℕ). fits_by j (length c.args.body)) h.journal_is
    ∙ (ap (λ (n : ℕ). fits_by c.args.t.now.journal n) (sym c.len.ensures) ∙ (sym c.fits.ensures ∙ c.if-fits.false))))

pub returns-clause-fits : goal.returns-clause-fits
returns-clause-fits c = ap (λ (v : List ℕ). fits_by c.args.t.now.journal (length v)) c.plan_without_records.ensures.body
