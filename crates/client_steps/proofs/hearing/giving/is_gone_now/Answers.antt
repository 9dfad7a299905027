use Rattle.std.proofs.Common.{◌≡◌, ◌-◌, ◌<◌, List, length, get_or, sym, ap, ◌∙◌, subst, arith}
use Rattle.client_values.specs.declared.outcomes.outcome.Outcome.{Outcome as Settled}
use Rattle.client_values.specs.declared.outcomes.outcome.Outcome.TheVariants as outcomes
use Rattle.client_values.specs.outcomes.Meaning.{outcome_of}
use Rattle.client_tables.specs.settling.Shown.{outcome_by}
use Rattle.client_steps.proofs.hearing.Noted.{stands_yet}
use Rattle.client_steps.proofs.hearing.giving.is_gone_now.Goals as goal

pub returns-then-stands_at : goal.returns-then-stands_at
returns-then-stands_at c = λ d s at shut persist.
    let x = c.args.create in
    sym (stands_yet d x (d.outcome x)
    (s.rows.places.unsettled x c.requires.above (s.rows.places.is_taken x c.requires.above c.requires.within) ∙ sym c.stands_at.ensures
    ∙ c.if-stands_at.true))

pub is_gone_at-requires : goal.is_gone_at-requires
is_gone_at-requires c =
    let n = c.requires.fits.settled_counted in
    let p = c.requires.above in
    let l = c.requires.within in
    subst (λ (xs : List Settled). c.args.create - 1 < length xs) (sym c.deref.ensures.value) (omega arith)

pub returns : goal.returns
returns c = λ d s at shut persist.
    let x = c.args.create in
    let values = c.args.table.now.settled.items in
    let taken = s.rows.places.is_taken x c.requires.above c.requires.within in
    c.is_gone_at.ensures d x
    (subst (λ (xs : List Settled). d.outcome x ≡ outcome_of (get_or xs (x - 1) (outcomes.NoOpen 0))) (sym c.deref.ensures.value)
    (s.values.outcome_is x c.requires.above taken
    ∙ ap (λ b. outcome_by b (get_or values (x - 1) (outcomes.NoOpen 0))) (sym c.stands_at.ensures ∙ c.if-stands_at.false)))
    shut persist (sym (c.is_attached-attached.ensures d x s.session at))
