use Rattle.std.proofs.Common.{ℕ, ap, length, refl, sym, ◌∙◌}
use Rattle.server_core.proofs.behind_expiry.Stays.{journal_stays, tables_stay}
use Rattle.server_core.proofs.behind_expiry.behind.room_behind.Goals as goal
use Rattle.journal_bytes.specs.record_bodies.Body.{fits_by}

pub both_ready-requires : goal.both_ready-requires
both_ready-requires g c = ap (λ (n : ℕ). fits_by c.args.server.now.tables.journal n) (sym c.len.ensures)
    ∙ (sym c.fits.ensures ∙ c.if-fits.true)

pub returns-clause-front : goal.returns-clause-front
returns-clause-front g c = λ front h. h

pub returns-clause-shown : goal.returns-clause-shown
returns-clause-shown g c = λ s records f h a p. (
  h,
  c.body_law.ensures.fits s c.args.body _ f.limit p.1 ∙ (ap (λ (j : ℕ). fits_by j (length c.args.body)) h.journal_is
      ∙ (ap (λ (n : ℕ). fits_by c.args.server.now.tables.journal n) (sym c.len.ensures) ∙ (sym c.fits.ensures ∙ c.if-fits.false))),
)

pub returns-clause-step : goal.returns-clause-step
returns-clause-step g c = λ L k. tt

pub returns-clause-kept : goal.returns-clause-kept
returns-clause-kept g c = tables_stay c.args.server.now.tables

pub returns-clause-journal : goal.returns-clause-journal
returns-clause-journal g c = (journal_stays c.args.server.now.journal, refl)
