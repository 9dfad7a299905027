use Rattle.spec_exchange.specs.Client.{note_refusal}
use Rattle.client_values.specs.outcomes.Meaning.{refusal_of}
use Rattle.client_steps.proofs.whole_client.Around.{fits_around, same_places, shows_around}
use Rattle.client_steps.proofs.whole_client.client.Client.refused.Goals as goal

pub refused-requires : goal.refused-requires
refused-requires c = record { fits = c.requires.fits.whole.table }

pub returns-in-Ok-clause-fits : goal.returns-in-Ok-clause-fits
returns-in-Ok-clause-fits c =
    let x = c.args.self.now in
    let u = c.refused.new.self in
    let e = c.refused.ensures in
    fits_around x.table u x.attached.items x.opened.items x.marks.items
    (same_places x.table.rows.items u.rows.items (λ i. (e.rows i).items)) x.later.items e.fits c.requires.fits

pub returns-in-Ok-clause-shown : goal.returns-in-Ok-clause-shown
returns-in-Ok-clause-shown c = λ d s.
    let x = c.args.self.now in
    let u = c.refused.new.self in
    let e = c.refused.ensures in
    shows_around x.table u x.attached.items x.opened.items x.marks.items
    (same_places x.table.rows.items u.rows.items (λ i. (e.rows i).items)) (note_refusal d c.args.channel (refusal_of c.args.why))
    (c.in-Ok.ensures.shown d s.table) s.attached s.opened s.marked

pub returns-in-Err-clause-fits : goal.returns-in-Err-clause-fits
returns-in-Err-clause-fits c =
    let x = c.args.self.now in
    let u = c.refused.new.self in
    let e = c.refused.ensures in
    fits_around x.table u x.attached.items x.opened.items x.marks.items
    (same_places x.table.rows.items u.rows.items (λ i. (e.rows i).items)) x.later.items e.fits c.requires.fits

pub returns-in-Err-clause-kept : goal.returns-in-Err-clause-kept
returns-in-Err-clause-kept c = λ d s.
    let x = c.args.self.now in
    let u = c.refused.new.self in
    let e = c.refused.ensures in
    shows_around x.table u x.attached.items x.opened.items x.marks.items
    (same_places x.table.rows.items u.rows.items (λ i. (e.rows i).items)) d (c.in-Err.ensures.kept d s.table) s.attached s.opened s.marked
