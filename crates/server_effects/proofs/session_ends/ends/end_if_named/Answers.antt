use Rattle.std.proofs.Common.{ℕ, Option, ap, refl, subst, sym, ◌∙◌}
use Rattle.spec_exchange.specs.Effects.{acts_if_named, end_if_named}
use Rattle.server_checks.specs.Shown.{TablesShown}
use Rattle.server_effects.proofs.session_ends.ends.end_if_named.Goals as goal

pub returns-in-Some-clause-told : goal.returns-in-Some-clause-told
returns-in-Some-clause-told c = λ s f h. c.end_session.ensures.told s f h ∙ sym (ap (acts_if_named s) c.in-Some.is)

pub returns-in-Some-clause-shows : goal.returns-in-Some-clause-shows
returns-in-Some-clause-shows c = λ s f h p.
    subst (λ (o : Option ℕ). TablesShown c.end_session.new.t (end_if_named s c.args.now o c.args.is_quiet)) (sym c.in-Some.is)
    (c.end_session.ensures.shows s f h (p c.in-Some.session c.in-Some.is))

pub returns-in-Some-clause-kept : goal.returns-in-Some-clause-kept
returns-in-Some-clause-kept c = c.end_session.ensures.kept

pub returns-in-None-clause-told : goal.returns-in-None-clause-told
returns-in-None-clause-told c = λ s f h. sym (ap (acts_if_named s) c.in-None.is)

pub returns-in-None-clause-shows : goal.returns-in-None-clause-shows
returns-in-None-clause-shows c = λ s f h p.
    subst (λ (o : Option ℕ). TablesShown c.args.t.now (end_if_named s c.args.now o c.args.is_quiet)) (sym c.in-None.is) h

pub returns-in-None-clause-kept : goal.returns-in-None-clause-kept
returns-in-None-clause-kept c = record {
  config = refl;
  logons = λ keys pending k. k;
  room = λ r. r;
  links = λ k r. r;
}
