use Rattle.std.proofs.Common.{ap, subst, sym, ◌∙◌, ℕ, Option}
use Rattle.spec_exchange.specs.Effects.{acts_if_named, end_if_named}
use Rattle.spec_exchange.specs.Step.{ends_with}
use Rattle.server_checks.specs.Shown.{TablesShown}
use Rattle.server_effects.proofs.lost_connections.Lost.{ends_present}
use Rattle.server_effects.proofs.lost_connections.connections.take_out.Goals as goal

pub returns-clause-told : goal.returns-clause-told
returns-clause-told c = λ s f h. c.end_if_named-acted.ensures.told s f h ∙ ap (acts_if_named s) (c.ends_with-session.ensures s h.sessions)

pub returns-clause-shows : goal.returns-clause-shows
returns-clause-shows c = λ s f h.
    let e = c.ends_with-session.ensures s h.sessions in
    let g = c.end_if_named-acted.ensures.shows s f h (λ x p. ends_present s c.args.connection x f (sym e ∙ p)) in
    let u = subst (λ (o : Option ℕ). TablesShown c.end_if_named-acted.new.t (end_if_named s c.args.now o c.args.is_quiet)) e g in
    let v = end_if_named s c.args.now (ends_with s c.args.connection) c.args.is_quiet in
    record {
      opens = u.opens;
      files = u.files;
      sessions = c.forget.ensures.shows v u.sessions;
      share_is = u.share_is;
      room_is = u.room_is;
      encrypts_is = u.encrypts_is;
      address_is = u.address_is;
      version_is = u.version_is;
      journal_is = u.journal_is;
    }

pub returns-clause-config : goal.returns-clause-config
returns-clause-config c = c.end_if_named-acted.ensures.kept.config

pub returns-clause-logons : goal.returns-clause-logons
returns-clause-logons c = λ keys pending k. c.forget.ensures.logons keys pending (c.end_if_named-acted.ensures.kept.logons keys pending k)
