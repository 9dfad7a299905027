use Rattle.spec_exchange.specs.Effects.{plain_of}
use Rattle.server_effects.proofs.session_ends.Ended.{ended_tables, fits_left, has_no_plain, present_left}
use Rattle.server_effects.proofs.session_ends.Left.{acts_is}
use Rattle.server_effects.proofs.session_ends.Pieces.{sessions_kept}
use Rattle.server_effects.specs.session_ends.Ended.{all_left}
use Rattle.std.proofs.Common.{◌∙◌}
use Rattle.server_effects.proofs.session_ends.ends.end_session.Goals as goal

pub returns-clause-told : goal.returns-clause-told
returns-clause-told c = λ s f h. c.is_some-acted.ensures
    ∙ acts_is s c.args.session c.plain_of.result f (c.plain_of.ensures s f h.opens)

pub returns-clause-shows : goal.returns-clause-shows
returns-clause-shows c = λ s f h p.
    let v = all_left s (plain_of s c.args.session) c.args.is_quiet in
    let k = c.leave_all.ensures.shows s f h in
    ended_tables c.leave_all.new.t c.detach.new.self c.remove.new.self s c.args.session c.args.now c.args.is_quiet f k
    (c.detach.ensures v (fits_left s c.args.session c.args.is_quiet f) k.opens (has_no_plain s c.args.session c.args.is_quiet f))
    (c.remove.ensures.shows v k.sessions (present_left s c.args.session c.args.is_quiet p))

pub returns-clause-kept : goal.returns-clause-kept
returns-clause-kept c = sessions_kept c.args.t.now c.leave_all.new.t c.detach.new.self c.remove.new.self c.leave_all.ensures.kept
    c.remove.ensures.logons c.remove.ensures.room c.remove.ensures.links
