use Rattle.std.proofs.Common.{◌<◌, true, false, sym, ◌∙◌, subst}
use Rattle.client_steps.proofs.Joined.{refreshed}
use Rattle.client_steps.proofs.refreshing.refresh.Goals as goal

pub join-requires : goal.join-requires
join-requires c = record { fits = c.requires.fits; within = subst (λ n. c.args.index < n) (sym c.requires.sized) c.requires.within }

pub leave-requires : goal.leave-requires
leave-requires c = record { fits = c.requires.fits; within = subst (λ n. c.args.index < n) (sym c.requires.sized) c.requires.within }

pub returns-then-is_out_at : goal.returns-then-is_out_at
returns-then-is_out_at c =
    let e = c.join.ensures in
    refreshed c.args.rows.now c.args.out.now c.join.new.out c.args.index true e.fits e.size c.requires.sized e.has
    (sym c.is_out_at.ensures ∙ c.if-is_out_at.true) c.requires.others

pub returns : goal.returns
returns c =
    let e = c.leave.ensures in
    refreshed c.args.rows.now c.args.out.now c.leave.new.out c.args.index false e.fits e.size c.requires.sized e.has
    (sym c.is_out_at.ensures ∙ c.if-is_out_at.false) c.requires.others
