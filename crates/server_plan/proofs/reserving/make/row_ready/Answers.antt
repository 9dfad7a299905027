use Rattle.std.proofs.Common.{◌<◌, ℕ, sym, subst}
use Rattle.server_plan.proofs.reserving.Kept.{kept_twice, opens_kept, tree_kept, with_opens}
use Rattle.server_plan.proofs.reserving.make.row_ready.Goals as goal

pub returns-in-Ok-clause-room : goal.returns-in-Ok-clause-room
returns-in-Ok-clause-room c = λ x k. let r = c.in-Ok.ensures.room c.requires in c.with_file.ensures.room x k (record {
  room = r.0;
  session = r.1;
  given = subst (λ (n : ℕ). n < 0xffff_ffff) (sym c.in-Ok.ensures.given) c.requires;
})

pub returns-in-Ok-clause-shown : goal.returns-in-Ok-clause-shown
returns-in-Ok-clause-shown c = λ s m action e h i. c.with_file.ensures.shown s m action e
    (with_opens c.args.t.now c.reserve.new.self s h (c.in-Ok.ensures.same s h.opens)) i

pub returns-in-Ok-clause-plain : goal.returns-in-Ok-clause-plain
returns-in-Ok-clause-plain c = c.with_file.ensures.plain

pub returns-in-Ok-clause-kept : goal.returns-in-Ok-clause-kept
returns-in-Ok-clause-kept c = kept_twice c.args.t.now (record c.args.t.now { opens = c.reserve.new.self }) c.with_file.new.t
    (opens_kept c.args.t.now c.reserve.new.self c.in-Ok.ensures.rest c.in-Ok.ensures.undated)
    (tree_kept (record c.args.t.now { opens = c.reserve.new.self }) c.with_file.new.t c.with_file.ensures.kept)

pub returns-in-Err-clause-shown : goal.returns-in-Err-clause-shown
returns-in-Err-clause-shown c = λ s m action e h i. with_opens c.args.t.now c.reserve.new.self s h (c.in-Err.ensures.same s h.opens)

pub returns-in-Err-clause-kept : goal.returns-in-Err-clause-kept
returns-in-Err-clause-kept c = opens_kept c.args.t.now c.reserve.new.self c.in-Err.ensures.rest c.in-Err.ensures.undated
