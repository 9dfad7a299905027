use Rattle.std.proofs.Common.{sym, ◌∙◌, eqb-true}
use Rattle.server_core.proofs.durable_state.Making.{other_file, made_shown, unmade_shown}
use Rattle.server_core.proofs.durable_state.durable.Durable.make_recorded.Goals as goal

pub returns-then-not-is_next_file : goal.returns-then-not-is_next_file
returns-then-not-is_next_file c = λ s i h. (
  sym (other_file s c.args.made.now.file c.args.made.now.path.now (sym (c.is_next_file.ensures s h)
      ∙ c.if-not-is_next_file.true)),
  h,
)

pub returns-in-Ok : goal.returns-in-Ok
returns-in-Ok c = λ s i h.
    let k = c.in-Ok.ensures.done s h.files in
    let m = c.args.made.now in
    made_shown c.args.self.now c.make.new.self s m.file m.path.now m.directory m.attributes m.time i h
    (eqb-true m.file s.next_file (sym (c.is_next_file.ensures s h) ∙ c.if-not-is_next_file.false)) k.0 k.2

pub returns-in-Err : goal.returns-in-Err
returns-in-Err c = let m = c.args.made.now in
    unmade_shown c.refused.result c.in-Err.error c.args.self.now c.make.new.self m.file m.path.now m.directory m.attributes m.time
    c.refused.ensures c.in-Err.ensures.done
