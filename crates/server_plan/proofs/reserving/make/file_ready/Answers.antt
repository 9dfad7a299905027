use Rattle.std.proofs.Common.{ℕ, Option, MatchResult, subst, sym}
use Rattle.wire_commands.specs.values.Meaning.{create_of}
use Rattle.store_files.specs.file_tree.Shown.{ShowsFiles}
use Rattle.server_effects.specs.Making.{FileFor}
use Rattle.server_plan.proofs.reserving.make.file_ready.Goals as goal

pub returns-in-Some-clause-room : goal.returns-in-Some-clause-room
returns-in-Some-clause-room c = c.found_ready.ensures.room c.args.t.now

pub returns-in-Some-clause-shown : goal.returns-in-Some-clause-shown
returns-in-Some-clause-shown c = λ s h. subst (λ (o : Option ℕ). FileFor c.args.t.now s (create_of c.args.request.now) o
    c.args.now c.found_ready.result) (sym c.in-Some.is)
    (c.found_ready.ensures.shown c.args.t.now s c.args.now h)

pub returns-in-None-clause-room : goal.returns-in-None-clause-room
returns-in-None-clause-room c = c.new_ready.ensures.room

pub returns-in-None-clause-shown : goal.returns-in-None-clause-shown
returns-in-None-clause-shown c = λ s h. subst (λ (o : Option ℕ). MatchResult c.new_ready.result
    (λ f. FileFor c.new_ready.new.t s (create_of c.args.request.now) o c.args.now f)
    (λ _. ShowsFiles c.new_ready.new.t.tree s)) (sym c.in-None.is)
    (c.new_ready.ensures.shown s h)

pub returns-in-None-clause-kept : goal.returns-in-None-clause-kept
returns-in-None-clause-kept c = c.new_ready.ensures.kept
