use Rattle.std.proofs.Common.{◌++◌, ◌∷◌, [], subst}
use Rattle.server_core.specs.snapshot_writing.Told.{IsTold}
use Rattle.server_core.proofs.snapshot_writing.Lemmas.{goes_given_up}
use Rattle.server_core.proofs.snapshot_writing.FileLemmas.{on_ok, piece_is, there, text_is}
use Rattle.server_core.proofs.snapshot_writing.files.tell_front.Goals as goal

pub returns-in_default-clause-goes : goal.returns-in_default-clause-goes
returns-in_default-clause-goes g c = goes_given_up g.D.Disk.told g.D.Disk.seen g.D.Disk.may_leave g.D.Disk.moment g.D.Disk.left_since g.D.Disk.faults g.met.D.Disk.only_now c.args.journal.now

pub returns-then-not-is_short-clause-goes : goal.returns-then-not-is_short-clause-goes
returns-then-not-is_short-clause-goes g c = goes_given_up g.D.Disk.told g.D.Disk.seen g.D.Disk.may_leave g.D.Disk.moment g.D.Disk.left_since g.D.Disk.faults g.met.D.Disk.only_now c.args.journal.now

pub returns-clause-told : goal.returns-clause-told
returns-clause-told g c = λ s ps shows is h. on_ok c.tell_file.result _ _
    (subst (λ p. IsTold g.D.Disk.told g.D.Renewal.drafted c.tell_file.new.journal.disk c.tell_file.new.rewrite c.tell_file.new.body.items (ps ++ p ∷ []))
    (piece_is c.front_of-front.result s c.args.file c.in-Some.path.now (c.front_of-front.ensures s shows is)
    (text_is c.in-Some.path.now s c.args.file (c.in-Some.ensures s shows (there s c.args.file is)))))
    (c.tell_file.ensures.told ps h)
