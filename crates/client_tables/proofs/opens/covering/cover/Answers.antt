use Rattle.std.proofs.Common.{OnOk, refl, sym, subst}
use Rattle.std.proofs.lemmas.Result.{on_err_weaker, on_ok_weaker}
use Rattle.base_lists.specs.range_index.Shown.{top}
use Rattle.client_values.specs.declared.operations.shapes.Kind.{Kind}
use Rattle.client_tables.specs.opens.Opened.{OpenBehind}
use Rattle.client_tables.proofs.opens.covering.cover.Goals as goal

pub returns-in-Write-clause-ok : goal.returns-in-Write-clause-ok
returns-in-Write-clause-ok c =
    subst (λ (z : Kind). OnOk c.cover.result (OpenBehind z (top c.args.written.now) (top c.cover.new.self)
    (top c.args.locked.now) (top c.args.locked.now) c.args.at c.args.size c.args.number))
    (sym c.in-Write.is) (on_ok_weaker c.cover.result (λ t. (t, λ x. refl)) c.cover.ensures.ok)

pub returns-in-Write-clause-err : goal.returns-in-Write-clause-err
returns-in-Write-clause-err c = on_err_weaker c.cover.result (λ t. (t, λ x. refl)) c.cover.ensures.err

pub returns-in-Lock-clause-ok : goal.returns-in-Lock-clause-ok
returns-in-Lock-clause-ok c =
    subst (λ (z : Kind). OnOk c.cover-in-Lock.result (OpenBehind z (top c.args.written.now) (top c.args.written.now)
    (top c.args.locked.now) (top c.cover-in-Lock.new.self) c.args.at c.args.size c.args.number))
    (sym c.in-Lock.is) (on_ok_weaker c.cover-in-Lock.result (λ t. (λ x. refl, t)) c.cover-in-Lock.ensures.ok)

pub returns-in-Lock-clause-err : goal.returns-in-Lock-clause-err
returns-in-Lock-clause-err c = on_err_weaker c.cover-in-Lock.result (λ t. (λ x. refl, t)) c.cover-in-Lock.ensures.err

pub returns-in-End-clause-ok : goal.returns-in-End-clause-ok
returns-in-End-clause-ok c = subst (λ (z : Kind). OpenBehind z (top c.args.written.now) (top c.clear.new.self)
    (top c.args.locked.now) (top c.args.locked.now) c.args.at c.args.size c.args.number)
    (sym c.in-End.is) (c.clear.ensures, λ x. refl)

pub returns-in-Close-clause-ok : goal.returns-in-Close-clause-ok
returns-in-Close-clause-ok c = subst (λ (z : Kind). OpenBehind z (top c.args.written.now) (top c.clear_both.new.written)
    (top c.args.locked.now) (top c.clear_both.new.locked) c.args.at c.args.size c.args.number)
    (sym c.in-Close.is) (c.clear_both.ensures.written, c.clear_both.ensures.locked)

pub returns-in-Create-clause-ok : goal.returns-in-Create-clause-ok
returns-in-Create-clause-ok c = subst (λ (z : Kind). OpenBehind z (top c.args.written.now) (top c.args.written.now)
    (top c.args.locked.now) (top c.args.locked.now) c.args.at c.args.size c.args.number)
    (sym c.in-Create.is) (λ x. refl, λ x. refl)

pub returns-in-Read-clause-ok : goal.returns-in-Read-clause-ok
returns-in-Read-clause-ok c = subst (λ (z : Kind). OpenBehind z (top c.args.written.now) (top c.args.written.now)
    (top c.args.locked.now) (top c.args.locked.now) c.args.at c.args.size c.args.number)
    (sym c.in-Read.is) (λ x. refl, λ x. refl)

pub returns-in-Change-clause-ok : goal.returns-in-Change-clause-ok
returns-in-Change-clause-ok c = subst (λ (z : Kind). OpenBehind z (top c.args.written.now) (top c.args.written.now)
    (top c.args.locked.now) (top c.args.locked.now) c.args.at c.args.size c.args.number)
    (sym c.in-Change.is) (λ x. refl, λ x. refl)

pub returns-in-Look-clause-ok : goal.returns-in-Look-clause-ok
returns-in-Look-clause-ok c = subst (λ (z : Kind). OpenBehind z (top c.args.written.now) (top c.args.written.now)
    (top c.args.locked.now) (top c.args.locked.now) c.args.at c.args.size c.args.number)
    (sym c.in-Look.is) (λ x. refl, λ x. refl)

pub returns-in-List-clause-ok : goal.returns-in-List-clause-ok
returns-in-List-clause-ok c = subst (λ (z : Kind). OpenBehind z (top c.args.written.now) (top c.args.written.now)
    (top c.args.locked.now) (top c.args.locked.now) c.args.at c.args.size c.args.number)
    (sym c.in-List.is) (λ x. refl, λ x. refl)
