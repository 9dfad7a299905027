use Rattle.std.proofs.Common.{◌≡◌, ℕ, ◌<◌, List, length, inl, refl, sym, subst}
use Rattle.std.proofs.lemmas.Result.{on_ok_weaker}
use Rattle.client_rows.specs.operation_rows.Rows.{stands}
use Rattle.client_rows.proofs.operation_rows.Walking.{positive}
use Rattle.client_rows.specs.open_marks.Marks.{MarkAdds, MarkTold}
use Rattle.client_rows.proofs.open_marks.Raised.{adds_none, adds_one, goes_none, goes_one, positive_not, told_one}
use Rattle.client_rows.proofs.open_marks.listing.list_one.Goals as goal

pub returns-then-mark-eq0-clause-adds : goal.returns-then-mark-eq0-clause-adds
returns-then-mark-eq0-clause-adds c = adds_none (λ l. (0 < l) × (l ≡ c.args.mark)) c.args.holders.now.items

pub returns-then-mark-eq0-clause-told : goal.returns-then-mark-eq0-clause-told
returns-then-mark-eq0-clause-told c = λ p. absurd (positive_not c.args.mark p c.if-mark-eq0.true)

pub returns-then-mark-eq0-clause-goes : goal.returns-then-mark-eq0-clause-goes
returns-then-mark-eq0-clause-goes c = goes_none c.args.holders.now.items

pub returns-then-not-rows-mark-clause-adds : goal.returns-then-not-rows-mark-clause-adds
returns-then-not-rows-mark-clause-adds c = adds_none (λ l. (0 < l) × (l ≡ c.args.mark)) c.args.holders.now.items

pub returns-then-not-rows-mark-clause-told : goal.returns-then-not-rows-mark-clause-told
returns-then-not-rows-mark-clause-told c = λ p. inl c.if-not-rows-mark.true

pub returns-then-not-rows-mark-clause-goes : goal.returns-then-not-rows-mark-clause-goes
returns-then-not-rows-mark-clause-goes c = goes_none c.args.holders.now.items

pub returns-clause-adds : goal.returns-clause-adds
returns-clause-adds c =
    let old = c.args.holders.now.items in
    on_ok_weaker c.put_behind.result (λ e. subst (λ (xs : List ℕ). MarkAdds (λ l. (0 < l) × (l ≡ c.args.mark)) old xs) (sym e)
    (adds_one (λ l. (0 < l) × (l ≡ c.args.mark)) old c.args.mark (positive c.args.mark c.if-mark-eq0.false, refl)))
    c.put_behind.ensures.ok

pub returns-clause-told : goal.returns-clause-told
returns-clause-told c =
    let old = c.args.holders.now.items in
    on_ok_weaker c.put_behind.result
    (λ e. subst (λ (xs : List ℕ). MarkTold (stands c.args.rows.now) xs (length old) (length xs) c.args.mark)
    (sym e) (told_one (stands c.args.rows.now) old c.args.mark)) c.put_behind.ensures.ok

pub returns-clause-goes : goal.returns-clause-goes
returns-clause-goes c = goes_one c.put_behind.result c.args.holders.now.items c.put_behind.new.holders.items c.args.mark
    c.put_behind.ensures.ok c.put_behind.ensures.err
