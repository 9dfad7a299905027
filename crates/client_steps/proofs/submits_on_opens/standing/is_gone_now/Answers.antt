use Rattle.std.proofs.Common.{◌≡◌, length, sym, ◌∙◌, arith}
use Rattle.std.proofs.lemmas.Grind.{common_steps}
use Rattle.client_steps.proofs.submits_on_opens.Stood.{outcome_here, stands_read, unsettled_stays}
use Rattle.client_steps.proofs.submits_on_opens.standing.is_gone_now.Goals as goal

pub returns-then-index : goal.returns-then-index
returns-then-index c = λ d s e shut persist.
    let t = c.args.table.now in
    let x = c.args.create in
    let p = s.rows.places in
    let l = p.is_taken x c.requires.above c.requires.within in
    sym (unsettled_stays d x (p.unsettled x c.requires.above l
    ∙ stands_read t.rows.items x c.index.result.now c.index.ensures c.requires.within ∙ c.if-index.true))

pub overflow_sub-create : goal.overflow_sub-create
overflow_sub-create c = let p = c.requires.above in omega arith

pub index-requires-2 : goal.index-requires-2
index-requires-2 c =
    let t = c.args.table.now in
    let e = c.requires.fits.settled_counted in
    let p = c.requires.above in
    let w = c.requires.within in
    let k : length t.settled.items ≡ t.settled.len = grind (arith, common_steps) in
    omega arith

pub returns : goal.returns
returns c = λ d s e shut persist.
    let t = c.args.table.now in
    let x = c.args.create in
    let p = s.rows.places in
    let l = p.is_taken x c.requires.above c.requires.within in
    c.is_gone.ensures d x
    (outcome_here t.rows.items t.ops.items t.settled.items d x c.index-2.result.now s.values c.requires.above l
    (stands_read t.rows.items x c.index.result.now c.index.ensures c.requires.within ∙ c.if-index.false)
    c.index-2.ensures)
    shut persist (sym (c.is_attached_now-attached.ensures d x s e))
