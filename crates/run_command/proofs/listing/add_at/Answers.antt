use Rattle.std.proofs.Common.{◌≡◌, ◌<◌, length, arith}
use Rattle.std.proofs.lemmas.Grind.{common_steps}
use Rattle.run_command.proofs.Listed.{none_lent, on_ok, one_lent}
use Rattle.run_command.proofs.listing.add_at.Goals as goal

pub returns-then-within : goal.returns-then-within
returns-then-within c =
    let xs = c.args.lists.now.items in
    let counted : c.len.result ≡ length xs = grind (arith, common_steps) in
    let within : c.args.create < length xs = (let l = c.if-within.true in omega (arith, l, counted)) in
    on_ok c.push.result
    (λ e. one_lent xs c.args.create c.args.number c.push.new.self c.index_mut.result.now c.index_mut.ensures.value within e) c.push.ensures.ok

pub returns : goal.returns
returns c =
    let xs = c.args.lists.now.items in
    let counted : c.len.result ≡ length xs = grind (arith, common_steps) in
    none_lent xs c.args.create c.args.number (λ l. (let past = c.if-within.false in omega (arith, l, past, counted)))
