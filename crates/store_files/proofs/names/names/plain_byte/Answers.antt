use Rattle.std.proofs.Common.{◌≡◌, true, false, get_or, arith}
use Rattle.std.proofs.lemmas.List.{places}
use Rattle.spec_exchange.specs.Texts.{is_plain}
use Rattle.store_files.proofs.names.Components.{behind_plain, not_plain}
use Rattle.store_files.proofs.names.names.plain_byte.Goals as goal

pub returns-then-is_plain-clause-some : goal.returns-then-is_plain-clause-some
returns-then-is_plain-clause-some c =
    let r = c.requires in
    let e : is_plain (get_or c.args.path.now c.args.i 0) ≡ true =
    (let x = c.is_plain.ensures in let y = c.if-is_plain.true in grind (arith, places)) in
    (omega arith, behind_plain c.args.first c.args.i c.args.path.now r.0 r.1 r.2 e)

pub returns-clause-none : goal.returns-clause-none
returns-clause-none c =
    let r = c.requires in
    let e : is_plain (get_or c.args.path.now c.args.i 0) ≡ false =
    (let x = c.is_plain.ensures in let y = c.if-is_plain.false in grind (arith, places)) in
    not_plain c.args.first c.args.i c.args.path.now r.1 r.2 e
