use Rattle.std.proofs.Common.{ℕ, List, get_or, sym, ap, ◌∙◌, arith}
use Rattle.store_files.proofs.file_tree.Slashes.{no_slash, cut_there}
use Rattle.store_files.proofs.file_tree.list.directory_in.Goals as goal

pub loop-i-init : goal.loop-i-init
loop-i-init c = λ k l m. absurd (omega arith)

pub returns : goal.returns
returns c = no_slash c.args.key.now c.args.front (λ k l m. c.loop-i.invariant k l (omega arith))

pub returns-then-bytes-i-eq92 : goal.returns-then-bytes-i-eq92
returns-then-bytes-i-eq92 c =
    let b = c.as_bytes-bytes.ensures.value in
    let e = ap (λ (xs : List ℕ). get_or xs c.loop-i.i 0) (sym b) ∙ c.if-bytes-i-eq92.true in
    cut_there c.args.key.now c.first_bytes.result.now c.args.front c.loop-i.i c.loop-i.auto.i
    (rw b at c.loop-i-test.true) e c.first_bytes.ensures
