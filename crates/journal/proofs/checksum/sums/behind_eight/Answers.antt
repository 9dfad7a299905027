use Rattle.std.proofs.Common.{List, ℕ, get_or, sym, ◌∙◌, ap, arith}
use Rattle.std.specs.Int.Bits.{bit_xor}
use Rattle.spec_journal.specs.Castagnoli.{behind_bytes}
use Rattle.journal.proofs.checksum.Eight.{are_eight, at_once}
use Rattle.journal.proofs.checksum.sums.behind_eight.Goals as goal

pub returns : goal.returns
returns c =
    let bytes : List ℕ = c.args.eight.now in
    (λ k. bit_xor (c.left_of-5.ensures k) (bit_xor (c.left_of-6.ensures k) (bit_xor (c.left_of-7.ensures k) (bit_xor (c.left_of-8.ensures k)
    (bit_xor (c.left_of-3.ensures k) (bit_xor (c.left_of-4.ensures k) (bit_xor (c.left_of.ensures k) (c.left_of-2.ensures k))))))))
    ∙ sym (at_once c.args.left (get_or bytes 0 0) (get_or bytes 1 0) (get_or bytes 2 0) (get_or bytes 3 0) (get_or bytes 4 0) (get_or bytes 5 0)
    (get_or bytes 6 0) (get_or bytes 7 0) (omega arith))
    ∙ ap (λ (l : List ℕ). behind_bytes c.args.left l) (sym (are_eight bytes c.requires))
