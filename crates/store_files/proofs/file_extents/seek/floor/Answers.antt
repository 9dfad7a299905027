use Rattle.std.proofs.Common.{◌≡◌, ◌≤◌, ℕ, arith, false}
use Rattle.std.specs.Ordering.{nat_cmp, is_gt}
use Rattle.std.proofs.lemmas.Map.Keys.{ge_from_not_lt}
use Rattle.std.proofs.lemmas.Bool.Decides.{nat_tests}
use Rattle.store_files.proofs.file_extents.seek.floor.Goals as goal

not_gt : (q n : ℕ) → q ≤ n → is_gt (nat_cmp q n) ≡ false
not_gt q n l = grind (arith, nat_tests)

pub returns-in-Some-clause-last : goal.returns-in-Some-clause-last
returns-in-Some-clause-last c q l s = ge_from_not_lt c.in-Some.place.now q
    ((c.range.ensures.in_range tt).4 (c.in-Some.place.now, c.in-Some.piece.now) c.next_back.new.self c.in-Some.ensures.steps q
    (tt, not_gt q c.args.at l) s)
