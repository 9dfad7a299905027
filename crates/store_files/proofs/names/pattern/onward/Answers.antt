use Rattle.std.proofs.Common.{◌≡◌, ◌<◌, ◌==◌, true, false, length, get_or, arith}
use Rattle.std.proofs.lemmas.Bool.Decides.{nat_tests}
use Rattle.store_files.proofs.names.Patterns.{pattern_spent, end_misses, walk_goes_on, walk_meets_star}
use Rattle.store_files.proofs.names.pattern.onward.Goals as goal

pub returns-then-walk-pattern-clause-none : goal.returns-then-walk-pattern-clause-none
returns-then-walk-pattern-clause-none c = pattern_spent c.args.pattern.now c.args.name.now c.args.walk.i c.args.walk.j
    c.if-walk-pattern.true (c.requires.rest c.if-walk-pattern.true)

pub returns-then-character-eq42-clause-some : goal.returns-then-character-eq42-clause-some
returns-then-character-eq42-clause-some c =
    let w = c.args.walk in
    let l : w.i < length c.args.pattern.now = (let r = c.requires.stands.in_pattern.0 in let n = c.if-walk-pattern.false in grind arith) in
    let e : (get_or c.args.pattern.now w.i 0 == 42) ≡ true = (let t = c.if-character-eq42.true in grind (arith, nat_tests)) in
    walk_meets_star c.args.pattern.now c.args.name.now w.i w.j w.behind w.from c.requires.stands l e

pub returns-then-walk-name-clause-none : goal.returns-then-walk-name-clause-none
returns-then-walk-name-clause-none c =
    let w = c.args.walk in
    let l : w.i < length c.args.pattern.now = (let r = c.requires.stands.in_pattern.0 in let n = c.if-walk-pattern.false in grind arith) in
    let e : (get_or c.args.pattern.now w.i 0 == 42) ≡ false = (let t = c.if-character-eq42.false in grind (arith, nat_tests)) in
    end_misses c.args.pattern.now c.args.name.now w.i w.j l e c.if-walk-name.true

pub returns-in-Some-clause-some : goal.returns-in-Some-clause-some
returns-in-Some-clause-some c =
    let w = c.args.walk in
    let l : w.i < length c.args.pattern.now = (let r = c.requires.stands.in_pattern.0 in let n = c.if-walk-pattern.false in grind arith) in
    walk_goes_on c.args.pattern.now c.args.name.now w.i w.j w.behind w.from c.in-Some.j c.requires.stands l c.in-Some.ensures.some
