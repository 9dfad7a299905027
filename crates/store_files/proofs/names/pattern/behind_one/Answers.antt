use Rattle.std.proofs.Common.{◌≡◌, ◌==◌, true, false, get_or, arith}
use Rattle.std.proofs.lemmas.Bool.Decides.{nat_tests}
use Rattle.spec_exchange.specs.Texts.{upper}
use Rattle.store_files.proofs.names.Patterns.{question_behind, letter_behind, letter_fails}
use Rattle.store_files.proofs.names.pattern.behind_one.Goals as goal

pub returns-then-character-eq63-clause-some : goal.returns-then-character-eq63-clause-some
returns-then-character-eq63-clause-some c =
    let r = c.next_character.ensures.range in
    let q : (c.args.character == 63) ≡ true = (let t = c.if-character-eq63.true in grind (arith, nat_tests)) in (
      omega arith,
      r.1,
      question_behind c.args.character c.args.name.now c.args.at c.next_character.result c.requires.letter q
          c.requires.range c.next_character.ensures.is,
    )

pub returns-then-same-clause-some : goal.returns-then-same-clause-some
returns-then-same-clause-some c =
    let l = c.requires.range in
    let q : (c.args.character == 63) ≡ false = (let t = c.if-character-eq63.false in grind (arith, nat_tests)) in
    let s : (upper c.args.character == upper (get_or c.args.name.now c.args.at 0)) ≡ true =
    (let t = c.if-same.true in let a = c.upper.ensures in let b = c.upper-2.ensures in grind (arith, nat_tests)) in
    (omega arith, omega arith, letter_behind c.args.character c.args.name.now c.args.at c.requires.letter q l s)

pub returns-clause-none : goal.returns-clause-none
returns-clause-none c =
    let q : (c.args.character == 63) ≡ false = (let t = c.if-character-eq63.false in grind (arith, nat_tests)) in
    let s : (upper c.args.character == upper (get_or c.args.name.now c.args.at 0)) ≡ false =
    (let t = c.if-same.false in let a = c.upper.ensures in let b = c.upper-2.ensures in grind (arith, nat_tests)) in
    letter_fails c.args.character c.args.name.now c.args.at c.requires.letter q c.requires.range s
