use Rattle.script_words.proofs.generator.Ending.{none_left}
use Rattle.script_words.proofs.generator.making.Maker.next_made.Goals as goal

pub returns-then-self : goal.returns-then-self
returns-then-self c =
    none_left c.args.self.now.events.now c.args.self.now.operations c.args.self.now.made c.args.self.now.words
    c.requires.none c.if-self.true
