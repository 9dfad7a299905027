use Rattle.std.proofs.Common.{List, []}
use Rattle.spec_exchange.specs.Fold.{fold}
use Rattle.spec_exchange.specs.State.{Record}
use Rattle.server_core.specs.Over.{found_over}
use Rattle.server_core.specs.Reading.{BodiesSpell, SpellOver}
use Rattle.server_core.proofs.next_body.Spelled.{spelled}
use Rattle.server_core.proofs.next_body.behind_law.Goals as goal

pub returns : goal.returns
returns c = record {
  spelled = spelled BodiesSpell (λ (rs : List Record). (fold rs).version) c.body_law.ensures.added c.body_law.ensures.again
      c.more_law.ensures.plain;
  over = λ base. spelled (SpellOver base) (λ (rs : List Record). (found_over base rs).version) c.body_law.ensures.added
      c.body_law.ensures.again (c.more_law.ensures.over base);
  stepped = λ base rs s now e. c.behind_law.ensures.stepped base (λ f. []) rs s now e;
  alone = λ base rs s now e t o. c.behind_law.ensures.alone base (λ f. []) rs s now e t o;
}
