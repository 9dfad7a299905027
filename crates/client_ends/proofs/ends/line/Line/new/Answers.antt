use Rattle.std.proofs.Common.{List, sym, ap}
use Rattle.client_ends.specs.declared.ends.line.Outstanding.{Outstanding}
use Rattle.client_ends.specs.ends.Shown.{awaited_in}
use Rattle.client_ends.proofs.ends.line.Line.new.Goals as goal

pub returns-clause-shows : goal.returns-clause-shows
returns-clause-shows c = record {
  purse = sym c.new.ensures;
  awaited = λ id. ap (λ (os : List Outstanding). awaited_in os id) (sym c.new-2.ensures.items);
}
