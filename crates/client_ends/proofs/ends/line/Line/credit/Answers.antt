use Rattle.std.proofs.Common.{sym, ap, ◌∙◌}
use Rattle.spec_wire.specs.credits.Purse.{Credits, after_add}
use Rattle.client_ends.proofs.ends.line.Line.credit.Goals as goal

pub returns-clause-shows : goal.returns-clause-shows
returns-clause-shows c = λ n s. record {
  purse = ap (λ (p : Credits). after_add c.args.header.now.credits p) s.purse ∙ sym c.add.ensures;
  awaited = s.awaited;
}
