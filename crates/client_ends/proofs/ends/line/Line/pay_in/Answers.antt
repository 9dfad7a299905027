use Rattle.std.proofs.Common.{◌==◌, if◌then◌else◌, List, Option, None, sym, ap, ◌∙◌}
use Rattle.spec_wire.specs.credits.Purse.{Credits, after_add}
use Rattle.spec_exchange.specs.Network.{Token}
use Rattle.client_ends.specs.declared.ends.line.Outstanding.{Outstanding}
use Rattle.client_ends.specs.ends.Shown.{awaited_in}
use Rattle.client_ends.proofs.ends.Awaited.{awaited_less}
use Rattle.client_ends.proofs.ends.line.Line.pay_in.Goals as goal

pub returns-clause-shows : goal.returns-clause-shows
returns-clause-shows c = λ n s. record {
  purse = ap (λ (p : Credits). after_add c.args.header.now.credits p) s.purse ∙ sym c.add.ensures;
  awaited = λ id.
      ap (λ (t : Option Token). if id == c.args.header.now.message then None else t) (s.awaited id)
      ∙ sym (ap (λ (os : List Outstanding). awaited_in os id) c.drop_id.ensures
      ∙ awaited_less c.args.self.now.awaited.items c.args.header.now.message id);
}
