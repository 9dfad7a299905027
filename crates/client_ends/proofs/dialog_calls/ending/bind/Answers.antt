use Rattle.std.proofs.Common.{ℕ, List, refl, ap}
use Rattle.client_ends.specs.declared.dialog_calls.heard.Heard.TheVariants as heards
use Rattle.client_ends.proofs.dialog_calls.ending.bind.Goals as goal

pub returns : goal.returns
returns c = record {
  line = c.take_keys.ensures;
  stage = refl;
  told = ap (λ (b : List ℕ). heards.Accepted c.args.ended.now.keys c.args.d.now.chosen b) c.new.ensures;
  rest = record { config = refl; bound = refl; previous = refl; session = refl };
}
