use Rattle.std.proofs.Common.{refl, ap}
use Rattle.client_ends.specs.declared.ends.line.Line.{Line}
use Rattle.client_ends.specs.declared.dialog_calls.heard.Heard.TheVariants as heards
use Rattle.client_ends.proofs.dialog_calls.ending.ready.Goals as goal

pub returns : goal.returns
returns c = record {
  told = ap (λ (l : Line). heards.Ready l c.args.session c.args.tree) c.replace.ensures.value;
  stage = refl;
}
