use Rattle.std.proofs.Common.{refl}
use Rattle.examples_world.proofs.runs.refused_binding_example.Goals as goal

pub returns : goal.returns
returns c = record {
  other_algorithm = refl;
  other_user = refl;
  unsigned = refl;
  ill_signed = refl;
  without_the_key = refl;
  not_told = refl;
  other_client = refl;
  in_the_making = refl;
}
