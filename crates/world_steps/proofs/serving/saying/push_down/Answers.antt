use Rattle.std.proofs.Common.{refl}
use Rattle.world_steps.proofs.serving.saying.push_down.Goals as goal

pub returns : goal.returns
returns c = record {
  said = record { place = c.args.place; bytes = c.args.bytes };
  place_is = refl;
  bytes_are = refl;
  added = c.in_ok-push_back.ensures.items;
}
