use Rattle.std.proofs.Common.{ap}
use Rattle.spec_world.specs.Given.{Dealt, dealt_step}
use Rattle.spec_world.specs.Mishaps.{owning}
use Rattle.law_ties.proofs.lone_server.Single.{all_single}
use Rattle.law_ties.proofs.lone_server.single_events_law.Goals as goal

pub returns : goal.returns
returns c = record {
  single = λ z k now fresh before s L f mishaps x room.
      let all = all_single z k now fresh x.server_end (owning s L x.server_end mishaps) before x.messages room in (
        ap (λ (d : Dealt). dealt_step x.server_end x.sealed d.going d.stopped) all.1,
        ap (λ (d : Dealt). d.lacked) all.1,
      );
}
