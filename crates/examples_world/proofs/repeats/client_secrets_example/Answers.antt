use Rattle.examples_world.proofs.repeats.Secrets.{request_secret, setup_secret, setup_place, accepted_one, own_one, learned_one, kept_one}
use Rattle.examples_world.proofs.repeats.client_secrets_example.Goals as goal

pub returns : goal.returns
returns c = record {
  line = request_secret;
  setup = setup_secret;
  session = setup_place;
  accepted = accepted_one;
  own = own_one;
  learned = learned_one;
  kept = kept_one;
}
