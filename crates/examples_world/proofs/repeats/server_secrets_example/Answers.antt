use Rattle.examples_world.proofs.repeats.Secrets.{session_final, binding_final, session_line, binding_line, session_interim, binding_interim}
use Rattle.examples_world.proofs.repeats.Secrets.{binding_refused}
use Rattle.examples_world.proofs.repeats.server_secrets_example.Goals as goal

pub returns : goal.returns
returns c = record {
  first = session_final;
  bound = binding_final;
  first_line = session_line;
  bound_line = binding_line;
  interim = session_interim;
  refused = binding_refused;
  session = binding_interim;
}
