use Rattle.examples_world.proofs.repeats.Secrets.{final_place, line_place, interim_place, refusal_place}
use Rattle.examples_world.proofs.repeats.server_places_example.Goals as goal

pub returns : goal.returns
returns c = record { final_of = final_place; line_of = line_place; interim_of = interim_place; refusal_of = refusal_place }
