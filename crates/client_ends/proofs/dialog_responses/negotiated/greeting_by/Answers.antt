use Rattle.std.proofs.Common.{sym}
use Rattle.client_values.specs.outcomes.Meaning.{refusal_of}
use Rattle.wire_bytes.specs.session_messages.Views.{negotiate_response}
use Rattle.wire_bytes.specs.negotiate_contexts.Views.{offer}
use Rattle.client_ends.specs.ends.Shown.{settings_of}
use Rattle.client_ends.proofs.dialog_responses.Greetings.{chosen_else, hint_turns}
use Rattle.client_ends.proofs.dialog_responses.negotiated.greeting_by.Goals as goal

pub returns-in-Some : goal.returns-in-Some
returns-in-Some c = λ m whole e t.
    chosen_else (settings_of c.args.config.now) m (negotiate_response c.args.response.now) (offer c.args.told.now)
    c.hash_count-hashes.result (refusal_of c.in-Some.why) whole e c.requires t c.hash_count-hashes.ensures (sym c.in-Some.ensures)

pub returns-in-None : goal.returns-in-None
returns-in-None c = λ m whole e t.
    hint_turns (settings_of c.args.config.now) m (negotiate_response c.args.response.now) (offer c.args.told.now)
    c.hash_count-hashes.result c.hinted.result whole e c.requires t c.hash_count-hashes.ensures (sym c.in-None.ensures)
    c.hinted.ensures
