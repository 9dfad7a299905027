use Rattle.std.proofs.Common.{◌∙◌}
use Rattle.spec_world.specs.Messages.{message_spelling}
use Rattle.spec_world.specs.Sending.{greeting_text}
use Rattle.client_ends.proofs.dialog_requests.greeting.greeting_text.Goals as goal

pub returns : goal.returns
unfolding greeting_text
returns c = λ m d.
    c.from_vec.ensures
    ∙ (c.in_ok-frame.ensures.spelled
    ∙ (λ t. message_spelling (c.header_for-header.ensures m d t) ((c.as_slice.ensures ∙ c.in_ok-body.ensures) t)))
