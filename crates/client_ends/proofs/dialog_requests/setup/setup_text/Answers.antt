use Rattle.std.proofs.Common.{◌∙◌}
use Rattle.spec_world.specs.Messages.{message_spelling}
use Rattle.spec_world.specs.Sending.{setup_text}
use Rattle.client_ends.proofs.dialog_requests.setup.setup_text.Goals as goal

pub returns-clause-text : goal.returns-clause-text
unfolding setup_text
returns-clause-text c = λ m d.
    c.in_ok-frame.ensures.spelled
    ∙ (λ t. message_spelling (c.header_for-header.ensures m d t) ((c.as_slice.ensures ∙ c.in_ok-body.ensures.spelled) t))
