use Rattle.std.proofs.Common.{List, ℕ, ap, ◌∙◌}
use Rattle.spec_wire.specs.messages.Frames.{frame_spelling}
use Rattle.client_channels.proofs.channel_links.writing.say.Goals as goal

pub returns-in-Ok : goal.returns-in-Ok
returns-in-Ok g c =
    c.put.ensures c.args.message.now (c.in-Ok.ensures.1 ∙ ap (λ (x : List ℕ). frame_spelling x) c.as_slice.ensures)
