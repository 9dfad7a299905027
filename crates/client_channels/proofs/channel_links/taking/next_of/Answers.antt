use Rattle.client_channels.proofs.channel_links.Coming.{next_frame, next_refused}
use Rattle.client_channels.proofs.channel_links.taking.next_of.Goals as goal

pub returns-in-Ok-Some : goal.returns-in-Ok-Some
returns-in-Ok-Some c = next_frame _ _ c.in-Ok-Some.field-0 c.in-Ok-Some.frame _ c.in-Ok-Some.field-0-is c.in-Ok-Some.ensures
    c.if_short.ensures

pub returns-in-Err : goal.returns-in-Err
returns-in-Err c = next_refused _ _ c.in-Err.refusal c.refused.result c.in-Err.ensures c.refused.ensures
