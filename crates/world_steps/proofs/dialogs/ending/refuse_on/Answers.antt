use Rattle.world_steps.proofs.dialogs.ending.refuse_on.Goals as goal

pub returns-in-Ok : goal.returns-in-Ok
returns-in-Ok c = record {
  shown = c.in-Ok.ensures.shown;
  closed = c.closed.result;
  is_closed = c.closed.ensures;
  placed = c.put_channel.ensures;
}

pub returns-in-Err : goal.returns-in-Err
returns-in-Err c = c.in-Err.ensures.told
