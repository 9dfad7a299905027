use Rattle.world_steps.proofs.dialogs.ending.closed.Goals as goal

pub returns : goal.returns
returns c = record {
  client = c.close_client.ensures.ends.0;
  server = c.close_client.ensures.ends.1;
  up = c.close_client.ensures.lists.1;
  down = c.close_client.ensures.lists.0;
}
