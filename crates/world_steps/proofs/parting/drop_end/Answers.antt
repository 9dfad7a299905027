use Rattle.world_steps.proofs.parting.drop_end.Goals as goal

pub returns-in-Ok : goal.returns-in-Ok
returns-in-Ok c = record {
  channels = c.close_server.ensures;
  server = λ users s L records h. (c.in-Ok.ensures users s L records h).1;
}
