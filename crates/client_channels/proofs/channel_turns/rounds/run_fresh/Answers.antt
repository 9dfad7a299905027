use Rattle.std.proofs.Common.{◌∙◌, arith, inl, inr, sym}
use Rattle.client_channels.proofs.channel_turns.rounds.run_fresh.Goals as goal

pub fresh_at-fresh-requires : goal.fresh_at-fresh-requires
fresh_at-fresh-requires g c = let next = c.requires.next in omega arith

pub returns-in-Ok-clause-uses : goal.returns-in-Ok-clause-uses
returns-in-Ok-clause-uses g c = inl (record {
  fresh = c.fresh_at-fresh.result;
  drawn = c.fresh_at-fresh.ensures;
  dialog = c.in-Ok.dialog;
  greeting = c.in-Ok.greeting;
  begins = c.in-Ok.ensures;
  stream = c.run_dialog.new.wire.stream;
  link' = c.run_dialog.new.wire.link;
  passes = rw (sym c.requires.stream) c.run_dialog.ensures.runs;
  count = c.run_dialog.ensures.kept.1 ∙ c.requires.next;
})

pub returns-in-Err-clause-uses : goal.returns-in-Err-clause-uses
returns-in-Err-clause-uses g c = inr c.lack.ensures.tells
