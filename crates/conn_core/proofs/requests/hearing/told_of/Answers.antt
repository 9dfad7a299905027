use Rattle.conn_core.proofs.requests.hearing.told_of.Goals as goal

pub returns-clause-told : goal.returns-clause-told
returns-clause-told c = λ guid f m k shown here shows. record {
  client = c.client.ensures f.greeting shown.greeting;
  chosen = c.chosen.ensures f.greeting shown.greeting;
  chain_is = λ setup. c.chain_behind.ensures f m k shown.greeting shown.making here shows setup;
}
