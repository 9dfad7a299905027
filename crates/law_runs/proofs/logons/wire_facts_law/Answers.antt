use Rattle.law_runs.proofs.logons.wire_facts_law.Goals as goal

pub returns : goal.returns
returns c = record {
  lawful = λ z fitting. record {
    ciphers = c.ciphers_law.ensures.lawful;
    headers = c.headers_law.ensures.lawful;
    commands = c.commands_law.ensures.lawful;
    greeting_heard = c.greeting_law.ensures.heard z fitting;
    greeting_answered = c.answered_law.ensures.answered z fitting;
    setups = c.setups_law.ensures.lawful;
    trees = c.trees_law.ensures.lawful z fitting;
    tokens = c.tokens_law.ensures.lawful z fitting;
  };
}
