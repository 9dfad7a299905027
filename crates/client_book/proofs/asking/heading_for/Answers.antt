use Rattle.std.proofs.Common.{sym, ap, ◌∙◌}
use Rattle.client_ends.specs.ends.Shown.{token_of}
use Rattle.client_book.proofs.asking.heading_for.Goals as goal

pub returns-in-Ok : goal.returns-in-Ok
returns-in-Ok c =
    let told = c.heading_of.ensures.told in
    let costs = c.heading_of.ensures.costs in
    record {
      token = λ p. ap token_of costs.1 ∙ c.token_of-token.ensures p;
      costs = λ d shown p l. costs.0 ∙ c.charge_of-charge.ensures d shown p l;
      told = λ d k id shown.
          let is = c.in-Ok.ensures d k id shown in
          record {
            session = told.0 ∙ sym is.session_is;
            tree = told.1 ∙ sym is.tree_is;
            sequence = told.2 ∙ sym is.sequence_is;
            replay = told.3 ∙ sym is.replay_is;
          };
    }
