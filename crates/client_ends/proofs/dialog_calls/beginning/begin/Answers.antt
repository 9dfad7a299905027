use Rattle.std.proofs.Common.{refl, sym, ◌∙◌}
use Rattle.std.specs.Prelude.{is_some}
use Rattle.spec_crypto.specs.sessions.Chain.{value_behind}
use Rattle.client_ends.specs.dialog_calls.Opening.{opened_end}
use Rattle.client_ends.proofs.dialog_calls.Beginnings.{same_keys}
use Rattle.client_ends.proofs.dialog_calls.beginning.begin.Goals as goal

pub returns : goal.returns
returns c =
    let line = c.in_ok-line.ensures in
    record {
      said = c.in_ok-greeting.ensures;
      shown = λ keys encrypts given. record {
        stage = refl;
        shown = record {
          talk = line.talk (opened_end c.args.fresh (is_some c.args.bound) keys encrypts c.in_ok-greeting.greeting) refl refl;
          base = refl;
          challenge = refl;
          chosen = sym c.no_choice_yet.ensures;
          transcript = (λ t. value_behind (sym c.start-chain.ensures t) (sym c.as_slice.ensures t)) ∙ sym c.take.ensures.behind;
          keys = λ b. same_keys c.args.bound keys c.in_ok-line.line.keys given line.keys b;
          known = line.known;
        };
      };
      config = c.in_ok-config.ensures;
      stage = refl;
      previous = refl;
      bound = refl;
      session = refl;
    }
