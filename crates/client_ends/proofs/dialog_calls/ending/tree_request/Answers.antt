use Rattle.std.proofs.Common.{ℕ, ◌≤◌, List, length, refl, sym, ap, subst, ◌∙◌, arith}
use Rattle.spec_commands.specs.BodyOf.{body_of, number_of_command}
use Rattle.spec_exchange.specs.Commands.{Command}
use Rattle.client_ends.proofs.dialog_calls.Endings.{no_flags, tree_size}
use Rattle.client_ends.proofs.dialog_calls.ending.tree_request.Goals as goal

pub returns : goal.returns
returns c =
    let body = c.in_ok-body.ensures in
    record {
      request = λ m id is. record {
        costs = refl;
        sequence = sym is.said.sequence;
        command = ap (λ (k : Command). number_of_command k) (sym is.command);
        flags = no_flags m.replay 0x2000_0000 is.said.replay;
        tree = sym is.said.tree;
        session = sym is.said.logon;
        body = body.0 ∙ ap (λ (k : Command). body_of k) (sym is.command);
      };
      sends = record {
        flags = omega arith;
        body = subst (λ (b : List ℕ). length b ≤ 1113996) (sym body.0) (tree_size c.args.d.now.config.share body.1);
      };
      token = refl;
    }
