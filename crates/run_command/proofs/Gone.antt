-- How the command ends behind a script that was read.
use Rattle.std.proofs.Common.{◌≡◌, ℕ, List, Option, Ok, subst, inr}
use Rattle.client_ends.specs.declared.ends.config.ClientConfig.{ClientConfig}
use Rattle.client_steps.specs.declared.whole_client.client.Client.{Client}
use Rattle.client_values.specs.declared.operations.values.OpKind.{OpKind}
use Rattle.script_words.specs.text_lines.Views.{read_of}
use Rattle.script_words.specs.declared.text_lines.line.Script.{Script}
use Rattle.script_words.specs.declared.values.Command.TheVariants.{Run}
use Rattle.run_command.specs.Asking.{Asks}
use Rattle.run_command.specs.Running.{GoesOn, RunEnds}
use Rattle.run_command.specs.declared.ending.Ending.{Ending}
use Rattle.script_words.proofs.ByteLimit.{keeps_limit}

-- what it draws is the seed and the GUID; a script that was read keeps the limit, so that its source is at its end
pub gone : {N : Type 0} (over : ℕ → List OpKind → ClientConfig → List ℕ → Client → Type 0) (seed seed' guid guid' : List ℕ)
    (left left' : Option (List ℕ)) (source source' : ℕ) (written between written' : Option (List ℕ)) (sink calm sink' : ℕ) (net net' : N)
    (asked : Script) (ending : Ending) → seed ≡ seed' → guid ≡ guid'
    → Asks left left' source source' written between sink calm (Ok asked)
    → GoesOn over seed guid between written' calm sink' (read_of asked) ending
    → RunEnds over seed' guid' left left' source source' written written' sink sink' net net' ending
gone over seed seed' guid guid' left left' source source' written between written' sink calm sink' net net' asked ending s u asks goes =
    inr (record {
      asked = asked;
      between = between;
      calm = calm;
      asks = asks;
      ended = asks.2.1.ended (keeps_limit Run asks.2.0 (read_of asked) asks.2.2);
      goes = subst (λ (x : List ℕ). GoesOn over x guid' between written' calm sink' (read_of asked) ending) s
          (subst (λ (x : List ℕ). GoesOn over seed x between written' calm sink' (read_of asked) ending) u goes);
    })
