-- How the command goes on, by what its channels came to and what was written of it.
use Rattle.std.proofs.Common.{ℕ, List, Option, Result, Ok, Err, IfOk, subst, inl, inr}
use Rattle.std.specs.declared.alloc.AllocError.{AllocError}
use Rattle.client_ends.specs.declared.ends.config.ClientConfig.{ClientConfig}
use Rattle.client_steps.specs.declared.whole_client.client.Client.{Client}
use Rattle.client_values.specs.declared.operations.values.OpKind.{OpKind}
use Rattle.script_words.specs.text_lines.Script.{Read}
use Rattle.run_command.specs.Asking.{operations_said}
use Rattle.run_command.specs.Running.{GoesOn, IsReady, Leaves}
use Rattle.run_command.specs.declared.command.Ready.{Ready}
use Rattle.run_command.specs.declared.ending.Ending.{Ending}

-- channels that were given what a script says leave the client that is told
pub goes_on : (over : ℕ → List OpKind → ClientConfig → List ℕ → Client → Type 0) (seed guid : List ℕ)
    (written written' : Option (List ℕ)) (sink sink' : ℕ) (read : Read) (ready : Ready) (client : Result Client AllocError) (ending : Ending)
    → IsReady read guid ready
    → IfOk client (over ready.channels ready.ops.items ready.config seed)
    → Leaves written written' sink sink' client ending
    → GoesOn over seed guid written written' sink sink' read ending
goes_on over seed guid written written' sink sink' read ready (Ok x) ending is ran (inl room) = inl room
goes_on over seed guid written written' sink sink' read ready (Ok x) ending is ran (inr wrote) =
    inr (record {
      config = ready.config;
      configured = is.configured;
      client = x;
      ran = subst (λ (count : ℕ). over count (operations_said read.lines) ready.config seed x) is.channels
          (subst (λ (ops : List OpKind). over ready.channels ops ready.config seed x) is.ops ran);
      wrote = wrote;
    })
goes_on over seed guid written written' sink sink' read ready (Err e) ending is ran room = inl room
