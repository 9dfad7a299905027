-- What comes of a script that the grammar has, where nothing outside fails.
use Rattle.std.specs.Prelude.{◌≡◌, ◌⊎◌, ℕ, List, Option, Some, Ok}
use Rattle.base_outside.specs.streams.Faults.{Rose}
use Rattle.client_ends.specs.declared.ends.config.ClientConfig.{ClientConfig}
use Rattle.client_steps.specs.declared.whole_client.client.Client.{Client}
use Rattle.client_values.specs.declared.operations.values.OpKind.{OpKind}
use Rattle.script_words.specs.text_lines.Script.{Read, script}
use Rattle.script_words.specs.declared.values.Command.TheVariants.{Run}
use Rattle.run_command.specs.Running.{RunEnds}
use Rattle.run_command.specs.declared.ending.Ending.{Ending}
use Rattle.run_command.specs.declared.ending.Ending.TheVariants.{Done, Memory, Unknown}

-- the script was run, or memory ran out
abbrev pub IsRunOrMemory : Ending → Type 0
IsRunOrMemory ending = (ending ≡ Done) ⊎ ((ending ≡ Memory) ⊎ (ending ≡ Unknown))

-- The source tells its bytes, which are such a script, and the count of faults rose neither of source nor of sink.
abbrev pub EndsWell : (N : Type 0) → (ℕ → List OpKind → ClientConfig → List ℕ → Client → Type 0) → Type 0
EndsWell N over = (seed guid text : List ℕ) (left written written' : Option (List ℕ)) (source source' sink sink' : ℕ) (net net' : N)
    (read : Read) (ending : Ending) → script Run text ≡ Ok read → (Rose source source' → ⊥) → (Rose sink sink' → ⊥)
    → RunEnds over seed guid (Some text) left source source' written written' sink sink' net net' ending
    → IsRunOrMemory ending
