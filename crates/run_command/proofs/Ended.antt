-- The endings that are left to a script that the grammar has.
use Rattle.std.proofs.Common.{◌≡◌, ℕ, ◌+◌, ◌≤◌, List, [], ◌++◌, length, Bool, true, false, refl, sym, ap, ◌∙◌, subst, inl, inr, append-nil}
use Rattle.std.proofs.Common.{arith}
use Rattle.std.proofs.lemmas.List.{length-append}
use Rattle.std.specs.Prelude.{if◌then◌else◌, Option, None, Some, Ok, Err}
use Rattle.base_outside.specs.streams.Faults.{Rose}
use Rattle.base_outside.specs.whole_texts.Outside.{HasRead}
use Rattle.client_ends.specs.declared.ends.config.ClientConfig.{ClientConfig}
use Rattle.client_steps.specs.declared.whole_client.client.Client.{Client}
use Rattle.client_values.specs.declared.operations.values.OpKind.{OpKind}
use Rattle.script_words.proofs.ByteLimit.{keeps_limit}
use Rattle.script_words.specs.text_lines.Script.{Read, script}
use Rattle.script_words.specs.declared.text_lines.line.Refusal.{Refusal}
use Rattle.script_words.specs.declared.values.Command.TheVariants.{Run}
use Rattle.run_command.specs.Asking.{Asks, WritesText}
use Rattle.run_command.specs.Running.{GoesOn, RunEnds}
use Rattle.run_command.specs.Complete.{IsRunOrMemory}
use Rattle.run_command.specs.declared.ending.Ending.{Ending}
use Rattle.run_command.specs.declared.ending.Ending.TheVariants as endings

-- within the limit all is read that the source has
read_all : (text taken : List ℕ) (left : Option (List ℕ)) → length text ≤ 268_435_456 → HasRead (Some text) left taken → taken ≡ text
read_all text taken None short read = absurd read.read
read_all text taken (Some rest) short read =
    let long : length text ≡ length taken + length rest = ap length read.read ∙ length-append taken rest in
    let none : rest ≡ [] = read.ended (omega arith) in
    sym (read.read ∙ (ap (λ (l : List ℕ). taken ++ l) none ∙ append-nil taken))

-- no line of it is refused
not_refused : (text taken : List ℕ) (left : Option (List ℕ)) (read : Read) (refusal : Refusal) → script Run text ≡ Ok read
    → HasRead (Some text) left taken → script Run taken ≡ Err refusal → ⊥
not_refused text taken left read refusal good took bad =
    let same = read_all text taken left (keeps_limit Run text read good) took in
    absurd (let e = ap (script Run) same in cc)

asked_well : (text : List ℕ) (left written written' : Option (List ℕ)) (source source' sink sink' : ℕ) (read : Read) (ending : Ending)
    → script Run text ≡ Ok read → (Rose source source' → ⊥)
    → Asks (Some text) left source source' written written' sink sink' (Err ending)
    → IsRunOrMemory ending
asked_well text left written written' source source' sink sink' read endings.Done good calm asks = inl refl
asked_well text left written written' source source' sink sink' read endings.Script good calm asks =
    absurd (not_refused text asks.1.0 left read asks.1.2.0 good asks.1.1 asks.1.2.1)
asked_well text left written written' source source' sink sink' read endings.SourceFailed good calm asks = absurd (calm asks.0)
asked_well text left written written' source source' sink sink' read endings.SinkFailed good calm asks =
    absurd (not_refused text asks.1.0 left read asks.1.2.0 good asks.1.1 asks.1.2.1)
asked_well text left written written' source source' sink sink' read endings.Memory good calm asks = inr (inl refl)
asked_well text left written written' source source' sink sink' read endings.Unknown good calm asks = inr (inr refl)

due_well : (unknown : Bool) (ending : Ending) → ending ≡ (if unknown then endings.Unknown else endings.Done) → IsRunOrMemory ending
due_well true ending due = inr (inr due)
due_well false ending due = inl due

wrote_well : (unknown : Bool) (between written' : Option (List ℕ)) (sink sink' : ℕ) (text : List ℕ) (ending : Ending)
    → (Rose sink sink' → ⊥) → WritesText between written' sink sink' text (if unknown then endings.Unknown else endings.Done) ending
    → IsRunOrMemory ending
wrote_well unknown between written' sink sink' text ending calm (inl wrote) = due_well unknown ending wrote.0
wrote_well unknown between written' sink sink' text ending calm (inr failed) = absurd (calm failed.1)

module _ (over : ℕ → List OpKind → ClientConfig → List ℕ → Client → Type 0) where
  went_well : (seed guid : List ℕ) (between written' : Option (List ℕ)) (sink sink' : ℕ) (read : Read) (ending : Ending)
      → (Rose sink sink' → ⊥) → GoesOn over seed guid between written' sink sink' read ending → IsRunOrMemory ending
  went_well seed guid between written' sink sink' read ending calm (inl none) = inr (inl none.0)
  went_well seed guid between written' sink sink' read ending calm (inr ran) =
      wrote_well _ between written' sink sink' ran.wrote.printed ending calm ran.wrote.writes

  pub ends_well : {N : Type 0} (seed guid text : List ℕ) (left written written' : Option (List ℕ)) (source source' sink sink' : ℕ) (net net' : N)
      (read : Read) (ending : Ending) → script Run text ≡ Ok read → (Rose source source' → ⊥) → (Rose sink sink' → ⊥)
      → RunEnds over seed guid (Some text) left source source' written written' sink sink' net net' ending
      → IsRunOrMemory ending
  ends_well seed guid text left written written' source source' sink sink' net net' read ending good calm quiet (inl asked) =
      asked_well text left written written' source source' sink sink' read ending good calm asked.0
  ends_well seed guid text left written written' source source' sink sink' net net' read ending good calm quiet (inr gone) =
      went_well seed guid gone.between written' gone.calm sink' _ ending
      (λ rose. quiet (subst (λ (x : ℕ). Rose x sink') gone.asks.1.0 rose)) gone.goes
