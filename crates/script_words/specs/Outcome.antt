-- What a reader gives, unless memory runs out.
use Rattle.std.specs.Prelude.{◌≡◌, Result, Ok, Err}
use Rattle.script_words.specs.declared.values.Fault.{Fault}
use Rattle.script_words.specs.declared.values.Fault.TheVariants.{Memory, Refused}

-- the ? of the logic: the second step, if the first gave a value
infixl 10 ◌>>=◌
abbrev pub ◌>>=◌ : {A B E : Type 0} → Result A E → (A → Result B E) → Result B E
(Ok x) >>= f = f x
(Err e) >>= f = Err e

-- A fault is that memory ran out, or the refusal that is due.
abbrev pub Fails : {B E : Type 0} → Fault E → Result B E → Type 0
Fails Memory due = Unit {0}
Fails (Refused e) due = due ≡ Err e

-- What a function returned, seen by view, is what is due, unless memory ran out.
abbrev pub OutcomeGives : {A B E : Type 0} → (A → B) → Result A (Fault E) → Result B E → Type 0
OutcomeGives view (Ok x) due = due ≡ Ok (view x)
OutcomeGives view (Err fault) due = Fails fault due
