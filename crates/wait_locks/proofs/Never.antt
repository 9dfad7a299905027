-- Which messages never wait.
use Rattle.std.proofs.Common.{◌≡◌, ℕ, ◌≤◌, ◌<◌, Bool, true, false, not, ◌&&◌, if◌then◌else◌, List, [], ◌∷◌, length, Option, Some, None}
use Rattle.std.proofs.Common.{refl, ap, ◌∙◌, arith, Vec, Global}
use Rattle.std.specs.Prelude.{is_some}
use Rattle.law_waiting.specs.held.Exactly.{WaitsExactly, is_countable, is_on_file}
use Rattle.law_waiting.specs.held.Held.{awaited, awaited_of, first_in_the_way, held_by, is_not_granted, may_wait, wanted_range, would_wait}
use Rattle.spec_exchange.specs.Commands as asks
use Rattle.spec_exchange.specs.Check.{check, has_session}
use Rattle.spec_exchange.specs.CheckOpen.{file_of}
use Rattle.spec_exchange.specs.CheckSetup.{tree_in}
use Rattle.spec_exchange.specs.State.{Message, Range, Server}
use Rattle.wire_commands.specs.values.Meaning.{command_of}
use Rattle.wire_commands.specs.declared.values.command.Command.{Command}
use Rattle.wire_commands.specs.declared.values.command.Command.TheVariants.{Lock}

both : (b : Bool) (x : Option Range) → (if b then x else x) ≡ x
both true x = refl
both false x = refl

pub never : (s : Server) (m : Message) → awaited m.command ≡ None → would_wait s m ≡ None
unfolding would_wait
never s m e = ap (λ a. if is_not_granted (check s m) then held_by s a else None) e ∙ both (is_not_granted (check s m)) None

pub none_of : (o : ℕ) (es : List asks.Element) → length es < 1 → awaited_of o es ≡ None
none_of o [] h = refl
none_of o (e ∷ es) h = absurd (omega arith)

pub two_of : (o : ℕ) (es : List asks.Element) → 2 ≤ length es → awaited_of o es ≡ None
two_of o [] h = absurd (omega arith)
two_of o (e ∷ []) h = absurd (omega arith)
two_of o (e ∷ d ∷ es) h = refl

flagged : (b : Bool) (r : Range) → b ≡ false → (if b then Some r else None) ≡ None
flagged true r h = absurd (cc)
flagged false r h = refl

pub at_once : (o : ℕ) (e : asks.Element) → may_wait e.flags ≡ false → awaited_of o (e ∷ []) ≡ None
at_once o e h = flagged (may_wait e.flags) (wanted_range o e) h

faulty_by : (f h a b : Bool) (x : Option Range) → f ≡ true → (if (h && (not f && a)) && b then x else None) ≡ None
faulty_by true true a b x e = refl
faulty_by true false a b x e = refl
faulty_by false h a b x e = absurd (cc)

pub no_lock : (c : Command) → ((file index number : ℕ) (elements : Vec asks.Element Global) → c ≡ Lock file index number elements → ⊥)
    → awaited (command_of c) ≡ None
no_lock (Lock file index number elements) h = absurd (h file index number elements refl)
no_lock _ h = refl

pub faulty : (s : Server) (m : Message) (o index number : ℕ) (e : asks.Element) → m.command ≡ asks.Lock o index number (e ∷ [])
    → is_some m.fault ≡ true → (may_wait e.flags ≡ true → WaitsExactly s m o index number e) → would_wait s m ≡ None
faulty s m o index number e q f exact = by (may_wait e.flags) refl
  where
    by : (b : Bool) → may_wait e.flags ≡ b → would_wait s m ≡ None
    by true h =
        exact h
        ∙ faulty_by (is_some m.fault) (has_session s m) (is_some (tree_in (s.trees m.session_id) m.tree_id))
        (is_on_file s m o index number && is_countable s o e) (first_in_the_way (s.ranges (file_of s o)) (wanted_range o e)) f
    by false h = never s m (ap awaited q ∙ at_once o e h)
