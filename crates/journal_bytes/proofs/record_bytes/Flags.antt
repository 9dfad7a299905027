-- Bytes that tell neither yes nor no, and units that spell no text.
use Rattle.std.proofs.Common.{◌≡◌, ℕ, Bool, true, false, List, sym, subst}
use Rattle.std.specs.Prelude.{IsUtf8}
use Rattle.spec_wire.specs.messages.Utf16.{utf16, BreaksUtf16}
use Rattle.spec_wire.specs.declared.messages.refusal.TextError.{TextError}
use Rattle.spec_wire.specs.declared.messages.refusal.TextError.TheVariants as errors
use Rattle.law_wire.proofs.messages.Characters.{text_holds}
use Rattle.journal_bytes.specs.record_bytes.Grammar.{flag}

pub no_flag : (byte : ℕ) → (byte ≡ 0 → ⊥) → (byte ≡ 1 → ⊥) → (b : Bool) → flag b ≡ byte → ⊥
no_flag byte zero one false e = zero (sym e)
no_flag byte zero one true e = one (sym e)

no_text : (units : List ℕ) (e : TextError) → BreaksUtf16 units e → (e ≡ errors.Memory → ⊥) → (text : List ℕ)
    → IsUtf8 text → utf16 text ≡ units → ⊥
no_text units e broken other text is same = text_holds text e is (subst (λ (l : List ℕ). BreaksUtf16 l e) (sym same) broken) other

pub odd_text : (units : List ℕ) (n : ℕ) → BreaksUtf16 units (errors.OddLength n) → (text : List ℕ) → IsUtf8 text → utf16 text ≡ units → ⊥
odd_text units n broken = no_text units (errors.OddLength n) broken (λ e. absurd cc)

pub lone_text : (units : List ℕ) (at : ℕ) → BreaksUtf16 units (errors.LoneSurrogate at) → (text : List ℕ) → IsUtf8 text
    → utf16 text ≡ units → ⊥
lone_text units at broken = no_text units (errors.LoneSurrogate at) broken (λ e. absurd cc)
