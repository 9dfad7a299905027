-- The stage of a dialog, which is that of its end.
use Rattle.std.proofs.Common.{◌≡◌, Bool, true, false, Result, Ok, sym, ap, ◌∙◌}
use Rattle.wire_bytes.specs.declared.session_messages.refusal.Refusal.{Refusal as DialogRefusal}
use Rattle.client_ends.specs.declared.ends.dialog.Stage.{Stage as DialogStage}
use Rattle.client_ends.specs.declared.ends.dialog.Stage.TheVariants as stages
use Rattle.client_ends.specs.declared.dialog_calls.heard.Heard.{Heard}
use Rattle.client_ends.specs.declared.dialog_calls.heard.Heard.TheVariants as heards

pub same_cause : (one other : DialogRefusal) → stages.Refused one ≡ stages.Refused other → one ≡ other
same_cause one other e = cc

abbrev pub has_refused : DialogStage → Bool
has_refused (stages.Refused why) = true
has_refused _ = false

pub not_refused : (old known : DialogStage) (why : DialogRefusal) → old ≡ known → old ≡ stages.Refused why → has_refused known ≡ false → ⊥
not_refused old known why is refused other =
    let both : has_refused known ≡ true = ap (λ (z : DialogStage). has_refused z) (sym is ∙ refused) in absurd cc

-- two refusals of one cause are told alike
abbrev pub told_as : (E : Type 0) → DialogRefusal → Result Heard E
told_as E why = Ok (heards.Refused why)

pub told_so : (E : Type 0) (one other : DialogRefusal) → stages.Refused one ≡ stages.Refused other → told_as E one ≡ told_as E other
told_so E one other e = ap (λ (z : DialogRefusal). told_as E z) (same_cause one other e)

abbrev pub is_over : DialogStage → Bool
is_over stages.Over = true
is_over _ = false

pub not_over : (old known : DialogStage) → old ≡ known → old ≡ stages.Over → is_over known ≡ false → ⊥
not_over old known is over other =
    let both : is_over known ≡ true = ap (λ (z : DialogStage). is_over z) (sym is ∙ over) in absurd cc

abbrev pub has_joined : DialogStage → Bool
has_joined stages.Joined = true
has_joined _ = false

pub not_joined : (old known : DialogStage) → old ≡ known → old ≡ stages.Joined → has_joined known ≡ false → ⊥
not_joined old known is joined other =
    let both : has_joined known ≡ true = ap (λ (z : DialogStage). has_joined z) (sym is ∙ joined) in absurd cc
