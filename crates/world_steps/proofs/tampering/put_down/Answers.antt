use Rattle.std.proofs.Common.{◌∙◌, ◌∷◌, Bool, List, ap, if◌then◌else◌, nat_lt, length, ◌^◌, ℕ, sym}
use Rattle.world_ends.specs.declared.sides.Down.{Down}
use Rattle.world_steps.proofs.Tampered.{is_put_down}
use Rattle.world_steps.proofs.tampering.put_down.Goals as goal

pub returns-then-there : goal.returns-then-there
returns-then-there c =
    let q : Down = record { place = c.args.place; bytes = c.args.bytes } in
    let us = c.args.down.now.items in
    is_put_down us q _ c.is_short.result
    (c.push_front.ensures.items ∙ ap (λ (b : Bool). if b then q ∷ us else us) (sym c.is_ok-there.ensures.value ∙ c.if-there.true))
    (c.is_short.ensures ∙ ap (λ (v : List ℕ). nat_lt (length v) (2 ^ 60)) c.deref.ensures.value) c.if-not-is_short.false
