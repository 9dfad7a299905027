use Rattle.std.proofs.Common.{Bool, true, false, refl, sym, subst, ◌∙◌, ap, slice_get, List, MatchResult}
use Rattle.world_ends.specs.declared.sides.Channel.{Channel}
use Rattle.world_ends.specs.Tests.{readied_in}
use Rattle.world_steps.specs.Parts.{CutsBy, IsWorldMemory}
use Rattle.world_steps.proofs.cutting.cut_end.Goals as goal

pub returns-then-is_ready : goal.returns-then-is_ready
returns-then-is_ready c =
    let told = sym c.if-is_ready.true
    ∙ (c.is_ready.ensures ∙ ap (λ (v : List Channel). readied_in (slice_get v c.args.k)) c.as_slice.ensures.value)
    in
    subst (λ (b : Bool). MatchResult c.cut_ready.result
    (λ u. CutsBy b c.args.client.now c.args.making.now c.args.channels.now.items c.args.k c.cut_ready.new.client c.cut_ready.new.making
    c.cut_ready.new.channels.items) (λ e. IsWorldMemory e)) told c.cut_ready.ensures

pub returns : goal.returns
returns c =
    let told = sym c.if-is_ready.false
    ∙ (c.is_ready.ensures ∙ ap (λ (v : List Channel). readied_in (slice_get v c.args.k)) c.as_slice.ensures.value)
    in
    subst (λ (b : Bool). CutsBy b c.args.client.now c.args.making.now c.args.channels.now.items c.args.k
    c.args.client.now c.leave.new.making
    c.leave.new.channels.items) told
    (record { client = refl; making_is = c.leave.ensures.making; channels = c.leave.ensures.channels })
