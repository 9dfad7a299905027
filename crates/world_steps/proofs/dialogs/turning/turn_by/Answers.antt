use Rattle.std.proofs.Common.{MatchResult, refl, subst, sym}
use Rattle.client_ends.specs.declared.dialog_calls.heard.Heard.{Heard}
use Rattle.world_steps.specs.Parts.{IsWorldMemory}
use Rattle.world_steps.proofs.Refusing.{result_with}
use Rattle.world_steps.specs.dialogs.Turned.{TurnsAs}
use Rattle.world_steps.proofs.dialogs.turning.turn_by.Goals as goal

pub returns-in-Say : goal.returns-in-Say
returns-in-Say c =
    let a = c.args in
    let x = a.world.now in
    subst (λ (h : Heard). MatchResult c.say_on.result
    (λ u. TurnsAs h x a.k a.channel a.number a.turn.dialog a.turn.rest (record x { channels = c.say_on.new.channels }))
    (λ e. IsWorldMemory e))
    (sym c.in-Say.is) (result_with c.say_on.result (λ u s. (s, refl)) c.say_on.ensures)

pub returns-in-Accepted : goal.returns-in-Accepted
returns-in-Accepted c =
    let a = c.args in
    subst (λ (h : Heard). MatchResult c.accept_by.result
    (λ u. TurnsAs h a.world.now a.k a.channel a.number a.turn.dialog a.turn.rest c.accept_by.new.world) (λ e. IsWorldMemory e))
    (sym c.in-Accepted.is) c.accept_by.ensures

pub returns-in-Ready : goal.returns-in-Ready
returns-in-Ready c =
    let a = c.args in
    subst (λ (h : Heard). MatchResult c.ready_by.result
    (λ u. TurnsAs h a.world.now a.k a.channel a.number a.turn.dialog a.turn.rest c.ready_by.new.world) (λ e. IsWorldMemory e))
    (sym c.in-Ready.is) c.ready_by.ensures

pub returns-in-Refused : goal.returns-in-Refused
returns-in-Refused c =
    let a = c.args in
    subst (λ (h : Heard). MatchResult c.refuse_by.result
    (λ u. TurnsAs h a.world.now a.k a.channel a.number a.turn.dialog a.turn.rest c.refuse_by.new.world) (λ e. IsWorldMemory e))
    (sym c.in-Refused.is) c.refuse_by.ensures
