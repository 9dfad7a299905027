use Rattle.std.proofs.Common.{sym, subst}
use Rattle.spec_exchange.specs.Client.{Client}
use Rattle.client_steps.specs.declared.whole_client.client.Client.{Client as Core}
use Rattle.client_steps.specs.whole_client.Shown.{ShowsClient}
use Rattle.client_events.specs.played_client.Holding.{PlayedComes}
use Rattle.client_events.proofs.played_client.Coming.{on_err}
use Rattle.client_events.proofs.played_client.played.Played.step.Goals as goal

pub returns-then-not-may_come-clause-lacks : goal.returns-then-not-may_come-clause-lacks
returns-then-not-may_come-clause-lacks c = λ comes d s k.
    let h = c.self.invariant in
    absurd (c.may_come.ensures.refuses c.if-not-may_come.true h.model h.shown h.kept
    (subst (λ (z : Core). PlayedComes z c.args.event) (sym c.self.view_is) comes h.model h.shown h.kept))

pub go-requires : goal.go-requires
go-requires c = record { holds = c.self.invariant; comes = c.may_come.ensures.comes c.if-not-may_come.false }

pub invariant_of-self : goal.invariant_of-self
invariant_of-self c = c.go.ensures.holds

pub returns-in_err-go-clause-kept : goal.returns-in_err-go-clause-kept
returns-in_err-go-clause-kept c = on_err c.from_residual.result (λ d s. c.in_err-go.ensures.kept d
    (subst (λ (z : Core). ShowsClient z d) (sym c.self.view_is) s))

pub returns-in_err-go-clause-lacks : goal.returns-in_err-go-clause-lacks
returns-in_err-go-clause-lacks c = on_err c.from_residual.result (λ comes d s k. c.in_err-go.ensures.lacks d
    (subst (λ (z : Core). ShowsClient z d) (sym c.self.view_is) s) k)

pub invariant_of-self-2 : goal.invariant_of-self-2
invariant_of-self-2 c = c.go.ensures.holds

pub returns : goal.returns
returns c =
    let e = c.in_ok-go.ensures in
    let back : (d : Client) → ShowsClient c.args.self.now d → ShowsClient c.self.inside.client d =
    (λ d s. subst (λ (z : Core). ShowsClient z d) (sym c.self.view_is) s) in
    record {
      shown = λ d v s k w. e.shown d v (back d s) k w;
      told = λ d v s k w. e.told d v (back d s) k w;
      kept = tt;
      lacks = tt;
    }
