use Rattle.std.proofs.Common.{◌≤◌, length, refl, subst, take, arith, ◌∙◌, ap}
use Rattle.std.proofs.lemmas.List.{take_all}
use Rattle.spec_exchange.specs.State.{Server}
use Rattle.server_checks.specs.Shown.{TablesShown}
use Rattle.server_effects.proofs.ClosedOpens.{close_is, closed_each, more_closed, next_closable}
use Rattle.server_effects.proofs.trees.close_each.Goals as goal

pub loop-id-init : goal.loop-id-init
loop-id-init c = record { config = refl; logons = λ keys pending k. k; shown = λ s x f h a. h }

pub loop-id-preserved : goal.loop-id-preserved
loop-id-preserved c =
    let i = c.loop-id.id-index in
    let ids = c.args.opens.now in
    record {
      config = c.close_one.ensures.config ∙ c.loop-id.invariant.config;
      logons = λ keys pending k. c.close_one.ensures.logons keys pending (c.loop-id.invariant.logons keys pending k);
      shown = λ s x f h a.
          let n = next_closable s x ids i c.loop-id-test.true f a in
          subst (λ (v : Server). TablesShown c.close_one.new.t v) (more_closed s x ids i c.loop-id-test.true)
          (c.close_one.ensures.shows (closed_each s x (take i ids)) x n.fits (c.loop-id.invariant.shown s x f h a)
          (n.fits.attached _ x n.attached).0 n.attached);
    }

pub returns-clause-shows : goal.returns-clause-shows
returns-clause-shows c = λ s x f h a.
    let ids = c.args.opens.now in
    let all : length ids ≤ c.loop-id.id-index = omega arith in
    subst (λ (v : Server). TablesShown c.loop-id.t v) (ap (closed_each s x) (take_all c.loop-id.id-index ids all) ∙ close_is s x ids)
    (c.loop-id.invariant.shown s x f h a)

pub returns-clause-config : goal.returns-clause-config
returns-clause-config c = c.loop-id.invariant.config

pub returns-clause-logons : goal.returns-clause-logons
returns-clause-logons c = c.loop-id.invariant.logons
