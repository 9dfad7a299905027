use Rattle.std.proofs.Common.{◌≡◌, List, ap, sym, ◌∙◌, subst}
use Rattle.spec_exchange.specs.Client.{Client}
use Rattle.client_rows.specs.declared.operation_rows.row.Row.{Row}
use Rattle.client_tables.specs.whole_table.Shown.{ShowsTable}
use Rattle.client_tables.specs.attached_opens.Known.{ShowsOpened}
use Rattle.client_tables.specs.attached_opens.Places.{KeepsPlaces}
use Rattle.client_tables.specs.attached_opens.Opens.{FitsOpens, ShowsAttached}
use Rattle.client_tables.proofs.attached_opens.Kept.{places_none}
use Rattle.client_steps.specs.pushing.Acts.{act_by, chosen_with, pushed_by}
use Rattle.client_steps.proofs.pushing.Told.{apart_act, apart_after, same_choice}
use Rattle.client_steps.proofs.pushing.pushing.push.Goals as goal

pub returns-then-not-is_ready : goal.returns-then-not-is_ready
returns-then-not-is_ready c =
    let k = c.args.channel in
    let t = c.args.table.now in
    let u = c.left_or.ensures in
    let attached = c.args.attached.now in
    let is : c.left_or.new.table.rows.items ≡ t.rows.items = ap (λ r. r.items) u.rows in
    record {
      fits = u.fits;
      opens = subst (λ (rs : List Row). FitsOpens rs attached) (sym is) c.requires.opens;
      places = subst (λ (rs : List Row). KeepsPlaces t.rows.items rs) (sym is) (places_none t.rows.items);
      shown = λ d s at kept. (
          let e = sym (c.is_ready.ensures.shown d s.session) ∙ c.if-not-is_ready.true in
          subst (λ (y : Client). ShowsTable c.left_or.new.table y) (sym (apart_after d k (chosen_with d k c.args.credits) e)) (u.shown d s)
          );
      attached = λ d s at kept. (
          let e = sym (c.is_ready.ensures.shown d s.session) ∙ c.if-not-is_ready.true in
          subst (λ (y : Client). ShowsAttached c.left_or.new.table.rows.items attached y)
          (sym (apart_after d k (chosen_with d k c.args.credits) e))
          (subst (λ (rs : List Row). ShowsAttached rs attached d) (sym is) at)
          );
      known = λ d opened s at kept n. (
          let e = sym (c.is_ready.ensures.shown d s.session) ∙ c.if-not-is_ready.true in
          subst (λ (y : Client). ShowsOpened c.left_or.new.table.rows.items opened y)
          (sym (apart_after d k (chosen_with d k c.args.credits) e))
          (subst (λ (rs : List Row). ShowsOpened rs opened d) (sym is) n)
          );
      told = λ d s at kept. (
          let e = sym (c.is_ready.ensures.shown d s.session) ∙ c.if-not-is_ready.true in
          u.told d s ∙ sym (apart_act d k (chosen_with d k c.args.credits) e)
          );
    }

pub returns : goal.returns
returns c =
    let k = c.args.channel in
    let e = c.push_ready.ensures in
    let law = c.choice_credits_law.ensures in
    let cap = c.capped.ensures in
    let new = c.push_ready.new.table in
    record {
      fits = e.fits;
      opens = e.opens;
      places = e.places;
      shown = λ d s at kept. (
          let r = sym (c.is_ready.ensures.shown d s.session) ∙ c.if-not-is_ready.false in
          let q = same_choice d k c.args.credits c.capped.result s.bounds.limits cap.same cap.most law.costs law.same in
          subst (λ x. ShowsTable new (pushed_by d k x)) q (e.shown d s at kept r)
          );
      attached = λ d s at kept. (
          let r = sym (c.is_ready.ensures.shown d s.session) ∙ c.if-not-is_ready.false in
          let q = same_choice d k c.args.credits c.capped.result s.bounds.limits cap.same cap.most law.costs law.same in
          subst (λ x. ShowsAttached new.rows.items c.push_ready.new.attached (pushed_by d k x)) q (e.attached d s at kept r)
          );
      known = λ d opened s at kept n. (
          let r = sym (c.is_ready.ensures.shown d s.session) ∙ c.if-not-is_ready.false in
          let q = same_choice d k c.args.credits c.capped.result s.bounds.limits cap.same cap.most law.costs law.same in
          subst (λ x. ShowsOpened new.rows.items opened (pushed_by d k x)) q (e.known d opened s at kept r n)
          );
      told = λ d s at kept. (
          let r = sym (c.is_ready.ensures.shown d s.session) ∙ c.if-not-is_ready.false in
          let q = same_choice d k c.args.credits c.capped.result s.bounds.limits cap.same cap.most law.costs law.same in
          e.told d s at kept r ∙ ap (λ x. act_by d k x) q
          );
    }
