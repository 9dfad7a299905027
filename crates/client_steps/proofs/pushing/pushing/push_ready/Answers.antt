use Rattle.std.proofs.Common.{◌≡◌, List, None, Some, ap, sym, ◌∙◌, subst}
use Rattle.spec_exchange.specs.Client.{Client, settle_no_slots}
use Rattle.client_rows.specs.declared.operation_rows.row.Row.{Row}
use Rattle.client_tables.specs.whole_table.Shown.{ShowsTable}
use Rattle.client_tables.specs.attached_opens.Known.{ShowsOpened}
use Rattle.client_tables.specs.attached_opens.Places.{KeepsPlaces}
use Rattle.client_tables.specs.attached_opens.Opens.{FitsOpens, ShowsAttached}
use Rattle.client_tables.proofs.attached_opens.Kept.{places_both}
use Rattle.client_steps.specs.pushing.Acts.{chosen_with}
use Rattle.client_steps.proofs.pushing.Told.{goes_act, known_chosen, ready_act, ready_after}
use Rattle.client_steps.proofs.pushing.pushing.push_ready.Goals as goal

pub choose-requires : goal.choose-requires
choose-requires c = record { fits = c.requires.fits; opens = c.requires.opens; credits = c.requires.credits }

pub send-asking-requires : goal.send-asking-requires
send-asking-requires c =
    let e = c.choose.ensures in
    let inside = c.in-Some.ensures.inside in
    record { fits = e.fits; opens = e.opens; above = inside.0; within = inside.1; slot = inside.2; few = inside.3 }

pub left_or-requires : goal.left_or-requires
left_or-requires c = record { fits = c.choose.ensures.fits }

-- behind the choice: w is what it says of this client, z the client behind the locks that settled
pub returns-in-Some : goal.returns-in-Some
returns-in-Some c =
    let k = c.args.channel in
    let i = c.in-Some.index in
    let slot = c.in-Some.slot in
    let e = c.choose.ensures in
    let u = c.send-asking.ensures in
    let new = c.send-asking.new.table in
    record {
      fits = u.fits;
      opens = u.opens;
      places = places_both c.args.table.now.rows.items c.choose.new.table.rows.items new.rows.items e.places u.places;
      shown = λ d s at kept ready. (
          let w = c.in-Some.ensures.some d k s at kept ready in
          let z = settle_no_slots d k w.0 in
          let x = chosen_with d k c.args.credits in
          subst (λ (y : Client). ShowsTable new y) (sym (ready_after d k x w.0 (Some (record { op = i; slot = slot })) w.4 ready))
          (u.shown z w.1 (e.attached d k w.0 at) w.2 w.3).0
          );
      attached = λ d s at kept ready. (
          let w = c.in-Some.ensures.some d k s at kept ready in
          let z = settle_no_slots d k w.0 in
          let x = chosen_with d k c.args.credits in
          subst (λ (y : Client). ShowsAttached new.rows.items c.send-asking.new.attached y)
          (sym (ready_after d k x w.0 (Some (record { op = i; slot = slot })) w.4 ready))
          (u.shown z w.1 (e.attached d k w.0 at) w.2 w.3).1
          );
      known = λ d opened s at kept ready n. (
          let w = c.in-Some.ensures.some d k s at kept ready in
          let z = settle_no_slots d k w.0 in
          let x = chosen_with d k c.args.credits in
          subst (λ (y : Client). ShowsOpened new.rows.items opened y)
          (sym (ready_after d k x w.0 (Some (record { op = i; slot = slot })) w.4 ready))
          (u.known z opened (known_chosen d k w.0 c.args.table.now.rows.items c.choose.new.table.rows.items opened e.places n))
          );
      told = λ d s at kept ready. (
          let w = c.in-Some.ensures.some d k s at kept ready in
          let z = settle_no_slots d k w.0 in
          let x = chosen_with d k c.args.credits in
          goes_act z k i slot c.send-asking.result w.2 w.3
          (u.told z w.1 (e.attached d k w.0 at))
          ∙ sym (ready_act d k x w.0 (Some (record { op = i; slot = slot })) w.4 ready)
          );
    }

pub returns-in-None : goal.returns-in-None
returns-in-None c =
    let k = c.args.channel in
    let e = c.choose.ensures in
    let u = c.left_or.ensures in
    let attached = c.args.attached.now in
    let same : c.left_or.new.table.rows.items ≡ c.choose.new.table.rows.items = ap (λ r. r.items) u.rows in
    record {
      fits = u.fits;
      opens = subst (λ (rs : List Row). FitsOpens rs attached) (sym same) e.opens;
      places = subst (λ (rs : List Row). KeepsPlaces c.args.table.now.rows.items rs) (sym same) e.places;
      shown = λ d s at kept ready. (
          let w = c.in-None.ensures.none d k s at kept ready in
          let x = chosen_with d k c.args.credits in
          subst (λ (y : Client). ShowsTable c.left_or.new.table y) (sym (ready_after d k x w.0 None w.2 ready))
          (u.shown (settle_no_slots d k w.0) w.1)
          );
      attached = λ d s at kept ready. (
          let w = c.in-None.ensures.none d k s at kept ready in
          let x = chosen_with d k c.args.credits in
          subst (λ (y : Client). ShowsAttached c.left_or.new.table.rows.items attached y) (sym (ready_after d k x w.0 None w.2 ready))
          (subst (λ (rs : List Row). ShowsAttached rs attached (settle_no_slots d k w.0)) (sym same) (e.attached d k w.0 at))
          );
      known = λ d opened s at kept ready n. (
          let w = c.in-None.ensures.none d k s at kept ready in
          let x = chosen_with d k c.args.credits in
          subst (λ (y : Client). ShowsOpened c.left_or.new.table.rows.items opened y) (sym (ready_after d k x w.0 None w.2 ready))
          (subst (λ (rs : List Row). ShowsOpened rs opened (settle_no_slots d k w.0)) (sym same)
          (known_chosen d k w.0 c.args.table.now.rows.items c.choose.new.table.rows.items opened e.places n))
          );
      told = λ d s at kept ready. (
          let w = c.in-None.ensures.none d k s at kept ready in
          let x = chosen_with d k c.args.credits in
          u.told (settle_no_slots d k w.0) w.1 ∙ sym (ready_act d k x w.0 None w.2 ready)
          );
    }
