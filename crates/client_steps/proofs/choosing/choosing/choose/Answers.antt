use Rattle.std.proofs.Common.{◌+◌, ◌<◌, ◌≤◌, [], ◌∷◌, ◌++◌, length, refl, sym, ◌∙◌, subst, arith}
use Rattle.spec_exchange.specs.Client.{Client, settle_no_slots}
use Rattle.law_client.proofs.table.Pushed.{settle_all_keeps}
use Rattle.client_tables.proofs.pushes.Picked.{may_go}
use Rattle.client_tables.specs.whole_table.Shown.{ShowsTable}
use Rattle.client_tables.proofs.attached_opens.Kept.{places_both, places_none}
use Rattle.client_tables.proofs.attached_opens.Moved.{fits_moved, shown_moved}
use Rattle.client_steps.proofs.choosing.Resting.{Rest, at_end, attached_same, first_in, none_yet, ready_same, rest_end}
use Rattle.client_steps.proofs.choosing.Resting.{rest_first, rest_next}
use Rattle.client_steps.proofs.choosing.Resting.{rest_none, rest_some, settle_last, taken_same}
use Rattle.client_steps.proofs.choosing.choosing.choose.Goals as goal

pub loop-from-init : goal.loop-from-init
loop-from-init c =
    let t = c.args.table.now in
    record {
      above = omega arith;
      fits = c.requires.fits;
      session = refl;
      places = places_none t.rows.items;
      shown = λ d k s at kept ready. (
        [],
        subst (λ (z : Client). ShowsTable t z) (sym (none_yet d k)) s,
        rest_first d k c.args.credits,
        first_in d.taken,
      );
    }

pub search-requires : goal.search-requires
search-requires c =
    let v = c.loop-from.invariant in
    record {
      fits = v.fits;
      opens = fits_moved c.args.table.now.rows.items c.loop-from.table.rows.items c.args.attached.now v.places c.requires.opens;
      above = v.above;
      credits = c.requires.credits;
    }

-- in each arm: w is what the invariant has of this client, d its list, st the table behind the search, tells what was found
pub returns-in-Nothing : goal.returns-in-Nothing
returns-in-Nothing c =
    let v = c.loop-from.invariant in
    let e = c.search.ensures in
    let rows = c.loop-from.table.rows.items in
    let old = c.args.table.now.rows.items in
    let new = c.search.new.table.rows.items in
    let m = places_both old rows new v.places e.places in
    record {
      fits = e.fits;
      session = e.session ∙ v.session;
      places = m;
      inside = tt;
      opens = fits_moved old new c.args.attached.now m c.requires.opens;
      attached = λ d k s at. attached_same d k s new c.args.attached.now
          (shown_moved old new c.args.attached.now m d.attached d.slot_user d.retried d.full at);
      none = λ d k s at kept ready. (
          let w = v.shown d k s at kept ready in
          let z = settle_no_slots d k w.0 in
          let a = attached_same d k w.0 rows c.args.attached.now
          (shown_moved c.args.table.now.rows.items rows c.args.attached.now v.places d.attached d.slot_user d.retried d.full at) in
          let tells = c.in-Nothing.ensures.told z k w.0 w.1 a (settle_all_keeps d k w.0 kept) (ready_same d k k w.0 ∙ ready) in
          (w.0, e.shown z w.1, rest_none d k c.args.credits w.0 c.loop-from.from w.3 w.2 tells)
          );
      some = λ d k s at kept ready. tt;
    }

pub returns-in-Goes : goal.returns-in-Goes
returns-in-Goes c =
    let v = c.loop-from.invariant in
    let e = c.search.ensures in
    let rows = c.loop-from.table.rows.items in
    let i = c.in-Goes.index in
    let inside = c.in-Goes.ensures.inside in
    let p = v.above in
    let old = c.args.table.now.rows.items in
    let new = c.search.new.table.rows.items in
    let m = places_both old rows new v.places e.places in
    let above : 0 < i = (let l = inside.0 in omega arith) in
    record {
      fits = e.fits;
      session = e.session ∙ v.session;
      places = m;
      inside = (above, inside.1, inside.2, inside.3);
      opens = fits_moved old new c.args.attached.now m c.requires.opens;
      attached = λ d k s at. attached_same d k s new c.args.attached.now
          (shown_moved old new c.args.attached.now m d.attached d.slot_user d.retried d.full at);
      none = λ d k s at kept ready. tt;
      some = λ d k s at kept ready. (
          let w = v.shown d k s at kept ready in
          let z = settle_no_slots d k w.0 in
          let a = attached_same d k w.0 rows c.args.attached.now
          (shown_moved c.args.table.now.rows.items rows c.args.attached.now v.places d.attached d.slot_user d.retried d.full at) in
          let keeps = settle_all_keeps d k w.0 kept in
          let now = ready_same d k k w.0 ∙ ready in
          let tells = c.in-Goes.ensures.told z k w.0 w.1 a keeps now in
          let st = e.shown z w.1 in
          let taken = st.rows.places.is_taken i above inside.1 in (
            w.0,
            st,
            may_go z k c.args.credits i keeps now above taken tells.0,
            tells.1,
            rest_some d k c.args.credits w.0 c.loop-from.from i c.in-Goes.slot inside.0
                (subst (λ n. i ≤ n) (taken_same d k w.0) taken) w.2 tells,
          )
          );
    }

pub overflow_add-from : goal.overflow_add-from
overflow_add-from c =
    let f = c.search.ensures.fits.counts in
    let a = f.has_watchers in
    let b = f.few in
    let w = c.in-Slotless.ensures.inside.1 in
    omega arith

pub settle_without-requires : goal.settle_without-requires
settle_without-requires c =
    let v = c.loop-from.invariant in
    let inside = c.in-Slotless.ensures.inside in
    let p = v.above in
    record { fits = c.search.ensures.fits; above = (let l = inside.0 in omega arith); within = inside.1 }

pub loop-from-preserved : goal.loop-from-preserved
loop-from-preserved c =
    let v = c.loop-from.invariant in
    let e = c.search.ensures in
    let u = c.settle_without.ensures in
    let rows = c.loop-from.table.rows.items in
    let i = c.in-Slotless.index in
    let inside = c.in-Slotless.ensures.inside in
    let p = v.above in
    record {
      above = omega arith;
      fits = u.fits;
      session = u.session ∙ e.session ∙ v.session;
      places = places_both c.args.table.now.rows.items rows c.settle_without.new.table.rows.items v.places
          (places_both rows c.search.new.table.rows.items c.settle_without.new.table.rows.items e.places u.places);
      shown = λ d k s at kept ready. (
          let w = v.shown d k s at kept ready in
          let z = settle_no_slots d k w.0 in
          let a = attached_same d k w.0 rows c.args.attached.now
          (shown_moved c.args.table.now.rows.items rows c.args.attached.now v.places d.attached d.slot_user d.retried d.full at) in
          let tells = c.in-Slotless.ensures.told z k w.0 w.1 a (settle_all_keeps d k w.0 kept) (ready_same d k k w.0 ∙ ready) in
          let st = e.shown z w.1 in
          let taken = st.rows.places.is_taken i (let l = inside.0 in omega arith) inside.1 in
          let same = subst (λ n. i ≤ n) (taken_same d k w.0) taken in (
            w.0 ++ i ∷ [],
            subst (λ (x : Client). ShowsTable c.settle_without.new.table x) (sym (settle_last d k i w.0)) (u.shown z k st tells.0),
            rest_next d k c.args.credits w.0 c.loop-from.from i inside.0 same w.2 tells,
            (let q = same in omega arith),
          )
          );
    }

pub loop-from-smaller : goal.loop-from-smaller
loop-from-smaller c =
    let a = c.search.ensures.places.count in
    let b = c.settle_without.ensures.places.count in
    let l = c.in-Slotless.ensures.inside.0 in
    let t = c.loop-from-test.true in
    let m = c.count_of.ensures in
    omega arith

pub returns : goal.returns
returns c =
    let v = c.loop-from.invariant in
    let rows = c.loop-from.table.rows.items in
    let l : length rows ≤ c.loop-from.from = (let t = c.loop-from-test.false in let m = c.count_of.ensures in omega arith) in
    record {
      fits = v.fits;
      session = v.session;
      places = v.places;
      inside = tt;
      opens = fits_moved c.args.table.now.rows.items rows c.args.attached.now v.places c.requires.opens;
      attached = λ d k s at. attached_same d k s rows c.args.attached.now
          (shown_moved c.args.table.now.rows.items rows c.args.attached.now v.places d.attached d.slot_user d.retried d.full at);
      none = λ d k s at kept ready. (
          let w = v.shown d k s at kept ready in
          let q = at_end d.taken (length rows) c.loop-from.from
          (λ h. w.1.rows.places.has_row d.taken h (subst (λ n. d.taken ≤ n) (sym (taken_same d k w.0)) (omega arith))) l v.above w.3 in
          (w.0, w.1, rest_end d k c.args.credits w.0 (subst (λ n. Rest d k c.args.credits w.0 n) q w.2))
          );
      some = λ d k s at kept ready. tt;
    }
