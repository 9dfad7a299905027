use Rattle.std.proofs.Common.{◌≡◌, ℕ, ◌+◌, ◌<◌, List, length, set, slice_index_or, vec_capacity}
use Rattle.std.proofs.Common.{ap, sym, ◌∙◌, subst}
use Rattle.std.proofs.Math.ListN.{length-set}
use Rattle.std.proofs.lemmas.List.{get_or-set_same}
use Rattle.spec_exchange.specs.Table.{put}
use Rattle.spec_exchange.specs.Operations.{is_create, persists}
use Rattle.spec_exchange.specs.Client.{Client, take_op}
use Rattle.law_client.specs.table.Kept.{TableKept}
use Rattle.client_values.specs.operations.Meaning.{op_of}
use Rattle.client_values.specs.operations.Waiting.{kind_of}
use Rattle.client_values.specs.declared.operations.shapes.Kind.TheVariants as kinds
use Rattle.client_rows.specs.declared.operation_rows.row.Row.{Row}
use Rattle.client_rows.specs.operation_rows.Rows.{kind, owner}
use Rattle.client_rows.specs.declared.open_marks.marks.Marks.{Marks}
use Rattle.client_rows.specs.open_marks.Marks.{AreMarksBelow, is_create_kind}
use Rattle.client_tables.proofs.pushes.Picked.{create_kind}
use Rattle.client_tables.specs.declared.choice.finding.Attached.{Attached}
use Rattle.client_tables.specs.choice.Shown.{IsChoiceAt}
use Rattle.client_tables.specs.declared.opens.opening.Open.{Open}
use Rattle.client_tables.specs.attached_opens.Known.{IsKnownAt, ShowsOpened}
use Rattle.client_tables.specs.attached_opens.Locks.{locks_on}
use Rattle.client_tables.specs.attached_opens.Opens.{FitsOpens, IsRoomy, ShowsAttached}
use Rattle.client_steps.proofs.taking.Roomed.{ok_more}
use Rattle.client_steps.specs.submits_on_opens.Joined.{SubmitJoins}
use Rattle.client_steps.specs.submits_on_opens.Keeping.{SubmitKeeps}
use Rattle.client_steps.specs.submitting.Marked.{FitsMarks, IsMarkedAt, ShowsMarks}
use Rattle.client_steps.specs.submitting.Whole.{ShowsWhole}
use Rattle.client_steps.proofs.submitting.All.{fits_like, fits_more, inside, keeps_stay, known_more, marks_fit}
use Rattle.client_steps.proofs.submitting.All.{marks_show, marks_stay, shown_like}
use Rattle.client_steps.proofs.submitting.All.{homes_more, shown_more}
use Rattle.client_steps.proofs.submitting.Results.{clash, err_four, err_three, ok_six, ok_three}
use Rattle.client_steps.proofs.submitting.more.take_more.Goals as goal

pub open_of-open-requires : goal.open_of-open-requires
open_of-open-requires c = c.requires.within

pub known_at-known-requires : goal.known_at-known-requires
known_at-known-requires c =
    let a = c.requires.all in
    subst (λ n. c.open_of-open.result < n) (sym a.known)
    (subst (λ y. y < length c.args.attached.now) (sym c.open_of-open.ensures)
    (a.opens.opens c.args.create c.requires.above c.requires.within))

pub bounds-attached-at : goal.bounds-attached-at
bounds-attached-at c =
    subst (λ y. y < length c.args.attached.now) (sym c.open_of-open.ensures)
    (c.requires.all.opens.opens c.args.create c.requires.above c.requires.within)

pub bounds-marks-at : goal.bounds-marks-at
bounds-marks-at c =
    subst (λ y. y < length c.args.marks.now) (sym c.open_of-open.ensures)
    (c.requires.all.marked.opens c.args.create c.requires.above c.requires.within)

pub take_onto-requires : goal.take_onto-requires
take_onto-requires c =
    let a = c.requires.all in
    let marks = c.args.marks.now in
    let at = c.open_of-open.result in
    let mark : Open = slice_index_or marks at c.index-marks-at.result in
    let mark_is : IsMarkedAt marks at mark = ap (λ (z : Open). slice_index_or marks at z) c.index-marks-at.is in
    let bound = a.marked.below c.args.create mark c.requires.above c.requires.within
    (subst (λ y. IsMarkedAt marks y mark) c.open_of-open.ensures mark_is) in
    record {
      fits = a.table;
      few = c.requires.few;
      room = c.requires.room;
      above = c.requires.above;
      within = c.requires.within;
      limits = c.requires.limits;
      below = bound.0;
      topped = bound.1;
    }

pub returns : goal.returns
returns c =
    let t = c.args.table.now in
    let rows = t.rows.items in
    let attached = c.args.attached.now in
    let opened = c.args.opened.now.items in
    let marks = c.args.marks.now in
    let x = c.args.create in
    let op = op_of c.args.kind in
    let a = c.requires.all in
    let p = c.requires.above in
    let l = c.requires.within in
    let at = c.open_of-open.result in
    let q = c.open_of-open.ensures in
    let own : Attached = slice_index_or attached at c.index-attached-at.result in
    let own_is : IsChoiceAt attached at own = ap (λ (z : Attached). slice_index_or attached at z) c.index-attached-at.is in
    let mark : Open = slice_index_or marks at c.index-marks-at.result in
    let mark_is : IsMarkedAt marks at mark = ap (λ (z : Open). slice_index_or marks at z) c.index-marks-at.is in
    let known = c.known_at-known.result in
    let e = c.take_onto.ensures in
    let own2 = c.take_onto.new.own in
    let mark2 = c.take_onto.new.mark in
    let new = c.take_onto.new.table in
    let attached2 : List Attached = set attached at own2 in
    let marks2 : List Open = set marks at mark2 in
    let like : FitsOpens rows attached2 = fits_like rows attached x at own own2 p l q own_is a.opens e.session e.slots
    (e.room (locks_on rows at)) in
    let within_all : at < length attached = inside rows attached x at own own2 p l q own_is a.opens e.session e.slots
    (e.room (locks_on rows at)) in
    let same_known : length opened ≡ length attached2 = a.known ∙ sym (length-set attached at own2) in
    let same_marks : length marks2 ≡ length attached2 = length-set marks at mark2 ∙ a.counted ∙ sym (length-set attached at own2) in
    let owned : (g : ℕ) → 0 < g → g < length rows → owner rows g < length rows = (λ g b k. (a.table.owned g b k).1) in
    let h : owner rows x ≡ x = a.homes x p l c.requires.made in
    let shown_now : (d : Client) → ShowsWhole t attached opened marks d → ShowsAttached rows attached2 d = (λ d s.
    shown_like rows attached x at own own2 p l q own_is a.opens e.session e.slots (e.room (locks_on rows at)) d (owned x p l) s.attached) in
    let is_own : (o : Attached) → IsChoiceAt attached2 at o → o ≡ own2 = (λ o k.
    k ∙ get_or-set_same attached at own2 o within_all) in
    let plain : kind_of op ≡ kinds.Create → ⊥ = (λ k.
    clash (is_create op) (create_kind op ∙ ap (λ z. is_create_kind z) k) c.requires.other) in
    let joins : (d : Client) → ShowsWhole t attached opened marks d → TableKept d → SubmitJoins t own known mark d x
    op = (λ d s kept. record {
      shown = s.table;
      kept = kept;
      made = create_kind (d.op x) ∙ ap (λ z. is_create_kind z)
          (s.table.rows.places.kinds x p (s.table.rows.places.is_taken x p l) ∙ c.requires.made);
      other = c.requires.other;
      names = c.requires.names;
      session = ap (λ y. d.attached y) (sym h) ∙ s.attached.session_is x own p l (subst (λ y. IsChoiceAt attached y own) q own_is);
      shut = ap (λ y. d.closed_ok y) (sym h)
          ∙ s.opened.closed_is x known p l (subst (λ y. IsKnownAt opened y known) q c.known_at-known.ensures);
      persist = ap (λ y. persists (d.op y)) (sym h)
          ∙ s.opened.persists_is x known p l (subst (λ y. IsKnownAt opened y known) q c.known_at-known.ensures);
      marked = subst (λ y. SubmitKeeps rows (length rows) d.op y mark) h
          (s.marked x mark p l (subst (λ y. IsMarkedAt marks y mark) q mark_is));
    }) in
    record {
      row = ok_more c.take_onto.result (λ w. (w.0, w.1, w.2)) e.row;
      same = e.same;
      fits = ok_six c.take_onto.result (λ row locks below topped last fits. (
          let r = row.0 in
          let is = row.1 in
          record {
            table = fits;
            opens = subst (λ (xs : List Row). FitsOpens xs attached2) (sym is)
                (fits_more rows r attached2 x at p l q h row.2 row.3 like
                (λ o k z. subst (λ (y : Attached). IsRoomy (locks_on rows r.«open» + 1) y.locks (vec_capacity y.slots))
                (sym (is_own o (subst (λ y. IsChoiceAt attached2 y o) row.3 z)))
                (subst (λ y. IsRoomy (locks_on rows y + 1) own2.locks (vec_capacity own2.slots)) (sym row.3)
                (locks (sym row.4 ∙ k) (locks_on rows at) (a.opens.room at own within_all own_is)))));
            marked = subst (λ (xs : List Row). FitsMarks xs marks2) (sym is)
                (marks_fit rows r attached2 x at p l q h row.2 row.3 like marks mark2 a.marked (below, topped) last);
            known = same_known;
            counted = same_marks;
            homes = subst (λ (xs : List Row). (g : ℕ) → 0 < g → g < length xs → kind xs g ≡ kinds.Create → owner xs g ≡ g) (sym is)
                (homes_more rows r (λ k. plain (sym row.4 ∙ k)) a.homes);
          }
          )) e.row e.locks e.below e.topped e.last e.fits;
      shown = ok_three c.take_onto.result (λ row joined others d s kept. (
          let r = row.0 in
          let is = row.1 in
          let w = joined d (joins d s kept) in
          record {
            table = w.0;
            attached = subst (λ (xs : List Row). ShowsAttached xs attached2 d) (sym is)
                (shown_more rows r attached2 x at p l q h row.2 row.3 like d (shown_now d s));
            opened = subst (λ (xs : List Row). ShowsOpened xs opened (take_op d (length rows) op)) (sym is)
                (known_more rows r attached2 x at p l q h row.2 row.3 like opened d op owned s.opened);
            marked = subst (λ (xs : List Row). ShowsMarks xs marks2 (put d.op (length rows) op)) (sym is)
                (marks_show rows r attached2 x at p l q h row.2 row.3 like marks mark2 a.marked d op
                (subst (λ (xs : List Row). SubmitKeeps xs (length rows + 1) (put d.op (length rows) op) x mark2) is w.1)
                (λ y z ne k. subst (λ (xs : List Row). SubmitKeeps xs (length rows + 1) (put d.op (length rows) op) y z) is
                (others d y z ne k)) s.marked);
          }
          )) e.row e.joined e.others;
      still = err_four c.take_onto.result (λ same marked tops fits. record {
        table = fits;
        opens = subst (λ (xs : List Row). FitsOpens xs attached2) (sym same) like;
        marked = subst (λ (xs : List Row). FitsMarks xs marks2) (sym same)
            (marks_stay rows marks x at mark mark2 p l q mark_is a.marked (
              subst (λ (y : Marks). AreMarksBelow y (length rows)) (sym marked) (a.marked.below x mark p l
                  (subst (λ y. IsMarkedAt marks y mark) q mark_is)).0,
              tops,
            ) marked);
        known = same_known;
        counted = same_marks;
        homes = subst (λ (xs : List Row). (g : ℕ) → 0 < g → g < length xs → kind xs g ≡ kinds.Create → owner xs g ≡ g) (sym same) a.homes;
      }) e.same e.marks e.tops e.still;
      kept = err_three c.take_onto.result (λ same shown stays d s. record {
        table = shown d s.table;
        attached = subst (λ (xs : List Row). ShowsAttached xs attached2 d) (sym same) (shown_now d s);
        opened = subst (λ (xs : List Row). ShowsOpened xs opened d) (sym same) s.opened;
        marked = subst (λ (xs : List Row). ShowsMarks xs marks2 d.op) (sym same)
            (keeps_stay rows marks x at mark mark2 p l q mark_is a.marked d (λ g b k o. (a.opens.paired g x b k p l).1 (o ∙ q) ∙ h)
            (λ k. subst (λ (xs : List Row). SubmitKeeps xs (length rows) d.op x mark2) same (stays d (length rows) k)) s.marked);
      }) e.same e.kept e.stays;
    }
