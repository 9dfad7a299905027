use Rattle.std.proofs.Common.{◌≡◌, true, false, ◌-◌, ◌<◌, List, length, slice_index_or, sym, ap, ◌∙◌, subst, arith}
use Rattle.law_client.proofs.table.Chosen.{is_less}
use Rattle.client_values.specs.declared.outcomes.outcome.Outcome.{Outcome}
use Rattle.client_values.specs.declared.outcomes.outcome.Outcome.TheVariants as outcomes
use Rattle.client_values.specs.outcomes.Meaning.{outcome_of}
use Rattle.client_rows.proofs.operation_rows.Walking.{positive}
use Rattle.client_steps.proofs.whole_client.Taken.{above, below, not_below, not_zero, outcome_so, taken_so}
use Rattle.client_steps.proofs.whole_client.client.Client.outcome.Goals as goal

pub returns-then-index-eq0 : goal.returns-then-index-eq0
returns-then-index-eq0 c =
    record {
      some = tt;
      none = λ d s t. absurd (not_zero c.args.number c.if-index-eq0.true (above d c.args.number t));
    }

pub returns-then-not-has_row : goal.returns-then-not-has_row
returns-then-not-has_row c =
    let g = c.args.number in
    let x = c.args.self.now in
    record {
      some = tt;
      none = λ d s t. absurd (not_below g (length x.table.rows.items) (sym c.has_row.ensures ∙ c.if-not-has_row.true)
          (s.table.rows.places.has_row g (above d g t) (below d g t)));
    }

pub stands_at-requires : goal.stands_at-requires
stands_at-requires c = is_less c.args.number (length c.args.self.now.table.rows.items) (sym c.has_row.ensures ∙ c.if-not-has_row.false)

pub returns-then-stands_at : goal.returns-then-stands_at
returns-then-stands_at c =
    let g = c.args.number in
    record {
      some = tt;
      none = λ d s t. outcome_so c.args.self.now d g true s (above d g t) (below d g t) (sym c.stands_at.ensures ∙ c.if-stands_at.true);
    }

pub settled_at-requires : goal.settled_at-requires
settled_at-requires c =
    let g = c.args.number in
    let x = c.args.self.now in
    let n = c.requires.fits.whole.table.settled_counted in
    let p = positive g c.if-index-eq0.false in
    let l = is_less g (length x.table.rows.items) (sym c.has_row.ensures ∙ c.if-not-has_row.false) in
    subst (λ (xs : List Outcome). g - 1 < length xs) (sym c.deref.ensures.value) (omega arith)

pub returns : goal.returns
returns c =
    let g = c.args.number in
    let x = c.args.self.now in
    let p = positive g c.if-index-eq0.false in
    let l = is_less g (length x.table.rows.items) (sym c.has_row.ensures ∙ c.if-not-has_row.false) in
    let is : c.settled_at.result.now ≡ slice_index_or x.table.settled.items (g - 1) (outcomes.NoOpen 0) =
    c.settled_at.ensures ∙ ap (λ (xs : List Outcome). slice_index_or xs (g - 1) (outcomes.NoOpen 0)) c.deref.ensures.value in
    record {
      some = λ d s. (
          let t = s.table.rows.places.is_taken g p l in (
            taken_so d g p t,
            outcome_so x d g false s p t (sym c.stands_at.ensures ∙ c.if-stands_at.false)
                ∙ sym (ap (λ o. outcome_of o) is),
          )
          );
      none = tt;
    }
