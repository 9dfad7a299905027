-- Rows that show a client but for its costs: behind a price, behind a link, and with other costs of what is settled.
use Rattle.std.proofs.Common.{◌≡◌, ℕ, ◌<◌, Bool, true, List, length, set, is_some, refl, ap, sym, ◌∙◌, subst, ◌⊎◌, inl, inr}
use Rattle.std.proofs.Common.{arith}
use Rattle.base_lists.specs.declared.watch_lists.Link.{Link as Watch}
use Rattle.base_lists.specs.watch_lists.Listed.{watches}
use Rattle.spec_exchange.specs.Table.{put}
use Rattle.spec_exchange.specs.Operations.{Op, Outcome}
use Rattle.spec_exchange.specs.Client.{Client}
use Rattle.client_rows.specs.declared.operation_rows.row.Row.{Row}
use Rattle.client_rows.specs.declared.operation_rows.chains.Chain.TheVariants as chains
use Rattle.client_rows.specs.operation_rows.Rows.{row_at, stands, owner, kind, costs, links}
use Rattle.client_rows.specs.operation_rows.Chains.{Chained, Descends, SameBut}
use Rattle.client_rows.specs.operation_rows.Choosing.{price_of}
use Rattle.client_rows.specs.operation_rows.Holding.{Alike, AreFirst}
use Rattle.client_rows.specs.operation_rows.Moves.{StandsRows}
use Rattle.client_rows.proofs.operation_rows.Columns.{alike_link, owners, standing}
use Rattle.client_rows.proofs.operation_rows.Holding.{fits_all}
use Rattle.client_rows.proofs.operation_rows.Finding.{holder_of_new}
use Rattle.client_rows.proofs.operation_rows.Changing.{col_kept}
use Rattle.client_rows.proofs.operation_rows.Walking.{count_same, put_at, put_off, row_here, row_there}
use Rattle.client_rows.specs.Shown.{RowShowsPlaces, ShowsSends, fills_by, waits_by}
use Rattle.client_rows.proofs.Moving.{same_col}
use Rattle.client_tables.specs.costs.Costs.{ShowsPaid, cost_where, priced_row}

ways : (x y : ℕ) → (x ≡ y) ⊎ (x ≡ y → ⊥)
ways x y = grind arith

-- ---- one costs so much

places_one : (rows : List Row) (x : ℕ) (attached : Bool) (taken : ℕ) (op : ℕ → Op) (outcome : ℕ → Outcome) (paid : ℕ → ℕ)
    → x < length rows → RowShowsPlaces rows taken op outcome paid
    → RowShowsPlaces (set rows x (priced_row attached (row_at rows x))) taken op outcome
    (put paid x (cost_where attached (kind rows x) (row_at rows x).charge))
places_one rows x attached taken op outcome paid h s =
    let r = priced_row attached (row_at rows x) in
    let n = count_same rows x r in
    let v = cost_where attached (kind rows x) (row_at rows x).charge in
    record {
      has_row = λ g p l. subst (λ z. g < z) (sym n) (s.has_row g p l);
      is_taken = λ g p l. s.is_taken g p (subst (λ z. g < z) n l);
      creates = λ g p l. s.creates g p l ∙ kept (λ (w : Row). w.create) refl g;
      kinds = λ g p l. s.kinds g p l ∙ kept (λ (w : Row). w.kind) refl g;
      charges = λ g p l. s.charges g p l ∙ kept (λ (w : Row). w.charge) refl g;
      unsettled = λ g p l. s.unsettled g p l ∙ kept (λ (w : Row). w.unsettled) refl g;
      firm_is = λ g p l. s.firm_is g p l ∙ kept (λ (w : Row). w.firm) refl g;
      pays = λ g p l u. (
          elim (ways g x) as (λ _. put paid x v g ≡ costs (set rows x r) g) [
            | inl q ↦ put_at paid x v g q ∙ sym (ap (λ (w : Row). w.cost) (row_here rows x r g h q))
            | inr q ↦ put_off paid x v g q ∙ s.pays g p l (kept (λ (w : Row). w.unsettled) refl g ∙ u)
                ∙ sym (ap (λ (w : Row). w.cost) (row_there rows x r g q))
          ]
          );
    }
  where
    kept : {X : Type 0} (f : Row → X) → f (priced_row attached (row_at rows x)) ≡ f (row_at rows x) → (g : ℕ)
        → f (row_at rows g) ≡ f (row_at (set rows x (priced_row attached (row_at rows x))) g)
    kept f e g = λ t. (col_kept f rows x (priced_row attached (row_at rows x)) h e t) g

pub paid_one : (rows : List Row) (x : ℕ) (attached : Bool) (holders prices prices2 : List ℕ) (watchers : List Watch) (c : Client)
    (paid : ℕ → ℕ) → x < length rows → ShowsPaid rows holders prices watchers c paid
    → StandsRows (waits_by c.op) (fills_by c.op) (set rows x (priced_row attached (row_at rows x))) holders prices2 watchers
    → ShowsPaid (set rows x (priced_row attached (row_at rows x))) holders prices2 watchers c
    (put paid x (cost_where attached (kind rows x) (row_at rows x).charge))
paid_one rows x attached holders prices prices2 watchers c paid h s t =
    let r = priced_row attached (row_at rows x) in
    let w = s.sends in
    record {
      places = places_one rows x attached c.taken c.op c.outcome paid h s.places;
      sends = record {
        sent_is = same_col (λ (z : Row). z.sent) rows x r c.sent h refl w.sent_is;
        out_is = same_col (λ (z : Row). z.outstanding_on) rows x r c.outstanding_on h refl w.out_is;
        asks_is = same_col (λ (z : Row). z.asking) rows x r c.asks_attach h refl w.asks_is;
        unanswered_is = same_col (λ (z : Row). z.unanswered) rows x r c.unanswered h refl w.unanswered_is;
        sequence_is = same_col (λ (z : Row). z.sequence) rows x r c.sequence_of h refl w.sequence_is;
        slot_is = same_col (λ (z : Row). z.slot) rows x r c.slot_of h refl w.slot_is;
        number_is = same_col (λ (z : Row). z.slot_number) rows x r c.number_of h refl w.number_is;
      };
      stand = t;
    }

pub descends_one : (rows : List Row) (x : ℕ) (attached : Bool) → x < length rows → Descends (links chains.All rows)
    → Descends (links chains.All (set rows x (priced_row attached (row_at rows x))))
descends_one rows x attached h d = subst (λ (f : ℕ → ℕ). Descends f)
    (col_kept (λ (r : Row). r.lower) rows x (priced_row attached (row_at rows x)) h refl) d

-- ---- a link changes

module _ (old new : List Row) (same : SameBut chains.All old new) where
  abbrev alike : Alike old new
  alike = alike_link chains.All old new same

  col : {X : Type 0} (f : Row → X) → ((r : Row) (n : ℕ) → f (record r { lower = n }) ≡ f r) → (g : ℕ) → f (row_at old g) ≡ f (row_at new g)
  col f e g = sym (ap f (same.row g) ∙ e (row_at old g) (links chains.All new g))

  places_link : (taken : ℕ) (op : ℕ → Op) (outcome : ℕ → Outcome) (paid : ℕ → ℕ) → RowShowsPlaces old taken op outcome paid
      → RowShowsPlaces new taken op outcome paid
  places_link taken op outcome paid s =
      record {
        has_row = λ g p l. subst (λ z. g < z) (sym same.count) (s.has_row g p l);
        is_taken = λ g p l. s.is_taken g p (subst (λ z. g < z) same.count l);
        creates = λ g p l. s.creates g p l ∙ col (λ (r : Row). r.create) (λ r n. refl) g;
        kinds = λ g p l. s.kinds g p l ∙ col (λ (r : Row). r.kind) (λ r n. refl) g;
        charges = λ g p l. s.charges g p l ∙ col (λ (r : Row). r.charge) (λ r n. refl) g;
        unsettled = λ g p l. s.unsettled g p l ∙ col (λ (r : Row). r.unsettled) (λ r n. refl) g;
        firm_is = λ g p l. s.firm_is g p l ∙ col (λ (r : Row). r.firm) (λ r n. refl) g;
        pays = λ g p l u. s.pays g p l (col (λ (r : Row). r.unsettled) (λ r n. refl) g ∙ u) ∙ col (λ (r : Row). r.cost) (λ r n. refl) g;
      }

  sends_link : (c : Client) → ShowsSends old c.sent c.outstanding_on c.asks_attach c.unanswered c.sequence_of c.slot_of c.number_of
      → ShowsSends new c.sent c.outstanding_on c.asks_attach c.unanswered c.sequence_of c.slot_of c.number_of
  sends_link c s =
      record {
        sent_is = λ g. s.sent_is g ∙ col (λ (r : Row). r.sent) (λ r n. refl) g;
        out_is = λ g. s.out_is g ∙ col (λ (r : Row). r.outstanding_on) (λ r n. refl) g;
        asks_is = λ g. s.asks_is g ∙ col (λ (r : Row). r.asking) (λ r n. refl) g;
        unanswered_is = λ g. s.unanswered_is g ∙ col (λ (r : Row). r.unanswered) (λ r n. refl) g;
        sequence_is = λ g. s.sequence_is g ∙ col (λ (r : Row). r.sequence) (λ r n. refl) g;
        slot_is = λ g. s.slot_is g ∙ col (λ (r : Row). r.slot) (λ r n. refl) g;
        number_is = λ g. s.number_is g ∙ col (λ (r : Row). r.slot_number) (λ r n. refl) g;
      }

  stands_link : (holds : ℕ → ℕ → Bool) (fills : ℕ → Bool) (holders prices : List ℕ) (watchers : List Watch)
      → ((on : ℕ → ℕ → Bool) → Chained (links chains.All old) on (stands old) → Chained (links chains.All new) on (stands new))
      → StandsRows holds fills old holders prices watchers → StandsRows holds fills new holders prices watchers
  stands_link holds fills holders prices watchers c s =
      record {
        fits = fits_all holds fills old new holders same c s.fits;
        first = subst (λ (z : ℕ → ℕ). AreFirst holds z (stands new)) (owners old new alike)
            (subst (λ (z : ℕ → Bool). AreFirst holds (owner old) z) (standing old new alike) s.first);
        watched = λ g k. holder_of_new holds old new (watches watchers g) g alike (s.watched g k);
        priced = λ g k. s.priced g (subst (λ z. g < z) same.count k)
            ∙ (λ t. price_of (col (λ (r : Row). r.unsettled) (λ r n. refl) g t)
            (is_some (col (λ (r : Row). r.outstanding_on) (λ r n. refl) g t)) (watches watchers g)
            (col (λ (r : Row). r.cost) (λ r n. refl) g t));
      }

  pub paid_link : (holders prices : List ℕ) (watchers : List Watch) (c : Client) (paid : ℕ → ℕ)
      → ((on : ℕ → ℕ → Bool) → Chained (links chains.All old) on (stands old) → Chained (links chains.All new) on (stands new))
      → ShowsPaid old holders prices watchers c paid → ShowsPaid new holders prices watchers c paid
  paid_link holders prices watchers c paid k s =
      record {
        places = places_link c.taken c.op c.outcome paid s.places;
        sends = sends_link c s.sends;
        stand = stands_link (waits_by c.op) (fills_by c.op) holders prices watchers k s.stand;
      }

-- ---- what is settled costs whatever

pub paid_to : (rows : List Row) (holders prices : List ℕ) (watchers : List Watch) (c : Client) (paid paid2 : ℕ → ℕ)
    → ((g : ℕ) → 0 < g → stands rows g ≡ true → paid2 g ≡ paid g) → ShowsPaid rows holders prices watchers c paid
    → ShowsPaid rows holders prices watchers c paid2
paid_to rows holders prices watchers c paid paid2 e s =
    let w = s.places in
    record {
      places = record {
        has_row = w.has_row;
        is_taken = w.is_taken;
        creates = w.creates;
        kinds = w.kinds;
        charges = w.charges;
        unsettled = w.unsettled;
        firm_is = w.firm_is;
        pays = λ g p l u. e g p u ∙ w.pays g p l u;
      };
      sends = s.sends;
      stand = s.stand;
    }
