-- Steps keep where each operation stands.
use Rattle.std.proofs.Common.{ℕ, List, refl, ◌∙◌}
use Rattle.client_rows.specs.declared.operation_rows.row.Row.{Row}
use Rattle.client_rows.specs.Shown.{KeepsRow}
use Rattle.client_tables.specs.cuts.Cutting.{CutLoses}
use Rattle.client_tables.specs.settling.Shown.{GoesSettled}
use Rattle.client_tables.specs.attached_opens.Places.{KeepsPlaces}

pub places_none : (rows : List Row) → KeepsPlaces rows rows
places_none rows =
    record {
      count = refl;
      create = λ g. refl;
      opens = λ g. refl;
      kinds = λ g. refl;
      settled = λ g e. e;
    }

pub places_lost : (old new : List Row) → CutLoses old new → KeepsPlaces old new
places_lost old new m =
    record {
      count = m.count;
      create = m.create;
      opens = m.opens;
      kinds = m.kinds;
      settled = λ g e. m.unsettled g ∙ e;
    }

pub places_step : (old new : List Row) (x : ℕ) → KeepsRow old new x → KeepsPlaces old new
places_step old new x m =
    record {
      count = m.count;
      create = m.create;
      opens = m.opens;
      kinds = m.kinds;
      settled = λ g e. m.unsettled g ∙ e;
    }

pub places_goes : (old new : List Row) → GoesSettled old new → KeepsPlaces old new
places_goes old new m =
    record {
      count = m.count;
      create = m.create;
      opens = m.opens;
      kinds = m.kinds;
      settled = m.settled;
    }

-- one after the other
pub places_both : (old mid new : List Row) → KeepsPlaces old mid → KeepsPlaces mid new → KeepsPlaces old new
places_both old mid new m q =
    record {
      count = q.count ∙ m.count;
      create = λ g. q.create g ∙ m.create g;
      opens = λ g. q.opens g ∙ m.opens g;
      kinds = λ g. q.kinds g ∙ m.kinds g;
      settled = λ g e. q.settled g (m.settled g e);
    }

pub places_ended : (old mid new : List Row) → CutLoses old mid → GoesSettled mid new → KeepsPlaces old new
places_ended old mid new m q =
    record {
      count = q.count ∙ m.count;
      create = λ g. q.create g ∙ m.create g;
      opens = λ g. q.opens g ∙ m.opens g;
      kinds = λ g. q.kinds g ∙ m.kinds g;
      settled = λ g e. q.settled g (m.unsettled g ∙ e);
    }
