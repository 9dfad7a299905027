-- What is left outstanding of a client's operations where a channel is cut, and where the session ends.
use Rattle.std.specs.Prelude.{◌≡◌, ℕ, true, if◌then◌else◌, List, length, None}
use Rattle.spec_exchange.specs.Table.{has, put}
use Rattle.client_rows.specs.declared.operation_rows.row.Row.{Row}
use Rattle.client_rows.specs.operation_rows.Rows.{row_at, stands, owner, kind, is_out}
use Rattle.spec_exchange.specs.Client.{Client, before_after_cut, before_after_end, on_after_cut}

-- of one operation
abbrev pub cut_one : Client → ℕ → ℕ → Client
cut_one c k g =
    record c {
      outstanding_on = put c.outstanding_on g (on_after_cut k (c.outstanding_on g));
      unanswered = put c.unanswered g (before_after_cut k (c.outstanding_on g) (c.asks_attach g) (c.unanswered g));
    }

abbrev pub end_one : Client → ℕ → Client
end_one c g =
    record c {
      outstanding_on = put c.outstanding_on g None;
      unanswered = put c.unanswered g (before_after_end (c.outstanding_on g) (c.asks_attach g) (c.unanswered g));
    }

-- of those in a list
abbrev pub cut_of : Client → ℕ → List ℕ → Client
cut_of c k xs =
    record c {
      outstanding_on = λ g. if has g xs then on_after_cut k (c.outstanding_on g) else c.outstanding_on g;
      unanswered = λ g. if has g xs then before_after_cut k (c.outstanding_on g) (c.asks_attach g) (c.unanswered g) else c.unanswered g;
    }

abbrev pub end_of : Client → List ℕ → Client
end_of c xs =
    record c {
      outstanding_on = λ g. if has g xs then None else c.outstanding_on g;
      unanswered = λ g. if has g xs then before_after_end (c.outstanding_on g) (c.asks_attach g) (c.unanswered g) else c.unanswered g;
    }

-- of all, as the model's end_session has it, beside outcomes
abbrev pub end_all : Client → Client
end_all c =
    record c {
      outstanding_on = λ g. None;
      unanswered = λ g. before_after_end (c.outstanding_on g) (c.asks_attach g) (c.unanswered g);
    }

-- what is outstanding of some is lost; where each stands stays
pub record CutLoses (old new : List Row) : Type 0 where
  pub count : length new ≡ length old
  pub create : (g : ℕ) → owner new g ≡ owner old g
  pub opens : (g : ℕ) → (row_at new g).«open» ≡ (row_at old g).«open»
  pub kinds : (g : ℕ) → kind new g ≡ kind old g
  pub unsettled : (g : ℕ) → stands new g ≡ stands old g
  pub sent : (g : ℕ) → (row_at new g).sent ≡ (row_at old g).sent
  pub asks : (g : ℕ) → (row_at new g).asking ≡ (row_at old g).asking
  pub slots : (g : ℕ) → (row_at new g).slot ≡ (row_at old g).slot
  pub out : (g : ℕ) → is_out new g ≡ true → is_out old g ≡ true
