-- A session begins: no open is attached in it yet, as none was while there was no session, so that each operation costs what it did.
use Rattle.std.proofs.Common.{◌≡◌, ℕ, ◌+◌, ◌≤◌, ◌==◌, ◌&&◌, ◌||◌, Bool, true, false, if◌then◌else◌, List, ap, ◌∙◌, arith}
use Rattle.base_lists.specs.declared.watch_lists.Link.{Link as Watch}
use Rattle.spec_exchange.specs.Operations.{charge, is_create, weight}
use Rattle.spec_exchange.specs.Client.{Client, begin_session, create_for}
use Rattle.spec_exchange.specs.Schedules.{cost}
use Rattle.client_rows.specs.declared.operation_rows.row.Row.{Row}
use Rattle.client_rows.specs.Shown.{ShowsRows}

above : (a n : ℕ) → a ≤ n → (a == n + 1) ≡ false
above a n l = grind arith

fresh : (live : Bool) (a n : ℕ) → live ≡ false → a ≤ n → (true && (a == n + 1)) ≡ (live && (a == n))
fresh true a n e l = absurd (cc)
fresh false a n e l = above a n l

pub cost_begun : (c : Client) (k session tree g : ℕ) → c.live ≡ false → c.attached (create_for c g) ≤ c.session_number
    → cost (begin_session c k session tree) g ≡ cost c g
cost_begun c k session tree g e l =
    ap (λ b. if is_create (c.op g) || b then charge (weight (c.op g)) else 1)
    (fresh c.live (c.attached (create_for c g)) c.session_number e l)

pub rows_begun : (rows : List Row) (holders prices : List ℕ) (watchers : List Watch) (c : Client) (k session tree : ℕ)
    → c.live ≡ false → ((x : ℕ) → c.attached x ≤ c.session_number) → ShowsRows rows holders prices watchers c
    → ShowsRows rows holders prices watchers (begin_session c k session tree)
rows_begun rows holders prices watchers c k session tree e b s =
    let p = s.places in
    record {
      places = record {
        has_row = p.has_row;
        is_taken = p.is_taken;
        creates = p.creates;
        kinds = p.kinds;
        charges = p.charges;
        unsettled = p.unsettled;
        firm_is = p.firm_is;
        pays = λ g a l u. cost_begun c k session tree g e (b (create_for c g)) ∙ p.pays g a l u;
      };
      sends = s.sends;
      stand = s.stand;
    }
