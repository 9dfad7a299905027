-- The opens, as a search has them.
use Rattle.std.proofs.Common.{◌≡◌, ℕ, true, List, ap, sym, ◌∙◌, subst}
use Rattle.base_lists.specs.declared.watch_lists.Link.{Link as Watch}
use Rattle.spec_exchange.specs.Client.{Client, create_for}
use Rattle.client_rows.specs.declared.operation_rows.row.Row.{Row}
use Rattle.client_rows.specs.operation_rows.Rows.{row_at, owner}
use Rattle.client_rows.specs.Shown.{ShowsRows}
use Rattle.client_rows.specs.declared.session_state.session.Session.{Session}
use Rattle.client_rows.specs.session_state.Shown.{ClientShowsSession}
use Rattle.client_rows.specs.lock_slots.Shown.{ShowsSlots}
use Rattle.client_tables.specs.declared.choice.finding.Attached.{Attached}
use Rattle.client_tables.specs.choice.Shown.{ChoiceShowsOpens}
use Rattle.client_tables.specs.whole_table.Shown.{TableBounds}
use Rattle.client_tables.specs.attached_opens.Opens.{FitsOpens, ShowsAttached}
use Rattle.client_tables.proofs.attached_opens.Slots.{slots_shown}

-- what a push looks at of each open, where a session is live
pub opens_shown : (rows : List Row) (holders prices : List ℕ) (watchers : List Watch) (attached : List Attached) (z : Session) (c : Client)
    → FitsOpens rows attached → ShowsRows rows holders prices watchers c → ClientShowsSession z c → TableBounds c
    → ShowsAttached rows attached c
    → c.live ≡ true → ChoiceShowsOpens rows attached z c
opens_shown rows holders prices watchers attached z c f s h b a v = λ g o p l q.
    let e : create_for c g ≡ owner rows g = s.places.creates g p (s.places.is_taken g p l) in
    record {
      in_session = h;
      attached_in = ap (λ x. c.attached x) e ∙ a.session_is g o p l q;
      counted = b.counted v;
      has_slots = subst (λ x. ShowsSlots rows o.slots.items c.session_number c x) (sym e)
          (slots_shown rows holders prices watchers o.slots.items c (owner rows g) s
          (f.users (row_at rows g).«open» o (f.opens g p l) q) (a.slots_are g o p l q));
    }
