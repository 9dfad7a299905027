-- Row 0 comes, which is on no open.
use Rattle.std.proofs.Common.{◌≡◌, ℕ, ◌<◌, ◌≤◌, List, [], ◌∷◌, length, vec_capacity, sym, subst, arith, inl, inr}
use Rattle.spec_exchange.specs.Client.{Client}
use Rattle.client_values.specs.declared.operations.shapes.Kind.TheVariants as kinds
use Rattle.client_rows.specs.declared.operation_rows.row.Row.{Row}
use Rattle.client_rows.specs.operation_rows.Rows.{kind, no_row, owner}
use Rattle.client_rows.specs.operation_rows.Slots.{slot_at}
use Rattle.client_tables.specs.declared.opens.opening.Open.{Open}
use Rattle.client_tables.specs.declared.choice.finding.Attached.{Attached}
use Rattle.client_tables.specs.declared.whole_table.parts.Table.{Table}
use Rattle.client_tables.specs.whole_table.Shown.{TableFits, ShowsTable}
use Rattle.client_tables.specs.declared.attached_opens.opened.Opened.{Opened}
use Rattle.client_tables.specs.attached_opens.Known.{ShowsOpened}
use Rattle.client_tables.specs.attached_opens.Opens.{FitsOpens, IsRoomy, ShowsAttached}
use Rattle.client_tables.proofs.attached_opens.Locks.{locks_first}
use Rattle.client_steps.specs.unsent.Ascending.{Ascends}
use Rattle.client_steps.specs.taking.Taken.{KeepsOrBegins}
use Rattle.client_steps.specs.submitting.Marked.{FitsMarks, ShowsMarks}
use Rattle.client_steps.specs.submitting.Whole.{ShowsWhole}
use Rattle.client_steps.specs.whole_client.Shown.{FitsAll}

none_in : (g : ℕ) → 0 < g → g < 1 → ⊥
none_in g p l = omega arith

none_below : (x : ℕ) → x < 0 → x < 1
none_below x l = omega arith

from_none : (x : ℕ) → 1 ≤ x → 0 ≤ x
from_none x l = omega arith

-- what holds without rows and with row 0 alone holds in both cases
pub kept_or_begun : (P : List Row → Type 0) (rows new : List Row) → (P [] → P (no_row ∷ [])) → KeepsOrBegins rows new → P rows → P new
kept_or_begun P rows new begin k p =
    elim k as (λ _. P new) [
      | inl e ↦ subst (λ (xs : List Row). P xs) (sym e) p
      | inr w ↦ subst (λ (xs : List Row). P xs) (sym w.1) (begin (subst (λ (xs : List Row). P xs) w.0 p))
    ]

first_opens : (attached : List Attached) → FitsOpens [] attached → FitsOpens (no_row ∷ []) attached
first_opens attached f =
    record {
      opens = λ g p l. absurd (none_in g p l);
      paired = λ g h p l. absurd (none_in g p l);
      room = λ i o l q. subst (λ n. IsRoomy n o.locks (vec_capacity o.slots)) (sym (locks_first no_row i)) (f.room i o l q);
      bounded = λ i o l q. (
        (f.bounded i o l q).0,
        λ place k. none_below (slot_at o.slots.items place).user
            ((f.bounded i o l q).1 place k),
      );
      users = λ i o l q place k. (
        (f.users i o l q place k).0,
        none_below (slot_at o.slots.items place).user (f.users i o l q place k).1,
      );
    }

first_marks : (marks : List Open) → FitsMarks [] marks → FitsMarks (no_row ∷ []) marks
first_marks marks f =
    record {
      opens = λ g p l. absurd (none_in g p l);
      below = λ g m p l. absurd (none_in g p l);
      lasts = λ g m p l. absurd (none_in g p l);
    }

first_attached : (attached : List Attached) (c : Client) → ShowsAttached [] attached c → ShowsAttached (no_row ∷ []) attached c
first_attached attached c s =
    record {
      session_is = λ g o p l. absurd (none_in g p l);
      slots_are = λ g o p l. absurd (none_in g p l);
      session_none = λ x l. s.session_none x (from_none x l);
      slots_none = λ x i l. s.slots_none x i (from_none x l);
    }

first_known : (opened : List Opened) (c : Client) → ShowsOpened [] opened c → ShowsOpened (no_row ∷ []) opened c
first_known opened c s =
    record {
      file_is = λ g o p l. absurd (none_in g p l);
      closed_is = λ g o p l. absurd (none_in g p l);
      persists_is = λ g o p l. absurd (none_in g p l);
      file_none = λ x l. s.file_none x (from_none x l);
      closed_none = λ x l. s.closed_none x (from_none x l);
      unsent = s.unsent;
    }

module _ (t u : Table) (attached : List Attached) (opened : List Opened) (marks : List Open)
    (k : KeepsOrBegins t.rows.items u.rows.items) where
  pub fits_begun : (later up : List ℕ) → TableFits u → Ascends u.rows.items up → FitsAll t attached opened marks later
      → FitsAll u attached opened marks up
  fits_begun later up w a f =
      record {
        whole = record {
          table = w;
          opens = kept_or_begun (λ xs. FitsOpens xs attached) t.rows.items u.rows.items (first_opens attached) k f.whole.opens;
          marked = kept_or_begun (λ xs. FitsMarks xs marks) t.rows.items u.rows.items (first_marks marks) k f.whole.marked;
          known = f.whole.known;
          counted = f.whole.counted;
          homes = kept_or_begun (λ xs. (g : ℕ) → 0 < g → g < length xs → kind xs g ≡ kinds.Create → owner xs g ≡ g) t.rows.items
              u.rows.items (λ h g p l. absurd (none_in g p l)) k f.whole.homes;
        };
        later = a;
      }

  pub shows_begun : (c : Client) → ShowsTable u c → ShowsWhole t attached opened marks c → ShowsWhole u attached opened marks c
  shows_begun c w s =
      record {
        table = w;
        attached = kept_or_begun (λ xs. ShowsAttached xs attached c) t.rows.items u.rows.items (first_attached attached c) k s.attached;
        opened = kept_or_begun (λ xs. ShowsOpened xs opened c) t.rows.items u.rows.items (first_known opened c) k s.opened;
        marked = kept_or_begun (λ xs. ShowsMarks xs marks c.op) t.rows.items u.rows.items (λ h g o p l. absurd (none_in g p l)) k s.marked;
      }
