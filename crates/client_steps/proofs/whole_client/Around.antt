-- The opens around a client's table, over a step of it.
use Rattle.std.proofs.Common.{◌≡◌, ℕ, ◌<◌, if◌then◌else◌, List, length, Bool, refl, sym, ◌∙◌, subst}
use Rattle.spec_exchange.specs.State.{Reply}
use Rattle.spec_exchange.specs.Operations.{Op}
use Rattle.spec_exchange.specs.Client.{Client, begin_session, bind_channel, create_for, cut_channel, end_session, ends_at_cut, leave_dialog}
use Rattle.spec_exchange.specs.ClientStep.{becomes_ready, cut_after, hear_after, ready_after}
use Rattle.spec_exchange.specs.Settling.{Attaches, EndsSession, GoesAgain, Heard, Settles, hear, heard, is_awaited}
use Rattle.spec_exchange.specs.Settling.{noted, noted_full, settled}
use Rattle.spec_exchange.specs.Settling.{settles_open, with_no_opens}
use Rattle.law_client.proofs.table.Chosen.{in_both}
use Rattle.client_values.specs.declared.operations.shapes.Kind.TheVariants as kinds
use Rattle.client_values.specs.operations.Waiting.{at_of, size_of}
use Rattle.client_rows.specs.declared.operation_rows.row.Row.{Row}
use Rattle.client_rows.specs.operation_rows.Rows.{row_at, kind, owner}
use Rattle.base_lists.specs.range_index.Shown.{top}
use Rattle.client_tables.specs.declared.opens.opening.Open.{Open}
use Rattle.client_tables.specs.opens.Opened.{ShowsOpen}
use Rattle.client_tables.proofs.opens.Settled.{settled_open}
use Rattle.client_tables.specs.declared.choice.finding.Attached.{Attached}
use Rattle.client_tables.specs.declared.whole_table.parts.Table.{Table}
use Rattle.client_tables.specs.whole_table.Shown.{TableFits, ShowsTable}
use Rattle.client_tables.specs.declared.attached_opens.opened.Opened.{Opened}
use Rattle.client_tables.specs.attached_opens.Known.{ShowsOpened}
use Rattle.client_tables.specs.attached_opens.Opens.{FitsOpens, ShowsAttached}
use Rattle.client_tables.specs.attached_opens.Places.{KeepsPlaces}
use Rattle.client_tables.proofs.attached_opens.Kept.{places_none}
use Rattle.client_tables.proofs.attached_opens.Known.{known_moved}
use Rattle.client_tables.proofs.attached_opens.Moved.{fits_moved, shown_moved}
use Rattle.client_steps.proofs.hearing.Noted.{ascends_moved, note_any}
use Rattle.client_steps.proofs.responses.Heard.{highest_moved}
use Rattle.client_steps.specs.submitting.Marked.{FitsMarks, IsMarkBounded, IsMarkedAt, ShowsMarks}
use Rattle.client_steps.specs.submitting.Whole.{ShowsWhole}
use Rattle.client_steps.specs.whole_client.Shown.{FitsAll}

pub same_places : (rows new : List Row) → new ≡ rows → KeepsPlaces rows new
same_places rows new e = subst (λ (xs : List Row). KeepsPlaces rows xs) (sym e) (places_none rows)

module _ (rows new : List Row) (m : KeepsPlaces rows new) (marks : List Open) where
  within : (g : ℕ) → g < length new → g < length rows
  within g l = subst (λ n. g < n) m.count l

  there : (g : ℕ) (o : Open) → IsMarkedAt marks (row_at new g).«open» o → IsMarkedAt marks (row_at rows g).«open» o
  there g o q = subst (λ x. IsMarkedAt marks x o) (m.opens g) q

  pub marked_moved : FitsMarks rows marks → FitsMarks new marks
  marked_moved f =
      record {
        opens = λ g p l. subst (λ x. x < length marks) (sym (m.opens g)) (f.opens g p (within g l));
        below = λ g o p l q. subst (λ n. IsMarkBounded o n) (sym m.count) (f.below g o p (within g l) (there g o q));
        lasts = λ g o p l q. highest_moved rows new g o.marks.last m.count m.create (f.lasts g o p (within g l) (there g o q));
      }

  pub homes_moved : ((g : ℕ) → 0 < g → g < length rows → kind rows g ≡ kinds.Create → owner rows g ≡ g)
      → (g : ℕ) → 0 < g → g < length new → kind new g ≡ kinds.Create → owner new g ≡ g
  homes_moved h g p l k = m.create g ∙ h g p (within g l) (sym (m.kinds g) ∙ k)

  pub marks_moved : (op : ℕ → Op) → ShowsMarks rows marks op → ShowsMarks new marks op
  marks_moved op s g o p l q =
      subst (λ (n : ℕ). ShowsOpen new (λ x. at_of (op x)) (λ x. size_of (op x)) (owner new g) n o.marks (top o.written) (top o.locked))
      (sym m.count)
      (subst (λ (y : ℕ). ShowsOpen new (λ x. at_of (op x)) (λ x. size_of (op x)) y (length rows) o.marks (top o.written) (top o.locked))
      (sym (m.create g))
      (settled_open rows new (λ x. at_of (op x)) (λ x. size_of (op x)) (owner rows g) (length rows) o.marks (top o.written)
      (top o.locked) m.create m.kinds m.settled (s g o p (within g l) (there g o q))))

module _ (t u : Table) (attached : List Attached) (opened : List Opened) (marks : List Open)
    (m : KeepsPlaces t.rows.items u.rows.items) where
  -- the lists stay
  pub fits_around : (later : List ℕ) → TableFits u → FitsAll t attached opened marks later → FitsAll u attached opened marks later
  fits_around later w f =
      record {
        whole = record {
          table = w;
          opens = fits_moved t.rows.items u.rows.items attached m f.whole.opens;
          marked = marked_moved t.rows.items u.rows.items m marks f.whole.marked;
          known = f.whole.known;
          counted = f.whole.counted;
          homes = homes_moved t.rows.items u.rows.items m marks f.whole.homes;
        };
        later = ascends_moved t.rows.items u.rows.items later m f.later;
      }

  -- what is attached and what is known of opens changes
  pub fits_changed : (was_attached : List Attached) (was_opened : List Opened) (later : List ℕ) → TableFits u
      → FitsOpens u.rows.items attached
      → length attached ≡ length was_attached → length opened ≡ length was_opened → FitsAll t was_attached was_opened marks later
      → FitsAll u attached opened marks later
  fits_changed was_attached was_opened later w o a k f =
      record {
        whole = record {
          table = w;
          opens = o;
          marked = marked_moved t.rows.items u.rows.items m marks f.whole.marked;
          known = k ∙ f.whole.known ∙ sym a;
          counted = f.whole.counted ∙ sym a;
          homes = homes_moved t.rows.items u.rows.items m marks f.whole.homes;
        };
        later = ascends_moved t.rows.items u.rows.items later m f.later;
      }

  pub shows_around : (d : Client) → ShowsTable u d → ShowsAttached t.rows.items attached d → ShowsOpened t.rows.items opened d
      → ShowsMarks t.rows.items marks d.op → ShowsWhole u attached opened marks d
  shows_around d w a k s =
      record {
        table = w;
        attached = shown_moved t.rows.items u.rows.items attached m d.attached d.slot_user d.retried d.full a;
        opened = known_moved t.rows.items u.rows.items opened m d.op d.file d.closed_ok d.sent d.slot_of k;
        marked = marks_moved t.rows.items u.rows.items m marks d.op s;
      }

-- ---- what events leave

pub cut_any : (P : Client → Type 0) (c : Client) (k : ℕ) → P c → P (end_session c) → P (cut_channel c k) → P (cut_after c k)
cut_any P c k p q r =
    in_both P (c.ready k) (if ends_at_cut c then end_session c else cut_channel c k) c
    (λ e. in_both P (ends_at_cut c) (end_session c) (cut_channel c k) (λ f. q) (λ f. r)) (λ e. p)

pub ready_any : (P : Client → Type 0) (c : Client) (k session tree : ℕ) → P (bind_channel c k) → P (begin_session c k session tree)
    → P (leave_dialog c k) → P (ready_after c k session tree)
ready_any P c k session tree b n l =
    in_both P (becomes_ready c session) (if c.live then bind_channel c k else begin_session c k session tree) (leave_dialog c k)
    (λ e. in_both P c.live (bind_channel c k) (begin_session c k session tree) (λ f. b) (λ f. n)) (λ e. l)

heard_op : (c : Client) (g : ℕ) (asking : Bool) (r : Reply) (place : ℕ) (h : Heard) → (hear c g asking r place h).op ≡ c.op
heard_op c g asking r place (Settles o) =
    let n = noted_full (noted c g o r.body) g asking r.status in
    let e : n.op ≡ c.op = note_any (λ (z : Client). z.op ≡ c.op) (λ z f p. p) c g o r.body asking r.status refl (λ f h. refl) (λ f. refl) in
    in_both (λ (z : Client). z.op ≡ c.op) (settles_open (c.op g)) (with_no_opens (settled n g o place) (create_for c g))
    (settled n g o place)
    (λ f. e) (λ f. e)
heard_op c g asking r place GoesAgain = refl
heard_op c g asking r place Attaches = refl
heard_op c g asking r place EndsSession = refl

pub hear_op : (c : Client) (k g : ℕ) (asking : Bool) (r : Reply) (place : ℕ) → (hear_after c k g asking r place).op ≡ c.op
hear_op c k g asking r place =
    in_both (λ (z : Client). z.op ≡ c.op) (is_awaited c k g asking) (hear c g asking r place (heard c g asking r)) c
    (λ e. heard_op c g asking r place (heard c g asking r)) (λ e. refl)
