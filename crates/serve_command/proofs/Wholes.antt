-- A server that was served, from what its book, its seats and its first state tell.
use Rattle.std.proofs.Common.{◌≡◌, ◌⊎◌, ◌<◌, inl, inr, ℕ, zero, suc, ◌+◌, true, false, List, [], ◌∷◌, length, slice_get, Option, Some}
use Rattle.std.proofs.Common.{refl, sym, ap, subst, ◌∙◌, arith}
use Rattle.law_nonces.specs.event_nonces.Events.{NonceTables}
use Rattle.spec_crypto.specs.tokens.Tokens.{Users}
use Rattle.law_snapshots.proofs.restarts.Sessionless.{bare_found}
use Rattle.law_snapshots.specs.snapshots.Pieces.{SnapshotPiece}
use Rattle.server_core.specs.Over.{opened_over}
use Rattle.spec_exchange.specs.State as model
use Rattle.spec_world.specs.Ends.{Logons, no_logons}
use Rattle.server_checks.specs.declared.tables.Config.{Config}
use Rattle.server_core.specs.journaled_tables.Holds.{JournaledStands}
use Rattle.server_core.specs.server_start.Begun.{ServerBegins}
use Rattle.serve_command.specs.declared.lasting_book.book.LastingBook.{LastingBook}
use Rattle.server_core.specs.declared.server.Server.{Server}
use Rattle.server_core.specs.Shown.{HoldsServerOver, disk_of, journal_of, state_of, stopped_of}
use Rattle.serve_turns.specs.declared.event_book.turn.Answer.{Answer}
use Rattle.serve_turns.specs.declared.event_book.turn.Turn.{Turn}
use Rattle.serve_turns.specs.declared.link_serving.ended.Ended.{Ended}
use Rattle.serve_turns.specs.declared.shared_book.view.Entry.{Entry}
use Rattle.serve_turns.specs.declared.shared_book.view.View.{View}
use Rattle.serve_turns.specs.event_book.History.{Course, Off, On, RunsBy, Stand, Standing}
use Rattle.serve_turns.specs.event_book.Steps.{ShowsStanding}
use Rattle.serve_turns.specs.link_serving.Passage.{Passage}
use Rattle.serve_turns.specs.shared_book.Histories.{Replays, entries_of}
use Rattle.serve_turns.specs.shared_book.Numbers.{IsOneOf, IsWhole, numbers_in, numbers_of}
use Rattle.serve_turns.specs.shared_book.Seats.{Closes}
use Rattle.serve_turns.proofs.event_book.Faults.{turn_fault}
use Rattle.serve_turns.proofs.event_book.Courses.{course_of, found_by, own_meet, runs_by}
use Rattle.serve_command.specs.Serving.{AreServedBy, ServingOpens}
use Rattle.serve_command.specs.Steps.{ServerBook, server_faults, server_shows, server_steps, server_stopped}
use Rattle.serve_command.specs.Whole.{BeginsAt, DiskStands, IsOnDisk, OnDiskAt, WasServedWhole, first_stand, number_of, settings_of}
use Rattle.serve_command.proofs.Books.{Booked, booked}
use Rattle.serve_command.proofs.Connections.{Connected, connected, no_entry}
use Rattle.serve_command.proofs.Stopping.{served_off}
use Rattle.serve_command.proofs.nonces.Once.{are_once}

all_many : (n m count : ℕ) → n ≡ m → 0 + m ≡ count → n ≡ count
all_many n m count same all = omega (arith, same, all)

entry_at : (log : List (Entry Turn Answer)) (i : ℕ) → i < length log → (e : Entry Turn Answer) × (slice_get log i ≡ Some e)
entry_at [] i within = absurd (omega (arith, within))
entry_at (e ∷ es) zero within = (e, refl)
entry_at (e ∷ es) (suc i) within = entry_at es i (omega (arith, within))

module _ {D : Type 0} (told : Type 0) (seen : D → List ℕ) (may_leave : D → List ℕ → Type 0) (faults : D → ℕ) where
  abbrev shows : LastingBook D → Users → model.Server → Logons → List model.Record → Type 0
  shows = server_shows told seen may_leave

  abbrev stopped : LastingBook D → Option ℕ
  stopped = server_stopped

  abbrev counts : LastingBook D → ℕ
  counts = server_faults faults

  -- ---- a server that has just begun

  -- no session is there, and none is in the making
  nothing_drawn : (server : Server D) (from : Stand) → BeginsAt told seen may_leave server from
      → NonceTables from.server from.logons (λ x. 0)
  nothing_drawn server from b = record {
    fits = b.holds.fits;
    draws = record {
      present = λ x there. absurd (let h = b.bare.absent x in let q : true ≡ false = sym there ∙ h in cc);
      making = λ k x e. refl;
      fresh = λ x above. refl;
    };
    named = λ x there. absurd (let h = b.bare.absent x in let q : true ≡ false = sym there ∙ h in cc);
  }

  pub begins_at : (config : Config) (disk : D) (server : Server D)
      (b : ServerBegins told seen may_leave faults config disk (state_of server))
      → BeginsAt told seen may_leave server (first_stand config b.2 b.4 b.3)
  begins_at config disk server b = record {
    base = b.4;
    holds = b.5 no_logons;
    goes_on = b.0;
    bare = bare_found b.4 (λ f. []) (opened_over b.4 b.3);
  }

  -- ---- the disk

  pub disk_stands : (server : Server D) (base : List SnapshotPiece) (s : model.Server) (records : List model.Record) (bodies : List (List ℕ))
      → JournaledStands seen may_leave base (journal_of server) s records bodies
      → DiskStands told seen may_leave (disk_of server) base s records
  disk_stands server base s records bodies j =
      let f = j.settled in
      record {
        bodies = bodies;
        spelled = j.spelled;
        for_state = j.for_state;
        stands = inr (record { form = (journal_of server).form; gate = f.gate; rest = f.rest; spelled = f.file; closed = f.closed; fit = f.fit });
        stays = λ bytes left. inr (record {
          form = (journal_of server).form;
          gate = f.gate;
          rest = f.rest;
          spelled = f.durable bytes left ∙ f.file;
          closed = f.closed;
          fit = f.fit;
        });
      }

  on_at : (users : Users) (book : ServerBook D) (s : Standing) → ShowsStanding shows stopped counts users book s
      → OnDiskAt told seen may_leave faults book s
  on_at users book (On s) g = record {
    base = g.0.0;
    holds = g.0.1.1;
    goes_on = g.1;
    disk = λ t. (let w = g.0.1.1.stands g.1 t in disk_stands book.server.disk_book.book.server g.0.0 s.server s.records w.0 w.1);
  }
  on_at users book (Off count) g = g

  -- ---- the whole

  first_shows : (server : Server D) (opening : ServerBook D) (from : Stand) → opening.server.disk_book.book.server ≡ server
      → BeginsAt told seen may_leave server from → ShowsStanding shows stopped counts (settings_of opening.server.disk_book.book.server).users opening
      (On from)
  first_shows server opening from is b = (
    (b.base, (refl, subst (λ (x : Server D). HoldsServerOver told seen may_leave b.base x from.server from.logons from.records) (sym is) b.holds)),
    ap (λ (x : Server D). stopped_of x) is ∙ b.goes_on,
  )

  on_disk_by : (opening last : ServerBook D) (from : Stand) (log : List (Entry Turn Answer))
      (k : Booked shows stopped counts (settings_of opening.server.disk_book.book.server) (On from) opening log last)
      → IsOnDisk told seen may_leave faults opening log (course_of (settings_of opening.server.disk_book.book.server) (On from) log k.all k.to k.runs) last
  unfolding course_of
  on_disk_by opening last from log k = record {
    books = k.books;
    begins = k.begins;
    ends = k.ends;
    steps = k.steps;
    stands = λ i within. on_at (settings_of opening.server.disk_book.book.server).users (k.books i)
        (found_by (settings_of opening.server.disk_book.book.server) (On from) log k.all k.to k.runs i) (k.stands i within);
    rose = λ i s count within on off.
        (let z = settings_of opening.server.disk_book.book.server in
        let at = entry_at log i within in
        (turn_fault shows stopped counts z s (k.books i) (k.books (i + 1)) at.0.event at.0.reply count (k.steps i at.0 at.1)
        (subst (λ (x : Standing). ShowsStanding shows stopped counts z.users (k.books i) x) on (k.stands i (omega (arith, within))))
        (subst (λ (x : Standing). ShowsStanding shows stopped counts z.users (k.books (i + 1)) x) off
        (k.stands (i + 1) (omega (arith, within)))).0).0);
  }

  -- each that was made has ended, and the first seat has the first number
  whole_seat : (over : ℕ → Passage → Type 0) (count : ℕ) (v : View (ServerBook D) Turn Answer) (ends : List (Option Ended))
      → AreServedBy over count v ends → IsWhole v
  whole_seat over count v ends s = (inl (sym s.is_first), λ n made. back n (s.back n made))
    where
      back : (n : ℕ) → IsOneOf n (numbers_of v) ⊎ ((place : ℕ) × (link : ℕ) × ⊥) → IsOneOf n (numbers_of v)
      back n (inl among) = among
      back n (inr none) = absurd none.2

  entry_of_one : (v : View (ServerBook D) Turn Answer) (log : List (Entry Turn Answer)) (i : ℕ) (e : Entry Turn Answer)
      → slice_get log i ≡ Some e → entries_of v.number 0 log ≡ [] → IsOneOf e.seat (numbers_of v) → IsOneOf e.seat (numbers_in v.ended)
  entry_of_one v log i e here none (inl first) = absurd (no_entry v.number 0 log i e here first none)
  entry_of_one v log i e here none (inr among) = among

  -- by the history's course
  whole_by : (over : ℕ → Passage → Type 0) (count : ℕ) (from : Stand) (v : View (ServerBook D) Turn Answer) (ends : List (Option Ended))
      (opening last : ServerBook D)
      (log : List (Entry Turn Answer)) (to : Standing) (h : Course) (s : AreServedBy over count v ends)
      → Replays (server_steps told seen may_leave faults) opening log last → RunsBy (settings_of opening.server.disk_book.book.server) (On from) log h to
      → NonceTables from.server from.logons (λ x. 0) → IsOnDisk told seen may_leave faults opening log h last
      → Connected (settings_of opening.server.disk_book.book.server) h log count s.links v.ended over → entries_of v.number 0 log ≡ []
      → (IsWhole v → (i : ℕ) (e : Entry Turn Answer) → slice_get log i ≡ Some e → IsOneOf e.seat (numbers_of v))
      → WasServedWhole told seen may_leave faults over count opening from ends last
  whole_by over count from v ends opening last log to h s replays runs first on_disk c none none_else = record {
    log = log;
    h = h;
    to = to;
    connections = c.all;
    replays = replays;
    runs = runs;
    each = c.each;
    passed = c.passed;
    as_many = all_many (length c.all) (length s.links) count c.as_many s.as_many;
    apart = c.apart;
    of_first = c.of_first;
    numbered = c.numbered;
    nothing_else = λ i e here. c.seated e.seat (entry_of_one v log i e here none (none_else (whole_seat over count v ends s) i e here));
    told_are = λ i end there. c.told i end (s.told i end there);
    on_disk = on_disk;
    stops_told = λ i x count here is.
        (let off = served_off (settings_of opening.server.disk_book.book.server) h log (On from) to runs (number_of x) x.seat x.passage.came
        x.passage.wrote x.passage.faults x.passage.faults' x.passage.ended x.end x.seals count (c.each i x here) is in
        subst (λ (s : Standing). OnDiskAt told seen may_leave faults last s) (runs.ends ∙ off)
        (subst (λ (b : ServerBook D). OnDiskAt told seen may_leave faults b (h.found (length log))) on_disk.ends
        (on_disk.stands (length log) (omega arith))));
    once = are_once (settings_of opening.server.disk_book.book.server) h log from to runs first c.all c.each c.apart;
  }

  pub whole_of : (over : ℕ → Passage → Type 0) (count : ℕ) (server : Server D) (from : Stand) (v : View (ServerBook D) Turn Answer)
      (ends : List (Option Ended))
      (last : ServerBook D) (opens : ServingOpens server v) → AreServedBy over count v ends → Closes
      (server_steps told seen may_leave faults) v last
      → BeginsAt told seen may_leave server from → WasServedWhole told seen may_leave faults over count opens.opening from ends last
  whole_of over count server from v ends last opens s closes b =
      let opening = opens.opening in
      let q : Some closes.opening ≡ Some opening = sym closes.opens ∙ opens.is in
      let same : closes.opening ≡ opening = cc in
      let replays : Replays (server_steps told seen may_leave faults) opening closes.log last =
      subst (λ (o : ServerBook D). Replays (server_steps told seen may_leave faults) o closes.log last) same closes.replays in
      let k = booked shows stopped counts (settings_of opening.server.disk_book.book.server) (On from) opening last closes.log replays
      (first_shows server opening from opens.begins b) in
      let h = course_of (settings_of opening.server.disk_book.book.server) (On from) closes.log k.all k.to k.runs in
      whole_by over count from v ends opening last closes.log k.to h s replays
      (runs_by (settings_of opening.server.disk_book.book.server) (On from) closes.log k.all k.to k.runs) (nothing_drawn server from b)
      (on_disk_by opening last from closes.log k)
      (connected (settings_of opening.server.disk_book.book.server) refl h closes.log
      (λ seat. own_meet (settings_of opening.server.disk_book.book.server) seat (On from) closes.log k.all k.to k.runs) s.seat_at v.opening v.kept count
      s.links v.ended over s.each closes.ended_are closes.apart.1)
      (sym closes.own_are ∙ s.none_own) closes.none_else
