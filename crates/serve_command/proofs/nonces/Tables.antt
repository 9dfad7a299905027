-- The numbers that sessions drew at each place of a server's history.
use Rattle.std.proofs.Common.{◌≡◌, inl, inr, ℕ, zero, suc, ◌+◌, ◌==◌, ◌≤◌, ◌<◌, Bool, true, false, if◌then◌else◌, List, [], ◌∷◌}
use Rattle.std.specs.Prelude.{nat_lt}
use Rattle.std.proofs.lemmas.Bool.{ltb-true, ltb-false}
use Rattle.std.proofs.Common.{length, slice_get, Option, Some, None, Result, Ok, Err, refl, sym, ap, subst, ◌∙◌, arith}
use Rattle.spec_crypto.specs.declared.sessions.material.Keys.{Keys}
use Rattle.spec_crypto.specs.tokens.Tokens.{Users}
use Rattle.spec_exchange.specs.Files.{exists}
use Rattle.spec_exchange.specs.Network.{answer_to}
use Rattle.spec_exchange.specs.State as model
use Rattle.spec_exchange.specs.Table.{put}
use Rattle.spec_world.specs.Ends.{Logons}
use Rattle.spec_world.specs.Given.{Given}
use Rattle.spec_world.specs.Logon.{Progress, Stays, Interim, Final, progress}
use Rattle.spec_world.specs.Settings.{ServerSettings}
use Rattle.law_server.specs.tables.Fits.{Fits}
use Rattle.law_nonces.specs.event_nonces.Events.{EventDraws, IsFaultDenied, KeysBehind, NonceTables}
use Rattle.law_nonces.specs.server_nonces.Numbering.{next_drawn}
use Rattle.law_nonces.proofs.event_nonces.Tables.{alone_draws, heard_draws, other_draws}
use Rattle.law_nonces.proofs.negotiation.Going.{heard_is}
use Rattle.law_nonces.proofs.server_nonces.Going.{heard_session}
use Rattle.law_nonces.proofs.server_nonces.Telling.{one_grown}
use Rattle.server_checks.specs.declared.event_heard.event.ServerEvent.TheVariants as events
use Rattle.conn_core.specs.declared.frame_messages.checked.Checked.{Checked}
use Rattle.conn_core.specs.frame_messages.Checking.{IsDenied, message_in}
use Rattle.conn_core.specs.declared.requests.hearing.Told.{Told}
use Rattle.conn_core.specs.declared.served.error.ServeError.{ServeError}
use Rattle.conn_core.specs.declared.served.error.ServeError.TheVariants as errors
use Rattle.conn_core.specs.declared.served.serve.Reply.{Reply}
use Rattle.conn_core.specs.frame_events.Dealing.{EventAnswer}
use Rattle.conn_core.specs.frame_events.Telling.{ToldIf}
use Rattle.conn_core.specs.requests.Telling.{told_checked, told_end, told_logons, told_message}
use Rattle.conn_core.specs.served.Serving.{LeftBy, ServerServes}
use Rattle.serve_turns.specs.declared.event_book.turn.Answer.{Answer}
use Rattle.serve_turns.specs.declared.event_book.turn.Asks.{Asks}
use Rattle.serve_turns.specs.declared.event_book.turn.Turn.{Turn}
use Rattle.serve_turns.specs.declared.event_book.turn.What.{What}
use Rattle.serve_turns.specs.declared.event_book.turn.What.TheVariants.{Accept, Message, End}
use Rattle.serve_turns.specs.declared.shared_book.view.Entry.{Entry}
use Rattle.serve_turns.specs.event_book.History.{Course, GivenIf, IsRenewed, MeetsFrom, MeetsMessage, Off, On, RunsBy, Stand, Standing}
use Rattle.serve_turns.specs.event_book.History.{StandsAt}
use Rattle.serve_turns.specs.event_book.History.{StopsAt}
use Rattle.serve_turns.proofs.event_book.Places.{asked_is}

-- ---- the numbers behind an event, by what its place found

abbrev pub took : EventAnswer → Bool
took None = false
took (Some (Ok r)) = true
took (Some (Err errors.Memory)) = false
took (Some (Err (errors.Unanswered acted))) = true
took (Some (Err (errors.Stopped count))) = false

abbrev pub drawn_if : Bool → Stand → ℕ → Option model.Message → (ℕ → ℕ) → ℕ → ℕ
drawn_if false old now due drawn = drawn
drawn_if true old now None drawn = drawn
drawn_if true old now (Some x) drawn = next_drawn drawn x.session_id (progress x.command (answer_to old.server now x x.command).reply)

module _ (z : ServerSettings) where
  abbrev pub due_at : Stand → Asks → Option Checked → Option model.Message
  due_at old a None = None
  due_at old a (Some m) = told_message z old.logons a.told m (message_in a.frame.bytes.items m)

  abbrev pub drawn_what : Stand → ℕ → What → EventAnswer → (ℕ → ℕ) → ℕ → ℕ
  drawn_what old now (Accept k) reply drawn = drawn
  drawn_what old now (Message a) reply drawn = drawn_if (took reply) old now (due_at old a (slice_get a.frame.messages.items a.at)) drawn
  drawn_what old now (End k) reply drawn = drawn

  abbrev pub drawn_entry : Standing → Option (Entry Turn Answer) → (ℕ → ℕ) → ℕ → ℕ
  drawn_entry (On old) (Some e) drawn = drawn_what old e.event.now e.event.what e.reply.reply drawn
  drawn_entry (On old) None drawn = drawn
  drawn_entry (Off count) e drawn = drawn

  -- by what each event found
  pub drawn_at : (ℕ → Standing) → List (Entry Turn Answer) → ℕ → ℕ → ℕ
  drawn_at mids log zero = λ x. 0
  drawn_at mids log (suc n) = drawn_entry (mids n) (slice_get log n) (drawn_at mids log n)

-- ---- what holds at a place

abbrev pub TablesAt : Standing → (ℕ → ℕ) → Type 0
TablesAt (On s) drawn = NonceTables s.server s.logons drawn
TablesAt (Off count) drawn = Unit {0}

-- behind it, and the numbers only grew
record Behind (to : Standing) (drawn more : ℕ → ℕ) : Type 0 where
  tables : TablesAt to more
  grown : (x : ℕ) → drawn x ≤ more x

same_behind : (s : Stand) (to : Standing) (drawn more : ℕ → ℕ) → to ≡ On s → NonceTables s.server s.logons more
    → ((x : ℕ) → drawn x ≤ more x) → Behind to drawn more
same_behind s to drawn more is tables grown =
    record { tables = subst (λ (v : Standing). TablesAt v more) (sym is) tables; grown = grown }

no_more : (drawn : ℕ → ℕ) (x : ℕ) → drawn x ≤ drawn x
no_more drawn x = omega arith

off_behind : (count : ℕ) (to : Standing) (drawn : ℕ → ℕ) → to ≡ Off count → Behind to drawn drawn
off_behind count to drawn is = record { tables = subst (λ (v : Standing). TablesAt v drawn) (sym is) tt; grown = no_more drawn }

-- ---- a message: the keys behind it name its session

put_sessions : (keys : ℕ → Keys) (x : ℕ) (new : Keys) (y : ℕ) → new.session ≡ x
    → (put keys x new y).session ≡ put (λ q. (keys q).session) x x y
put_sessions keys x new y is = elim (y == x) as (λ b. (if b then new else keys y).session ≡ (if b then x else (keys y).session)) [
  | true ↦ is
  | false ↦ refl
]

told_keys : (users : Users) (L : Logons) (t : Told) (m : Checked) (bytes : List ℕ) (now : ℕ) (p : Progress)
    → KeysBehind L m.header.session p (told_logons users L t m bytes now p)
told_keys users L t m bytes now Stays y = refl
told_keys users L t m bytes now (Interim binding) y = refl
told_keys users L t m bytes now (Final true channel encrypts) y = refl
told_keys users L t m bytes now (Final false channel encrypts) y = put_sessions L.keys m.header.session _ y refl

denied_of : (o p : Option ℕ) → p ≡ o → IsDenied o → IsFaultDenied p
denied_of None p same denied = subst IsFaultDenied (sym same) tt
denied_of (Some status) p same denied = subst IsFaultDenied (sym same) denied

module _ (z : ServerSettings) where
  -- what a message that was carried out drew
  abbrev pub HasDrawn : Stand → ℕ → Told → Checked → List ℕ → model.Message → (ℕ → ℕ) → Type 0
  HasDrawn old now t m bytes x drawn =
      let A = answer_to old.server now x x.command in
      let p = progress x.command A.reply in
      EventDraws old.logons (told_logons z.users old.logons t m (message_in bytes m) now p) A.server x.session_id p drawn

  pub has_drawn : (old : Stand) (now : ℕ) (t : Told) (m : Checked) (bytes : List ℕ) (x : model.Message) (drawn : ℕ → ℕ)
      → NonceTables old.server old.logons drawn → IsDenied m.fault
      → told_message z old.logons t m (message_in bytes m) ≡ Some x → HasDrawn old now t m bytes x drawn
  has_drawn old now t m bytes x drawn i denied due =
      let c = told_checked m (message_in bytes m) in
      let p = progress x.command (answer_to old.server now x x.command).reply in
      let M = told_logons z.users old.logons t m (message_in bytes m) now p in
      let session : x.session_id ≡ m.header.session = heard_session z old.logons t.connection (told_end t) c x due in
      let fault : x.fault ≡ m.fault = (heard_is z old.logons t.connection (told_end t) c x due).fault in
      heard_draws old.server old.logons M now x drawn i (denied_of m.fault x.fault fault denied)
      (subst (λ (n : ℕ). KeysBehind old.logons n p M) (sym session) (told_keys z.users old.logons t m (message_in bytes m) now p))

  -- ---- where no memory was found

  left_tables : (old : Stand) (now : ℕ) (e : model.ServerEvent) (v : model.Server) (more : List model.Record) (drawn : ℕ → ℕ)
      → NonceTables old.server old.logons drawn → LeftBy old.server now e v more → NonceTables v old.logons drawn
  left_tables old now e v more drawn i (inl same) = subst (λ (s : model.Server). NonceTables s old.logons drawn) (sym same.0) i
  left_tables old now e v more drawn i (inr one) = alone_draws old.server v old.logons now e one.0 drawn i one.1

  -- ---- each event

  message_behind : (old : Stand) (now : ℕ) (t : Told) (m : Checked) (bytes : List ℕ) (due : Option model.Message) (reply : EventAnswer)
      (g : Option Given) (to : Standing) (drawn : ℕ → ℕ) → told_message z old.logons t m (message_in bytes m) ≡ due → IsDenied m.fault
      → NonceTables old.server old.logons drawn
      → ToldIf (StandsAt to) z now old.server old.logons old.records t m bytes due reply → GivenIf now t old due reply to g
      → Behind to drawn (drawn_if (took reply) old now due drawn)
  message_behind old now t m bytes None None g to drawn is denied i gives given = same_behind old to drawn drawn gives i (no_more drawn)
  message_behind old now t m bytes None (Some r) g to drawn is denied i gives given = absurd gives
  message_behind old now t m bytes (Some x) None g to drawn is denied i gives given = same_behind old to drawn drawn gives.1 i (no_more drawn)
  message_behind old now t m bytes (Some x) (Some (Ok r)) g to drawn is denied i gives given =
      let d = has_drawn old now t m bytes x drawn i denied is in
      same_behind _ to drawn _ gives.1.state d.behind (λ y. one_grown drawn x.session_id _ d.on y)
  message_behind old now t m bytes (Some x) (Some (Err errors.Memory)) g to drawn is denied i gives given =
      same_behind _ to drawn drawn gives.1.3 (left_tables old now (model.Heard x) gives.1.0 gives.1.1 drawn i gives.1.2) (no_more drawn)
  message_behind old now t m bytes (Some x) (Some (Err (errors.Unanswered acted))) g to drawn is denied i gives given =
      let d = has_drawn old now t m bytes x drawn i denied is in
      same_behind _ to drawn _ gives.1.state d.behind (λ y. one_grown drawn x.session_id _ d.on y)
  message_behind old now t m bytes (Some x) (Some (Err (errors.Stopped count))) g to drawn is denied i gives given =
      off_behind count to drawn given.0

  -- the message of the turn, whose fault is ACCESS_DENIED, if it has one
  pub asked_denied : (a : Asks) (m : Checked) → slice_get a.frame.messages.items a.at ≡ Some m → IsDenied m.fault
  asked_denied a m here =
      let is = asked_is a.frame a.at a.asked in
      let same : Some is.message ≡ Some m = sym is.here ∙ here in
      let one : is.message ≡ m = (let q = same in cc) in subst (λ (v : Checked). IsDenied v.fault) one is.denied

  asks_behind : (old : Stand) (now : ℕ) (a : Asks) (t : Answer) (g : Option Given) (to : Standing) (drawn : ℕ → ℕ)
      → MeetsMessage z old now a t g to → NonceTables old.server old.logons drawn
      → Behind to drawn (drawn_what z old now (Message a) t.reply drawn)
  asks_behind old now a t g to drawn m i =
      let due = told_message z old.logons a.told m.message (message_in a.frame.bytes.items m.message) in
      subst (λ (o : Option Checked). Behind to drawn (drawn_if (took t.reply) old now (due_at z old a o) drawn)) (sym m.here)
      (message_behind old now a.told m.message a.frame.bytes.items due t.reply g to drawn refl (asked_denied a m.message m.here) i
      m.gives m.given)

  made_behind : (old : Stand) (now k : ℕ) (reply : Result Reply ServeError) (to : Standing) (drawn : ℕ → ℕ)
      → NonceTables old.server old.logons drawn
      → ServerServes (StandsAt to) z.users old.server old.logons old.records now (events.Accept k) reply → StopsAt reply to
      → Behind to drawn drawn
  made_behind old now k (Ok r) to drawn i serves stops =
      same_behind _ to drawn drawn serves.2 (other_draws old.server old.logons now k drawn i).0 (no_more drawn)
  made_behind old now k (Err errors.Memory) to drawn i serves stops =
      same_behind _ to drawn drawn serves.3 (left_tables old now (model.Accept k) serves.0 serves.1 drawn i serves.2) (no_more drawn)
  made_behind old now k (Err (errors.Unanswered acted)) to drawn i serves stops =
      same_behind _ to drawn drawn serves.1 (other_draws old.server old.logons now k drawn i).0 (no_more drawn)
  made_behind old now k (Err (errors.Stopped count)) to drawn i serves stops = off_behind count to drawn stops

  lost_behind : (old : Stand) (now k : ℕ) (reply : Result Reply ServeError) (to : Standing) (drawn : ℕ → ℕ)
      → NonceTables old.server old.logons drawn
      → ServerServes (StandsAt to) z.users old.server old.logons old.records now (events.End k) reply → StopsAt reply to
      → Behind to drawn drawn
  lost_behind old now k (Ok r) to drawn i serves stops =
      same_behind _ to drawn drawn serves.2 (other_draws old.server old.logons now k drawn i).1 (no_more drawn)
  lost_behind old now k (Err errors.Memory) to drawn i serves stops =
      same_behind _ to drawn drawn serves.3 (left_tables old now (model.End k) serves.0 serves.1 drawn i serves.2) (no_more drawn)
  lost_behind old now k (Err (errors.Unanswered acted)) to drawn i serves stops =
      same_behind _ to drawn drawn serves.1 (other_draws old.server old.logons now k drawn i).1 (no_more drawn)
  lost_behind old now k (Err (errors.Stopped count)) to drawn i serves stops = off_behind count to drawn stops

  what_behind : (old : Stand) (now : ℕ) (what : What) (t : Answer) (g : Option Given) (to : Standing) (drawn : ℕ → ℕ)
      → MeetsFrom z (On old) (record { seat = 0; event = record { now = now; what = what }; reply = t }) g to
      → NonceTables old.server old.logons drawn → Behind to drawn (drawn_what z old now what t.reply drawn)
  what_behind old now (Accept k) t g to drawn m i = made_behind old now k m.reply to drawn i m.serves m.stops
  what_behind old now (Message a) t g to drawn m i = asks_behind old now a t g to drawn m i
  what_behind old now (End k) t g to drawn m i = lost_behind old now k m.reply to drawn i m.serves m.stops

  entry_behind : (from : Standing) (e : Entry Turn Answer) (g : Option Given) (to : Standing) (drawn : ℕ → ℕ) → MeetsFrom z from e g to
      → TablesAt from drawn → Behind to drawn (drawn_entry z from (Some e) drawn)
  entry_behind (On old) e g to drawn m i = what_behind old e.event.now e.event.what e.reply g to drawn m i
  entry_behind (Off count) e g to drawn m i = off_behind count to drawn m.stays

-- ---- the journal in front of an event: no number is drawn by its bytes

journal_fits : (s : model.Server) (n : ℕ) → Fits s → Fits (record s { journal = n })
unfolding exists
journal_fits s n f = record {
  attached = f.attached;
  plain_attached = f.plain_attached;
  guid_open = f.guid_open;
  open_guid = f.open_guid;
  persistent_guid = f.persistent_guid;
  deadlines = f.deadlines;
  listed = f.listed;
  ascending = f.ascending;
  open_ids = f.open_ids;
  given = f.given;
  begun = f.begun;
  session_ids = f.session_ids;
  making_ids = f.making_ids;
  making_once = f.making_once;
  on_present = f.on_present;
  on_made = f.on_made;
  no_trees = f.no_trees;
  no_closed = f.no_closed;
  no_refused = f.no_refused;
  no_guids = f.no_guids;
  next_tree = f.next_tree;
  tree_ids = f.tree_ids;
  range_owners = f.range_owners;
  not_root = f.not_root;
  root_stays = f.root_stays;
  open_files = f.open_files;
  next_file = f.next_file;
  file_numbers = f.file_numbers;
  room = f.room;
  limit = f.limit;
}

journal_tables : (s : model.Server) (L : Logons) (drawn : ℕ → ℕ) (n : ℕ) → NonceTables s L drawn
    → NonceTables (record s { journal = n }) L drawn
journal_tables s L drawn n t = record {
  fits = journal_fits s n t.fits;
  draws = t.draws;
  named = t.named;
}

pub renewed_tables : (from mid : Standing) (drawn : ℕ → ℕ) → IsRenewed from mid → TablesAt from drawn → TablesAt mid drawn
renewed_tables (On a) (On b) drawn (inl is) t = subst (λ (s : Stand). NonceTables s.server s.logons drawn) (sym is) t
renewed_tables (On a) (On b) drawn (inr anew) t =
    subst (λ (s : Stand). NonceTables s.server s.logons drawn) (sym anew.1) (journal_tables a.server a.logons drawn anew.0 t)
renewed_tables (On a) (Off count) drawn renewed t = tt
renewed_tables (Off count) (On b) drawn renewed t = absurd renewed
renewed_tables (Off count) (Off other) drawn renewed t = tt

-- what each event of a history found
pub record Mids (z : ServerSettings) (h : Course) (log : List (Entry Turn Answer)) : Type 0 where
  pub at : ℕ → Standing
  pub renewed : (n : ℕ) (e : Entry Turn Answer) → slice_get log n ≡ Some e → IsRenewed (h.found n) (at n)
  pub meets : (n : ℕ) (e : Entry Turn Answer) → slice_get log n ≡ Some e → MeetsFrom z (at n) e (h.given n) (h.found (n + 1))

module _ (z : ServerSettings) (h : Course) (log : List (Entry Turn Answer)) (from to : Standing) (runs : RunsBy z from log h to) where
  mid_by : (n : ℕ) (o : Option (Entry Turn Answer)) → slice_get log n ≡ o → Standing
  mid_by n None is = h.found n
  mid_by n (Some e) is = (runs.meets n e is).0

  mid_is : (n : ℕ) (o : Option (Entry Turn Answer)) (is : slice_get log n ≡ o) (e : Entry Turn Answer) → o ≡ Some e
      → IsRenewed (h.found n) (mid_by n o is) × MeetsFrom z (mid_by n o is) e (h.given n) (h.found (n + 1))
  unfolding mid_by
  mid_is n None is e here = absurd (let q : None ≡ Some e = here in cc)
  mid_is n (Some x) is e here =
      let same : x ≡ e = (let q = here in cc) in (
        (runs.meets n x is).1,
        subst (λ (v : Entry Turn Answer). MeetsFrom z (runs.meets n x is).0 v (h.given n) (h.found (n + 1))) same (runs.meets n x is).2,
      )

  pub mids_of : Mids z h log
  mids_of = record {
    at = λ n. mid_by n (slice_get log n) refl;
    renewed = λ n e here. (mid_is n (slice_get log n) refl e here).0;
    meets = λ n e here. (mid_is n (slice_get log n) refl e here).1;
  }

module _ (z : ServerSettings) where
  -- ---- the whole history

  module _ (h : Course) (log : List (Entry Turn Answer)) (mids : Mids z h log) (from : Stand) (to : Standing) where
    -- the tables at each place of the history, and numbers that only grow
    pub record Kept (n : ℕ) : Type 0 where
      pub tables : n ≤ length log → TablesAt (h.found n) (drawn_at z mids.at log n)
      pub grown : (x : ℕ) → drawn_at z mids.at log n x ≤ drawn_at z mids.at log (n + 1) x

    entry_there : (n : ℕ) → n < length log → (e : Entry Turn Answer) × (slice_get log n ≡ Some e)
    entry_there n inside = found_there log n inside
      where
        found_there : (es : List (Entry Turn Answer)) (i : ℕ) → i < length es → (e : Entry Turn Answer) × (slice_get es i ≡ Some e)
        found_there [] i inside = absurd (omega (arith, inside))
        found_there (e ∷ es) zero inside = (e, refl)
        found_there (e ∷ es) (suc i) inside = found_there es i (omega (arith, inside))

    past_none : (es : List (Entry Turn Answer)) (i : ℕ) → length es ≤ i → slice_get es i ≡ None
    past_none [] zero past = refl
    past_none [] (suc i) past = refl
    past_none (e ∷ es) zero past = absurd (omega (arith, past))
    past_none (e ∷ es) (suc i) past = past_none es i (omega (arith, past))

    none_drawn : (s : Standing) (drawn : ℕ → ℕ) (x : ℕ) → drawn x ≤ drawn_entry z s None drawn x
    none_drawn (On old) drawn x = omega arith
    none_drawn (Off count) drawn x = omega arith

    step_at : RunsBy z (On from) log h to → (n : ℕ) → n < length log → TablesAt (h.found n) (drawn_at z mids.at log n)
        → Behind (h.found (n + 1)) (drawn_at z mids.at log n) (drawn_at z mids.at log (n + 1))
    unfolding drawn_at
    step_at runs n inside tables =
        let e = entry_there n inside in
        subst (λ (m : ℕ). Behind (h.found (n + 1)) (drawn_at z mids.at log n) (drawn_at z mids.at log m)) (let q : suc n ≡ n + 1 = omega arith in q)
        (subst (λ (o : Option (Entry Turn Answer)). Behind (h.found (n + 1)) (drawn_at z mids.at log n)
        (drawn_entry z (mids.at n) o (drawn_at z mids.at log n))) (sym e.1)
        (entry_behind z (mids.at n) e.0 (h.given n) (h.found (n + 1)) (drawn_at z mids.at log n) (mids.meets n e.0 e.1)
        (renewed_tables (h.found n) (mids.at n) (drawn_at z mids.at log n) (mids.renewed n e.0 e.1) tables)))

    past_at : (n : ℕ) → length log ≤ n → (x : ℕ) → drawn_at z mids.at log n x ≤ drawn_at z mids.at log (n + 1) x
    unfolding drawn_at
    past_at n past x =
        subst (λ (m : ℕ). drawn_at z mids.at log n x ≤ drawn_at z mids.at log m x) (let q : suc n ≡ n + 1 = omega arith in q)
        (subst (λ (o : Option (Entry Turn Answer)). drawn_at z mids.at log n x ≤ drawn_entry z (mids.at n) o (drawn_at z mids.at log n) x)
        (sym (past_none log n past)) (none_drawn (mids.at n) (drawn_at z mids.at log n) x))

    tables_at : RunsBy z (On from) log h to → NonceTables from.server from.logons (λ x. 0) → (n : ℕ) → n ≤ length log
        → TablesAt (h.found n) (drawn_at z mids.at log n)
    unfolding drawn_at
    tables_at runs first zero inside = subst (λ (s : Standing). TablesAt s (λ x. 0)) (sym runs.begins) first
    tables_at runs first (suc n) inside =
        let less : n < length log = omega (arith, inside) in
        let within : n ≤ length log = omega (arith, inside) in
        subst (λ (m : ℕ). TablesAt (h.found m) (drawn_at z mids.at log m)) (let q : n + 1 ≡ suc n = omega arith in q)
        (step_at runs n less (tables_at runs first n within)).tables

    pub kept : RunsBy z (On from) log h to → NonceTables from.server from.logons (λ x. 0) → (n : ℕ) → Kept n
    kept runs first n = record {
      tables = tables_at runs first n;
      grown = λ x. by_place x;
    }
      where
        by_place : (x : ℕ) → drawn_at z mids.at log n x ≤ drawn_at z mids.at log (n + 1) x
        by_place x = elim (nat_lt n (length log)) as (λ b. nat_lt n (length log) ≡ b → drawn_at z mids.at log n x ≤ drawn_at z mids.at log (n + 1) x) [
          | true ↦ λ e. (let less = ltb-true n (length log) e in
              (step_at runs n less (tables_at runs first n (omega (arith, less)))).grown x)
          | false ↦ λ e. past_at n (ltb-false n (length log) e) x
        ] refl

    pub grows : ((n : ℕ) → Kept n) → (n m : ℕ) (x : ℕ) → drawn_at z mids.at log n x ≤ drawn_at z mids.at log (n + m) x
    grows all n zero x = subst (λ (q : ℕ). drawn_at z mids.at log n x ≤ drawn_at z mids.at log q x) (let q : n ≡ n + 0 = omega arith in q) (omega arith)
    grows all n (suc m) x =
        let one = grows all n m x in
        let two = (all (n + m)).grown x in
        subst (λ (q : ℕ). drawn_at z mids.at log n x ≤ drawn_at z mids.at log q x) (let q : (n + m) + 1 ≡ n + suc m = omega arith in q)
        (omega (arith, one, two))

    -- by the entry that stands there
    pub drawn_next : (n : ℕ) (e : Entry Turn Answer) → slice_get log n ≡ Some e
        → drawn_at z mids.at log (n + 1) ≡ drawn_entry z (mids.at n) (Some e) (drawn_at z mids.at log n)
    unfolding drawn_at
    drawn_next n e here =
        ap (λ (m : ℕ). drawn_at z mids.at log m) (let q : n + 1 ≡ suc n = omega arith in q)
        ∙ ap (λ (o : Option (Entry Turn Answer)). drawn_entry z (mids.at n) o (drawn_at z mids.at log n)) here
