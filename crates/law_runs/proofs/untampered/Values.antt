-- What the laws on values say of a world whose values are those of a run of the model.
use Rattle.std.proofs.Common.{◌≡◌, ℕ, ◌+◌, ◌%◌, ◌<◌, ◌≤◌, ◌==◌, Bool, true, not, ◌&&◌, if◌then◌else◌, List, refl, sym, ◌∙◌, subst, arith}
use Rattle.std.proofs.Common.{Option, Some, None}
use Rattle.spec_exchange.specs.Table.{put, put2}
use Rattle.spec_exchange.specs.Status.{disk_full}
use Rattle.spec_exchange.specs.State.{Body, Reply, last_moment}
use Rattle.spec_exchange.specs.Opens.{max_ids}
use Rattle.spec_exchange.specs.Operations.{Outcome, Unsettled, WasOk, WasRefused, NoSlot, NoOpen, Unknown, is_create}
use Rattle.spec_exchange.specs.Operations.{is_close, is_lock, id_in}
use Rattle.spec_exchange.specs.Client.{Client, begun, outstanding, next_number, again, begin, take_slot, create_for}
use Rattle.spec_exchange.specs.Settling.{settle, settled, noted, noted_full, settles_open, with_no_opens}
use Rattle.spec_exchange.specs.Network.{World, Event, Settings, happens, run, start}
use Rattle.spec_exchange.specs.Runs.{acts}
use Rattle.law_sessions.specs.messages.Connections.{Connections}
use Rattle.law_sessions.proofs.messages.Run.{connections}
use Rattle.law_sessions.proofs.messages.Reached.{on_every_run}
use Rattle.law_server.proofs.tables.Logic.{either}
use Rattle.law_server.proofs.tables.Run.{fitting}
use Rattle.law_sessions.specs.sessions.Sessions.{Sessions}
use Rattle.law_sessions.specs.sessions.Dialogs.{Dialogs}
use Rattle.law_sessions.proofs.sessions.Always.{sessions}
use Rattle.law_sessions.proofs.sessions.DialogFacts.{dialogs}
use Rattle.law_creates.specs.Creates.{Creates, seen}
use Rattle.law_creates.proofs.Law.{creates}
use Rattle.law_locks.specs.Locks.{Locks}
use Rattle.law_locks.proofs.Law.{locks}
use Rattle.law_answers.proofs.completeness.Client.{Small, client_keeps}
use Rattle.law_answers.specs.waiting_dialogs.Exact.{AreExact}
use Rattle.law_answers.proofs.waiting_dialogs.Exact.{messages_are_exact}
use Rattle.law_replies.specs.counters.Bounds.{IsCounterBounded}
use Rattle.law_replies.specs.counters.Low.{Low, last_id}
use Rattle.law_replies.specs.counters.Fits.{AreKept}
use Rattle.law_replies.proofs.counters.Bounds.{runs_are_bounded}
use Rattle.law_replies.proofs.counters.LowIds.{ids_are_low}
use Rattle.law_replies.proofs.counters.Fits.{operations_fit}

-- ---- a slot's numbers are below 16

abbrev pub NumbersLow : Client → Type 0
NumbersLow c = (g : ℕ) → c.number_of g < 16

next_low : (c : Client) (o : Option ℕ) → next_number c o < 16
next_low c None = omega arith
next_low c (Some h) = rest_low (c.number_of h + 1)
  where
    rest_low : (n : ℕ) → n % 16 < 16
    rest_low n = omega arith

put_low : (f : ℕ → ℕ) (g n : ℕ) → n < 16 → ((q : ℕ) → f q < 16) → (q : ℕ) → put f g n q < 16
put_low f g n l h q = either (λ m. m < 16) (q == g) n (f q) (λ _. l) (λ _. h q)

begun_low : (c : Client) (k g i : ℕ) → NumbersLow c → NumbersLow (outstanding (begun c g i) k g)
begun_low c k g i h =
    let P : Client → Type 0 = λ d. NumbersLow (outstanding d k g) in
    either P (c.sent g) (again c g) (begin c g i)
    (λ _. either P (is_lock (c.op g)) (record c { retried = put2 c.retried (create_for c g) (c.slot_of g) c.session_number }) c
    (λ _. h) (λ _. h))
    (λ _. either P (is_lock (c.op g)) (record (take_slot c g i) { sent = put c.sent g true }) (record c { sent = put c.sent g true })
    (λ _. put_low c.number_of g (next_number c (c.slot_user (create_for c g) i)) (next_low c (c.slot_user (create_for c g) i)) h) (λ _. h))

noted_numbers : (c : Client) (g : ℕ) (o : Outcome) (body : Body) → (noted c g o body).number_of ≡ c.number_of
noted_numbers c g (WasOk reply) body =
    let P : Client → Type 0 = λ d. d.number_of ≡ c.number_of in
    either P (is_create (c.op g)) (record c { file = put c.file g (id_in body); attached = put c.attached g c.session_number })
    (if is_close (c.op g) then record c { closed_ok = put c.closed_ok (create_for c g) true } else c) (λ _. refl)
    (λ _. either P (is_close (c.op g)) (record c { closed_ok = put c.closed_ok (create_for c g) true }) c (λ _. refl) (λ _. refl))
noted_numbers c g Unsettled body = refl
noted_numbers c g (WasRefused status) body = refl
noted_numbers c g (NoSlot create) body = refl
noted_numbers c g (NoOpen create) body = refl
noted_numbers c g (Unknown why) body = refl

full_numbers : (c : Client) (g : ℕ) (asking : Bool) (status : ℕ) → (noted_full c g asking status).number_of ≡ c.number_of
full_numbers c g asking status =
    either (λ (d : Client). d.number_of ≡ c.number_of) (is_lock (c.op g) && (not asking && (status == disk_full)))
    (record c { full = put2 c.full (create_for c g) (c.slot_of g) true }) c (λ _. refl) (λ _. refl)

settle_numbers : (c : Client) (g : ℕ) (asking : Bool) (r : Reply) (place : ℕ) (o : Outcome)
    → (settle c g asking r place o).number_of ≡ c.number_of
settle_numbers c g asking r place o =
    let n = noted c g o r.body in
    let d = settled (noted_full n g asking r.status) g o place in
    let same : d.number_of ≡ c.number_of = full_numbers n g asking r.status ∙ noted_numbers c g o r.body in
    either (λ (e : Client). e.number_of ≡ c.number_of) (settles_open (c.op g)) (with_no_opens d (create_for c g)) d (λ _. same) (λ _. same)

settle_low : (c : Client) (g : ℕ) (asking : Bool) (r : Reply) (place : ℕ) (o : Outcome) → NumbersLow c
    → NumbersLow (settle c g asking r place o)
settle_low c g asking r place o h q = subst (λ (f : ℕ → ℕ). f q < 16) (sym (settle_numbers c g asking r place o)) (h q)

numbers_small : (w : World) (e : Event) → NumbersLow w.client → Small NumbersLow w e
numbers_small w e h =
    record {
      opens = λ k. h;
      slotless = λ c k g l _ i. i;
      begins_op = λ c k g i m _ j. begun_low c k g i j;
      asks = λ c k g m _ i. i;
      settles = λ k g asking r place o on firm t. settle_low w.client g asking r place o h;
      answers = λ g. h;
      joins = λ k g on. h;
      ends = λ g _. h;
      cut_ends = λ k on _. h;
      cuts = λ k on more _. h;
      goes = λ k te s y rest is token d. h;
      accepts = λ k r d. h;
      binds = λ k talks o live. h;
      begins = λ k tree at o dead. h;
      leaves = λ k rs. h;
      finishes = λ why _. h;
    }

numbers_on : (w : World) (e : Event) → NumbersLow w.client → NumbersLow (happens w e).client
numbers_on w e h = client_keeps NumbersLow w e (λ g op is m. h) (numbers_small w e h) h

zero_low : 0 < 16
zero_low = omega arith

numbers_low : (z : Settings) (es : List Event) → NumbersLow (run es (start z)).client
numbers_low z es =
    on_every_run (λ w a. NumbersLow w.client) z (λ g. zero_low) (λ xs e h. numbers_on (run xs (start z)) e h) es

-- ---- all of them

pub record Facts (z : Settings) (es : List Event) (v : World) : Type 0 where
  pub counts : ℕ → ℕ
  pub carried : Connections v.client v.conns counts
  pub sits : Sessions v.client v.conns v.server
  pub talk : Dialogs z.who v.client v.conns
  pub made : Creates v.client v.conns (seen v.server) counts
  pub locked : Locks v.client v.conns v.server counts
  pub kept : AreKept v.client
  pub moment : v.moment ≤ last_moment
  pub numbers : NumbersLow v.client
  pub low : Low (last_id es) v.client v.conns
  pub bounded : IsCounterBounded es v
  pub given : v.server.open_ids_given ≤ max_ids
  pub exact : AreExact v.client v.conns

facts : (z : Settings) (es : List Event) → Facts z es (run es (start z))
facts z es =
    let fit = operations_fit z es in
    let server = fitting z es in
    record {
      counts = acts es (start z);
      carried = connections z es;
      sits = sessions z es;
      talk = dialogs z es;
      made = creates z es;
      locked = locks z es;
      kept = fit.kept;
      moment = fit.moment;
      numbers = numbers_low z es;
      low = ids_are_low z es;
      bounded = runs_are_bounded z es;
      given = server.given;
      exact = messages_are_exact z es;
    }

pub facts_at : (z : Settings) (es : List Event) (v : World) → v ≡ run es (start z) → Facts z es v
facts_at z es v e = subst (λ (u : World). Facts z es u) (sym e) (facts z es)
