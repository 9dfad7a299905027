-- On every run a success that waits reads as its operation's, and each reply that waits was made at some Serve.
use Rattle.std.proofs.lemmas.List.{append-nil, append_assoc}
use Rattle.std.proofs.Common.{◌≡◌, ◌≢◌, ℕ, ◌+◌, ◌≤◌, ◌==◌, Bool, true, false, not, if◌then◌else◌, List, [], ◌∷◌}
use Rattle.std.proofs.Common.{◌++◌, refl, arith, sym}
use Rattle.std.proofs.Common.{subst, ◌∙◌, ap, eqb-true}
use Rattle.spec_exchange.specs.Status.{success}
use Rattle.spec_exchange.specs.Operations.{Op, request_of}
use Rattle.spec_exchange.specs.Client.{Client, guid_for, may_take, take_op}
use Rattle.spec_exchange.specs.Network.{World, Event, Submit, Open, Push, Serve, Take, Cut, Drop, Restart, Crash, Wait}
use Rattle.spec_exchange.specs.Network.{Finish, Sent, Received, ForOp, Settings, run, start, happens, later, answer}
use Rattle.spec_exchange.specs.Network.{may_serve, is_possible, changed, moments}
use Rattle.law_sessions.specs.messages.Connections.{Connections, create_at, its_request}
use Rattle.law_sessions.proofs.messages.Lists.{front_up}
use Rattle.law_sessions.proofs.messages.Run.{connections}
use Rattle.law_sessions.proofs.messages.Reached.{on_every_run, run_more}
use Rattle.law_server.proofs.tables.Logic.{either, front_of}
use Rattle.law_creates.specs.Creates.{RefusedStatus, seen}
use Rattle.law_creates.proofs.Law.{creates}
use Rattle.law_answers.proofs.completeness.Columns.{taken_on}
use Rattle.law_answers.proofs.completeness.Facts.{is_submit}
use Rattle.law_answers.proofs.completeness.Events.{put_off}
use Rattle.law_answers.proofs.completeness.Replies.{AllDown, still_all_down}
use Rattle.law_outcomes.specs.outcomes.Outcomes.{SuccessReads}
use Rattle.law_outcomes.proofs.outcomes.Reading.{reads, own_reads}

-- ---- induction at the end of a list of events, for what speaks of the list too

along : (P : List Event → Type 0) → ((es : List Event) (e : Event) → P es → P (es ++ e ∷ [])) → (before es : List Event)
    → P before → P (before ++ es)
along P step before [] p = subst P (sym (append-nil before)) p
along P step before (e ∷ es) p = subst P (append_assoc before (e ∷ []) es) (along P step (before ++ e ∷ []) es (step before e p))

pub every : (P : List Event → Type 0) → P [] → ((es : List Event) (e : Event) → P es → P (es ++ e ∷ [])) → (es : List Event) → P es
every P first step es = along P step [] es first

-- ---- a success reads

abbrev ReadsAll : (ℕ → Op) → Received → Type 0
ReadsAll ops y = (g : ℕ) → y.token ≡ ForOp g → y.reply.status ≡ success → reads (ops g) y.reply.body ≡ true

abbrev Reading : World → Type 0
Reading w = AllDown (ReadsAll w.client.op) w.conns

its_is : (op : Op) (guid file slot number : ℕ) → its_request op guid file slot number ≡ request_of op guid file slot number
unfolding its_request
its_is op guid file slot number = refl

new_reads : (w : World) (a : ℕ → ℕ) → Connections w.client w.conns a → RefusedStatus (seen w.server)
    → (k : ℕ) (x : Sent) (rest : List Sent) → (w.conns k).up ≡ x ∷ rest
    → ReadsAll w.client.op (record { token = x.token; reply = (answer w x).reply; place = w.log.places })
new_reads w a cn kept k x rest is g t q =
    let b = cn.bodies k 0 g x (front_up (w.conns k).up x rest is) t in
    own_reads (w.client.op g) (guid_for w.client g) (w.client.file (create_at w.client g)) (w.client.slot_of g)
    (w.client.number_of g) w.server w.moment x.message
    (λ y h status e. ap not (kept y h status e)) (b.1 ∙ its_is (w.client.op g) _ _ _ _) b.3 q

reads_other : (w : World) (a : ℕ → ℕ) (e : Event) → is_submit e ≡ false → Connections w.client w.conns a
    → RefusedStatus (seen w.server) → Reading w → Reading (happens w e)
reads_other w a e n cn kept h =
    subst (λ ops. AllDown (ReadsAll ops) (happens w e).conns) (sym (taken_on w e n).op)
    (still_all_down (ReadsAll w.client.op) w e (λ k x rest s is o. new_reads w a cn kept k x rest is) h)

below_new : (p g taken : ℕ) → p ≤ taken → g ≡ taken + 1 → p ≢ g
below_new p g taken l n z = absurd (omega (arith, l, n, z))

reads_submit : (w : World) (a : ℕ → ℕ) (g : ℕ) (op : Op) → may_take w.client g op ≡ true → Connections w.client w.conns
    a → Reading w → AllDown (ReadsAll (take_op w.client g op).op) w.conns
reads_submit w a g op m cn h k n y at p t q =
    let low = cn.taken p (cn.sent_replies k n p y at t) in
    let same = put_off w.client.op g op p
    (below_new p g w.client.taken low.1 (eqb-true g (w.client.taken + 1) (front_of (g == w.client.taken + 1) _ m)))
    in
    subst (λ o. reads o y.reply.body ≡ true) (sym same) (h k n y at p t q)

reads_on : (w : World) (a : ℕ → ℕ) (e : Event) → Connections w.client w.conns a → RefusedStatus (seen w.server)
    → Reading w → Reading (happens w e)
reads_on w a (Submit g op) cn kept h =
    either (λ (c : Client). Reading (later (record w { client = c }) 1)) (may_take w.client g op)
    (take_op w.client g op) w.client (λ m. reads_submit w a g op m cn h) (λ _. h)
reads_on w a (Open k) cn kept h = reads_other w a (Open k) refl cn kept h
reads_on w a (Push k slotless pick) cn kept h = reads_other w a (Push k slotless pick) refl cn kept h
reads_on w a (Serve k) cn kept h = reads_other w a (Serve k) refl cn kept h
reads_on w a (Take k) cn kept h = reads_other w a (Take k) refl cn kept h
reads_on w a (Cut k) cn kept h = reads_other w a (Cut k) refl cn kept h
reads_on w a (Drop k) cn kept h = reads_other w a (Drop k) refl cn kept h
reads_on w a Restart cn kept h = reads_other w a Restart refl cn kept h
reads_on w a (Crash k kept_front) cn kept h = reads_other w a (Crash k kept_front) refl cn kept h
reads_on w a (Wait n) cn kept h = reads_other w a (Wait n) refl cn kept h
reads_on w a (Finish refusal) cn kept h = reads_other w a (Finish refusal) refl cn kept h

pub reading : (z : Settings) (es : List Event) → Reading (run es (start z))
reading z es = on_every_run (λ w a. Reading w) z (λ k n y at. absurd (cc)) (λ xs e h. reads_on (run xs (start z)) _ e
    (connections z xs) (creates z xs).refused_status h) es

pub success_reads : SuccessReads
success_reads z es k n g y at t q = reading z es k n y at g t q

-- ---- where a reply that waits was made

pub record Made (z : Settings) (es : List Event) (y : Received) : Type 0 where
  pub before : List Event
  pub after : List Event
  pub channel : ℕ
  pub is : es ≡ before ++ Serve channel ∷ after
  pub met : may_serve (run before (start z)) channel ≡ true
  pub front : Sent
  pub rest : List Sent
  pub waits : ((run before (start z)).conns channel).up ≡ front ∷ rest
  pub token : y.token ≡ front.token
  pub reply : y.reply ≡ (answer (run before (start z)) front).reply
  pub place : y.place ≡ (run before (start z)).log.places

abbrev MadeAll : Settings → List Event → Type 0
MadeAll z es = AllDown (Made z es) (run es (start z)).conns

made_later : (z : Settings) (es : List Event) (e : Event) (y : Received) → Made z es y → Made z (es ++ e ∷ []) y
made_later z es e y h =
    record {
      before = h.before;
      after = h.after ++ e ∷ [];
      channel = h.channel;
      is = ap (λ xs. xs ++ e ∷ []) h.is ∙ append_assoc h.before (Serve h.channel ∷ h.after) (e ∷ []);
      met = h.met;
      front = h.front;
      rest = h.rest;
      waits = h.waits;
      token = h.token;
      reply = h.reply;
      place = h.place;
    }

none_made : (z : Settings) → MadeAll z []
unfolding run
none_made z k n y at = absurd (cc)

-- an event that the world doesn't meet leaves it as it is
unmet : (w : World) (e : Event) → is_possible w e ≡ false → happens w e ≡ w
unmet w e n = ap (λ (b : Bool). if b then later (changed w e) (moments e) else w) n

made_by : (z : Settings) (es : List Event) (e : Event) → MadeAll z es → (b : Bool) → is_possible (run es (start z)) e ≡ b
    → AllDown (Made z (es ++ e ∷ [])) (happens (run es (start z)) e).conns
made_by z es e h true m =
    still_all_down (Made z (es ++ e ∷ [])) (run es (start z)) e
    (λ k x rest s is o. record {
      before = es;
      after = [];
      channel = k;
      is = ap (λ v. es ++ v ∷ []) s;
      met = subst (λ v. is_possible (run es (start z)) v ≡ true) s m;
      front = x;
      rest = rest;
      waits = is;
      token = refl;
      reply = refl;
      place = refl;
    })
    (λ k n y at. made_later z es e y (h k n y at))
made_by z es e h false m = subst (λ (v : World). AllDown (Made z (es ++ e ∷ [])) v.conns) (sym (unmet (run es (start z)) e m))
    (λ k n y at. made_later z es e y (h k n y at))

pub made : (z : Settings) (es : List Event) → MadeAll z es
made z =
    every (MadeAll z) (none_made z)
    (λ es e h. subst (λ (v : World). AllDown (Made z (es ++ e ∷ [])) v.conns) (sym (run_more es e (start z)))
    (made_by z es e h (is_possible (run es (start z)) e) refl))
