-- The client's columns: how many channels are ready, that its sessions' numbers rise, and what it took.
use Rattle.std.proofs.lemmas.Bool.{eqb-false}
use Rattle.std.proofs.lemmas.Bool.Decides.{nat_tests}
use Rattle.std.proofs.Common.{eqb-true, ◌≡◌, ◌≢◌, ℕ, ◌+◌, ◌-◌, ◌/◌, ◌≤◌, ◌<◌, ◌==◌, Bool, true, false, not, ◌&&◌, ◌||◌}
use Rattle.std.proofs.Common.{if◌then◌else◌, refl, arith, sym, subst, ◌∙◌, ap, zero, suc}
use Rattle.spec_exchange.specs.Table.{put}
use Rattle.spec_exchange.specs.State.{Reply}
use Rattle.spec_exchange.specs.Operations.{Op, OpWrite, OpRead, is_create, keeps_limits, weight, charge}
use Rattle.spec_exchange.specs.Client.{Client, Stage, Apart, create_for, take_op, begun, outstanding, last_sequence}
use Rattle.spec_exchange.specs.Table.{put2}
use Rattle.spec_exchange.specs.Status.{disk_full}
use Rattle.spec_exchange.specs.State.{Body}
use Rattle.spec_exchange.specs.Operations.{Outcome, Unsettled, WasOk, WasRefused, NoSlot, NoOpen, Unknown, is_lock, is_close, id_in}
use Rattle.spec_exchange.specs.Client.{may_take, again, begin, take_slot}
use Rattle.spec_exchange.specs.Settling.{settle, settled, noted, noted_full, settles_open, with_no_opens}
use Rattle.spec_exchange.specs.Network.{World, Event, Submit, Open, Push, Serve, Take, Cut, Drop, Restart, Crash, Wait, Finish, happens}
use Rattle.law_sessions.specs.messages.Connections.{Connections}
use Rattle.law_server.proofs.tables.Logic.{either, front_of, back_of, front_off}
use Rattle.law_sessions.specs.sessions.Dialogs.{Channel, IsClosed, IsReady, IsInDialog, Channels}
use Rattle.law_sessions.proofs.sessions.Channels.{SameChannels, same_begun, same_settle}
use Rattle.law_answers.proofs.completeness.Client.{Small, client_keeps}
use Rattle.law_answers.proofs.completeness.Events.{put_at, put_off}
use Rattle.law_answers.proofs.completeness.Facts.{count_on, is_submit}

-- ---- counts

same_count : (f g : ℕ → Bool) (n : ℕ) → ((j : ℕ) → j < n → f j ≡ g j) → count_on f n ≡ count_on g n
unfolding count_on
same_count f g zero h = refl
same_count f g (suc n) h = let i = same_count f g n (λ j l. h j (omega (arith, l))) in let e = h n (omega arith) in
    sum (f n) (g n) (count_on f n) (count_on g n) e i
  where
    sum : (a b : Bool) (x y : ℕ) → a ≡ b → x ≡ y → (if a then 1 else 0) + x ≡ (if b then 1 else 0) + y
    sum a b x y e i = grind arith

count_put : (f : ℕ → Bool) (k n : ℕ) → k < n → f k ≡ false → count_on (put f k true) n ≡ count_on f n + 1
unfolding count_on
count_put f k zero l e = absurd (omega (arith, l))
count_put f k (suc n) l e =
    let again = λ (h : k < n). count_put f k n h e in
    elim (k == n) as (λ b. k == n ≡ b → count_on (put f k true) (suc n) ≡ count_on f (suc n) + 1) [
      | true ↦ λ q. let is = eqb-true k n q in
          here (put f k true n) (f n) (count_on (put f k true) n) (count_on f n) (ap (λ x. put f k true x) (sym is)
          ∙ put_at f k true) (ap f (sym is) ∙ e)
          (same_count (put f k true) f n (λ j h. put_off f k true j (λ z. lower j h (z ∙ is))))
      | false ↦ λ q. let d = eqb-false k n q in there (put f k true n) (f n) (count_on (put f k true) n) (count_on f n)
          (put_off f k true n (λ z. d (sym z))) (again (omega (arith, d, l)))
    ] refl
  where
    lower : (j : ℕ) → j < n → j ≡ n → ⊥
    lower j h e = absurd (omega (arith, h, e))

    here : (a b : Bool) (x y : ℕ) → a ≡ true → b ≡ false → x ≡ y → (if a then 1 else 0) + x ≡ (if b then 1 else 0) + y + 1
    here a b x y e s i = grind arith

    there : (a b : Bool) (x y : ℕ) → a ≡ b → x ≡ y + 1 → (if a then 1 else 0) + x ≡ (if b then 1 else 0) + y + 1
    there true true x y e i = omega (arith, i)
    there false false x y e i = omega (arith, i)
    there true false x y e i = absurd (cc)
    there false true x y e i = absurd (cc)

count_off : (f : ℕ → Bool) (k n : ℕ) → k < n → f k ≡ true → count_on (put f k false) n + 1 ≡ count_on f n
count_off f k n l e =
    let p = count_put (put f k false) k n l (put_at f k false) in
    sym p ∙ same_count (put (put f k false) k true) f n (λ j h. again j)
  where
    again : (j : ℕ) → put (put f k false) k true j ≡ f j
    again j =
        elim (j == k) as (λ b. j == k ≡ b → put (put f k false) k true j ≡ f j) [
          | true ↦ λ q. let is = eqb-true j k q in ap (λ x. put (put f k false) k true x) is ∙ put_at (put f k false) k
              true ∙ sym (ap f is ∙ e)
          | false ↦ λ q. let d = eqb-false j k q in put_off (put f k false) k true j d ∙ put_off f k false j d
        ] refl

pub count_none : (f : ℕ → Bool) (n : ℕ) → ((j : ℕ) → f j ≡ false) → count_on f n ≡ 0
unfolding count_on
count_none f zero h = refl
count_none f (suc n) h = let i = count_none f n h in sum (f n) (count_on f n) (h n) i
  where
    sum : (b : Bool) (m : ℕ) → b ≡ false → m ≡ 0 → (if b then 1 else 0) + m ≡ 0
    sum b m e i = grind arith

-- ---- the ready channels are counted, and a live session has one

pub record Counted (c : Client) : Type 0 where
  pub counted : c.channels ≡ count_on c.ready 256
  pub live : c.live ≡ true → 0 < c.channels

counted_same : (c d : Client) → SameChannels c d → Counted c → Counted d
counted_same c d s h =
    record {
      counted = s.channels ∙ h.counted ∙ ap (λ f. count_on f 256) (sym s.ready);
      live = λ l. subst (λ n. 0 < n) (sym s.channels) (h.live (sym s.live ∙ l));
    }

not_last : (n : ℕ) (s : Bool) → 0 < n → ((n == 1) || s) ≡ false → 0 < n - 1
not_last n s l e = let f = front_off (n == 1) s e in let d = eqb-false n 1 f in omega (arith, d, l)

off_in_dialog : (r : Bool) (s : Stage) (c : _) → s ≢ Apart → Channel r s c → r ≡ false
off_in_dialog r s c n (IsClosed off apart shut none) = off
off_in_dialog r s c n (IsReady on apart stands) = absurd (n apart)
off_in_dialog r s c n (IsInDialog off talks stands waits) = off

pub counted_on : (w : World) (e : Event) (a : ℕ → ℕ) → Connections w.client w.conns a → Channels w.client w.conns
    → ((k : ℕ) → (w.conns k).client_open ≡ true → k < 256) → Counted w.client → Counted (happens w e).client
counted_on w e a fit channels low h =
    client_keeps Counted w e (λ g op is m. record { counted = h.counted; live = h.live }) (record {
      opens = λ k. record { counted = h.counted; live = h.live };
      slotless = λ c k g l _ i. record { counted = i.counted; live = i.live };
      begins_op = λ c k g i m _ j. counted_same c (outstanding (begun c g i) k g) (same_begun c k g i) j;
      asks = λ c k g m _ i. record { counted = i.counted; live = i.live };
      settles = λ k g asking r place o on firm t. counted_same w.client (settle w.client g asking r place o)
          (same_settle w.client g asking r place o) h;
      answers = λ g. record { counted = h.counted; live = h.live };
      joins = λ k g on. record { counted = h.counted; live = h.live };
      ends = λ g _. record { counted = sym (count_none (λ k. false) 256 (λ j. refl)); live = λ l. absurd (cc) };
      cut_ends = λ k on _. record { counted = sym (count_none (λ k. false) 256 (λ j. refl)); live = λ l. absurd (cc) };
      cuts = λ k on more _. let c = count_off w.client.ready k 256 (low k (fit.ready k on).0) on in
          record {
            counted = one_less w.client.channels (count_on w.client.ready 256)
                (count_on (put w.client.ready k false) 256) h.counted c;
            live = λ l. not_last w.client.channels (w.client.sequence == last_sequence) (h.live l) more;
          };
      goes = λ k te s y rest is token d. record { counted = h.counted; live = h.live };
      accepts = λ k r d. record { counted = h.counted; live = h.live };
      binds = λ k talks o live. let c = count_put w.client.ready k 256 (low k o)
          (off_in_dialog (w.client.ready k) (w.client.stage k) (w.conns k) talks (channels k)) in
          record { counted = ap (λ n. n + 1) h.counted ∙ sym c; live = λ l. omega arith };
      begins = λ k tree at o dead. let c = count_put w.client.ready k 256 (low k o) (unready dead k) in
          record { counted = sym (c ∙ ap (λ n. n + 1) (count_none w.client.ready 256 (unready dead))); live = λ l. omega arith };
      leaves = λ k rs. record { counted = h.counted; live = h.live };
      finishes = λ why _. record { counted = h.counted; live = h.live };
    }) h
  where
    one_less : (n m l : ℕ) → n ≡ m → l + 1 ≡ m → n - 1 ≡ l
    one_less n m l a b = omega (arith, a, b)

    unready : w.client.live ≡ false → (k : ℕ) → w.client.ready k ≡ false
    unready dead k = by (w.client.ready k) refl
      where
        by : (b : Bool) → w.client.ready k ≡ b → w.client.ready k ≡ false
        by true e = off w.client.live (fit.ready k e).1 dead
          where
            off : (b : Bool) → b ≡ true → b ≡ false → w.client.ready k ≡ false
            off b x y = absurd (cc)
        by false e = e

-- ---- the number of sessions, and how many operations were taken

pub record Rows (c d : Client) : Type 0 where
  pub op : d.op ≡ c.op
  pub taken : d.taken ≡ c.taken
  pub number : d.session_number ≡ c.session_number
  pub sent : d.sent ≡ c.sent

rows_so : (c d e : Client) → Rows c d → Rows d e → Rows c e
rows_so c d e a b = record { op = b.op ∙ a.op; taken = b.taken ∙ a.taken; number = b.number ∙ a.number; sent = b.sent ∙ a.sent }

rows : (c : Client) → Rows c c
rows c = record { op = refl; taken = refl; number = refl; sent = refl }

pub rows_noted : (c : Client) (g : ℕ) (o : Outcome) (body : Body) → Rows c (noted c g o body)
rows_noted c g (WasOk reply) body =
    either (λ d. Rows c d) (is_create (c.op g)) (record c {
      file = put c.file g (id_in body);
      attached = put c.attached g c.session_number;
    }) (if is_close (c.op g) then record c {
      closed_ok = put c.closed_ok (create_for c g) true;
    } else c)
    (λ _. record { op = refl; taken = refl; number = refl; sent = refl })
    (λ _. either (λ d. Rows c d) (is_close (c.op g)) (record c { closed_ok = put c.closed_ok (create_for c g) true }) c
    (λ _. record { op = refl; taken = refl; number = refl; sent = refl }) (λ _. rows c))
rows_noted c g Unsettled body = rows c
rows_noted c g (WasRefused status) body = rows c
rows_noted c g (NoSlot create) body = rows c
rows_noted c g (NoOpen create) body = rows c
rows_noted c g (Unknown why) body = rows c

pub rows_full : (c : Client) (g : ℕ) (asking : Bool) (status : ℕ) → Rows c (noted_full c g asking status)
rows_full c g asking status =
    either (λ d. Rows c d) (is_lock (c.op g) && (not asking && (status == disk_full))) (record c {
      full = put2 c.full (create_for c g) (c.slot_of g) true;
    }) c (λ _. record {
      op = refl;
      taken = refl;
      number = refl;
      sent = refl;
    }) (λ _. rows c)

pub rows_settle : (c : Client) (g : ℕ) (asking : Bool) (r : Reply) (place : ℕ) (o : Outcome) → Rows c (settle c g asking r place o)
rows_settle c g asking r place o =
    let n = noted c g o r.body in let f = noted_full n g asking r.status in let d = settled f g o place in
    let s : Rows c d = rows_so c n d (rows_noted c g o r.body) (rows_so n f d (rows_full n g asking r.status) (record {
      op = refl;
      taken = refl;
      number = refl;
      sent = refl;
    })) in
    either (λ e. Rows c e) (settles_open (c.op g)) (with_no_opens d (create_for c g)) d
    (λ _. rows_so c d (with_no_opens d (create_for c g)) s (record {
      op = refl;
      taken = refl;
      number = refl;
      sent = refl;
    })) (λ _. s)

-- the rows but for what went out
pub record Taken (c d : Client) : Type 0 where
  pub op : d.op ≡ c.op
  pub taken : d.taken ≡ c.taken
  pub number : c.session_number ≤ d.session_number

taken_begun : (w c : Client) (k g i : ℕ) → Taken w c → Taken w (outstanding (begun c g i) k g)
taken_begun w c k g i t =
    let P : Client → Type 0 = λ d. Taken w (outstanding d k g) in
    either P (c.sent g) (again c g) (begin c g i)
    (λ _. either P (is_lock (c.op g)) (record c {
      retried = put2 c.retried (create_for c g) (c.slot_of g) c.session_number;
    }) c (λ _. record {
      op = t.op;
      taken = t.taken;
      number = t.number;
    }) (λ _. record { op = t.op; taken = t.taken; number = t.number }))
    (λ _. either P (is_lock (c.op g)) (record (take_slot c g i) { sent = put c.sent g true }) (record c {
      sent = put c.sent g true;
    }) (λ _. record { op = t.op; taken = t.taken; number = t.number }) (λ _. record {
      op = t.op;
      taken = t.taken;
      number = t.number;
    }))

pub taken_rows : (c d : Client) → Rows c d → Taken c d
taken_rows c d r = record { op = r.op; taken = r.taken; number = omega (arith, r.number) }

taken_small : (w : World) (e : Event) → Small (Taken w.client) w e
taken_small w e =
    record {
      opens = λ k. record { op = refl; taken = refl; number = omega arith };
      slotless = λ c k g l _ i. record { op = i.op; taken = i.taken; number = i.number };
      begins_op = λ c k g i m _ j. taken_begun w.client c k g i j;
      asks = λ c k g m _ i. record { op = i.op; taken = i.taken; number = i.number };
      settles = λ k g asking r place o on firm t. taken_rows w.client _ (rows_settle w.client g asking r place o);
      answers = λ g. record { op = refl; taken = refl; number = omega arith };
      joins = λ k g on. record { op = refl; taken = refl; number = omega arith };
      ends = λ g _. record { op = refl; taken = refl; number = omega arith };
      cut_ends = λ k on _. record { op = refl; taken = refl; number = omega arith };
      cuts = λ k on more _. record { op = refl; taken = refl; number = omega arith };
      goes = λ k te s y rest is token d. record { op = refl; taken = refl; number = omega arith };
      accepts = λ k r d. record { op = refl; taken = refl; number = omega arith };
      binds = λ k talks o live. record { op = refl; taken = refl; number = omega arith };
      begins = λ k tree at o dead. record { op = refl; taken = refl; number = omega arith };
      leaves = λ k rs. record { op = refl; taken = refl; number = omega arith };
      finishes = λ why _. record { op = refl; taken = refl; number = omega arith };
    }

pub taken_on : (w : World) (e : Event) → is_submit e ≡ false → Taken w.client (happens w e).client
taken_on w e n = client_keeps (Taken w.client) w e (λ g op is m. absurd (submits e g op is n)) (taken_small w e)
    (record { op = refl; taken = refl; number = omega arith })
  where
    submits : (e : Event) (g : ℕ) (op : Op) → e ≡ Submit g op → is_submit e ≡ false → ⊥
    submits e g op is n = absurd (grind arith)

pub number_on : (w : World) (e : Event) → w.client.session_number ≤ (happens w e).client.session_number
number_on w (Submit g op) = either (λ (d : Client). w.client.session_number ≤ d.session_number) (may_take w.client g op)
    (take_op w.client g op) w.client (λ _. omega arith) (λ _. omega arith)
number_on w (Open k) = (taken_on w (Open k) refl).number
number_on w (Push k slotless pick) = (taken_on w (Push k slotless pick) refl).number
number_on w (Serve k) = (taken_on w (Serve k) refl).number
number_on w (Take k) = (taken_on w (Take k) refl).number
number_on w (Cut k) = (taken_on w (Cut k) refl).number
number_on w (Drop k) = (taken_on w (Drop k) refl).number
number_on w Restart = (taken_on w Restart refl).number
number_on w (Crash k kept) = (taken_on w (Crash k kept) refl).number
number_on w (Wait n) = (taken_on w (Wait n) refl).number
number_on w (Finish refusal) = (taken_on w (Finish refusal) refl).number

-- ---- no operation asks for more than a channel holds

abbrev pub Limits : Client → Type 0
Limits c = (g : ℕ) → 0 < g → g ≤ c.taken → charge (weight (c.op g)) ≤ 512

weight_low : (op : Op) → keeps_limits op ≡ true → weight op ≤ 1048577
weight_low (OpWrite create at bytes) k = grind (arith, nat_tests)
weight_low (OpRead create at size) k = grind (arith, nat_tests)
weight_low _ k = omega arith

charge_low : (n : ℕ) → n ≤ 1048577 → charge n ≤ 512
charge_low n l = either (λ m. m ≤ 512) (n == 0) 1 ((n - 1) / 65536 + 1) (λ _. omega arith) (λ _. omega (arith, l))

limits_take : (c : Client) (g : ℕ) (op : Op) → may_take c g op ≡ true → Limits c → Limits (take_op c g op)
limits_take c g op m h x low high =
    elim (x == g) as (λ b. x == g ≡ b → charge (weight (if b then op else c.op x)) ≤ 512) [
      | true ↦ λ q. charge_low (weight op) (weight_low op (front_of (keeps_limits op) _ (back_of (g == c.taken + 1) _ m)))
      | false ↦ λ q. let d = eqb-false x g q in let e = eqb-true g (c.taken + 1) (front_of (g == c.taken + 1) _ m) in
          h x low (omega (arith, d, e, high))
    ] refl

limits_by : (c d : Client) → Taken c d → Limits c → Limits d
limits_by c d t h g low high = subst (λ f. charge (weight (f g)) ≤ 512) (sym t.op) (h g low (subst (λ n. g ≤ n) t.taken high))

pub limits_on : (w : World) (e : Event) → Limits w.client → Limits (happens w e).client
limits_on w (Submit g op) h = either Limits (may_take w.client g op) (take_op w.client g op) w.client
    (λ m. limits_take w.client g op m h) (λ _. h)
limits_on w (Open k) h = limits_by w.client _ (taken_on w (Open k) refl) h
limits_on w (Push k slotless pick) h = limits_by w.client _ (taken_on w (Push k slotless pick) refl) h
limits_on w (Serve k) h = limits_by w.client _ (taken_on w (Serve k) refl) h
limits_on w (Take k) h = limits_by w.client _ (taken_on w (Take k) refl) h
limits_on w (Cut k) h = limits_by w.client _ (taken_on w (Cut k) refl) h
limits_on w (Drop k) h = limits_by w.client _ (taken_on w (Drop k) refl) h
limits_on w Restart h = h
limits_on w (Crash k kept) h = limits_by w.client _ (taken_on w (Crash k kept) refl) h
limits_on w (Wait n) h = h
limits_on w (Finish refusal) h = limits_by w.client _ (taken_on w (Finish refusal) refl) h
