-- What is outstanding on a channel with two open ends waits there; and channels have numbers below 256.
use Rattle.std.proofs.lemmas.Bool.{eqb-false}
use Rattle.std.proofs.lemmas.Bool.Decides.{nat_tests}
use Rattle.std.proofs.Common.{eqb-true, ◌≡◌, ◌≢◌, ℕ, ◌≤◌, ◌<◌, ◌==◌, nat_lt, Bool, true, false, not, ◌&&◌}
use Rattle.std.proofs.Common.{if◌then◌else◌, List, [], ◌∷◌, ◌++◌, refl, arith, sym, subst, ◌∙◌, ap, Option, Some, None}
use Rattle.spec_exchange.specs.Table.{put, put2, is_filled}
use Rattle.spec_exchange.specs.Status.{disk_full}
use Rattle.spec_exchange.specs.State.{Reply, Message, Accept, Answer}
use Rattle.spec_exchange.specs.Step.{step}
use Rattle.spec_exchange.specs.Operations.{Outcome, Unsettled, WasOk, WasRefused, NoSlot, NoOpen, Unknown, is_create}
use Rattle.spec_exchange.specs.Operations.{is_lock, is_close, id_in}
use Rattle.spec_exchange.specs.Client.{Client, create_for, may_take, take_op, may_push, goes_itself, has_its_slot}
use Rattle.spec_exchange.specs.Client.{lacks_slot, settle_no_slot, settle_no_slots, begin, again, begun, take_slot}
use Rattle.spec_exchange.specs.Client.{outstanding, asked, cut_channel, ends_at_cut, end_session, on_after_cut}
use Rattle.spec_exchange.specs.Settling.{Heard as Hearing, Settles, GoesAgain, Attaches, EndsSession, heard, hear}
use Rattle.spec_exchange.specs.Settling.{is_awaited, settle, settled, noted, noted_full, settles_open, with_no_opens}
use Rattle.spec_exchange.specs.Dialogs.{DialogStep, GoesOn, Accepts, Binds, Readies, Refuses, dialog_step}
use Rattle.spec_exchange.specs.ClientStep.{Pick, Act, Nothing, Sends, Asks, CloseChannel, CloseChannels, AllSettled}
use Rattle.spec_exchange.specs.ClientStep.{pick_after, pick_act, act_heard, some_unsettled}
use Rattle.spec_exchange.specs.Network.{World, Event, Submit, Open, Push, Serve, Take, Cut, Drop, Restart, Crash, Wait}
use Rattle.spec_exchange.specs.Network.{Finish, Conn, Sent, Received, Token, ForDialog, ForOp, ForAttach, op_of}
use Rattle.spec_exchange.specs.Network.{happens, changed, later, may_open, may_serve, max_channel, opened_by}
use Rattle.spec_exchange.specs.Network.{server_off, client_off, send_up, say_down, behind_front, take_front, pushed_by}
use Rattle.spec_exchange.specs.Network.{answer, serve_front, absorb_front, take_reply, took_by, dialog_took, op_took}
use Rattle.spec_exchange.specs.Network.{closed_by, cut_by, with_client, behind_reply, restarted}
use Rattle.law_sessions.specs.messages.Connections.{Connections, copies, count_up, count_down}
use Rattle.law_sessions.proofs.messages.Lists.{count_up-push, count_down-push, counted_down, front_down}
use Rattle.law_sessions.proofs.messages.Run.{both_ways, ended_well, closed_of}
use Rattle.law_server.proofs.tables.Logic.{either, front_of}
use Rattle.law_answers.proofs.completeness.Events.{put_at, put_off}

abbrev pub Carried : Client → (ℕ → Conn) → Type 0
Carried c conns = (g k : ℕ) → c.outstanding_on g ≡ Some k → (conns k).client_open ≡ true → (conns k).server_open ≡ true
    → 1 ≤ copies g (conns k)

absent : (b : Bool) (P : Type 0) → b ≡ true → b ≡ false → P
absent b P e f = absurd (cc)

none_some : {k : ℕ} (o : Option ℕ) (P : Type 0) → o ≡ None → o ≡ Some k → P
none_some o P e f = absurd (grind arith)

abbrev bit : Bool → ℕ
bit b = if b then 1 else 0

-- one connection changes
put_carried : (c : Client) (conns : ℕ → Conn) (j : ℕ) (d : Conn)
    → ((g : ℕ) → c.outstanding_on g ≡ Some j → d.client_open ≡ true → d.server_open ≡ true → 1 ≤ copies g d)
    → Carried c conns → Carried c (put conns j d)
put_carried c conns j d here h g k on =
    elim (k == j) as (λ b. k == j ≡ b → (if b then d else conns k).client_open ≡ true
    → (if b then d else conns k).server_open ≡ true → 1 ≤ copies g (if b then d else conns k)) [
      | true ↦ λ q. here g (on ∙ ap Some (eqb-true k j q))
      | false ↦ λ q. h g k on
    ] refl

on_same : (c d : Client) (conns : ℕ → Conn) → d.outstanding_on ≡ c.outstanding_on → Carried c conns → Carried d conns
on_same c d conns e h = subst (λ f. (g k : ℕ) → f g ≡ Some k → (conns k).client_open ≡ true → (conns k).server_open
    ≡ true → 1 ≤ copies g (conns k)) (sym e) h

-- ---- a push

more_up : (c : Conn) (t : Token) (m : Message) (n g : ℕ) → 1 ≤ copies g c → 1 ≤ copies g (send_up c t m n)
more_up c t m n g l = let p = count_up-push g c.up (record { token = t; message = m }) in omega (arith, l, p)

one_up : (c : Conn) (t : Token) (m : Message) (n g : ℕ) → op_of t ≡ g → 1 ≤ copies g (send_up c t m n)
one_up c t m n g e = let p = count_up-push g c.up (record { token = t; message = m }) in let q = is_one (op_of t) g e in omega (arith, p, q)
  where
    is_one : (n m : ℕ) → n ≡ m → bit (n == m) ≡ 1
    is_one n m e = grind (arith, nat_tests)

sends : (c d : Client) (conns : ℕ → Conn) (j g0 n : ℕ) (t : Token) (m : Message) → d.outstanding_on
    ≡ put c.outstanding_on g0 (Some j) → op_of t ≡ g0 → Carried c conns
    → Carried d (put conns j (send_up (conns j) t m n))
sends c d conns j g0 n t m on op h g k is =
    elim (k == j) as (λ b. k == j ≡ b → (if b then send_up (conns j) t m n else conns k).client_open ≡ true
    → (if b then send_up (conns j) t m n else conns k).server_open ≡ true
    → 1 ≤ copies g (if b then send_up (conns j) t m n else conns k)) [
      | true ↦ λ q o s. elim (g == g0) as (λ b. g == g0 ≡ b → 1 ≤ copies g (send_up (conns j) t m n)) [
        | true ↦ λ e. one_up (conns j) t m n g (op ∙ sym (eqb-true g g0 e))
        | false ↦ λ e. let ne = eqb-false g g0 e in more_up (conns j) t m n g
            (h g j (sym (put_off c.outstanding_on g0 (Some j) g ne) ∙ ap (λ f. f g) (sym on) ∙ is
            ∙ ap Some (eqb-true k j q)) o s)
      ] refl
      | false ↦ λ q o s. let nk = eqb-false k j q in
          elim (g == g0) as (λ b. g == g0 ≡ b → 1 ≤ copies g (conns k)) [
            | true ↦ λ e. absurd (nk
                (same_key (sym (put_at c.outstanding_on g0 (Some j)) ∙ ap (λ x. put c.outstanding_on g0 (Some j) x)
                (sym (eqb-true g g0 e)) ∙ ap (λ f. f g) (sym on) ∙ is)))
            | false ↦ λ e. h g k (sym (put_off c.outstanding_on g0 (Some j) g (eqb-false g g0 e)) ∙ ap (λ f. f g) (sym on) ∙ is) o s
          ] refl
    ] refl
  where
    same_key : {a b : ℕ} → Some a ≡ Some b → b ≡ a
    same_key e = cc

slotless_on : (c : Client) (k : ℕ) (gs : List ℕ) → (settle_no_slots c k gs).outstanding_on ≡ c.outstanding_on
unfolding settle_no_slots
slotless_on c k [] = refl
slotless_on c k (g ∷ gs) =
    slotless_on (settle_no_slot c k g) k gs ∙ either (λ (d : Client). d.outstanding_on ≡ c.outstanding_on)
    (lacks_slot c k g) (record c { outcome = put c.outcome g (NoSlot (create_for c g)) }) c (λ _. refl) (λ _. refl)

begun_on : (c : Client) (g i : ℕ) → (begun c g i).outstanding_on ≡ c.outstanding_on
begun_on c g i =
    let P : Client → Type 0 = λ d. d.outstanding_on ≡ c.outstanding_on in
    either P (c.sent g) (again c g) (begin c g i)
    (λ _. either P (is_lock (c.op g)) (record c {
      retried = put2 c.retried (create_for c g) (c.slot_of g) c.session_number;
    }) c (λ _. refl) (λ _. refl))
    (λ _. either P (is_lock (c.op g)) (record (take_slot c g i) { sent = put c.sent g true }) (record c {
      sent = put c.sent g true;
    }) (λ _. refl) (λ _. refl))

Here : World → Type 0
Here w = Carried w.client w.conns

pushes_op : (w : World) (k g i : ℕ) (c : Client) → Carried c w.conns
    → Here (pushed_by w k (pick_after c k (Some (record { op = g; slot = i })))
    (pick_act c k (Some (record { op = g; slot = i }))))
unfolding Here
pushes_op w k g i c h =
    let P : Client → Act → Type 0 = λ d x. Here (pushed_by w k d x) in
    both_ways P (may_push c k g) _ _ _ _
    (λ _. both_ways P (goes_itself c g) _ _ _ _
    (λ _. both_ways P (has_its_slot c g i) _ _ _ _ (λ _. sends c (outstanding (begun c g i) k g) w.conns k g _ (ForOp g)
    _ (ap (λ f. put f g (Some k)) (begun_on c g i)) refl h) (λ _. h))
    (λ _. sends c (asked c k g) w.conns k g _ (ForAttach g) _ refl refl h))
    (λ _. h)

picks : (w : World) (k : ℕ) (c : Client) (pick : Option Pick) → Carried c w.conns
    → Here (pushed_by w k (pick_after c k pick) (pick_act c k pick))
unfolding Here
picks w k c None h = either (λ x. Here (pushed_by w k c x)) (some_unsettled c c.taken) _ _ (λ _. h) (λ _. h)
picks w k c (Some p) h = pushes_op w k p.op p.slot c h

pushes : (w : World) (k : ℕ) (slotless : List ℕ) (pick : Option Pick) → Here w → Here (changed w (Push k slotless pick))
unfolding Here
pushes w k slotless pick h =
    both_ways (λ d x. Here (pushed_by w k d x)) (w.client.ready k) _ _ _ _
    (λ _. picks w k (settle_no_slots w.client k slotless) pick
    (on_same w.client (settle_no_slots w.client k slotless) w.conns (slotless_on w.client k slotless) h))
    (λ _. either (λ x. Here (pushed_by w k w.client x)) (some_unsettled w.client w.client.taken) _ _ (λ _. h) (λ _. h))

-- ---- Serve

answered_copies : (c : Conn) (x : Sent) (rest : List Sent) (y : Received) (g : ℕ) → c.up ≡ x ∷ rest → y.token ≡ x.token
    → c.client_open ≡ true → 1 ≤ copies g c → 1 ≤ copies g (say_down (behind_front c rest) y)
answered_copies c x rest y g is token o l =
    either (λ (d : Conn). 1 ≤ copies g d) c.client_open (record (behind_front c rest) { down = c.down ++ y ∷ [] }) (behind_front c rest)
    (λ _. let p = count_down-push g c.down y in let u : count_up g c.up ≡ count_up g (x ∷ rest) = ap
    (λ xs. count_up g xs) is in let t : bit (op_of y.token == g) ≡ bit (op_of x.token == g) =
    ap (λ t. bit (op_of t == g)) token in
    omega (arith, l, p, u, t))
    (λ off. absent c.client_open _ o off)

say_ends : (c : Conn) (y : Received) → (say_down c y).client_open ≡ c.client_open × (say_down c y).server_open ≡ c.server_open
say_ends c y = either (λ (d : Conn). d.client_open ≡ c.client_open × d.server_open ≡ c.server_open) c.client_open
    (record c { down = c.down ++ y ∷ [] }) c (λ _. (refl, refl)) (λ _. (refl, refl))

serves : (w : World) (k : ℕ) → Here w → (xs : List Sent) → (w.conns k).up ≡ xs → Here (serve_front w k xs)
unfolding Here
serves w k h [] is = h
serves w k h (x ∷ rest) is =
    let y : Received = record {
      token = x.token;
      reply = (answer w x).reply;
      place = w.log.places;
    } in let f = put w.conns k (behind_front (w.conns k) rest) in
    λ g j on. elim (j == k) as (λ b. j == k ≡ b → (if b then say_down (f k) y else f j).client_open ≡ true
    → (if b then say_down (f k) y else f j).server_open ≡ true → 1 ≤ copies g (if b then say_down (f k) y else f j)) [
      | true ↦ λ q o s. let at = put_at w.conns k (behind_front (w.conns k) rest) in let e = say_ends (f k) y in
          let op = ap (λ (d : Conn). d.client_open) (sym at) ∙ sym e.0 ∙ o in let sp = ap (λ (d : Conn). d.server_open)
          (sym at) ∙ sym e.1 ∙ s in
          subst (λ d. 1 ≤ copies g (say_down d y)) (sym at) (answered_copies (w.conns k) x rest y g is refl op
          (h g k (on ∙ ap Some (eqb-true j k q)) op sp))
      | false ↦ λ q o s. let e = put_off w.conns k (behind_front (w.conns k) rest) j (eqb-false j k q) in
          subst (λ d. 1 ≤ copies g d) (sym e) (h g j on (ap (λ (d : Conn). d.client_open) (sym e) ∙ o)
          (ap (λ (d : Conn). d.server_open) (sym e) ∙ s))
    ] refl

-- ---- Take

behind_copies : (c : Conn) (y : Received) (rest : List Received) (g : ℕ) → c.down ≡ y ∷ rest → op_of y.token ≢ g
    → 1 ≤ copies g c → 1 ≤ copies g (take_front c rest)
behind_copies c y rest g is n l =
    let d : count_down g c.down ≡ count_down g (y ∷ rest) = ap (λ ys. count_down g ys) is in
    let z = zero_bit (op_of y.token) g n in omega (arith, l, d, z)
  where
    zero_bit : (a b : ℕ) → a ≢ b → bit (a == b) ≡ 0
    zero_bit a b n = by (a == b) refl
      where
        by : (t : Bool) → a == b ≡ t → bit (a == b) ≡ 0
        by true e = absurd (n (eqb-true a b e))
        by false e = ap bit e

-- what is outstanding but for one operation is carried behind the reply
behind : (c : Client) (conns : ℕ → Conn) (k g0 : ℕ) (y : Received) (rest : List Received) → (conns k).down ≡ y ∷ rest
    → op_of y.token ≡ g0 → Carried c conns
    → (g q : ℕ) → c.outstanding_on g ≡ Some q → g ≢ g0 → (put conns k (take_front (conns k) rest) q).client_open ≡ true
    → (put conns k (take_front (conns k) rest) q).server_open ≡ true
    → 1 ≤ copies g (put conns k (take_front (conns k) rest) q)
behind c conns k g0 y rest is token h g q on n =
    elim (q == k) as (λ b. q == k ≡ b → (if b then take_front (conns k) rest else conns q).client_open ≡ true
    → (if b then take_front (conns k) rest else conns q).server_open ≡ true
    → 1 ≤ copies g (if b then take_front (conns k) rest else conns q)) [
      | true ↦ λ e o s. behind_copies (conns k) y rest g is (λ z. n (sym (sym token ∙ z))) (h g k (on ∙ ap Some (eqb-true q k e)) o s)
      | false ↦ λ e. h g q on
    ] refl

settle_on : (c : Client) (g : ℕ) (asking : Bool) (r : Reply) (place : ℕ) (o : Outcome)
    → (settle c g asking r place o).outstanding_on ≡ put c.outstanding_on g None
settle_on c g asking r place o =
    let n = noted c g o r.body in let f = noted_full n g asking r.status in let d = settled f g o place in
    let e : d.outstanding_on ≡ put c.outstanding_on g None = ap (λ h. put h g None) (full_on n ∙ noted_on o) in
    either (λ (x : Client). x.outstanding_on ≡ put c.outstanding_on g None) (settles_open (c.op g))
    (with_no_opens d (create_for c g)) d (λ _. e) (λ _. e)
  where
    full_on : (n : Client) → (noted_full n g asking r.status).outstanding_on ≡ n.outstanding_on
    full_on n = either (λ (d : Client). d.outstanding_on ≡ n.outstanding_on) (is_lock (n.op g)
        && (not asking && (r.status == disk_full))) (record n {
          full = put2 n.full (create_for n g) (n.slot_of g) true;
        }) n (λ _. refl) (λ _. refl)

    noted_on : (o : Outcome) → (noted c g o r.body).outstanding_on ≡ c.outstanding_on
    noted_on (WasOk reply) =
        either (λ (d : Client). d.outstanding_on ≡ c.outstanding_on) (is_create (c.op g)) (record c {
          file = put c.file g (id_in r.body);
          attached = put c.attached g c.session_number;
        })
        (if is_close (c.op g) then record c { closed_ok = put c.closed_ok (create_for c g) true } else c)
        (λ _. refl)
        (λ _. either (λ (d : Client). d.outstanding_on ≡ c.outstanding_on) (is_close (c.op g)) (record c {
          closed_ok = put c.closed_ok (create_for c g) true;
        }) c (λ _. refl) (λ _. refl))
    noted_on Unsettled = refl
    noted_on (WasRefused status) = refl
    noted_on (NoSlot create) = refl
    noted_on (NoOpen create) = refl
    noted_on (Unknown why) = refl

-- what was outstanding for one operation isn't any more
without_one : (c d : Client) (conns : ℕ → Conn) (g0 : ℕ) → d.outstanding_on ≡ put c.outstanding_on g0 None
    → ((g q : ℕ) → c.outstanding_on g ≡ Some q → g ≢ g0 → (conns q).client_open ≡ true → (conns q).server_open ≡ true
    → 1 ≤ copies g (conns q)) → Carried d conns
without_one c d conns g0 e h g q on =
    elim (g == g0) as (λ b. g == g0 ≡ b → (conns q).client_open ≡ true → (conns q).server_open ≡ true → 1 ≤ copies g (conns q)) [
      | true ↦ λ t. none_some (put c.outstanding_on g0 None g) _ (ap (λ x. put c.outstanding_on g0 None x)
          (eqb-true g g0 t) ∙ put_at c.outstanding_on g0 None) (ap (λ f. f g) (sym e) ∙ on)
      | false ↦ λ t. let n = eqb-false g g0 t in h g q (sym (put_off c.outstanding_on g0 None g n) ∙ ap (λ f. f g) (sym e) ∙ on) n
    ] refl

nothing_open : (c : Client) (conns : ℕ → Conn) → Carried (end_session c) (λ q. client_off (conns q))
nothing_open c conns g q on = none_some None _ refl on

hears : (w : World) (k g : ℕ) (asking : Bool) (r : Reply) (place : ℕ) → ((n q : ℕ) → w.client.outstanding_on n ≡ Some q
    → n ≢ g → (w.conns q).client_open ≡ true → (w.conns q).server_open ≡ true → 1 ≤ copies n (w.conns q))
    → is_awaited w.client k g asking ≡ true → Here (op_took w k g asking r place)
unfolding Here
hears w k g asking r place h awaited =
    both_ways (λ c x. Here (with_client (closed_by w k x) c)) (is_awaited w.client k g asking)
    (hear w.client g asking r place (heard w.client g asking r)) w.client (act_heard (heard w.client g asking r))
    Nothing
    (λ _. by (heard w.client g asking r)) (λ off. absent (is_awaited w.client k g asking) _ awaited off)
  where
    by : (x : Hearing) → Here (with_client (closed_by w k (act_heard x)) (hear w.client g asking r place x))
    by (Settles o) = without_one w.client (settle w.client g asking r place o) w.conns g (settle_on w.client g asking r place o) h
    by GoesAgain = without_one w.client (hear w.client g asking r place GoesAgain) w.conns g refl h
    by Attaches = without_one w.client (hear w.client g asking r place Attaches) w.conns g refl h
    by EndsSession = nothing_open (hear w.client g asking r place GoesAgain) w.conns

dialog_on : (w : World) (k : ℕ) (rest : List Received) (r : Reply) → Here (behind_reply w k rest) → (d : DialogStep)
    → Here (dialog_took (behind_reply w k rest) k r d)
unfolding Here
dialog_on w k rest r h (GoesOn s) = let f = (behind_reply w k rest).conns in put_carried w.client f k _
    (λ g on o s. more_up (f k) ForDialog _ 1 g (h g k on o s)) h
dialog_on w k rest r h Accepts = let f = (behind_reply w k rest).conns in put_carried w.client f k _
    (λ g on o s. more_up (f k) ForDialog _ 1 g (h g k on o s)) h
dialog_on w k rest r h Binds = let f = (behind_reply w k rest).conns in ended_well Here (behind_reply w k rest) k
    w.client.session w.client.tree (λ live. h) (λ dead newer. h) (put_carried w.client f k _ (λ g on o s. absurd (cc))
    h)
dialog_on w k rest r h Readies = let f = (behind_reply w k rest).conns in ended_well Here (behind_reply w k rest) k
    w.client.pending r.tree_id (λ live. h) (λ dead newer. h) (put_carried w.client f k _ (λ g on o s. absurd (cc)) h)
dialog_on w k rest r h (Refuses status) = let f = (behind_reply w k rest).conns in put_carried w.client f k _ (λ g on o s. absurd (cc)) h

awaited_if : (c : Client) (k g : ℕ) (asking : Bool) → c.outstanding_on g ≡ Some k → c.asks_attach g ≡ asking
    → is_awaited c k g asking ≡ true
awaited_if c k g true on asks = grind arith
awaited_if c k g false on asks = grind arith

takes_op : (w : World) (a : ℕ → ℕ) (k g0 : ℕ) (asking : Bool) (y : Received) (rest : List Received)
    → Connections w.client w.conns a → (w.conns k).client_open ≡ true → (w.conns k).down ≡ y ∷ rest → op_of y.token ≡ g0
    → w.client.asks_attach g0 ≡ asking → Here w
    → Here (op_took (behind_reply w k rest) k g0 asking y.reply y.place)
unfolding Here
takes_op w a k g0 asking y rest fit o is token asks h =
    let b = behind_reply w k rest in let others = behind w.client w.conns k g0 y rest is token h in
    elim (is_awaited w.client k g0 asking) as (λ t. is_awaited w.client k g0 asking ≡ t → Here (op_took b k g0 asking y.reply y.place)) [
      | true ↦ λ e. hears b k g0 asking y.reply y.place others e
      | false ↦ λ e. both_ways (λ c x. Here (with_client (closed_by b k x) c)) (is_awaited w.client k g0 asking)
          (hear w.client g0 asking y.reply y.place (heard w.client g0 asking y.reply)) w.client
          (act_heard (heard w.client g0 asking y.reply)) Nothing
          (λ on. absent (is_awaited w.client k g0 asking) _ on e)
          (λ _ g q on. elim (g == g0) as (λ t. g == g0 ≡ t → (b.conns q).client_open ≡ true → (b.conns q).server_open
          ≡ true → 1 ≤ copies g (b.conns q)) [
            | true ↦ λ same. let z = eqb-true g g0 same in let low = (fit.on_ready g q on).1 in
                absent (is_awaited w.client k g0 asking) _
                (awaited_if w.client k g0 asking (fit.outstanding k g0 o (there g0) (subst (λ n. 0 < n) z low))
                asks) e
            | false ↦ λ same. others g q on (eqb-false g g0 same)
          ] refl)
    ] refl
  where
    there : (g : ℕ) → 1 ≤ copies g0 (w.conns k)
    there g = more (counted_down g0 (w.conns k).down 0 y (front_down (w.conns k).down y rest is) token)
      where
        more : 1 ≤ count_down g0 (w.conns k).down → 1 ≤ copies g0 (w.conns k)
        more l = omega (arith, l)

takes_by : (w : World) (a : ℕ → ℕ) (k : ℕ) (y : Received) (rest : List Received) → Connections w.client w.conns a
    → (w.conns k).client_open ≡ true → (w.conns k).down ≡ y ∷ rest → Here w → (t : Token) → y.token ≡ t
    → Here (took_by (behind_reply w k rest) k y.reply y.place t)
unfolding Here
takes_by w a k y rest fit o is h ForDialog e =
    dialog_on w k rest y.reply (λ g q on. behind w.client w.conns k 0 y rest is (ap op_of e) h g q on
    (λ z. zero_on g (fit.on_ready g q on).1 z)) (dialog_step (w.client.stage k) y.reply.status)
  where
    zero_on : (g : ℕ) → 0 < g → g ≡ 0 → ⊥
    zero_on g l z = absurd (omega (arith, l, z))
takes_by w a k y rest fit o is h (ForOp g0) e = takes_op w a k g0 false y rest fit o is (ap op_of e)
    (fit.own_down k 0 g0 y (front_down (w.conns k).down y rest is) o e) h
takes_by w a k y rest fit o is h (ForAttach g0) e = takes_op w a k g0 true y rest fit o is (ap op_of e)
    (fit.attach_down k 0 g0 y (front_down (w.conns k).down y rest is) o e) h

takes : (w : World) (a : ℕ → ℕ) (k : ℕ) → Connections w.client w.conns a → (w.conns k).client_open ≡ true → Here w
    → (ys : List Received) → (w.conns k).down ≡ ys → Here (take_reply w k ys)
takes w a k fit o h [] is = h
takes w a k fit o h (y ∷ rest) is = takes_by w a k y rest fit o is h y.token refl

-- ---- Cut, and the server's ends

cut_on : (k j q : ℕ) (o : Option ℕ) → on_after_cut k o ≡ Some q → o ≡ Some q × q ≢ k
cut_on k j q None e = absurd (cc)
cut_on k j q (Some i) e = (grind arith, λ z. absurd (grind arith))

cut_one : (c : Client) (conns : ℕ → Conn) (k : ℕ) → Carried c conns → Carried (cut_channel c k) (put conns k (client_off (conns k)))
cut_one c conns k h g q on =
    let p = cut_on k 0 q (c.outstanding_on g) on in
    elim (q == k) as (λ b. q == k ≡ b → (if b then client_off (conns k) else conns q).client_open ≡ true
    → (if b then client_off (conns k) else conns q).server_open ≡ true
    → 1 ≤ copies g (if b then client_off (conns k) else conns q)) [
      | true ↦ λ e. absurd (p.1 (eqb-true q k e))
      | false ↦ λ e. h g q p.0
    ] refl

cuts_ready : (w : World) (k : ℕ) → Here w → (b e : Bool) → b ≡ true
    → Here (with_client (cut_by w k (if b && e then CloseChannels else Nothing))
    (if b then (if e then end_session w.client else cut_channel w.client k) else w.client))
unfolding Here
cuts_ready w k h true true on = nothing_open w.client w.conns
cuts_ready w k h true false on = cut_one w.client w.conns k h
cuts_ready w k h false e on = absurd (cc)

cuts : (w : World) (k : ℕ) → Here w → Here (changed w (Cut k))
unfolding Here
cuts w k h =
    either Here (w.client.ready k) _ _ (λ on. cuts_ready w k h (w.client.ready k) (ends_at_cut w.client) on)
    (λ off. put_carried w.client w.conns k (client_off (w.conns k)) (λ g on o s. absurd (cc)) h)

no_server : (c : Client) (conns : ℕ → Conn) → Carried c (λ q. server_off (conns q))
no_server c conns g q on o s = absurd (cc)

absorbed_off : (w : World) (k : ℕ) (xs : List Sent) → Here (restarted (absorb_front w k xs))
unfolding Here
absorbed_off w k [] = no_server w.client w.conns
absorbed_off w k (x ∷ rest) = no_server w.client (put w.conns k (behind_front (w.conns k) rest))

crashes : (w : World) (k : ℕ) (kept : Bool) → Here (changed w (Crash k kept))
unfolding Here
crashes w k true = absorbed_off w k (w.conns k).up
crashes w k false = no_server w.client w.conns

opens : (w : World) (k : ℕ) (A : Answer) → ((g : ℕ) → w.client.outstanding_on g ≡ Some k → ⊥) → Here w → Here (opened_by w k A)
unfolding Here
opens w k A none h = put_carried w.client w.conns k _ (λ g on o s. absurd (none g on)) h

shown : (v : World) (n : ℕ) → Carried v.client v.conns → Carried (later v n).client (later v n).conns
shown v n h = h

pub carried_on : (w : World) (e : Event) (a : ℕ → ℕ) → Connections w.client w.conns a → Carried w.client w.conns
    → Carried (happens w e).client (happens w e).conns
unfolding Here
carried_on w (Submit g op) a fit h = either (λ (c : Client). Carried c w.conns) (may_take w.client g op)
    (take_op w.client g op) w.client (λ _. h) (λ _. h)
carried_on w (Open k) a fit h = either Here (may_open w k) (later (changed w (Open k)) 1) w
    (λ m. opens w k (step w.server w.moment (Accept k))
    (λ g on. shut (w.conns k).client_open (fit.ready k (fit.on_ready g k on).0).0 (closed_of w k m)) h) (λ _. h)
  where
    shut : (b : Bool) → b ≡ true → b ≡ false → ⊥
    shut b e f = absurd (cc)
carried_on w (Push k slotless pick) a fit h = either Here (w.client.ready k) (later (changed w (Push k slotless pick))
    1) w (λ _. pushes w k slotless pick h) (λ _. h)
carried_on w (Serve k) a fit h = either Here (may_serve w k) (later (serve_front w k (w.conns k).up) 1) w
    (λ _. serves w k h (w.conns k).up refl) (λ _. h)
carried_on w (Take k) a fit h = either Here ((w.conns k).client_open && is_filled (w.conns k).down)
    (later (take_reply w k (w.conns k).down) 1) w (λ m. takes w a k fit (front_of (w.conns k).client_open _ m) h
    (w.conns k).down refl) (λ _. h)
carried_on w (Cut k) a fit h = either Here (w.conns k).client_open (later (changed w (Cut k)) 1) w (λ _. cuts w k h) (λ _. h)
carried_on w (Drop k) a fit h = either Here (w.conns k).server_open (later (changed w (Drop k)) 1) w
    (λ _. put_carried w.client w.conns k (server_off (w.conns k)) (λ g on o s. absurd (cc)) h) (λ _. h)
carried_on w Restart a fit h = no_server w.client w.conns
carried_on w (Crash k kept) a fit h = either Here (may_serve w k) (later (changed w (Crash k kept)) 1) w (λ _. crashes w k kept) (λ _. h)
carried_on w (Wait n) a fit h = h
carried_on w (Finish refusal) a fit h = either Here (not w.client.live) (later (changed w (Finish refusal)) 1) w (λ _. h) (λ _. h)

-- ---- channels have numbers below 256

pub record Low (f : ℕ → Conn) : Type 0 where
  pub client : (k : ℕ) → (f k).client_open ≡ true → k < 256
  pub server : (k : ℕ) → (f k).server_open ≡ true → k < 256

put_low : (f : ℕ → Conn) (k : ℕ) (d : Conn) → (d.client_open ≡ true → k < 256) → (d.server_open ≡ true → k < 256) → Low f → Low (put f k d)
put_low f k d a b h =
    record {
      client = λ q. elim (q == k) as (λ t. q == k ≡ t → (if t then d else f q).client_open ≡ true → q < 256)
          [ true ↦ λ e o. subst (λ n. n < 256) (sym (eqb-true q k e)) (a o) | false ↦ λ e. h.client q ] refl;
      server = λ q. elim (q == k) as (λ t. q == k ≡ t → (if t then d else f q).server_open ≡ true → q < 256)
          [ true ↦ λ e o. subst (λ n. n < 256) (sym (eqb-true q k e)) (b o) | false ↦ λ e. h.server q ] refl;
    }

LowHere : World → Type 0
LowHere w = Low w.conns

low_cut : (f : ℕ → Conn) → Low f → Low (λ q. client_off (f q))
low_cut f h = record { client = λ q o. absurd (cc); server = h.server }

low_closed : (w : World) (k : ℕ) (x : Act) → Low w.conns → Low (closed_by w k x).conns
low_closed w k Nothing h = h
low_closed w k (Sends g) h = h
low_closed w k (Asks g) h = h
low_closed w k CloseChannel h = put_low w.conns k _ (λ o. absurd (cc)) (h.server k) h
low_closed w k CloseChannels h = low_cut w.conns h
low_closed w k AllSettled h = h

low_cut_by : (w : World) (k : ℕ) (x : Act) → Low w.conns → Low (cut_by w k x).conns
low_cut_by w k Nothing h = put_low w.conns k _ (λ o. absurd (cc)) (h.server k) h
low_cut_by w k (Sends g) h = put_low w.conns k _ (λ o. absurd (cc)) (h.server k) h
low_cut_by w k (Asks g) h = put_low w.conns k _ (λ o. absurd (cc)) (h.server k) h
low_cut_by w k CloseChannel h = put_low w.conns k _ (λ o. absurd (cc)) (h.server k) h
low_cut_by w k CloseChannels h = low_cut w.conns h
low_cut_by w k AllSettled h = put_low w.conns k _ (λ o. absurd (cc)) (h.server k) h

low_pushed : (w : World) (k : ℕ) (c : Client) (x : Act) → Low w.conns → Low (pushed_by w k c x).conns
low_pushed w k c Nothing h = h
low_pushed w k c (Sends g) h = put_low w.conns k _ (h.client k) (h.server k) h
low_pushed w k c (Asks g) h = put_low w.conns k _ (h.client k) (h.server k) h
low_pushed w k c CloseChannel h = h
low_pushed w k c CloseChannels h = h
low_pushed w k c AllSettled h = h

low_served : (w : World) (k : ℕ) (xs : List Sent) → Low w.conns → Low (serve_front w k xs).conns
low_served w k [] h = h
low_served w k (x ∷ rest) h =
    let y : Received = record {
      token = x.token;
      reply = (answer w x).reply;
      place = w.log.places;
    } in let f = put w.conns k (behind_front (w.conns k) rest) in let i = put_low w.conns k
    (behind_front (w.conns k) rest) (h.client k) (h.server k) h in let e = say_ends (f k) y in
    put_low f k (say_down (f k) y) (λ o. i.client k (sym e.0 ∙ o)) (λ o. i.server k (sym e.1 ∙ o)) i

low_dialog : (w : World) (k : ℕ) (r : Reply) (d : DialogStep) → Low w.conns → Low (dialog_took w k r d).conns
low_dialog w k r (GoesOn s) h = put_low w.conns k _ (h.client k) (h.server k) h
low_dialog w k r Accepts h = put_low w.conns k _ (h.client k) (h.server k) h
low_dialog w k r Binds h = low_closed w k _ h
low_dialog w k r Readies h = low_closed w k _ h
low_dialog w k r (Refuses status) h = low_closed w k CloseChannel h

low_taken : (w : World) (k : ℕ) (ys : List Received) → Low w.conns → Low (take_reply w k ys).conns
low_taken w k [] h = h
low_taken w k (y ∷ rest) h = by y.token
  where
    i : Low (put w.conns k (take_front (w.conns k) rest))
    i = put_low w.conns k (take_front (w.conns k) rest) (h.client k) (h.server k) h

    by : (t : Token) → Low (took_by (behind_reply w k rest) k y.reply y.place t).conns
    by ForDialog = low_dialog (behind_reply w k rest) k y.reply (dialog_step (w.client.stage k) y.reply.status) i
    by (ForOp g) = low_closed (behind_reply w k rest) k _ i
    by (ForAttach g) = low_closed (behind_reply w k rest) k _ i

low_off : (f : ℕ → Conn) → ((k : ℕ) → (f k).client_open ≡ true → k < 256) → Low (λ q. server_off (f q))
low_off f h = record { client = h; server = λ q o. absurd (cc) }

low_crashed : (w : World) (k : ℕ) (xs : List Sent) → Low w.conns → Low (restarted (absorb_front w k xs)).conns
low_crashed w k [] h = low_off w.conns h.client
low_crashed w k (x ∷ rest) h = low_off (put w.conns k (behind_front (w.conns k) rest))
    (put_low w.conns k (behind_front (w.conns k) rest) (h.client k) (h.server k) h).client

low_crash : (w : World) (k : ℕ) (kept : Bool) → Low w.conns → Low (changed w (Crash k kept)).conns
low_crash w k true h = low_crashed w k (w.conns k).up h
low_crash w k false h = low_off w.conns h.client

low_number : (k : ℕ) → nat_lt k max_channel ≡ true → k < 256
low_number k e = grind (arith, nat_tests)

pub low_on : (w : World) (e : Event) → Low w.conns → Low (happens w e).conns
low_on w (Submit g op) h = h
low_on w (Open k) h = either (λ (v : World). Low v.conns) (may_open w k) (later (changed w (Open k)) 1) w
    (λ m. let l = low_number k (front_of (nat_lt k max_channel) _ m) in put_low w.conns k _ (λ o. l) (λ o. l) h)
    (λ _. h)
low_on w (Push k slotless pick) h = either (λ (v : World). Low v.conns) (w.client.ready k)
    (later (changed w (Push k slotless pick)) 1) w (λ _. low_pushed w k _ _ h) (λ _. h)
low_on w (Serve k) h = either (λ (v : World). Low v.conns) (may_serve w k) (later (serve_front w k (w.conns k).up) 1) w
    (λ _. low_served w k (w.conns k).up h) (λ _. h)
low_on w (Take k) h = either (λ (v : World). Low v.conns) ((w.conns k).client_open && is_filled (w.conns k).down)
    (later (take_reply w k (w.conns k).down) 1) w (λ _. low_taken w k (w.conns k).down h) (λ _. h)
low_on w (Cut k) h =
    either (λ (v : World). Low v.conns) (w.conns k).client_open (later (changed w (Cut k)) 1) w
    (λ _. either (λ (v : World). Low v.conns) (w.client.ready k) _ _ (λ _. low_cut_by w k _ h)
    (λ _. put_low w.conns k _ (λ o. absurd (cc)) (h.server k) h)) (λ _. h)
low_on w (Drop k) h = either (λ (v : World). Low v.conns) (w.conns k).server_open (later (changed w (Drop k)) 1) w
    (λ _. put_low w.conns k _ (h.client k) (λ o. absurd (cc)) h) (λ _. h)
low_on w Restart h = low_off w.conns h.client
low_on w (Crash k kept) h = either (λ (v : World). Low v.conns) (may_serve w k) (later (changed w (Crash k kept)) 1) w
    (λ _. low_crash w k kept h) (λ _. h)
low_on w (Wait n) h = h
low_on w (Finish refusal) h = either (λ (v : World). Low v.conns) (not w.client.live)
    (later (changed w (Finish refusal)) 1) w (λ _. h) (λ _. h)
