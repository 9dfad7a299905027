-- Events that leave the client's dialogs, its ready channels and their numbers as they were.
use Rattle.std.proofs.Common.{◌≡◌, ℕ, ◌==◌, Bool, true, false, not, ◌&&◌, if◌then◌else◌, List, [], ◌∷◌, ◌++◌, refl, ap, ◌∙◌}
use Rattle.std.proofs.Common.{Option, Some, None}
use Rattle.spec_exchange.specs.Table.{put, put2}
use Rattle.spec_exchange.specs.Status.{disk_full}
use Rattle.spec_exchange.specs.State.{Body, Reply}
use Rattle.spec_exchange.specs.Operations.{Outcome, Unsettled, WasOk, WasRefused, NoSlot, NoOpen, Unknown, is_create, is_close}
use Rattle.spec_exchange.specs.Operations.{is_lock, id_in}
use Rattle.spec_exchange.specs.Client.{Client, Stage, create_for, may_push, goes_itself, has_its_slot, take_slot}
use Rattle.spec_exchange.specs.Client.{begin, again, begun, outstanding, asked, lacks_slot, settle_no_slot, settle_no_slots}
use Rattle.spec_exchange.specs.Settling.{Heard as Hearing, Settles, GoesAgain, Attaches, EndsSession, noted_ok, noted, noted_full}
use Rattle.spec_exchange.specs.Settling.{settled, settle, settles_open, with_no_opens, hear}
use Rattle.spec_exchange.specs.ClientStep.{Pick, Pushes, Act, Nothing, Sends, Asks, CloseChannel, CloseChannels, AllSettled}
use Rattle.spec_exchange.specs.ClientStep.{client_after, itself_after, op_after, pick_after}
use Rattle.spec_exchange.specs.Network.{World as Values, Conn, Sent, Received, Token, with_client, pushed_by, server_off}
use Rattle.spec_exchange.specs.Network.{behind_front, take_front, say_down, replied}
use Rattle.spec_world.specs.Connection.{LastTaken, ConnectionStep}
use Rattle.spec_world.specs.World.{World, Wires, with_values, pushed_wires, server_end_off, dropped_wires}
use Rattle.spec_world.specs.World.{values_took, replied_each, values_said, answered_wires, served_on, served_mutely}
use Rattle.spec_world.specs.World.{restarted_wires, behind_frame}
use Rattle.spec_world.specs.Events.{tampered, with_front, bytes_later}
use Rattle.law_ties.proofs.channel_numbers.Moves.{put_field, remembered, Unmoved}

-- ---- the client

pub record Same (c d : Client) : Type 0 where
  pub live : d.live ≡ c.live
  pub making : d.making ≡ c.making
  pub ready : d.ready ≡ c.ready
  pub stage : d.stage ≡ c.stage

pub same : (c : Client) → Same c c
same c = record { live = refl; making = refl; ready = refl; stage = refl }

joined : (c d e : Client) → Same c d → Same d e → Same c e
joined c d e a b = record {
  live = b.live ∙ a.live;
  making = b.making ∙ a.making;
  ready = b.ready ∙ a.ready;
  stage = b.stage ∙ a.stage;
}

same_if : (c : Client) (b : Bool) (x y : Client) → Same c x → Same c y → Same c (if b then x else y)
same_if c true x y e f = e
same_if c false x y e f = f

-- ---- Push

no_slot : (c : Client) (k g : ℕ) → Same c (settle_no_slot c k g)
no_slot c k g =
    same_if c (lacks_slot c k g) (record c { outcome = put c.outcome g (NoSlot (create_for c g)) }) c
    (record { live = refl; making = refl; ready = refl; stage = refl }) (same c)

no_slots : (c : Client) (k : ℕ) (gs : List ℕ) → Same c (settle_no_slots c k gs)
unfolding settle_no_slots
no_slots c k [] = same c
no_slots c k (g ∷ gs) =
    joined c (settle_no_slot c k g) (settle_no_slots (settle_no_slot c k g) k gs) (no_slot c k g) (no_slots (settle_no_slot c k g) k gs)

again_same : (c : Client) (g : ℕ) → Same c (again c g)
again_same c g =
    same_if c (is_lock (c.op g)) (record c { retried = put2 c.retried (create_for c g) (c.slot_of g) c.session_number }) c
    (record { live = refl; making = refl; ready = refl; stage = refl }) (same c)

begin_same : (c : Client) (g i : ℕ) → Same c (begin c g i)
begin_same c g i =
    same_if c (is_lock (c.op g)) (record (take_slot c g i) { sent = put c.sent g true }) (record c { sent = put c.sent g true })
    (record { live = refl; making = refl; ready = refl; stage = refl }) (record { live = refl; making = refl; ready = refl; stage = refl })

begun_same : (c : Client) (g i : ℕ) → Same c (begun c g i)
begun_same c g i = same_if c (c.sent g) (again c g) (begin c g i) (again_same c g) (begin_same c g i)

out_same : (c d : Client) (k g : ℕ) → Same c d → Same c (outstanding d k g)
out_same c d k g s = record { live = s.live; making = s.making; ready = s.ready; stage = s.stage }

op_same : (c : Client) (k g i : ℕ) → Same c (op_after c k g i)
op_same c k g i =
    same_if c (may_push c k g) (if goes_itself c g then itself_after c k g i else asked c k g) c
    (same_if c (goes_itself c g) (itself_after c k g i) (asked c k g)
    (same_if c (has_its_slot c g i) (outstanding (begun c g i) k g) c (out_same c (begun c g i) k g (begun_same c g i)) (same c))
    (record { live = refl; making = refl; ready = refl; stage = refl })) (same c)

pick_same : (c : Client) (k : ℕ) (pick : Option Pick) → Same c (pick_after c k pick)
pick_same c k None = same c
pick_same c k (Some p) = op_same c k p.op p.slot

pub push_same : (c : Client) (k : ℕ) (slotless : List ℕ) (pick : Option Pick) → Same c (client_after c (Pushes k slotless pick))
push_same c k slotless pick =
    same_if c (c.ready k) (pick_after (settle_no_slots c k slotless) k pick) c
    (joined c (settle_no_slots c k slotless) (pick_after (settle_no_slots c k slotless) k pick) (no_slots c k slotless)
    (pick_same (settle_no_slots c k slotless) k pick)) (same c)

-- ---- a reply that doesn't end the session

ok_same : (c : Client) (g : ℕ) (body : Body) → Same c (noted_ok c g body)
ok_same c g body =
    let more : Client = if is_close (c.op g) then record c { closed_ok = put c.closed_ok (create_for c g) true } else c in
    same_if c (is_create (c.op g))
    (record c { file = put c.file g (id_in body); attached = put c.attached g c.session_number }) more (record {
      live = refl;
      making = refl;
      ready = refl;
      stage = refl;
    })
    (same_if c (is_close (c.op g)) (record c { closed_ok = put c.closed_ok (create_for c g) true }) c
    (record { live = refl; making = refl; ready = refl; stage = refl }) (same c))

noted_same : (c : Client) (g : ℕ) (o : Outcome) (body : Body) → Same c (noted c g o body)
noted_same c g Unsettled body = same c
noted_same c g (WasOk reply) body = ok_same c g body
noted_same c g (WasRefused status) body = same c
noted_same c g (NoSlot create) body = same c
noted_same c g (NoOpen create) body = same c
noted_same c g (Unknown why) body = same c

full_same : (c d : Client) (g : ℕ) (asking : Bool) (status : ℕ) → Same c d → Same c (noted_full d g asking status)
full_same c d g asking status s =
    same_if c (is_lock (d.op g) && (not asking && (status == disk_full)))
    (record d { full = put2 d.full (create_for d g) (d.slot_of g) true }) d
    (record { live = s.live; making = s.making; ready = s.ready; stage = s.stage }) s

settled_same : (c d : Client) (g : ℕ) (o : Outcome) (place : ℕ) → Same c d → Same c (settled d g o place)
settled_same c d g o place s = record { live = s.live; making = s.making; ready = s.ready; stage = s.stage }

settle_same : (c : Client) (g : ℕ) (asking : Bool) (r : Reply) (place : ℕ) (o : Outcome) → Same c (settle c g asking r place o)
settle_same c g asking r place o =
    let n = noted c g o r.body in
    let f = noted_full n g asking r.status in
    let d = settled f g o place in
    let s = settled_same c f g o place (full_same c n g asking r.status (noted_same c g o r.body)) in
    same_if c (settles_open (c.op g)) (with_no_opens d (create_for c g)) d
    (record { live = s.live; making = s.making; ready = s.ready; stage = s.stage }) s

abbrev pub stays : Hearing → Bool
stays EndsSession = false
stays _ = true

pub hear_same : (c : Client) (g : ℕ) (asking : Bool) (r : Reply) (place : ℕ) (h : Hearing) → stays h ≡ true
    → Same c (hear c g asking r place h)
hear_same c g asking r place (Settles o) e = settle_same c g asking r place o
hear_same c g asking r place GoesAgain e = record { live = refl; making = refl; ready = refl; stage = refl }
hear_same c g asking r place Attaches e = record { live = refl; making = refl; ready = refl; stage = refl }
hear_same c g asking r place EndsSession e = absurd (let h : false ≡ true = e in cc)

-- ---- worlds with that client

pub client_unmoved : (w : World) (d : Client) → Same w.values.client d → Unmoved w (with_values w (with_client w.values d))
client_unmoved w d s = record {
  live = s.live;
  making = s.making;
  ready = λ k. ap (λ (f : ℕ → Bool). f k) s.ready;
  stage = λ k. ap (λ (f : ℕ → Stage). f k) s.stage;
  is_open = λ k. refl;
  end_stage = λ k. refl;
  channel = λ k. refl;
  ends = λ k. refl;
  numbers = refl;
  accepted = refl;
}

-- one connection's ends and lists change besides, but neither the client's stage there nor its number
pub one_unmoved : (w v : World) (k : ℕ) (c : Conn) (u : Wires) → Same w.values.client v.values.client
    → v.values.conns ≡ put w.values.conns k c → v.wires ≡ put w.wires k u → v.numbers ≡ w.numbers
    → v.accepted ≡ w.accepted → c.client_open ≡ (w.values.conns k).client_open → u.client_end.stage ≡ (w.wires k).client_end.stage
    → u.client_end.channel ≡ (w.wires k).client_end.channel
    → remembered u.client_end ≡ remembered (w.wires k).client_end → Unmoved w v
one_unmoved w v k c u s conns wires n more o a b r = record {
  live = s.live;
  making = s.making;
  ready = λ j. ap (λ (f : ℕ → Bool). f j) s.ready;
  stage = λ j. ap (λ (f : ℕ → Stage). f j) s.stage;
  is_open = λ j. ap (λ (f : ℕ → Conn). (f j).client_open) conns ∙ put_field (λ (x : Conn). x.client_open) w.values.conns k c o j;
  end_stage = λ j. ap (λ (f : ℕ → Wires). (f j).client_end.stage) wires
      ∙ put_field (λ (x : Wires). x.client_end.stage) w.wires k u a j;
  channel = λ j. ap (λ (f : ℕ → Wires). (f j).client_end.channel) wires
      ∙ put_field (λ (x : Wires). x.client_end.channel) w.wires k u b j;
  ends = λ j. ap (λ (f : ℕ → Wires). remembered (f j).client_end) wires
      ∙ put_field (λ (x : Wires). remembered x.client_end) w.wires k u r j;
  numbers = n;
  accepted = more;
}

pub later_unmoved : (w : World) (n : ℕ) → Unmoved w (bytes_later w n)
later_unmoved w n = record {
  live = refl;
  making = refl;
  ready = λ k. refl;
  stage = λ k. refl;
  is_open = λ k. refl;
  end_stage = λ k. refl;
  channel = λ k. refl;
  ends = λ k. refl;
  numbers = refl;
  accepted = refl;
}

pub pushed_unmoved : (w : World) (k : ℕ) (d : Client) (a : Act) → Same w.values.client d
    → Unmoved w (with_values (pushed_wires w k d a) (pushed_by w.values k d a))
pushed_unmoved w k d (Sends g) s =
    one_unmoved w (with_values (pushed_wires w k d (Sends g)) (pushed_by w.values k d (Sends g))) k _ _ s refl refl refl
    refl refl refl refl refl
pushed_unmoved w k d (Asks g) s =
    one_unmoved w (with_values (pushed_wires w k d (Asks g)) (pushed_by w.values k d (Asks g))) k _ _ s refl refl refl
    refl refl refl refl refl
pushed_unmoved w k d Nothing s = client_unmoved w d s
pushed_unmoved w k d CloseChannel s = client_unmoved w d s
pushed_unmoved w k d CloseChannels s = client_unmoved w d s
pushed_unmoved w k d AllSettled s = client_unmoved w d s

-- ---- Serve

said_client : (v : Values) (k : ℕ) (y : Received) (fs : List (List ℕ)) → (replied_each v k y fs).client ≡ v.client
unfolding replied_each
said_client v k y [] = refl
said_client v k y (f ∷ fs) = said_client (replied v k y) k y fs

still_open : (c : Conn) (y : Received) → (say_down c y).client_open ≡ c.client_open
still_open c y = by c.client_open
  where
    by : (b : Bool) → (if b then record c { down = c.down ++ y ∷ [] } else c).client_open ≡ c.client_open
    by true = refl
    by false = refl

said_open : (v : Values) (k : ℕ) (y : Received) (fs : List (List ℕ)) (j : ℕ)
    → ((replied_each v k y fs).conns j).client_open ≡ (v.conns j).client_open
unfolding replied_each
said_open v k y [] j = refl
said_open v k y (f ∷ fs) j =
    said_open (replied v k y) k y fs j
    ∙ put_field (λ (x : Conn). x.client_open) v.conns k (say_down (v.conns k) y) (still_open (v.conns k) y) j

took_client : (v : Values) (k : ℕ) (token : Token) (xs : List Sent) (o : Option LastTaken) → (values_took v k token xs o).client ≡ v.client
took_client v k token xs None = refl
took_client v k token xs (Some t) = refl

took_open : (v : Values) (k : ℕ) (token : Token) (xs : List Sent) (o : Option LastTaken) (j : ℕ)
    → ((values_took v k token xs o).conns j).client_open ≡ (v.conns j).client_open
took_open v k token xs None j = put_field (λ (x : Conn). x.client_open) v.conns k (behind_front (v.conns k) xs) refl j
took_open v k token xs (Some t) j = put_field (λ (x : Conn). x.client_open) v.conns k (behind_front (v.conns k) xs) refl j

pub served_unmoved : (w : World) (k : ℕ) (bs : List (List ℕ)) (xs : List Sent) (token : Token) (S : ConnectionStep)
    → Unmoved w (served_on w k bs xs token S)
served_unmoved w k bs xs token S =
    let u = answered_wires (w.wires k) (w.values.conns k).client_open S.server_end bs S.frames in
    let v = values_took w.values k token xs S.taken in
    let is : (values_said w.values k token xs S).client ≡ w.values.client =
    said_client v k _ S.frames ∙ took_client w.values k token xs S.taken in record {
      live = ap (λ (c : Client). c.live) is;
      making = ap (λ (c : Client). c.making) is;
      ready = λ j. ap (λ (c : Client). c.ready j) is;
      stage = λ j. ap (λ (c : Client). c.stage j) is;
      is_open = λ j. said_open v k _ S.frames j ∙ took_open w.values k token xs S.taken j;
      end_stage = λ j. put_field (λ (x : Wires). x.client_end.stage) w.wires k u refl j;
      channel = λ j. put_field (λ (x : Wires). x.client_end.channel) w.wires k u refl j;
      ends = λ j. put_field (λ (x : Wires). remembered x.client_end) w.wires k u refl j;
      numbers = refl;
      accepted = refl;
    }

pub mutely_unmoved : (w : World) (k : ℕ) (bs : List (List ℕ)) (xs : List Sent) (token : Token) (S : ConnectionStep)
    → Unmoved w (served_mutely w k bs xs token S)
mutely_unmoved w k bs xs token S =
    let u : Wires = record (w.wires k) { server_end = S.server_end; up = bs } in
    let is = took_client w.values k token xs S.taken in record {
      live = ap (λ (c : Client). c.live) is;
      making = ap (λ (c : Client). c.making) is;
      ready = λ j. ap (λ (c : Client). c.ready j) is;
      stage = λ j. ap (λ (c : Client). c.stage j) is;
      is_open = λ j. took_open w.values k token xs S.taken j;
      end_stage = λ j. put_field (λ (x : Wires). x.client_end.stage) w.wires k u refl j;
      channel = λ j. put_field (λ (x : Wires). x.client_end.channel) w.wires k u refl j;
      ends = λ j. put_field (λ (x : Wires). remembered x.client_end) w.wires k u refl j;
      numbers = refl;
      accepted = refl;
    }

pub dropped_unmoved : (w : World) (k : ℕ) → Unmoved w (dropped_wires w k)
dropped_unmoved w k = record {
  live = refl;
  making = refl;
  ready = λ j. refl;
  stage = λ j. refl;
  is_open = λ j. put_field (λ (x : Conn). x.client_open) w.values.conns k (server_off (w.values.conns k)) refl j;
  end_stage = λ j. put_field (λ (x : Wires). x.client_end.stage) w.wires k (server_end_off (w.wires k)) refl j;
  channel = λ j. put_field (λ (x : Wires). x.client_end.channel) w.wires k (server_end_off (w.wires k)) refl j;
  ends = λ j. put_field (λ (x : Wires). remembered x.client_end) w.wires k (server_end_off (w.wires k)) refl j;
  numbers = refl;
  accepted = refl;
}

pub restarted_unmoved : (w : World) → Unmoved w (restarted_wires w)
restarted_unmoved w = record {
  live = refl;
  making = refl;
  ready = λ j. refl;
  stage = λ j. refl;
  is_open = λ j. refl;
  end_stage = λ j. refl;
  channel = λ j. refl;
  ends = λ j. refl;
  numbers = refl;
  accepted = refl;
}

-- ---- Take's front leaves, and the front is changed

pub behind_unmoved : (w : World) (k : ℕ) (bs : List (List ℕ)) (ys : List Received) → Unmoved w (behind_frame w k bs ys)
behind_unmoved w k bs ys = record {
  live = refl;
  making = refl;
  ready = λ j. refl;
  stage = λ j. refl;
  is_open = λ j. put_field (λ (x : Conn). x.client_open) w.values.conns k (take_front (w.values.conns k) ys) refl j;
  end_stage = λ j. put_field (λ (x : Wires). x.client_end.stage) w.wires k (record (w.wires k) { down = bs }) refl j;
  channel = λ j. put_field (λ (x : Wires). x.client_end.channel) w.wires k (record (w.wires k) { down = bs }) refl j;
  ends = λ j. put_field (λ (x : Wires). remembered x.client_end) w.wires k (record (w.wires k) { down = bs }) refl j;
  numbers = refl;
  accepted = refl;
}

pub tampered_unmoved : (w : World) (k : ℕ) (up : Bool) (change : List ℕ → List ℕ) → Unmoved w (tampered w k up change)
tampered_unmoved w k true change = record {
  live = refl;
  making = refl;
  ready = λ j. refl;
  stage = λ j. refl;
  is_open = λ j. refl;
  end_stage = λ j. put_field (λ (x : Wires). x.client_end.stage) w.wires k
      (record (w.wires k) { up = with_front change (w.wires k).up }) refl j;
  channel = λ j. put_field (λ (x : Wires). x.client_end.channel) w.wires k
      (record (w.wires k) { up = with_front change (w.wires k).up }) refl j;
  ends = λ j. put_field (λ (x : Wires). remembered x.client_end) w.wires k
      (record (w.wires k) { up = with_front change (w.wires k).up }) refl j;
  numbers = refl;
  accepted = refl;
}
tampered_unmoved w k false change = record {
  live = refl;
  making = refl;
  ready = λ j. refl;
  stage = λ j. refl;
  is_open = λ j. refl;
  end_stage = λ j. put_field (λ (x : Wires). x.client_end.stage) w.wires k
      (record (w.wires k) { down = with_front change (w.wires k).down }) refl j;
  channel = λ j. put_field (λ (x : Wires). x.client_end.channel) w.wires k
      (record (w.wires k) { down = with_front change (w.wires k).down }) refl j;
  ends = λ j. put_field (λ (x : Wires). remembered x.client_end) w.wires k
      (record (w.wires k) { down = with_front change (w.wires k).down }) refl j;
  numbers = refl;
  accepted = refl;
}
