-- Each event, and each run.
use Rattle.std.proofs.Common.{◌≡◌, ℕ, zero, suc, ◌<◌, ◌^◌, nat_lt, Bool, true, false, not, ◌&&◌, ◌||◌, if◌then◌else◌}
use Rattle.std.proofs.Common.{List, [], ◌∷◌, length, refl, sym, ap, ◌∙◌, subst, arith, Option, Some, None, Result, Ok, Err, slice_get}
use Rattle.std.proofs.lemmas.Bool.Decides.{nat_tests}
use Rattle.spec_exchange.specs.Table.{is_filled}
use Rattle.spec_exchange.specs.State.{Server}
use Rattle.spec_exchange.specs.Operations.{Op, NoSession, weight, charge}
use Rattle.spec_exchange.specs.Client.{Client, SaidSecond, may_take, take_op, finish, own_message, ask_message, settle_no_slots}
use Rattle.spec_exchange.specs.ClientStep.{Pick, Pushes, Act, Nothing, Sends as SendsOp, Asks, CloseChannel, CloseChannels, AllSettled}
use Rattle.spec_exchange.specs.ClientStep.{some_unsettled, act, client_after, pick_act}
use Rattle.spec_exchange.specs.Network.{Event, Submit, Open, Push, Serve, Take, Cut, Drop, Restart, Crash, Wait, Finish, Sent, Received}
use Rattle.spec_exchange.specs.Network.{World as Values, Token, ForOp, ForAttach, with_client, is_possible, moments, pushed_by, replied}
use Rattle.spec_crypto.specs.sessions.Nonces.{NonceState}
use Rattle.law_crypto.proofs.sealing.Opening.{nonces_differ}
use Rattle.spec_world.specs.Settings.{ServerSettings, WorldSettings}
use Rattle.spec_world.specs.Ends.{ServerEnd, Logons, ConnEnd, Spent}
use Rattle.spec_world.specs.Hearing.{Frame, check_frame}
use Rattle.spec_world.specs.Answering.{Seal, joined_in, text_limit, all_texts, each_joined, has_nonces, seals_by}
use Rattle.spec_world.specs.Connection.{LastTaken, Going, ConnectionStep, ended_by, answered_in, answered_with}
use Rattle.spec_world.specs.Connection.{beginning, went_all, step_of}
use Rattle.spec_world.specs.Dialog.{dialog_response}
use Rattle.spec_world.specs.Sending.{line_frame, may_seal, spent, sealed_on}
use Rattle.spec_world.specs.World.{World, Wires, queued, with_values, cost, may_pay}
use Rattle.spec_world.specs.World.{paid, pushed_wires, values_took, replied_each, values_said, answered_wires, served_on, served_mutely}
use Rattle.spec_world.specs.World.{served_by, step_at, serve_frame, absorb_frame, server_end_off, dropped_wires, behind_frame, take_frame}
use Rattle.spec_world.specs.World.{restarted_wires}
use Rattle.spec_world.specs.Events.{ByteEvent, Plain, Tamper, with_front, tampered, may_tamper, bytes_changed, bytes_later, bytes_happen}
use Rattle.spec_world.specs.Events.{bytes_run, bytes_start}
use Rattle.law_server.proofs.tables.Logic.{either}
use Rattle.law_ties.specs.channel_numbers.Counted.{Counted}
use Rattle.law_ties.proofs.channel_numbers.Moves.{put_field, not_both, unmoved}
use Rattle.law_ties.proofs.channel_numbers.Quiet.{Same, same, client_unmoved, later_unmoved, push_same, pushed_unmoved}
use Rattle.law_ties.proofs.channel_numbers.Quiet.{served_unmoved, mutely_unmoved}
use Rattle.law_ties.proofs.channel_numbers.Quiet.{dropped_unmoved, restarted_unmoved, behind_unmoved, tampered_unmoved}
use Rattle.law_ties.proofs.channel_numbers.Runs.{happen_next, start_counted}
use Rattle.law_nonces.specs.server_nonces.Numbering.{Sealer, ToClient, NonceNumbered}
use Rattle.law_ties.proofs.events.Columns.{push_keeps}
use Rattle.law_nonces.specs.client_nonces.Sent.{NoncesToServerOnce, NoncesToServer, IsSealingNew, AreNew, senders}
use Rattle.law_nonces.specs.client_nonces.Sent.{turned_around, all_turned, SealingSends}
use Rattle.law_nonces.proofs.client_nonces.Seals.{turned_append, turned_found, AllDown, down_keeps, by_down, up_found}
use Rattle.law_nonces.proofs.client_nonces.Ends.{untouched, first_true, sent}
use Rattle.law_nonces.proofs.client_nonces.Dialogs.{cut_sends, hears_sends, opened_sends}

-- ---- the client alone

submit_same : (c : Client) (g : ℕ) (op : Op) (b : Bool) → Same c (if b then take_op c g op else c)
submit_same c g op true = record { live = refl; making = refl; ready = refl; stage = refl }
submit_same c g op false = same c

submit_rank : (c : Client) (g : ℕ) (op : Op) (b : Bool) → (if b then take_op c g op else c).rank ≡ c.rank
submit_rank c g op true = refl
submit_rank c g op false = refl

client_sends : (w : World) (d : Client) → Same w.values.client d → d.rank ≡ w.values.client.rank → SealingSends w
    → SealingSends (with_values w (with_client w.values d))
client_sends w d s rank i =
    untouched w (with_values w (with_client w.values d)) (record {
      unmoved = client_unmoved w d s;
      session = λ k. refl;
      counter = λ k. refl;
      keys = refl;
      seals = λ ends drawn q. q;
      rank = rank;
      ups = λ b y e up. (b, e);
    }) i

-- ---- Push: what goes up is from a ready channel, and has a nonce where it is sealed

abbrev goes_up : Act → Bool
goes_up (SendsOp g) = true
goes_up (Asks g) = true
goes_up _ = false

ready_by : (r s : Bool) (a : Act) → goes_up (if r then a else if s then CloseChannels else AllSettled) ≡ true
    → (r ≡ true) × (goes_up a ≡ true)
ready_by true s a e = (refl, e)
ready_by false true a e = absurd (let h : false ≡ true = e in cc)
ready_by false false a e = absurd (let h : false ≡ true = e in cc)

none_goes : (b : Bool) → goes_up (if b then Nothing else AllSettled) ≡ true → ⊥
none_goes true e = absurd (let h : false ≡ true = e in cc)
none_goes false e = absurd (let h : false ≡ true = e in cc)

-- a pick that isn't paid for is none
pick_paid : (c : Client) (k : ℕ) (pick : Option Pick) (b : Bool) → goes_up (pick_act c k (if b then pick else None)) ≡ true → b ≡ true
pick_paid c k pick true e = refl
pick_paid c k pick false e = absurd (none_goes (some_unsettled c c.taken) e)

last_of : (a b : Bool) → (a && b) ≡ true → b ≡ true
last_of true b e = e
last_of false b e = not_both false e refl

below : (n : ℕ) → nat_lt n 0xffff_ffff_ffff_ffff ≡ true → n < 2 ^ 64
below n h = grind (arith, nat_tests)

room_by : (e : Bool) (n : ℕ) → (not e || nat_lt n 0xffff_ffff_ffff_ffff) ≡ true → e ≡ true → n < 2 ^ 64
room_by true n h f = below n h
room_by false n h f = not_both false f refl

pub record IsReady (w : World) (k : ℕ) : Type 0 where
  pub ready : w.values.client.ready k ≡ true
  pub bound : (w.wires k).client_end.encrypts ≡ true → (w.wires k).client_end.counter < 2 ^ 64

push_ready : (w : World) (k : ℕ) (slotless : List ℕ) (pick : Option Pick)
    → goes_up (act w.values.client (Pushes k slotless (paid w k slotless pick))) ≡ true → IsReady w k
push_ready w k slotless pick e =
    let c = w.values.client in
    let n = (w.wires k).client_end in
    let d = settle_no_slots c k slotless in
    let r = ready_by (c.ready k) (some_unsettled c c.taken) (pick_act d k (paid w k slotless pick)) e in
    let may = may_pay n (cost c k slotless pick) in
    let pays : may ≡ true = pick_paid d k pick may r.1 in
    record { ready = r.0; bound = room_by n.encrypts n.counter (last_of _ (may_seal n) pays) }

pushed_sends : (w : World) (k : ℕ) (d : Client) (a : Act) → Same w.values.client d → d.rank ≡ w.values.client.rank
    → (goes_up a ≡ true → IsReady w k) → SealingSends w
    → SealingSends (with_values (pushed_wires w k d a) (pushed_by w.values k d a))
pushed_sends w k d (SendsOp g) s rank r i =
    let v = with_values (pushed_wires w k d (SendsOp g)) (pushed_by w.values k d (SendsOp g)) in
    let n = (w.wires k).client_end in
    let m = own_message d k n.purse.next g in
    let count = charge (weight (d.op g)) in
    let is = r refl in
    sent w v k m count (ForOp g) (record {
      unmoved = pushed_unmoved w k d (SendsOp g) s;
      on = first_true (w.values.client.ready k) _ is.ready;
      bound = is.bound;
      u = queued (w.wires k) (sealed_on (spent n count (ForOp g))) (line_frame n m count);
      end = refl;
      wires = refl;
      keys = refl;
      seals = refl;
      rank = rank;
    }) i
pushed_sends w k d (Asks g) s rank r i =
    let v = with_values (pushed_wires w k d (Asks g)) (pushed_by w.values k d (Asks g)) in
    let n = (w.wires k).client_end in
    let m = ask_message d k n.purse.next g in
    let is = r refl in
    sent w v k m 1 (ForAttach g) (record {
      unmoved = pushed_unmoved w k d (Asks g) s;
      on = first_true (w.values.client.ready k) _ is.ready;
      bound = is.bound;
      u = queued (w.wires k) (sealed_on (spent n 1 (ForAttach g))) (line_frame n m 1);
      end = refl;
      wires = refl;
      keys = refl;
      seals = refl;
      rank = rank;
    }) i
pushed_sends w k d Nothing s rank r i = client_sends w d s rank i
pushed_sends w k d CloseChannel s rank r i = client_sends w d s rank i
pushed_sends w k d CloseChannels s rank r i = client_sends w d s rank i
pushed_sends w k d AllSettled s rank r i = client_sends w d s rank i

-- ---- Serve: what servers seal goes to a client

with_down : (f : ServerEnd) (sealed : Bool) (g : Going) (rows : List (List (List ℕ))) (texts : List (List ℕ))
    → AllDown (answered_with f sealed g rows texts).sealings
with_down f sealed g rows texts =
    either AllDown sealed (seals_by f.keys f texts) [] (λ _. by_down f.keys f texts) (λ _. tt)

in_down : (f : ServerEnd) (sealed : Bool) (g : Going) (rows : List (List (List ℕ))) → AllDown (answered_in f sealed g rows).sealings
in_down f sealed g rows =
    either (λ (S : ConnectionStep). AllDown S.sealings) (sealed && not (has_nonces f (length rows)))
    (ended_by g.server g.logons f g.taken Spent) (answered_with f sealed g rows (each_joined rows)) (λ _. tt)
    (λ _. with_down f sealed g rows (each_joined rows))

of_down : (z : ServerSettings) (k now : ℕ) (fresh : List ℕ) (s : Server) (L : Logons) (f : ServerEnd) (r : Result Frame ConnEnd)
    → AllDown (step_of z k now fresh s L f r).sealings
of_down z k now fresh s L f (Err why) = tt
of_down z k now fresh s L f (Ok x) =
    let g = went_all z k now fresh x.server_end (beginning s L x.server_end) x.messages in
    in_down x.server_end x.sealed g (all_texts x.sealed (joined_in (text_limit x.sealed) g.replies))

step_down : (z : WorldSettings) (w : World) (k : ℕ) (b : List ℕ) → AllDown (step_at z w k b).sealings
step_down z w k b =
    of_down z.server k w.values.moment _ w.values.server w.logons (w.wires k).server_end (check_frame (w.wires k).server_end b)

said_client : (v : Values) (k : ℕ) (y : Received) (fs : List (List ℕ)) → (replied_each v k y fs).client ≡ v.client
unfolding replied_each
said_client v k y [] = refl
said_client v k y (f ∷ fs) = said_client (replied v k y) k y fs

took_client : (v : Values) (k : ℕ) (token : Token) (xs : List Sent) (o : Option LastTaken) → (values_took v k token xs o).client ≡ v.client
took_client v k token xs None = refl
took_client v k token xs (Some t) = refl

served_sends : (w : World) (k : ℕ) (bs : List (List ℕ)) (x : Sent) (xs : List Sent) (S : ConnectionStep)
    → AllDown S.sealings → SealingSends w
    → SealingSends (served_on w k bs xs x.token S)
served_sends w k bs x xs S down i =
    let v = served_on w k bs xs x.token S in
    let is : (values_said w.values k x.token xs S).client ≡ w.values.client =
    said_client (values_took w.values k x.token xs S.taken) k _ S.frames ∙ took_client w.values k x.token xs S.taken in
    let u = answered_wires (w.wires k) (w.values.conns k).client_open S.server_end bs S.frames in
    untouched w v (record {
      unmoved = served_unmoved w k bs xs x.token S;
      session = λ j. put_field (λ (y : Wires). y.client_end.keys.session) w.wires k u refl j;
      counter = λ j. put_field (λ (y : Wires). y.client_end.counter) w.wires k u refl j;
      keys = refl;
      seals = λ ends drawn q. subst (λ us. NonceNumbered us ends drawn) (sym (turned_append w.sealings S.sealings))
          (down_keeps (all_turned w.sealings) S.sealings ends drawn down q);
      rank = ap (λ (c : Client). c.rank) is;
      ups = λ b y e up. up_found w.sealings S.sealings b y down e up;
    }) i

mutely_sends : (w : World) (k : ℕ) (bs : List (List ℕ)) (x : Sent) (xs : List Sent) (S : ConnectionStep) → SealingSends w
    → SealingSends (served_mutely w k bs xs x.token S)
mutely_sends w k bs x xs S i =
    let u : Wires = record (w.wires k) { server_end = S.server_end; up = bs } in
    untouched w (served_mutely w k bs xs x.token S) (record {
      unmoved = mutely_unmoved w k bs xs x.token S;
      session = λ j. put_field (λ (y : Wires). y.client_end.keys.session) w.wires k u refl j;
      counter = λ j. put_field (λ (y : Wires). y.client_end.counter) w.wires k u refl j;
      keys = refl;
      seals = λ ends drawn q. q;
      rank = ap (λ (c : Client). c.rank) (took_client w.values k x.token xs S.taken);
      ups = λ b y e up. (b, e);
    }) i

dropped_sends : (w : World) (k : ℕ) → SealingSends w → SealingSends (dropped_wires w k)
dropped_sends w k i =
    untouched w (dropped_wires w k) (record {
      unmoved = dropped_unmoved w k;
      session = λ j. put_field (λ (y : Wires). y.client_end.keys.session) w.wires k (server_end_off (w.wires k)) refl j;
      counter = λ j. put_field (λ (y : Wires). y.client_end.counter) w.wires k (server_end_off (w.wires k)) refl j;
      keys = refl;
      seals = λ ends drawn q. q;
      rank = refl;
      ups = λ b y e up. (b, e);
    }) i

restarted_sends : (w : World) → SealingSends w → SealingSends (restarted_wires w)
restarted_sends w i =
    untouched w (restarted_wires w) (record {
      unmoved = restarted_unmoved w;
      session = λ j. refl;
      counter = λ j. refl;
      keys = refl;
      seals = λ ends drawn q. q;
      rank = refl;
      ups = λ b y e up. (b, e);
    }) i

served_by_sends : (w : World) (k : ℕ) (bs : List (List ℕ)) (x : Sent) (xs : List Sent) (S : ConnectionStep) (o : Option ConnEnd)
    → AllDown S.sealings → SealingSends w → SealingSends (served_by w k bs xs x.token S o)
served_by_sends w k bs x xs S None down i = served_sends w k bs x xs S down i
served_by_sends w k bs x xs S (Some why) down i = dropped_sends (served_mutely w k bs xs x.token S) k (mutely_sends w k bs x xs S i)

serve_sends : (z : WorldSettings) (w : World) (k : ℕ) (bs : List (List ℕ)) (xs : List Sent) → SealingSends w
    → SealingSends (serve_frame z w k bs xs)
serve_sends z w k [] xs i = i
serve_sends z w k (b ∷ bs) [] i = i
serve_sends z w k (b ∷ bs) (x ∷ xs) i =
    served_by_sends w k bs x xs (step_at z w k b) (step_at z w k b).ends (step_down z w k b) i

absorb_sends : (z : WorldSettings) (w : World) (k : ℕ) (bs : List (List ℕ)) (xs : List Sent) → SealingSends w
    → SealingSends (absorb_frame z w k bs xs)
absorb_sends z w k [] xs i = i
absorb_sends z w k (b ∷ bs) [] i = i
absorb_sends z w k (b ∷ bs) (x ∷ xs) i = mutely_sends w k bs x xs (step_at z w k b) i

-- ---- Take

take_sends : (z : WorldSettings) (w : World) (k : ℕ) (bs : List (List ℕ)) (ys : List Received) → (w.values.conns k).client_open ≡ true
    → (w.wires k).down ≡ bs → Counted w → IsSealingNew w → SealingSends w → SealingSends (take_frame z w k bs ys)
take_sends z w k [] ys co e c new i = i
take_sends z w k (b ∷ bs) [] co e c new i = i
take_sends z w k (b ∷ bs) (y ∷ ys) co e c new i =
    let v = behind_frame w k bs ys in
    let u = behind_unmoved w k bs ys in
    let n = unmoved w v u c in
    let front : Wires = record (w.wires k) { down = bs } in
    let behind : SealingSends v = untouched w v (record {
      unmoved = u;
      session = λ j. put_field (λ (x : Wires). x.client_end.keys.session) w.wires k front refl j;
      counter = λ j. put_field (λ (x : Wires). x.client_end.counter) w.wires k front refl j;
      keys = refl;
      seals = λ ends drawn q. q;
      rank = refl;
      ups = λ b y e up. (b, e);
    }) i in
    let same : (v.wires k).client_end ≡ (w.wires k).client_end = put_field (λ (x : Wires). x.client_end) w.wires k front refl k in
    let at = u.end_stage k in
    let so = u.is_open k in
    hears_sends z v k b y.place (w.wires k).client_end.stage at (so ∙ co) n.counted new.id
    (λ x s r ok. new.room k b bs x co (sym (c.stages k co) ∙ s) e (subst (λ q. dialog_response q (SaidSecond true) b ≡ Some x) same r) ok)
    behind

-- ---- each event

first_of : (a b : Bool) → (a && b) ≡ true → a ≡ true
first_of true b e = refl
first_of false b e = e

changed_sends : (z : WorldSettings) (w : World) (e : Event) → is_possible w.values e ≡ true → Counted w → IsSealingNew w → SealingSends w
    → SealingSends (bytes_changed z w e)
changed_sends z w (Submit g op) can c new i =
    let d = if may_take w.values.client g op then take_op w.values.client g op else w.values.client in
    client_sends w d (submit_same w.values.client g op (may_take w.values.client g op))
    (submit_rank w.values.client g op (may_take w.values.client g op)) i
changed_sends z w (Open k) can c new i = opened_sends z w k can c i
changed_sends z w (Push k slotless pick) can c new i =
    let p = paid w k slotless pick in
    let d = client_after w.values.client (Pushes k slotless p) in
    pushed_sends w k d (act w.values.client (Pushes k slotless p)) (push_same w.values.client k slotless p)
    (let stays = push_keeps w.values.client k slotless p in stays.rank) (push_ready w k slotless pick) i
changed_sends z w (Serve k) can c new i = serve_sends z w k (w.wires k).up (w.values.conns k).up i
changed_sends z w (Take k) can c new i =
    take_sends z w k (w.wires k).down (w.values.conns k).down
    (first_of (w.values.conns k).client_open (is_filled (w.values.conns k).down) can) refl c new i
changed_sends z w (Cut k) can c new i = cut_sends w k c i
changed_sends z w (Drop k) can c new i = dropped_sends w k i
changed_sends z w Restart can c new i = restarted_sends w i
changed_sends z w (Crash k true) can c new i =
    restarted_sends (absorb_frame z w k (w.wires k).up (w.values.conns k).up) (absorb_sends z w k (w.wires k).up (w.values.conns k).up i)
changed_sends z w (Crash k false) can c new i = restarted_sends w i
changed_sends z w (Wait n) can c new i = client_sends w w.values.client (same w.values.client) refl i
changed_sends z w (Finish refusal) can c new i =
    client_sends w (finish w.values.client (NoSession refusal)) (record { live = refl; making = refl; ready = refl; stage = refl }) refl i

later_sends : (w : World) (n : ℕ) → SealingSends w → SealingSends (bytes_later w n)
later_sends w n i =
    untouched w (bytes_later w n) (record {
      unmoved = later_unmoved w n;
      session = λ k. refl;
      counter = λ k. refl;
      keys = refl;
      seals = λ ends drawn q. q;
      rank = refl;
      ups = λ b y e up. (b, e);
    }) i

tampered_sends : (w : World) (k : ℕ) (up : Bool) (change : List ℕ → List ℕ) → SealingSends w → SealingSends (tampered w k up change)
tampered_sends w k true change i =
    let u : Wires = record (w.wires k) { up = with_front change (w.wires k).up } in
    untouched w (tampered w k true change) (record {
      unmoved = tampered_unmoved w k true change;
      session = λ j. put_field (λ (x : Wires). x.client_end.keys.session) w.wires k u refl j;
      counter = λ j. put_field (λ (x : Wires). x.client_end.counter) w.wires k u refl j;
      keys = refl;
      seals = λ ends drawn q. q;
      rank = refl;
      ups = λ b y e up. (b, e);
    }) i
tampered_sends w k false change i =
    let u : Wires = record (w.wires k) { down = with_front change (w.wires k).down } in
    untouched w (tampered w k false change) (record {
      unmoved = tampered_unmoved w k false change;
      session = λ j. put_field (λ (x : Wires). x.client_end.keys.session) w.wires k u refl j;
      counter = λ j. put_field (λ (x : Wires). x.client_end.counter) w.wires k u refl j;
      keys = refl;
      seals = λ ends drawn q. q;
      rank = refl;
      ups = λ b y e up. (b, e);
    }) i

happen_sends : (z : WorldSettings) (w : World) (e : ByteEvent) → Counted w → IsSealingNew w → SealingSends w
    → SealingSends (bytes_happen z w e)
happen_sends z w (Plain e) c new i =
    either SealingSends (is_possible w.values e) (bytes_later (bytes_changed z w e) (moments e)) w
    (λ may. later_sends (bytes_changed z w e) (moments e) (changed_sends z w e may c new i)) (λ _. i)
happen_sends z w (Tamper k up change) c new i =
    either SealingSends (may_tamper w k up) (bytes_later (tampered w k up change) 1) w
    (λ _. later_sends (tampered w k up change) 1 (tampered_sends w k up change i)) (λ _. i)

-- ---- a run

run_sends : (z : WorldSettings) (es : List ByteEvent) (w : World) → Counted w → AreNew z es w → SealingSends w
    → SealingSends (bytes_run z es w)
unfolding bytes_run
run_sends z [] w c new i = i
run_sends z (e ∷ es) w c (new, later) i =
    let n = happen_next z w e c in run_sends z es (bytes_happen z w e) n.counted later (happen_sends z w e c new i)

no_seal : (i : ℕ) (u : Seal) → slice_get [] i ≡ Some u → ⊥
no_seal zero u h = absurd (let q : None ≡ Some u = h in cc)
no_seal (suc i) u h = absurd (let q : None ≡ Some u = h in cc)

none_sealed : (ends : ℕ → Sealer) → ((k : ℕ) → (ends k).is_on ≡ false) → NonceNumbered [] ends (λ x. 0)
none_sealed ends off =
    record {
      once = λ i j u v h. absurd (no_seal i u h.0);
      below = λ i k u h. absurd (no_seal i u h.0);
      apart = λ j k o. not_both (ends j).is_on o (off j);
      used = λ i u h. absurd (no_seal i u h.0);
      held = λ k o. not_both (ends k).is_on o (off k);
      bounds = λ i u h. absurd (no_seal i u h.0);
      end_bounds = λ k o. not_both (ends k).is_on o (off k);
    }

start_sends : (z : WorldSettings) → SealingSends (bytes_start z)
start_sends z = record {
  drawn = λ x. 0;
  numbered = none_sealed (senders (bytes_start z)) (λ k. refl);
  highest = omega arith;
  own = λ k h. absurd (let q : false ≡ true = h in cc);
  ranked = λ i u e up. absurd (no_seal i u e);
  sending = λ k h. absurd (let q : false ≡ true = h in cc);
  alive = λ h. absurd (let q : false ≡ true = h in cc);
}

-- ---- nonces with the same bytes are the same

told_once : (w : World) → SealingSends w → NoncesToServerOnce w
told_once w i = λ a b u v h g up one. (let n = i.numbered in
    let also : v.to_server ≡ true = sym one.direction ∙ up in
    let first : ToClient (all_turned w.sealings) a (turned_around u) = (turned_found w.sealings a u h, ap not up) in
    let second : ToClient (all_turned w.sealings) b (turned_around v) = (turned_found w.sealings b v g, ap not also) in
    let x = n.bounds a (turned_around u) first in
    let y = n.bounds b (turned_around v) second in
    let same_nonce = nonces_differ (record { channel = u.channel; counter = u.counter })
    (record { channel = v.channel; counter = v.counter })
    x.1 y.1 x.0 y.0 one.bytes in
    n.once a b (turned_around u) (turned_around v) first second (record {
      session = one.session;
      channel = ap (λ (p : NonceState). p.channel) same_nonce;
      counter = ap (λ (p : NonceState). p.counter) same_nonce;
    }))

pub to_server : NoncesToServer
to_server = λ z es new. told_once (bytes_run z es (bytes_start z))
    (run_sends z es (bytes_start z) (start_counted z) new (start_sends z))
