-- Every event of a repeat run keeps what the law on negotiation rests on.
use Rattle.std.proofs.Common.{◌≡◌, ℕ, ◌==◌, nat_lt, Bool, true, false, not, ◌&&◌, List, [], ◌∷◌, refl, sym, subst}
use Rattle.std.proofs.Common.{Option, Some, None, is_some, slice_get}
use Rattle.spec_exchange.specs.Table.{put}
use Rattle.spec_exchange.specs.Status.{success}
use Rattle.spec_exchange.specs.State.{Making, Accept}
use Rattle.spec_exchange.specs.Operations.{weight, charge}
use Rattle.spec_exchange.specs.Client.{Client, own_message, ask_message}
use Rattle.spec_exchange.specs.ClientStep.{Act, Nothing, Sends, Asks, CloseChannel, CloseChannels, AllSettled, Pushes, Pick}
use Rattle.spec_exchange.specs.ClientStep.{client_after, act}
use Rattle.spec_exchange.specs.Step.{step}
use Rattle.spec_exchange.specs.Network.{Event, Submit, Open, Push, Serve, Take, Cut, Drop, Restart, Crash, Wait, Finish, Conn}
use Rattle.spec_exchange.specs.Network.{ForOp, ForAttach, fresh, is_possible, may_open, max_channel, moments}
use Rattle.law_server.proofs.tables.Logic.{either, front_of, back_of, not_true}
use Rattle.spec_world.specs.Settings.{WorldSettings}
use Rattle.spec_world.specs.World.{World, Wires, opened_wires, fresh_wires, greeting_of, paid, pushed_wires, pushed_with}
use Rattle.spec_world.specs.Events.{Plain, bytes_changed, bytes_later, bytes_happen, bytes_run, bytes_start}
use Rattle.law_nonces.specs.negotiation.Keeping.{EndsFit, IsSynced, NegotiationKept, NegotiationKeeps}
use Rattle.law_nonces.proofs.negotiation.Tables.{by_key, by_key_2, put_open}
use Rattle.law_nonces.proofs.negotiation.Values.{pushed_only, accept_making}
use Rattle.law_nonces.proofs.negotiation.Serving.{plainly_kept, serve_keeps, dropped_keeps, restarted_keeps}
use Rattle.law_nonces.proofs.negotiation.Taking.{MovedTo, moved_same, one_moved, keeps_from, line_moved, cut_keeps, take_keeps}
use Rattle.law_nonces.proofs.negotiation.Runs.{kept, serve_open}
use Rattle.spec_hostile.specs.RepeatRuns.{RepeatWorld, RepeatEvent, Same, Give, UpFrame, DownFrame, uses_no_list, sents, receiveds}
use Rattle.spec_hostile.specs.RepeatRuns.{up_frames, down_frames, lists_as, is_heard, is_served, own_connection, same_done, loaded_up}
use Rattle.spec_hostile.specs.RepeatRuns.{loaded_down, given_up, given_down, give_up, give_down, repeat_happens, repeat_run, repeat_start}

-- ---- other lists on a connection

pub lists_keep : (w : World) (k : ℕ) (us : List UpFrame) (ds : List DownFrame) (heard : Bool) → NegotiationKeeps w
    → NegotiationKeeps (lists_as w k us ds heard)
lists_keep w k us ds heard i =
    let old = i.fits k in
    keeps_from w (lists_as w k us ds heard) i
    (one_moved w.wires w.made w.wires w.made w.accepted k (record (w.wires k) { up = up_frames us; down = down_frames ds })
    (moved_same w i) refl old.client)
    (record {
      server = refl;
      opened = put_open w.values.conns k (record (w.values.conns k) {
        client_open = heard;
        up = sents us;
        down = receiveds ds;
      }) refl;
    })

-- ---- Open: where both ends were closed nothing was in the making

not_made : (b : Bool) (o : Option Making) → (is_some o ≡ true → b ≡ true) → b ≡ false → is_some o ≡ false
not_made b None opened closed = refl
not_made b (Some x) opened closed = absurd (let h = opened refl in cc)

opened_keeps : (z : WorldSettings) (w : World) (k : ℕ) → (w.values.conns k).server_open ≡ false → NegotiationKeeps w
    → NegotiationKeeps (opened_wires z w k)
opened_keeps z w k closed i =
    let v = w.values in
    let A = step v.server v.moment (Accept k) in
    let new = fresh_wires z w (greeting_of z w k) (A.reply.status == success) in
    let c = fresh v.client k (A.reply.status == success) in
    let so = i.synced k in
    let none : is_some (v.server.making k) ≡ false = not_made (v.conns k).server_open (v.server.making k) so.opened closed in
    subst (λ (m : ℕ → Option Making). NegotiationKept (put w.wires k new) (put v.conns k c) m w.made w.accepted)
    (sym (accept_making v.server v.moment k))
    (record {
      fits = by_key (λ j (u : Wires). EndsFit u.client_end u.server_end) w.wires k new (record {
        client = refl;
        greeting = tt;
        making = tt;
      }) (λ j off. i.fits j);
      synced = by_key_2 (λ j (d : Conn) (u : Wires). IsSynced d.server_open (v.server.making j) u.server_end) v.conns w.wires k c new
          (record { opened = λ e. absurd (let h = none in cc); held = λ e. absurd (let h = none in cc) })
          (λ j off. i.synced j);
      made_whole = i.made_whole;
      accepted_whole = i.accepted_whole;
    })

pub open_closed : (w : World) (k : ℕ) → may_open w.values k ≡ true → (w.values.conns k).server_open ≡ false
open_closed w k e =
    let c = w.values.conns k in
    let a = back_of (nat_lt k max_channel) (not c.client_open && (not c.server_open && not (is_some w.values.client.making))) e in
    let b = back_of (not c.client_open) (not c.server_open && not (is_some w.values.client.making)) a in
    not_true c.server_open (front_of (not c.server_open) (not (is_some w.values.client.making)) b)

-- ---- Push

pushed_moved : (w : World) (k : ℕ) (c : Client) (a : Act) → NegotiationKeeps w → MovedTo w (pushed_wires w k c a)
pushed_moved w k c (Sends g) i = line_moved w w k (ForOp g) (own_message c k (w.wires k).client_end.purse.next g)
    (charge (weight (c.op g))) (moved_same w i)
pushed_moved w k c (Asks g) i = line_moved w w k (ForAttach g) (ask_message c k (w.wires k).client_end.purse.next g) 1 (moved_same w i)
pushed_moved w k c Nothing i = moved_same w i
pushed_moved w k c CloseChannel i = moved_same w i
pushed_moved w k c CloseChannels i = moved_same w i
pushed_moved w k c AllSettled i = moved_same w i

pushed_keeps : (w : World) (k : ℕ) (slotless : List ℕ) (pick : Option Pick) → NegotiationKeeps w
    → NegotiationKeeps (pushed_with w k slotless pick)
pushed_keeps w k slotless pick i =
    let c = client_after w.values.client (Pushes k slotless pick) in
    let a = act w.values.client (Pushes k slotless pick) in
    keeps_from w (pushed_with w k slotless pick) i (pushed_moved w k c a i) (pushed_only w.values k c a)

-- ---- the events that use no list

no_list_keeps : (z : WorldSettings) (w : World) (e : Event) → uses_no_list e ≡ true → is_possible w.values e ≡ true → NegotiationKeeps w
    → NegotiationKeeps (bytes_changed z w e)
no_list_keeps z w (Submit g op) s may i = record {
  fits = i.fits;
  synced = i.synced;
  made_whole = i.made_whole;
  accepted_whole = i.accepted_whole;
}
no_list_keeps z w (Open k) s may i = opened_keeps z w k (open_closed w k may) i
no_list_keeps z w (Push k slotless pick) s may i = pushed_keeps w k slotless (paid w k slotless pick) i
no_list_keeps z w (Serve k) s may i = absurd (cc)
no_list_keeps z w (Take k) s may i = absurd (cc)
no_list_keeps z w (Cut k) s may i = cut_keeps w k i
no_list_keeps z w (Drop k) s may i = dropped_keeps w k i
no_list_keeps z w Restart s may i = restarted_keeps w 0 w i (plainly_kept w 0 i)
no_list_keeps z w (Crash k kept) s may i = absurd (cc)
no_list_keeps z w (Wait n) s may i = absurd (cc)
no_list_keeps z w (Finish refusal) s may i = absurd (cc)

later_keeps : (w : World) (n : ℕ) → NegotiationKeeps w → NegotiationKeeps (bytes_later w n)
later_keeps w n i = record { fits = i.fits; synced = i.synced; made_whole = i.made_whole; accepted_whole = i.accepted_whole }

event_keeps : (z : WorldSettings) (w : World) (e : Event)
    → (is_possible w.values e ≡ true → NegotiationKeeps (bytes_changed z w e)) → NegotiationKeeps w
    → NegotiationKeeps (bytes_happen z w (Plain e))
event_keeps z w e h i =
    either NegotiationKeeps (is_possible w.values e) (bytes_later (bytes_changed z w e) (moments e)) w
    (λ may. later_keeps (bytes_changed z w e) (moments e) (h may)) (λ _. i)

-- ---- one event of a repeat run

same_keeps : (z : WorldSettings) (r : RepeatWorld) (e : Event) → uses_no_list e ≡ true → NegotiationKeeps r.world
    → NegotiationKeeps (same_done z r e).world
same_keeps z r e s i =
    let w = bytes_happen z r.world (Plain e) in
    lists_keep w (own_connection e) [] [] (is_heard w (own_connection e))
    (event_keeps z r.world e (λ may. no_list_keeps z r.world e s may i) i)

up_keeps : (z : WorldSettings) (r : RepeatWorld) (k : ℕ) (u : UpFrame) → NegotiationKeeps r.world
    → NegotiationKeeps (given_up z r k u).world
up_keeps z r k u i =
    let v = loaded_up r k u in
    let h = lists_keep r.world k (u ∷ []) [] true i in
    lists_keep (bytes_happen z v (Plain (Serve k))) k [] [] (is_heard r.world k)
    (event_keeps z v (Serve k) (λ may. serve_keeps z v k (v.wires k).up (v.values.conns k).up h (serve_open v k may)) h)

down_keeps : (z : WorldSettings) (r : RepeatWorld) (k : ℕ) (d : DownFrame) → NegotiationKeeps r.world
    → NegotiationKeeps (given_down z r k d).world
down_keeps z r k d i =
    let v = loaded_down r k d in
    let h = lists_keep r.world k [] (d ∷ []) true i in
    let w = bytes_happen z v (Plain (Take k)) in
    lists_keep w k [] [] (is_heard w k) (event_keeps z v (Take k) (λ may. take_keeps z v k (v.wires k).down (v.values.conns k).down h) h)

give_up_keeps : (z : WorldSettings) (r : RepeatWorld) (k : ℕ) (o : Option UpFrame) → NegotiationKeeps r.world
    → NegotiationKeeps (give_up z r k o).world
give_up_keeps z r k None i = i
give_up_keeps z r k (Some u) i =
    either (λ (v : RepeatWorld). NegotiationKeeps v.world) (is_served r.world k) (given_up z r k u) r (λ _. up_keeps z r k u i) (λ _. i)

give_down_keeps : (z : WorldSettings) (r : RepeatWorld) (k : ℕ) (o : Option DownFrame) → NegotiationKeeps r.world
    → NegotiationKeeps (give_down z r k o).world
give_down_keeps z r k None i = i
give_down_keeps z r k (Some d) i =
    either (λ (v : RepeatWorld). NegotiationKeeps v.world) (is_heard r.world k) (given_down z r k d) r (λ _. down_keeps z r k d i) (λ _. i)

pub happens_keeps : (z : WorldSettings) (r : RepeatWorld) (e : RepeatEvent) → NegotiationKeeps r.world
    → NegotiationKeeps (repeat_happens z r e).world
happens_keeps z r (Same e) i =
    either (λ (v : RepeatWorld). NegotiationKeeps v.world) (uses_no_list e) (same_done z r e) r (λ s. same_keeps z r e s i) (λ _. i)
happens_keeps z r (Give k true place) i = give_up_keeps z r k (slice_get r.ups place) i
happens_keeps z r (Give k false place) i = give_down_keeps z r k (slice_get r.downs place) i

-- ---- a run

run_keeps : (z : WorldSettings) (es : List RepeatEvent) (r : RepeatWorld) → NegotiationKeeps r.world
    → NegotiationKeeps (repeat_run z es r).world
unfolding repeat_run
run_keeps z [] r i = i
run_keeps z (e ∷ es) r i = run_keeps z es (repeat_happens z r e) (happens_keeps z r e i)

pub start_keeps : (z : WorldSettings) → NegotiationKeeps (bytes_start z)
unfolding bytes_run
start_keeps z = kept z []

pub repeats_keep : (z : WorldSettings) (es : List RepeatEvent) → NegotiationKeeps (repeat_run z es (repeat_start z)).world
repeats_keep z es = run_keeps z es (repeat_start z) (start_keeps z)
