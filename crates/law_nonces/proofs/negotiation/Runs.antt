-- Every event keeps what holds of ends and endings.
use Rattle.std.proofs.Common.{◌≡◌, ℕ, ◌==◌, nat_lt, Bool, true, false, not, ◌&&◌, if◌then◌else◌, List, [], ◌∷◌}
use Rattle.std.proofs.Common.{refl, sym, subst}
use Rattle.std.proofs.Common.{Option, Some, None, is_some}
use Rattle.spec_exchange.specs.Table.{put, is_filled}
use Rattle.spec_exchange.specs.Status.{success}
use Rattle.spec_exchange.specs.State.{Making, Accept}
use Rattle.spec_exchange.specs.Operations.{weight, charge}
use Rattle.spec_exchange.specs.Client.{Client, own_message, ask_message}
use Rattle.spec_exchange.specs.ClientStep.{Act, Nothing, Sends, Asks, CloseChannel, CloseChannels, AllSettled, Pushes}
use Rattle.spec_exchange.specs.ClientStep.{Pick, client_after, act}
use Rattle.spec_exchange.specs.Step.{step}
use Rattle.spec_exchange.specs.Network.{Event, Submit, Open, Push, Serve, Take, Cut, Drop, Restart, Crash, Wait, Finish}
use Rattle.spec_exchange.specs.Network.{Conn, ForOp, ForAttach, fresh, blank_server, is_possible, may_open, may_serve}
use Rattle.spec_exchange.specs.Network.{max_channel, moments}
use Rattle.law_server.proofs.tables.Logic.{either, front_of, back_of, not_true}
use Rattle.spec_world.specs.Settings.{WorldSettings, values_of}
use Rattle.spec_world.specs.World.{World, Wires, opened_wires, fresh_wires, greeting_of, paid, pushed_wires}
use Rattle.spec_world.specs.World.{pushed_with, absorb_frame}
use Rattle.spec_world.specs.Events.{ByteEvent, Plain, Tamper, with_front, tampered, may_tamper, bytes_changed}
use Rattle.spec_world.specs.Events.{bytes_later, bytes_happen, bytes_run, bytes_start}
use Rattle.spec_world.specs.Statements.{IsWhole, IsVerified}
use Rattle.law_nonces.specs.negotiation.Keeping.{ClientFits, EndsFit, IsSynced, NegotiationKept, NegotiationKeeps}
use Rattle.law_nonces.proofs.negotiation.Tables.{by_key, by_key_2, none_there}
use Rattle.law_nonces.proofs.negotiation.Values.{pushed_only, accept_making, recovered_making}
use Rattle.law_nonces.proofs.negotiation.Serving.{plainly_kept, MutelyKept, serve_keeps, absorb_keeps, dropped_keeps, restarted_keeps}
use Rattle.law_nonces.proofs.negotiation.Taking.{MovedTo, moved_same, one_moved, keeps_from, line_moved, cut_keeps, take_keeps}

-- ---- Open: where both ends were closed nothing was in the making

not_made : (b : Bool) (o : Option Making) → (is_some o ≡ true → b ≡ true) → b ≡ false → is_some o ≡ false
not_made b None opened closed = refl
not_made b (Some x) opened closed = absurd (let h = opened refl in cc)

opened_keeps : (z : WorldSettings) (w : World) (k : ℕ) → (w.values.conns k).server_open ≡ false → NegotiationKeeps w
    → NegotiationKeeps (opened_wires z w k)
opened_keeps z w k closed i =
    let v = w.values in
    let A = step v.server v.moment (Accept k) in
    let new = fresh_wires z w (greeting_of z w k) (A.reply.status == success) in
    let c = fresh v.client k (A.reply.status == success) in
    let so = i.synced k in
    let none : is_some (v.server.making k) ≡ false = not_made (v.conns k).server_open (v.server.making k) so.opened closed in
    subst (λ (m : ℕ → Option Making). NegotiationKept (put w.wires k new) (put v.conns k c) m w.made w.accepted)
    (sym (accept_making v.server v.moment k))
    (record {
      fits = by_key (λ j (u : Wires). EndsFit u.client_end u.server_end) w.wires k new (record {
        client = refl;
        greeting = tt;
        making = tt;
      }) (λ j off. i.fits j);
      synced = by_key_2 (λ j (d : Conn) (u : Wires). IsSynced d.server_open (v.server.making j) u.server_end) v.conns w.wires k c new
          (record { opened = λ e. absurd (let h = none in cc); held = λ e. absurd (let h = none in cc) })
          (λ j off. i.synced j);
      made_whole = i.made_whole;
      accepted_whole = i.accepted_whole;
    })

open_closed : (w : World) (k : ℕ) → may_open w.values k ≡ true → (w.values.conns k).server_open ≡ false
open_closed w k e =
    let c = w.values.conns k in
    let a = back_of (nat_lt k max_channel) (not c.client_open && (not c.server_open && not (is_some w.values.client.making))) e in
    let b = back_of (not c.client_open) (not c.server_open && not (is_some w.values.client.making)) a in
    not_true c.server_open (front_of (not c.server_open) (not (is_some w.values.client.making)) b)

-- ---- Push

pushed_moved : (w : World) (k : ℕ) (c : Client) (a : Act) → NegotiationKeeps w → MovedTo w (pushed_wires w k c a)
pushed_moved w k c (Sends g) i = line_moved w w k (ForOp g) (own_message c k (w.wires k).client_end.purse.next g)
    (charge (weight (c.op g))) (moved_same w i)
pushed_moved w k c (Asks g) i = line_moved w w k (ForAttach g) (ask_message c k (w.wires k).client_end.purse.next g) 1 (moved_same w i)
pushed_moved w k c Nothing i = moved_same w i
pushed_moved w k c CloseChannel i = moved_same w i
pushed_moved w k c CloseChannels i = moved_same w i
pushed_moved w k c AllSettled i = moved_same w i

pushed_keeps : (w : World) (k : ℕ) (slotless : List ℕ) (pick : Option Pick) → NegotiationKeeps w
    → NegotiationKeeps (pushed_with w k slotless pick)
pushed_keeps w k slotless pick i =
    let c = client_after w.values.client (Pushes k slotless pick) in
    let a = act w.values.client (Pushes k slotless pick) in
    keeps_from w (pushed_with w k slotless pick) i (pushed_moved w k c a i) (pushed_only w.values k c a)

-- ---- Serve, Drop, Restart and the others

pub serve_open : (w : World) (k : ℕ) → may_serve w.values k ≡ true → (w.values.conns k).server_open ≡ true
serve_open w k e = front_of (w.values.conns k).server_open (is_filled (w.values.conns k).up) e

crashed : (z : WorldSettings) (w : World) (k : ℕ) (kept : Bool) → NegotiationKeeps w
    → MutelyKept w k (if kept then absorb_frame z w k (w.wires k).up (w.values.conns k).up else w)
crashed z w k kept i =
    either (MutelyKept w k) kept (absorb_frame z w k (w.wires k).up (w.values.conns k).up) w
    (λ _. absorb_keeps z w k (w.wires k).up (w.values.conns k).up i) (λ _. plainly_kept w k i)

changed_keeps : (z : WorldSettings) (w : World) (e : Event) → is_possible w.values e ≡ true → NegotiationKeeps w
    → NegotiationKeeps (bytes_changed z w e)
changed_keeps z w (Submit g op) may i = record {
  fits = i.fits;
  synced = i.synced;
  made_whole = i.made_whole;
  accepted_whole = i.accepted_whole;
}
changed_keeps z w (Open k) may i = opened_keeps z w k (open_closed w k may) i
changed_keeps z w (Push k slotless pick) may i = pushed_keeps w k slotless (paid w k slotless pick) i
changed_keeps z w (Serve k) may i = serve_keeps z w k (w.wires k).up (w.values.conns k).up i (serve_open w k may)
changed_keeps z w (Take k) may i = take_keeps z w k (w.wires k).down (w.values.conns k).down i
changed_keeps z w (Cut k) may i = cut_keeps w k i
changed_keeps z w (Drop k) may i = dropped_keeps w k i
changed_keeps z w Restart may i = restarted_keeps w 0 w i (plainly_kept w 0 i)
changed_keeps z w (Crash k kept) may i = restarted_keeps w k _ i (crashed z w k kept i)
changed_keeps z w (Wait n) may i = record { fits = i.fits; synced = i.synced; made_whole = i.made_whole; accepted_whole = i.accepted_whole }
changed_keeps z w (Finish refusal) may i = record {
  fits = i.fits;
  synced = i.synced;
  made_whole = i.made_whole;
  accepted_whole = i.accepted_whole;
}

-- ---- what is changed on its way

tamper_keeps : (w : World) (k : ℕ) (up : Bool) (change : List ℕ → List ℕ) → NegotiationKeeps w → NegotiationKeeps (tampered w k up change)
tamper_keeps w k up change i =
    let u = w.wires k in
    let old = i.fits k in
    keeps_from w (tampered w k up change) i
    (one_moved w.wires w.made w.wires w.made w.accepted k (if up then record u {
      up = with_front change u.up;
    } else record u { down = with_front change u.down }) (moved_same w i)
    (either (λ (v : Wires). v.server_end ≡ u.server_end) up _ _ (λ _. refl) (λ _. refl))
    (either (λ (v : Wires). ClientFits v.client_end.stage v.client_end.transcript) up _ _ (λ _. old.client) (λ _. old.client)))
    (record { server = refl; opened = λ j. refl })

happen_keeps : (z : WorldSettings) (w : World) (e : ByteEvent) → NegotiationKeeps w → NegotiationKeeps (bytes_happen z w e)
happen_keeps z w (Plain e) i =
    either NegotiationKeeps (is_possible w.values e) (bytes_later (bytes_changed z w e) (moments e)) w
    (λ may. later (bytes_changed z w e) (moments e) (changed_keeps z w e may i)) (λ _. i)
  where
    later : (x : World) (n : ℕ) → NegotiationKeeps x → NegotiationKeeps (bytes_later x n)
    later x n q = record { fits = q.fits; synced = q.synced; made_whole = q.made_whole; accepted_whole = q.accepted_whole }
happen_keeps z w (Tamper k up change) i =
    either NegotiationKeeps (may_tamper w k up) (bytes_later (tampered w k up change) 1) w
    (λ _. later (tampered w k up change) (tamper_keeps w k up change i)) (λ _. i)
  where
    later : (x : World) → NegotiationKeeps x → NegotiationKeeps (bytes_later x 1)
    later x q = record { fits = q.fits; synced = q.synced; made_whole = q.made_whole; accepted_whole = q.accepted_whole }

-- ---- a run

run_keeps : (z : WorldSettings) (es : List ByteEvent) (w : World) → NegotiationKeeps w → NegotiationKeeps (bytes_run z es w)
unfolding bytes_run
run_keeps z [] w i = i
run_keeps z (e ∷ es) w i = run_keeps z es (bytes_happen z w e) (happen_keeps z w e i)

start_keeps : (z : WorldSettings) → NegotiationKeeps (bytes_start z)
start_keeps z =
    record {
      fits = λ k. record { client = tt; greeting = tt; making = tt };
      synced = λ k. record {
        opened = λ e. absurd (let h = recovered_making (blank_server (values_of z)) [] k in cc);
        held = λ e. absurd (let h = recovered_making (blank_server (values_of z)) [] k in cc);
      };
      made_whole = none_there IsWhole;
      accepted_whole = none_there (λ a. IsWhole a × IsVerified a);
    }

pub kept : (z : WorldSettings) (es : List ByteEvent) → NegotiationKeeps (bytes_run z es (bytes_start z))
kept z es = run_keeps z es (bytes_start z) (start_keeps z)
