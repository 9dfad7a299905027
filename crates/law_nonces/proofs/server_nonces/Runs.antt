-- Every event keeps what holds of numbers, counters and seals, and so no nonce is given twice to a client.
use Rattle.std.proofs.Common.{◌≡◌, ℕ, zero, suc, ◌+◌, ◌==◌, ◌<◌, ◌^◌, Bool, true, false, if◌then◌else◌, List, [], ◌∷◌, ◌++◌}
use Rattle.std.proofs.Common.{take, drop, replicate, refl, sym, ◌∙◌, ap, Some, None, slice_get}
use Rattle.std.proofs.lemmas.List.{take_at, drop_at}
use Rattle.spec_wire.specs.messages.Places.{le, number_of}
use Rattle.spec_wire.proofs.messages.Numbers.{length-le, number_of-le}
use Rattle.spec_exchange.specs.Table.{put}
use Rattle.spec_exchange.specs.Status.{success}
use Rattle.spec_exchange.specs.State.{Accept}
use Rattle.spec_exchange.specs.Step.{step}
use Rattle.spec_exchange.specs.Network.{Event, Submit, Open, Push, Serve, Take, Cut, Drop, Restart, Crash, Wait, Finish}
use Rattle.spec_exchange.specs.Network.{Conn, fresh, is_possible, moments, run, start}
use Rattle.spec_crypto.specs.sessions.Nonces.{nonce_of}
use Rattle.law_server.proofs.tables.Logic.{either}
use Rattle.law_server.proofs.tables.Run.{fitting, sound}
use Rattle.law_records.proofs.recovery.Restarts.{bare_fold}
use Rattle.law_records.proofs.recovery.Worlds.{begins}
use Rattle.spec_exchange.specs.Fold.{recovery_records}
use Rattle.spec_world.specs.Settings.{WorldSettings, values_of, draw}
use Rattle.spec_world.specs.Ends.{first_server_end, nonce_at}
use Rattle.spec_world.specs.Answering.{Seal}
use Rattle.spec_world.specs.World.{World, Wires, opened_wires, fresh_wires, greeting_of, paid, absorb_frame}
use Rattle.spec_world.specs.Events.{ByteEvent, Plain, Tamper, with_front, tampered, may_tamper, bytes_changed}
use Rattle.spec_world.specs.Events.{bytes_later, bytes_happen, bytes_run, bytes_start}
use Rattle.spec_world.specs.Statements.{NoncesToClientOnce, NoncesToClient}
use Rattle.law_nonces.proofs.negotiation.Tables.{put_same, put_other}
use Rattle.law_nonces.proofs.negotiation.Runs.{serve_open}
use Rattle.law_nonces.specs.server_nonces.Numbering.{AreTables, key_sessions, Sealer, sealer_of, sealers, NonceNumbered, NonceKeeps}
use Rattle.law_nonces.proofs.server_nonces.Numbers.{alike, off_keeps}
use Rattle.law_nonces.proofs.server_nonces.Drawing.{same_draws, same_named, accept_numbers}
use Rattle.law_nonces.proofs.server_nonces.Going.{tables_step}
use Rattle.law_nonces.proofs.server_nonces.Serving.{ends_put, MutelyKept, plainly_kept, serve_keeps, absorb_keeps}
use Rattle.law_nonces.proofs.server_nonces.Serving.{dropped_keeps, restarted_keeps}
use Rattle.law_nonces.proofs.server_nonces.Taking.{one_moved, moved_same, keeps_from, pushed_keeps, cut_keeps, take_keeps}

-- ---- Open: an end without keys is off

without_keys : (b : Bool) (salt : List ℕ) → (sealer_of b (first_server_end salt)).is_on ≡ false
without_keys true salt = refl
without_keys false salt = refl

opened_keeps : (z : WorldSettings) (w : World) (k : ℕ) → NonceKeeps w → NonceKeeps (opened_wires z w k)
opened_keeps z w k i =
    let v = w.values in
    let A = step v.server v.moment (Accept k) in
    let served = A.reply.status == success in
    let new = fresh_wires z w (greeting_of z w k) served in
    let conns = put v.conns k (fresh v.client k served) in
    let e = sealer_of served new.server_end in
    let n = accept_numbers v.server v.moment k in
    let ends = sealers v.conns w.wires in
    record {
      drawn = i.drawn;
      tables = tables_step v.records v.server v.moment (Accept k) tt i.tables;
      draws = same_draws v.server A.server i.drawn n i.draws;
      named = same_named v.server A.server (key_sessions w.logons) n i.named;
      numbered = alike w.sealings (put ends k e) (sealers conns (put w.wires k new)) i.drawn
          (ends_put v.conns conns w.wires k new served
          (ap (λ (c : Conn). c.server_open) (put_same v.conns k (fresh v.client k served)))
          (λ j off. ap (λ (c : Conn). c.server_open) (put_other v.conns k j (fresh v.client k served) off)))
          (off_keeps w.sealings ends i.drawn k e (without_keys served (take 32 (draw z.seed (w.draws + 3)))) i.numbered);
    }

-- ---- each event

crashed : (z : WorldSettings) (w : World) (k : ℕ) (kept : Bool) → NonceKeeps w → (w.values.conns k).server_open ≡ true
    → MutelyKept k (if kept then absorb_frame z w k (w.wires k).up (w.values.conns k).up else w)
crashed z w k kept i open_is =
    either (MutelyKept k) kept (absorb_frame z w k (w.wires k).up (w.values.conns k).up) w
    (λ _. absorb_keeps z w k (w.wires k).up (w.values.conns k).up i open_is) (λ _. plainly_kept w k i)

changed_keeps : (z : WorldSettings) (w : World) (e : Event) → is_possible w.values e ≡ true → NonceKeeps w
    → NonceKeeps (bytes_changed z w e)
changed_keeps z w (Submit g op) may i =
    record { drawn = i.drawn; tables = i.tables; draws = i.draws; named = i.named; numbered = i.numbered }
changed_keeps z w (Open k) may i = opened_keeps z w k i
changed_keeps z w (Push k slotless pick) may i = pushed_keeps w k slotless (paid w k slotless pick) i
changed_keeps z w (Serve k) may i = serve_keeps z w k (w.wires k).up (w.values.conns k).up i (serve_open w k may)
changed_keeps z w (Take k) may i = take_keeps z w k (w.wires k).down (w.values.conns k).down i
changed_keeps z w (Cut k) may i = cut_keeps w k i
changed_keeps z w (Drop k) may i = dropped_keeps w k i
changed_keeps z w Restart may i = restarted_keeps 0 w (plainly_kept w 0 i)
changed_keeps z w (Crash k kept) may i = restarted_keeps k _ (crashed z w k kept i (serve_open w k may))
changed_keeps z w (Wait n) may i =
    record { drawn = i.drawn; tables = i.tables; draws = i.draws; named = i.named; numbered = i.numbered }
changed_keeps z w (Finish refusal) may i =
    record { drawn = i.drawn; tables = i.tables; draws = i.draws; named = i.named; numbered = i.numbered }

tamper_keeps : (w : World) (k : ℕ) (up : Bool) (change : List ℕ → List ℕ) → NonceKeeps w → NonceKeeps (tampered w k up change)
tamper_keeps w k up change i =
    let u = w.wires k in
    let new = if up then record u { up = with_front change u.up } else record u { down = with_front change u.down } in
    let one = one_moved w w k new (moved_same w)
    (either (λ (v : Wires). v.server_end ≡ u.server_end) up _ _ (λ _. refl) (λ _. refl)) in
    keeps_from w (tampered w k up change) i (record { ends = one.ends; logons = one.logons; seals = one.seals })
    (record { server = refl; opened = λ j. refl }) refl

later_keeps : (x : World) (n : ℕ) → NonceKeeps x → NonceKeeps (bytes_later x n)
later_keeps x n i = record { drawn = i.drawn; tables = i.tables; draws = i.draws; named = i.named; numbered = i.numbered }

happen_keeps : (z : WorldSettings) (w : World) (e : ByteEvent) → NonceKeeps w → NonceKeeps (bytes_happen z w e)
happen_keeps z w (Plain e) i =
    either NonceKeeps (is_possible w.values e) (bytes_later (bytes_changed z w e) (moments e)) w
    (λ may. later_keeps (bytes_changed z w e) (moments e) (changed_keeps z w e may i)) (λ _. i)
happen_keeps z w (Tamper k up change) i =
    either NonceKeeps (may_tamper w k up) (bytes_later (tampered w k up change) 1) w
    (λ _. later_keeps (tampered w k up change) 1 (tamper_keeps w k up change i)) (λ _. i)

-- ---- a run

run_keeps : (z : WorldSettings) (es : List ByteEvent) (w : World) → NonceKeeps w → NonceKeeps (bytes_run z es w)
unfolding bytes_run
run_keeps z [] w i = i
run_keeps z (e ∷ es) w i = run_keeps z es (bytes_happen z w e) (happen_keeps z w e i)

start_tables : (z : WorldSettings) → AreTables (start (values_of z)).records (start (values_of z)).server
unfolding run
start_tables z = record { fit = fitting (values_of z) []; sound = sound (values_of z) []; recovers = begins (values_of z) }

pub none_sealed : (ends : ℕ → Sealer) → ((k : ℕ) → (ends k).is_on ≡ false) → NonceNumbered [] ends (λ x. 0)
none_sealed ends off =
    record {
      once = λ i j u v h. absurd (nothing i u h.0);
      below = λ i k u h. absurd (nothing i u h.0);
      apart = λ j k o. absurd (let q : true ≡ false = sym o ∙ off j in cc);
      used = λ i u h. absurd (nothing i u h.0);
      held = λ k o. absurd (let q : true ≡ false = sym o ∙ off k in cc);
      bounds = λ i u h. absurd (nothing i u h.0);
      end_bounds = λ k o. absurd (let q : true ≡ false = sym o ∙ off k in cc);
    }
  where
    nothing : (i : ℕ) (u : Seal) → slice_get [] i ≡ Some u → ⊥
    nothing zero u h = absurd (let q : None ≡ Some u = h in cc)
    nothing (suc i) u h = absurd (let q : None ≡ Some u = h in cc)

start_keeps : (z : WorldSettings) → NonceKeeps (bytes_start z)
start_keeps z =
    let bare = bare_fold ([] ++ recovery_records []) in
    record {
      drawn = λ x. 0;
      tables = start_tables z;
      draws = record {
        present = λ x p. absurd (let h = bare.absent x in let g : true ≡ false = sym p ∙ h in cc);
        making = λ k x e. refl;
        fresh = λ x above. refl;
      };
      named = λ x p. absurd (let h = bare.absent x in let g : true ≡ false = sym p ∙ h in cc);
      numbered = none_sealed (sealers (bytes_start z).values.conns (bytes_start z).wires) (λ k. refl);
    }

pub kept : (z : WorldSettings) (es : List ByteEvent) → NonceKeeps (bytes_run z es (bytes_start z))
kept z es = run_keeps z es (bytes_start z) (start_keeps z)

-- ---- nonces with the same bytes are the same

pub record IsOnePlace (channel counter other_channel other_counter : ℕ) : Type 0 where
  pub channels : channel ≡ other_channel
  pub counters : counter ≡ other_counter

pub same_place : (channel counter other_channel other_counter : ℕ) → channel < 2 ^ 16 → counter < 2 ^ 64 → other_channel < 2 ^ 16
    → other_counter < 2 ^ 64 → nonce_at channel counter ≡ nonce_at other_channel other_counter
    → IsOnePlace channel counter other_channel other_counter
unfolding nonce_of
same_place a n b m ca na cb nb e =
    let front : le 8 n ≡ le 8 m =
    sym (take_at (le 8 n) (le 2 a ++ replicate 6 0) 8 (length-le 8 n)) ∙ (ap (take 8) e
    ∙ take_at (le 8 m) (le 2 b ++ replicate 6 0) 8 (length-le 8 m)) in
    let back : le 2 a ++ replicate 6 0 ≡ le 2 b ++ replicate 6 0 =
    sym (drop_at (le 8 n) (le 2 a ++ replicate 6 0) 8 (length-le 8 n)) ∙ (ap (drop 8) e
    ∙ drop_at (le 8 m) (le 2 b ++ replicate 6 0) 8 (length-le 8 m)) in
    let mid : le 2 a ≡ le 2 b =
    sym (take_at (le 2 a) (replicate 6 0) 2 (length-le 2 a)) ∙ (ap (take 2) back ∙ take_at (le 2 b) (replicate 6 0) 2 (length-le 2 b)) in
    record {
      channels = sym (number_of-le 2 a ca) ∙ (ap number_of mid ∙ number_of-le 2 b cb);
      counters = sym (number_of-le 8 n na) ∙ (ap number_of front ∙ number_of-le 8 m nb);
    }

told_once : (w : World) → NonceKeeps w → NoncesToClientOnce w
told_once w i = λ a b u v h g down one. (let n = i.numbered in
    let other : v.to_server ≡ false = sym one.direction ∙ down in
    let x = n.bounds a u (h, down) in
    let y = n.bounds b v (g, other) in
    let place = same_place u.channel u.counter v.channel v.counter x.0 x.1 y.0 y.1 one.bytes in
    n.once a b u v (h, down) (g, other) (record { session = one.session; channel = place.channels; counter = place.counters }))

pub to_client : NoncesToClient
to_client = λ z es. told_once (bytes_run z es (bytes_start z)) (kept z es)
