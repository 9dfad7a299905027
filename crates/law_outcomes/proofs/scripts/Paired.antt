-- Without a drop of a connection that the client holds, a restart or a crash, the server's end is open wherever the client's is.
use Rattle.std.proofs.lemmas.Bool.Decides.{nat_tests}
use Rattle.std.proofs.Common.{◌≡◌, ℕ, ◌<◌, ◌==◌, nat_lt, Bool, true, false, not, refl, arith, sym, subst, ◌∙◌, ap}
use Rattle.spec_exchange.specs.Table.{put}
use Rattle.spec_exchange.specs.Status.{success}
use Rattle.spec_exchange.specs.State.{Accept}
use Rattle.spec_exchange.specs.Step.{step}
use Rattle.spec_exchange.specs.Client.{Client}
use Rattle.spec_exchange.specs.ClientStep.{some_unsettled, Act, Nothing, CloseChannel, CloseChannels, Sends, Asks, AllSettled}
use Rattle.spec_exchange.specs.Network.{World, Event, Submit, Open, Push, Serve, Take, Cut, Drop, Restart, Crash, Wait}
use Rattle.spec_exchange.specs.Network.{Finish, Conn, happens, changed, later, may_open, may_serve, may_take_reply, fresh}
use Rattle.spec_exchange.specs.Network.{pushed_by, server_off}
use Rattle.law_server.proofs.tables.Logic.{either, front_of, back_of, not_true}
use Rattle.law_answers.proofs.completeness.Events.{Elsewhere, put_at, if_off, serve_elsewhere, take_elsewhere, open_elsewhere}
use Rattle.law_answers.proofs.completeness.Events.{pushed_elsewhere, cut_away, drop_elsewhere, take_server}
use Rattle.law_answers.proofs.completeness.Facts.{Facts}
use Rattle.law_answers.proofs.completeness.Taking.{serves_front}
use Rattle.law_answers.proofs.completeness.Drain.{front_and_rest}
use Rattle.law_answers.proofs.completeness.Round.{cut_shuts}
use Rattle.law_answers.proofs.completeness.Clean.{at_or_else}

-- both ends of a connection are open, or the client's is closed
abbrev pub Held : Conn → Type 0
Held d = d.client_open ≡ true → d.server_open ≡ true

abbrev pub Paired : (ℕ → Conn) → Type 0
Paired f = (k : ℕ) → Held (f k)

-- what the course of a quiet script has: a cut where all is settled, a drop of what the client let go, and no restart or
-- crash
abbrev pub keeps : World → Event → Bool
keeps w (Cut k) = not (some_unsettled w.client w.client.taken)
keeps w (Drop k) = not (w.conns k).client_open
keeps w Restart = false
keeps w (Crash k kept) = false
keeps w _ = true

pub absent : (b : Bool) (P : Type 0) → b ≡ true → b ≡ false → P
absent b P e f = absurd (cc)

paired_by : (f g : ℕ → Conn) (k : ℕ) → Elsewhere f g k → Paired f → Held (g k) → Paired g
paired_by f g k away h here q =
    at_or_else (λ x. Held (g x)) k q here
    (λ n o. away.server q n ∙ h q (ap (λ (d : Conn). d.client_open) (sym (away.same q n o)) ∙ o))

held_put : (f : ℕ → Conn) (k : ℕ) (d : Conn) → Held d → Held (put f k d k)
held_put f k d h = subst Held (sym (put_at f k d)) h

-- ---- Open

same_status : (n : ℕ) → n ≡ success → (n == success) ≡ true
same_status n e = grind (arith, nat_tests)

low_number : (k : ℕ) → nat_lt k 256 ≡ true → k < 256
low_number k e = grind (arith, nat_tests)

accepted : (w : World) (k : ℕ) → Facts w → may_open w k ≡ true → (step w.server w.moment (Accept k)).reply.status ≡ success
accepted w k F may =
    let l = front_of (nat_lt k 256) _ may in let r = back_of (nat_lt k 256) _ may in let s = back_of (not (w.conns k).client_open) _ r in
    F.accepts k (low_number k l) (not_true (w.conns k).server_open (front_of (not (w.conns k).server_open) _ s))

opened_here : (w : World) (k : ℕ) → Facts w → Paired w.conns → Held ((happens w (Open k)).conns k)
opened_here w k F h =
    either (λ (v : World). Held (v.conns k)) (may_open w k) (later (changed w (Open k)) 1) w
    (λ may _. let A = step w.server w.moment (Accept k) in
    ap (λ (d : Conn). d.server_open) (put_at w.conns k (fresh w.client k (A.reply.status == success)))
    ∙ same_status A.reply.status (accepted w k F may))
    (λ _. h k)

-- ---- Push

push_here : (w : World) (k : ℕ) (c : Client) (x : Act) → Held (w.conns k) → Held ((pushed_by w k c x).conns k)
push_here w k c Nothing h = h
push_here w k c (Sends g) h = held_put w.conns k _ h
push_here w k c (Asks g) h = held_put w.conns k _ h
push_here w k c CloseChannel h = h
push_here w k c CloseChannels h = h
push_here w k c AllSettled h = h

-- ---- Serve, Take, Cut and Drop

served_here : (w : World) (k : ℕ) → Paired w.conns → Held ((happens w (Serve k)).conns k)
served_here w k h =
    elim (may_serve w k) as (λ b. may_serve w k ≡ b → Held ((happens w (Serve k)).conns k)) [
      | true ↦ λ may _. let q = front_and_rest (w.conns k).up (back_of (w.conns k).server_open _ may) in
          (serves_front w k q.0 q.1 may q.2).server ∙ front_of (w.conns k).server_open _ may
      | false ↦ λ off. subst (λ (u : World). Held (u.conns k)) (sym (if_off (may_serve w k) (later (changed w (Serve k)) 1) w off)) (h k)
    ] refl

took_here : (w : World) (k : ℕ) → Paired w.conns → Held ((happens w (Take k)).conns k)
took_here w k h =
    elim (may_take_reply w k) as (λ b. may_take_reply w k ≡ b → Held ((happens w (Take k)).conns k)) [
      | true ↦ λ may _. take_server w k k ∙ h k (front_of (w.conns k).client_open _ may)
      | false ↦ λ off. subst (λ (u : World). Held (u.conns k))
          (sym (if_off (may_take_reply w k) (later (changed w (Take k)) 1) w off)) (h k)
    ] refl

cut_here : (w : World) (k : ℕ) → Paired w.conns → Held ((happens w (Cut k)).conns k)
cut_here w k h =
    elim ((w.conns k).client_open) as (λ b. (w.conns k).client_open ≡ b → Held ((happens w (Cut k)).conns k)) [
      | true ↦ λ e o. absent ((happens w (Cut k)).conns k).client_open _ o (cut_shuts w k e)
      | false ↦ λ off. subst (λ (u : World). Held (u.conns k))
          (sym (if_off (w.conns k).client_open (later (changed w (Cut k)) 1) w off)) (h k)
    ] refl

dropped_here : (w : World) (k : ℕ) → not (w.conns k).client_open ≡ true → Paired w.conns → Held ((happens w (Drop k)).conns k)
dropped_here w k shut h =
    either (λ (v : World). Held (v.conns k)) (w.conns k).server_open (later (changed w (Drop k)) 1) w
    (λ _ o. absent (w.conns k).client_open _ (ap (λ (d : Conn). d.client_open) (sym (put_at w.conns k (server_off (w.conns k)))) ∙ o)
    (not_true (w.conns k).client_open shut))
    (λ _. h k)

pub paired_on : (w : World) (e : Event) → Facts w → keeps w e ≡ true → Paired w.conns → Paired (happens w e).conns
paired_on w (Submit g op) F s h = h
paired_on w (Open k) F s h = paired_by w.conns _ k (open_elsewhere w k) h (opened_here w k F h)
paired_on w (Push k slotless pick) F s h =
    paired_by w.conns _ k (pushed_elsewhere w k slotless pick) h
    (either (λ (v : World). Held (v.conns k)) (w.client.ready k) (later (changed w (Push k slotless pick)) 1) w
    (λ _. push_here w k _ _ (h k)) (λ _. h k))
paired_on w (Serve k) F s h = paired_by w.conns _ k (serve_elsewhere w k) h (served_here w k h)
paired_on w (Take k) F s h = paired_by w.conns _ k (take_elsewhere w k) h (took_here w k h)
paired_on w (Cut k) F s h = paired_by w.conns _ k (cut_away w k) h (cut_here w k h)
paired_on w (Drop k) F s h = paired_by w.conns _ k (drop_elsewhere w k) h (dropped_here w k s h)
paired_on w Restart F s h = absurd (cc)
paired_on w (Crash k kept) F s h = absurd (cc)
paired_on w (Wait n) F s h = h
paired_on w (Finish refusal) F s h = either (λ (v : World). Paired v.conns) (not w.client.live)
    (later (changed w (Finish refusal)) 1) w (λ _. h) (λ _. h)
