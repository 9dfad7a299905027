-- Each event leaves a tied world tied, where the values supply what is asked.
use Rattle.std.proofs.Common.{◌≡◌, ℕ, ◌==◌, Bool, true, false, ◌&&◌, if◌then◌else◌, List, [], ◌∷◌, refl, sym, ap, ◌∙◌, subst}
use Rattle.spec_exchange.specs.Table.{is_filled}
use Rattle.spec_exchange.specs.Client.{Identity, Stage, Apart, SaidNegotiate, SaidFirst, SaidSecond, AskedTree}
use Rattle.spec_exchange.specs.Network.{Event, Submit, Open, Push, Serve, Take, Cut, Drop, Restart, Crash, Wait, Finish, Sent, Received}
use Rattle.spec_exchange.specs.Network.{is_possible, moments}
use Rattle.spec_wire.specs.credits.Exchange.{NothingIsRefused}
use Rattle.law_sessions.specs.sessions.Sessions.{makes_session}
use Rattle.spec_world.specs.Settings.{WorldSettings}
use Rattle.spec_world.specs.Dialog.{status_due}
use Rattle.spec_world.specs.World.{World}
use Rattle.spec_world.specs.Events.{Plain, bytes_changed, bytes_later, bytes_happen}
use Rattle.law_ties.specs.wire_facts.Lawful.{IsLawful}
use Rattle.law_ties.specs.events.Links.{IsTied}
use Rattle.law_ties.proofs.events.Keeping.{ties_kept}
use Rattle.law_ties.proofs.events.Took.{takes_kept}
use Rattle.law_ties.proofs.events.Tree.{tree_takes}
use Rattle.law_ties.specs.requests.Lines.{is_lines}
use Rattle.law_ties.proofs.requests.Opened.{opens}
use Rattle.law_ties.proofs.requests.Pushed.{pushes}
use Rattle.law_ties.proofs.requests.Line.{line_serves}
use Rattle.law_ties.proofs.requests.Crash.{line_crashes}
use Rattle.law_ties.specs.channel_numbers.Counted.{binds}
use Rattle.law_dialogs.proofs.dialog_requests.Serve.{dialog_serves}
use Rattle.law_dialogs.proofs.dialog_requests.Crash.{dialog_crashes}
use Rattle.law_dialogs.specs.dialog_responses.Talking.{goes_on}
use Rattle.law_dialogs.proofs.dialog_responses.Taken.{going_on}
use Rattle.law_dialogs.proofs.acceptance.Bound.{binds_kept}
use Rattle.law_dialogs.proofs.acceptance.Accepted.{accepts_kept}
use Rattle.law_dialogs.specs.waiting.Due.{IsWaitingDue}
use Rattle.law_dialogs.proofs.runs.Supplied.{Supplies}

-- ---- an event that the world can't meet

none_by : (z : WorldSettings) (w v : World) (n : ℕ) (b : Bool) → b ≡ false → (if b then bytes_later v n else w) ≡ w
none_by z w v n true e = absurd (let h : true ≡ false = e in cc)
none_by z w v n false e = refl

none_happens : (z : WorldSettings) (w : World) (e : Event) → is_possible w.values e ≡ false → IsTied z w
    → IsTied z (bytes_happen z w (Plain e))
none_happens z w e never i =
    subst (IsTied z) (sym (none_by z w (bytes_changed z w e) (moments e) (is_possible w.values e) never)) i

closed_or : (a b : Bool) → a ≡ false → (a && b) ≡ false
closed_or true b e = absurd (let h : true ≡ false = e in cc)
closed_or false b e = refl

empty_or : {X : Type 0} (a : Bool) (xs : List X) → xs ≡ [] → (a && is_filled xs) ≡ false
unfolding is_filled
empty_or true xs e = ap is_filled e
empty_or false xs e = refl

by_test : (P : Type 0) (b : Bool) → (b ≡ true → P) → (b ≡ false → P) → P
by_test P true f g = f refl
by_test P false f g = g refl

-- ---- Serve, and a Crash that keeps its front

serve_lists : NothingIsRefused → (z : WorldSettings) → IsLawful z → (w : World) → IsTied z w → Supplies z w → (k : ℕ)
    → (w.values.conns k).server_open ≡ true → (xs : List Sent) → (w.values.conns k).up ≡ xs
    → IsTied z (bytes_happen z w (Plain (Serve k)))
serve_lists held z law w i s k so [] h =
    none_happens z w (Serve k) (empty_or (w.values.conns k).server_open (w.values.conns k).up h) i
serve_lists held z law w i s k so (x ∷ xs) h =
    by_test (IsTied z (bytes_happen z w (Plain (Serve k)))) (is_lines x.message.command)
    (λ line. line_serves held z w k x xs law i so h (s.lines k x xs so h line))
    (λ talk. dialog_serves held z w k x xs law i so h (s.dialogs k x xs so h talk))

crash_lists : NothingIsRefused → (z : WorldSettings) → IsLawful z → (w : World) → IsTied z w → Supplies z w → (k : ℕ)
    → (w.values.conns k).server_open ≡ true → (xs : List Sent) → (w.values.conns k).up ≡ xs
    → IsTied z (bytes_happen z w (Plain (Crash k true)))
crash_lists held z law w i s k so [] h =
    none_happens z w (Crash k true) (empty_or (w.values.conns k).server_open (w.values.conns k).up h) i
crash_lists held z law w i s k so (x ∷ xs) h =
    by_test (IsTied z (bytes_happen z w (Plain (Crash k true)))) (is_lines x.message.command)
    (λ line. line_crashes held z w k x xs i so h line)
    (λ talk. (let front = s.dialogs k x xs so h talk in dialog_crashes held z w k x xs i so h front.talk))

-- ---- Take, by the stage of the client's end

refused_at : (z : WorldSettings) (w : World) → IsTied z w → IsWaitingDue z w → (k : ℕ) (y : Received) (ys : List Received)
    → (w.values.conns k).client_open ≡ true → (w.values.conns k).down ≡ y ∷ ys → (w.values.client.stage k ≡ Apart → ⊥)
    → (y.reply.status == status_due (w.values.client.stage k)) ≡ false → IsTied z (bytes_happen z w (Plain (Take k)))
refused_at z w i d k y ys co h off ok = let t = takes_kept z w k y ys i d.due co h in t.refused off ok

take_stage : (z : WorldSettings) → IsLawful z → (w : World) → IsTied z w → IsWaitingDue z w → Supplies z w → (k : ℕ) (y : Received)
    (ys : List Received) → (w.values.conns k).client_open ≡ true → (w.values.conns k).down ≡ y ∷ ys → (stage : Stage)
    → w.values.client.stage k ≡ stage → (b : Bool) → (y.reply.status == status_due stage) ≡ b → IsTied z (bytes_happen z w (Plain (Take k)))
take_stage z law w i d s k y ys co h Apart at b ok = (let t = takes_kept z w k y ys i d.due co h in t.line at (d.alone k y ys h))
take_stage z law w i d s k y ys co h (SaidNegotiate bound) at true ok =
    going_on z w k y ys law i d.due co h (ap goes_on at) (ap (λ v. y.reply.status == status_due v) at ∙ ok)
    (s.going k y ys co h (ap goes_on at))
take_stage z law w i d s k y ys co h (SaidNegotiate bound) at false ok =
    refused_at z w i d k y ys co h (λ e. (let q : SaidNegotiate bound ≡ Apart = sym at ∙ e in cc))
    (ap (λ v. y.reply.status == status_due v) at ∙ ok)
take_stage z law w i d s k y ys co h (SaidFirst bound) at true ok =
    going_on z w k y ys law i d.due co h (ap goes_on at) (ap (λ v. y.reply.status == status_due v) at ∙ ok)
    (s.going k y ys co h (ap goes_on at))
take_stage z law w i d s k y ys co h (SaidFirst bound) at false ok =
    refused_at z w i d k y ys co h (λ e. (let q : SaidFirst bound ≡ Apart = sym at ∙ e in cc))
    (ap (λ v. y.reply.status == status_due v) at ∙ ok)
take_stage z law w i d s k y ys co h (SaidSecond true) at true ok =
    let session = d.bound_session k (ap binds at) in binds_kept z w k y ys law i co h at ok session.1
take_stage z law w i d s k y ys co h (SaidSecond false) at true ok = accepts_kept z w k y ys law i co h at ok (s.accepting k co at)
take_stage z law w i d s k y ys co h (SaidSecond bound) at false ok =
    refused_at z w i d k y ys co h (λ e. (let q : SaidSecond bound ≡ Apart = sym at ∙ e in cc))
    (ap (λ v. y.reply.status == status_due v) at ∙ ok)
take_stage z law w i d s k y ys co h AskedTree at true ok =
    tree_takes z w k y ys i d.due co h at ok (d.alone k y ys h) (d.quiet k (ap makes_session at))
take_stage z law w i d s k y ys co h AskedTree at false ok =
    refused_at z w i d k y ys co h (λ e. (let q : AskedTree ≡ Apart = sym at ∙ e in cc)) (ap (λ v. y.reply.status == status_due v) at ∙ ok)

take_lists : (z : WorldSettings) → IsLawful z → (w : World) → IsTied z w → IsWaitingDue z w → Supplies z w → (k : ℕ)
    → (w.values.conns k).client_open ≡ true → (ys : List Received) → (w.values.conns k).down ≡ ys
    → IsTied z (bytes_happen z w (Plain (Take k)))
take_lists z law w i d s k co [] h =
    none_happens z w (Take k) (empty_or (w.values.conns k).client_open (w.values.conns k).down h) i
take_lists z law w i d s k co (y ∷ ys) h =
    take_stage z law w i d s k y ys co h (w.values.client.stage k) refl (y.reply.status == status_due (w.values.client.stage k)) refl

-- ---- every event

pub stays_tied : NothingIsRefused → (z : WorldSettings) → IsLawful z → (w : World) → IsTied z w → IsWaitingDue z w
    → Supplies z w → (e : Event)
    → IsTied z (bytes_happen z w (Plain e))
stays_tied held z law w i d s (Submit g op) = (let t = ties_kept z in t.closing w (Submit g op) refl d.taken i)
stays_tied held z law w i d s (Open k) =
    opens z w k law i (ap (λ (v : Identity). v.guid) d.who) (s.opens k)
stays_tied held z law w i d s (Push k slotless pick) = pushes z w k slotless pick law i (s.pushes k slotless pick)
stays_tied held z law w i d s (Serve k) =
    by_test (IsTied z (bytes_happen z w (Plain (Serve k)))) (w.values.conns k).server_open
    (λ so. serve_lists held z law w i s k so (w.values.conns k).up refl)
    (λ so. none_happens z w (Serve k) (closed_or (w.values.conns k).server_open (is_filled (w.values.conns k).up) so) i)
stays_tied held z law w i d s (Take k) =
    by_test (IsTied z (bytes_happen z w (Plain (Take k)))) (w.values.conns k).client_open
    (λ co. take_lists z law w i d s k co (w.values.conns k).down refl)
    (λ co. none_happens z w (Take k) (closed_or (w.values.conns k).client_open (is_filled (w.values.conns k).down) co) i)
stays_tied held z law w i d s (Cut k) = (let t = ties_kept z in t.closing w (Cut k) refl d.taken i)
stays_tied held z law w i d s (Drop k) = (let t = ties_kept z in t.closing w (Drop k) refl d.taken i)
stays_tied held z law w i d s Restart = (let t = ties_kept z in t.closing w Restart refl d.taken i)
stays_tied held z law w i d s (Crash k true) =
    by_test (IsTied z (bytes_happen z w (Plain (Crash k true)))) (w.values.conns k).server_open
    (λ so. crash_lists held z law w i s k so (w.values.conns k).up refl)
    (λ so. none_happens z w (Crash k true) (closed_or (w.values.conns k).server_open (is_filled (w.values.conns k).up) so) i)
stays_tied held z law w i d s (Crash k false) = (let t = ties_kept z in t.closing w (Crash k false) refl d.taken i)
stays_tied held z law w i d s (Wait n) = (let t = ties_kept z in t.closing w (Wait n) refl d.taken i)
stays_tied held z law w i d s (Finish refusal) = (let t = ties_kept z in t.closing w (Finish refusal) refl d.taken i)
