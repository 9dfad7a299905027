-- A Serve leaves it so: a success of a binding has a number of its own.
use Rattle.std.proofs.Common.{◌≡◌, ℕ, ◌+◌, ◌<◌, ◌≤◌, ◌^◌, ◌==◌, Bool, true, false, if◌then◌else◌, List, [], ◌∷◌, ◌++◌}
use Rattle.std.proofs.Common.{refl, sym, ap, ◌∙◌, subst}
use Rattle.std.proofs.Common.{arith, eqb-true, Some}
use Rattle.spec_exchange.specs.Table.{put}
use Rattle.spec_exchange.specs.Status.{success}
use Rattle.spec_exchange.specs.Client.{Stage, Apart, SaidNegotiate, SaidFirst, SaidSecond, AskedTree}
use Rattle.spec_exchange.specs.Network.{Sent, answer}
use Rattle.spec_crypto.specs.declared.sessions.material.Keys.{Keys}
use Rattle.spec_crypto.specs.tokens.Tokens.{Users}
use Rattle.spec_world.specs.Settings.{WorldSettings}
use Rattle.spec_world.specs.Messages.{HeardMessage}
use Rattle.spec_world.specs.Ends.{ServerEnd, Logons}
use Rattle.spec_world.specs.Hearing.{Checked}
use Rattle.spec_world.specs.Logon.{Progress, Stays, Interim, Final, channel_in, logons_behind, final_keys}
use Rattle.spec_world.specs.Connection.{ConnectionStep}
use Rattle.spec_world.specs.Dialog.{response_in}
use Rattle.spec_world.specs.World.{World, Wires, step_at, answered_wires}
use Rattle.law_ties.specs.wire_facts.Lawful.{IsLawful}
use Rattle.law_ties.specs.events.Links.{is_lined}
use Rattle.law_ties.proofs.requests.Hearing.{with_flags}
use Rattle.law_dialogs.proofs.dialog_requests.Step.{progress_by, said_by, text_by}
use Rattle.law_dialogs.proofs.dialog_requests.Front.{Front, head_by, told_at, hears_it}
use Rattle.law_dialogs.proofs.dialog_requests.Second.{finished}
use Rattle.law_nonces.proofs.negotiation.Tables.{by_key, put_other}
use Rattle.law_nonces.specs.server_nonces.Numbering.{next_drawn, DrawsOn, key_sessions, IsKeyed}
use Rattle.law_nonces.proofs.server_nonces.Drawing.{DrewBy}
use Rattle.law_runs.proofs.binding_room.Few.{few_by, few_more}
use Rattle.law_runs.proofs.binding_room.Rooms.{Comes, not_second, Rooms, RoomsOf, same_low}

-- ---- the numbers that are drawn

put_same : (f : ℕ → ℕ) (k v : ℕ) → put f k v k ≡ v
put_same f k v = grind arith

as_low : (a b : ℕ) → a < b → a ≤ b
as_low a b h = omega (arith, h)

pub next_grown : (drawn : ℕ → ℕ) (x : ℕ) (p : Progress) → DrawsOn drawn x p → (y : ℕ) → drawn y ≤ next_drawn drawn x p y
next_grown drawn x Stays d y = same_low (drawn y)
next_grown drawn x (Interim binding) d y = same_low (drawn y)
next_grown drawn x (Final binding channel encrypts) d y =
    by_key (λ j v. drawn j ≤ v) drawn x channel (as_low (drawn x) channel d.0) (λ j off. same_low (drawn j)) y

pub next_low : (drawn : ℕ → ℕ) (x : ℕ) (p : Progress) → DrawsOn drawn x p → ((y : ℕ) → drawn y < 2 ^ 16) → (y : ℕ)
    → next_drawn drawn x p y < 2 ^ 16
next_low drawn x Stays d low y = low y
next_low drawn x (Interim binding) d low y = low y
next_low drawn x (Final binding channel encrypts) d low y = by_key (λ j v. v < 2 ^ 16) drawn x channel d.1 (λ j off. low j) y

-- ---- a session whose keys name it had a number drawn

abbrev pub Given : Logons → (ℕ → ℕ) → Type 0
Given L drawn = (x : ℕ) → 0 < x → (L.keys x).session ≡ x → 0 < drawn x

higher : (a b : ℕ) → 0 < a → a ≤ b → 0 < b
higher a b h i = omega (arith, h, i)

above : (a b : ℕ) → a < b → 0 < b
above a b h = omega (arith, h)

begun_given : (L : Logons) (drawn : ℕ → ℕ) (session channel : ℕ) (keys : Keys) → drawn session < channel → Given L drawn
    → (x : ℕ) → 0 < x → (put L.keys session keys x).session ≡ x → 0 < put drawn session channel x
begun_given L drawn session channel keys low h x up =
    elim (x == session) as (λ b. (if b then keys else L.keys x).session ≡ x → 0 < (if b then channel else drawn x)) [
      | true ↦ λ e. above (drawn session) channel low
      | false ↦ λ e. h x up e
    ]

pub given_more : (L : Logons) (drawn more : ℕ → ℕ) → ((y : ℕ) → drawn y ≤ more y) → Given L drawn → Given L more
given_more L drawn more grown h x up e = higher (drawn x) (more x) (h x up e) (grown x)

pub given_behind : (users : Users) (L : Logons) (k : ℕ) (f : ServerEnd) (c : Checked) (fresh : List ℕ) (now : ℕ) (p : Progress)
    (drawn : ℕ → ℕ) → DrawsOn drawn c.header.session p → Given L drawn
    → Given (logons_behind users L k f c fresh now p) (next_drawn drawn c.header.session p)
given_behind users L k f c fresh now Stays drawn d h = h
given_behind users L k f c fresh now (Interim binding) drawn d h = h
given_behind users L k f c fresh now (Final true channel encrypts) drawn d h =
    given_more L drawn (put drawn c.header.session channel) (next_grown drawn c.header.session (Final true channel encrypts) d) h
given_behind users L k f c fresh now (Final false channel encrypts) drawn d h =
    begun_given L drawn c.header.session channel (final_keys users L k f c false) d.0 h

-- ---- the connections behind it

-- nothing more comes than came
pub no_more : (drawn more : ℕ → ℕ) (w : World) (k : ℕ) (u : Wires) → ((y : ℕ) → drawn y ≤ more y) → (Comes u → Comes (w.wires k))
    → RoomsOf drawn w → Rooms more w.keys.session w.numbers (put w.wires k u)
no_more drawn more w k u grown f h =
    few_by (λ j. Comes (w.wires j)) (λ j. Comes (put w.wires k u j)) w.numbers (drawn w.keys.session) (more w.keys.session)
    (by_key (λ j (v : Wires). Comes v → Comes (w.wires j)) w.wires k u f (λ j off c. c)) (grown w.keys.session) h

-- one more comes, and was numbered
one_more : (drawn more : ℕ → ℕ) (w : World) (k : ℕ) (u : Wires) → drawn w.keys.session < more w.keys.session
    → RoomsOf drawn w → Rooms more w.keys.session w.numbers (put w.wires k u)
one_more drawn more w k u low h =
    few_more (λ j. Comes (w.wires j)) (λ j. Comes (put w.wires k u j)) k w.numbers (drawn w.keys.session) (more w.keys.session)
    (λ j off c. subst Comes (put_other w.wires k j u off) c) low h

lined_apart : (stage : Stage) → is_lined stage ≡ true → stage ≡ SaidSecond true → ⊥
lined_apart stage e s = (let h : true ≡ false = sym e ∙ ap is_lined s in cc)

pub closed_few : (drawn more : ℕ → ℕ) (w : World) (k : ℕ) (bs : List (List ℕ)) (S : ConnectionStep) → ((y : ℕ) → drawn y ≤ more y)
    → RoomsOf drawn w → Rooms more w.keys.session w.numbers (put w.wires k (answered_wires (w.wires k) false S.server_end bs S.frames))
closed_few drawn more w k bs S grown h =
    no_more drawn more w k (answered_wires (w.wires k) false S.server_end bs S.frames) grown (λ c. c) h

-- ---- of a line

pub line_few : (drawn more : ℕ → ℕ) (w : World) (k : ℕ) (bs : List (List ℕ)) (S : ConnectionStep) → ((y : ℕ) → drawn y ≤ more y)
    → ((w.values.conns k).client_open ≡ true → is_lined (w.wires k).client_end.stage ≡ true) → RoomsOf drawn w → (o : Bool)
    → (w.values.conns k).client_open ≡ o
    → Rooms more w.keys.session w.numbers (put w.wires k (answered_wires (w.wires k) o S.server_end bs S.frames))
line_few drawn more w k bs S grown lined h false co = closed_few drawn more w k bs S grown h
line_few drawn more w k bs S grown lined h true co =
    let u = answered_wires (w.wires k) true S.server_end bs S.frames in
    no_more drawn more w k u grown
    (λ c. not_second u (w.wires k).client_end.stage refl (lined_apart (w.wires k).client_end.stage (lined co)) c) h

-- ---- of a dialog

same_heard : (a b : HeardMessage) → Some a ≡ Some b → a ≡ b
same_heard a b e = cc

same_first : (a b : List ℕ) → a ∷ [] ≡ b ∷ [] → a ≡ b
same_first a b e = cc

-- the number of a binding is its session's next
pub binding_draws : (z : WorldSettings) → IsLawful z → (w : World) (k : ℕ) (b : List ℕ) (x : Sent) (h : HeardMessage) (drawn : ℕ → ℕ)
    → Front z w k b x h (SaidSecond true) → (answer w.values x).reply.status ≡ success → x.message.session_id ≡ h.header.session
    → DrewBy (answer w.values x).server x.message.session_id (progress_by w x) drawn (key_sessions w.logons)
    → drawn w.keys.session < next_drawn drawn x.message.session_id (progress_by w x) w.keys.session
binding_draws z law w k b x h drawn F good told d =
    let v = finished z law w k b x h true F good in
    let reply = (answer w.values x).reply in
    let channel = channel_in reply.body in
    let y = x.message.session_id in
    let binding = F.carries.2 refl in
    let mine = F.bound refl in
    let keyed : (w.logons.keys y).session ≡ y = subst (IsKeyed (key_sessions w.logons) y) v.progress_is d.keyed in
    let on : (drawn y < channel) × (channel < 2 ^ 16) = subst (DrawsOn drawn y) v.progress_is d.on in
    let own : y ≡ w.values.client.session = told ∙ binding.0 in
    let named : w.keys.session ≡ y =
    sym (ap (λ (q : Keys). q.session) mine.0) ∙ (ap (λ q. (w.logons.keys q).session) (sym own) ∙ keyed) in
    subst (λ q. drawn q < next_drawn drawn y (progress_by w x) q) (sym named)
    (subst (λ q. drawn y < next_drawn drawn y q y) (sym v.progress_is)
    (subst (λ q. drawn y < q) (sym (put_same drawn y channel)) on.0))

pub dialog_few : (z : WorldSettings) → IsLawful z → (drawn : ℕ → ℕ) (w : World) (k : ℕ) (b : List ℕ) (bs : List (List ℕ)) (x : Sent)
    (h : HeardMessage) → Front z w k b x h (w.wires k).client_end.stage → (w.wires k).down ≡ []
    → (step_at z w k b).frames ≡ text_by z w k h x ∷ [] → x.message.session_id ≡ h.header.session
    → DrewBy (answer w.values x).server x.message.session_id (progress_by w x) drawn (key_sessions w.logons) → RoomsOf drawn w
    → Rooms (next_drawn drawn x.message.session_id (progress_by w x)) w.keys.session w.numbers
    (put w.wires k (answered_wires (w.wires k) true (step_at z w k b).server_end bs (step_at z w k b).frames))
dialog_few z law drawn w k b bs x h F empty frames told d few = by (w.wires k).client_end.stage refl
  where
    grown : (y : ℕ) → drawn y ≤ next_drawn drawn x.message.session_id (progress_by w x) y
    grown = next_grown drawn x.message.session_id (progress_by w x) d.on

    other : (stage : Stage) → (w.wires k).client_end.stage ≡ stage → (stage ≡ SaidSecond true → ⊥)
        → Rooms (next_drawn drawn x.message.session_id (progress_by w x)) w.keys.session w.numbers
        (put w.wires k (answered_wires (w.wires k) true (step_at z w k b).server_end bs (step_at z w k b).frames))
    other stage e off =
        no_more drawn (next_drawn drawn x.message.session_id (progress_by w x)) w k
        (answered_wires (w.wires k) true (step_at z w k b).server_end bs (step_at z w k b).frames) grown
        (λ c. not_second (answered_wires (w.wires k) true (step_at z w k b).server_end bs (step_at z w k b).frames) stage e off c) few

    refused : Front z w k b x h (SaidSecond true) → ((answer w.values x).reply.status == success) ≡ false
        → Comes (answered_wires (w.wires k) true (step_at z w k b).server_end bs (step_at z w k b).frames) → ⊥
    refused G bad (a, y, s, down, r, ok) =
        let t = told_at z w k b x h (SaidSecond true) G in
        let text = text_by z w k h x in
        let heads = law.headers in
        let heard : response_in (Some text) ≡ Some (hears_it w k h x t.flags text) =
        heads.heard (with_flags (head_by w k h x) t.flags) (said_by z w k h x).body text t.fits t.is in
        let lists : text ∷ [] ≡ a ∷ [] = sym (ap (λ m. m ++ (step_at z w k b).frames) empty ∙ frames) ∙ down in
        let is : y ≡ hears_it w k h x t.flags text =
        same_heard y (hears_it w k h x t.flags text) (sym r ∙ (ap (λ m. response_in (Some m)) (sym (same_first text a lists)) ∙ heard)) in
        (let q : true ≡ false = sym ok ∙ (ap (λ (v : HeardMessage). v.header.status == success) is ∙ bad) in cc)

    second : Front z w k b x h (SaidSecond true) → (ok : Bool) → ((answer w.values x).reply.status == success) ≡ ok
        → Rooms (next_drawn drawn x.message.session_id (progress_by w x)) w.keys.session w.numbers
        (put w.wires k (answered_wires (w.wires k) true (step_at z w k b).server_end bs (step_at z w k b).frames))
    second G false bad =
        no_more drawn (next_drawn drawn x.message.session_id (progress_by w x)) w k
        (answered_wires (w.wires k) true (step_at z w k b).server_end bs (step_at z w k b).frames) grown
        (λ c. absurd (refused G bad c)) few
    second G true good =
        one_more drawn (next_drawn drawn x.message.session_id (progress_by w x)) w k
        (answered_wires (w.wires k) true (step_at z w k b).server_end bs (step_at z w k b).frames)
        (binding_draws z law w k b x h drawn G (eqb-true (answer w.values x).reply.status success good) told d) few

    by : (stage : Stage) → (w.wires k).client_end.stage ≡ stage
        → Rooms (next_drawn drawn x.message.session_id (progress_by w x)) w.keys.session w.numbers
        (put w.wires k (answered_wires (w.wires k) true (step_at z w k b).server_end bs (step_at z w k b).frames))
    by Apart e = other Apart e (λ q. (let h : Apart ≡ SaidSecond true = q in cc))
    by (SaidNegotiate bound) e = other (SaidNegotiate bound) e (λ q. (let h : SaidNegotiate bound ≡ SaidSecond true = q in cc))
    by (SaidFirst bound) e = other (SaidFirst bound) e (λ q. (let h : SaidFirst bound ≡ SaidSecond true = q in cc))
    by (SaidSecond false) e = other (SaidSecond false) e (λ q. (let h : SaidSecond false ≡ SaidSecond true = q in cc))
    by (SaidSecond true) e =
        second (subst (Front z w k b x h) e F) ((answer w.values x).reply.status == success) refl
    by AskedTree e = other AskedTree e (λ q. (let h : AskedTree ≡ SaidSecond true = q in cc))
