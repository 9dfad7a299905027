-- A reply that a client's line takes answers a request of its own, where nothing is forged.
use Rattle.std.proofs.Common.{◌≡◌, ℕ, Bool, true, false, List, [], ◌∷◌, ◌++◌, ◌⊎◌, inl, inr, refl, sym, ◌∙◌, ap, subst}
use Rattle.std.proofs.Common.{Option, Some, slice_get}
use Rattle.std.specs.Prelude.{is_some}
use Rattle.spec_world.specs.Settings.{WorldSettings}
use Rattle.spec_world.specs.Messages.{HeardMessage}
use Rattle.spec_world.specs.Dialog.{line_response}
use Rattle.spec_world.specs.Hearing.{Checked, is_negotiate, is_setup, is_probe}
use Rattle.spec_hostile.specs.RepeatRuns.{RepeatEvent, Give, repeat_start}
use Rattle.spec_hostile.specs.SignedFor.{Watched, SignedEntry, OnOpening, InSession, TakesDown, TakenDown, opening_of, own_secret}
use Rattle.spec_hostile.specs.SignedFor.{watching, watched_happens, watched_run}
use Rattle.spec_hostile.specs.HostileNetwork.{SignsAlone}
use Rattle.law_ties.specs.wire_facts.Fitting.{IsFitting}
use Rattle.law_ties.specs.wire_facts.Lawful.{AreHeadersLawful, AreCommandsLawful, TreeFacts}
use Rattle.law_hostile.specs.unforged.Unforged.{AllSigned, EventSigned}
use Rattle.law_hostile.specs.placed.Placed.{GivesMessage, watched_to}
use Rattle.law_hostile.specs.meant.Heard.{IsHeardOwn}
use Rattle.law_hostile.specs.replied.Replies.{IsAnswer}
use Rattle.law_hostile.specs.replied.Taken.{IsAside, TakenRepliesAnswerOwn}
use Rattle.law_hostile.proofs.finals.Replying.{Lone, IsLone, lone_frame}
use Rattle.law_hostile.proofs.finals.Signing.{Holds, event_holds, start_holds, fine_of}
use Rattle.law_hostile.proofs.meant.Telling.{heard_meant}
use Rattle.law_hostile.proofs.replied.Saying.{signed_replies_answer}

-- ---- each event of a run without a forged message is such

pub signed_at : (z : WorldSettings) (before : List RepeatEvent) (v : RepeatEvent) (after : List RepeatEvent) (t : Watched)
    → AllSigned z (before ++ v ∷ after) t → EventSigned z (watched_run z before t) v
unfolding watched_run
signed_at z [] v after t all = all.0
signed_at z (e ∷ es) v after t all = signed_at z es v after (watched_happens z t e) all.1

pub run_fine : (z : WorldSettings) (es : List RepeatEvent) (t : Watched) → z.client.ciphers ≡ [] → Holds z t → Holds z (watched_run z es t)
unfolding watched_run
run_fine z [] t c h = h
run_fine z (e ∷ es) t c h = run_fine z es (watched_happens z t e) c (event_holds z t e c h)

-- ---- the request

by_kind : (P : Type 0) (c : Checked) → ((is_negotiate c.header ≡ false) → (is_setup c.header ≡ false) → (is_probe c.header c.raw ≡ false) → P)
    → IsAside c ⊎ P
by_kind P c f = first (is_negotiate c.header) refl (is_setup c.header) refl (is_probe c.header c.raw) refl
  where
    first : (n : Bool) → is_negotiate c.header ≡ n → (s : Bool) → is_setup c.header ≡ s → (p : Bool) → is_probe c.header c.raw ≡ p
        → IsAside c ⊎ P
    first true a s b p d = inl (inl a)
    first false a true b p d = inl (inr (inl b))
    first false a false b true d = inl (inr (inr d))
    first false a false b false d = inr (f a b d)

-- the frame that is given is the client's, and so unsealed
pub plain_frame : (z : WorldSettings) (t : Watched) (k place : ℕ) (e : SignedEntry) → Holds z t → (a : IsAnswer z t k place e)
    → a.frame.sealed ≡ false
plain_frame z t k place e h a =
    let f = (t.repeating.world.wires k).server_end in
    let g = fine_of z t h place a.put a.at in
    let one = g.1 in
    let lone : IsLone a.frame = subst Lone a.checks (lone_frame f a.put.frame g.0 one.alone) in
    lone.sealed

owned : AreHeadersLawful → AreCommandsLawful → TreeFacts → (z : WorldSettings) (es before : List RepeatEvent) (k place : ℕ)
    (after : List RepeatEvent) (e : SignedEntry) → IsFitting z → SignsAlone z → AllSigned z es (watching (repeat_start z))
    → es ≡ before ++ Give k true place ∷ after → (a : IsAnswer z (watched_to z before) k place e)
    → IsAside a.checked
    ⊎ IsHeardOwn z (watched_to z before).repeating (watched_to z before).repeating.world.logons k a.frame a.checked
owned heads law trees z es before k place after e fitting alone all run a =
    let t = watched_to z before in
    let now : EventSigned z t (Give k true place) =
    signed_at z before (Give k true place) after (watching (repeat_start z))
    (subst (λ l. AllSigned z l (watching (repeat_start z))) run all) in
    let h = run_fine z before (watching (repeat_start z)) alone.offered (start_holds z) in
    let g : GivesMessage t k place a.checked = record {
      put = a.put;
      at = a.at;
      served = a.served;
      frame = a.frame;
      heard = a.checks;
      plain = plain_frame z t k place e h a;
      index = 0;
      message = ap (λ l. slice_get l 0) a.alone;
    } in
    by_kind (IsHeardOwn z t.repeating t.repeating.world.logons k a.frame a.checked) a.checked
    (λ n s p. heard_meant heads law trees z before k place a.checked t.repeating.world.logons fitting now g a.fine n s p)

-- ---- the reply

one_opening : (k n j m : ℕ) → OnOpening k n ≡ OnOpening j m → (j ≡ k) × (m ≡ n)
one_opening k n j m e = (cc, cc)

no_session : (k n x : ℕ) → OnOpening k n ≡ InSession x → ⊥
no_session k n x e = absurd (cc)

pub place_of : (z : WorldSettings) (t v : Watched) (k : ℕ) (e : SignedEntry) (j place : ℕ) → e.place ≡ opening_of t.repeating k
    → (a : IsAnswer z v j place e) → (j ≡ k) × (v.repeating.openings j ≡ t.repeating.openings k)
place_of z t v k e j place is a = by a.place_is
  where
    by : (e.place ≡ opening_of v.repeating j) ⊎ (e.place ≡ InSession a.checked.header.session)
        → (j ≡ k) × (v.repeating.openings j ≡ t.repeating.openings k)
    by (inl p) = one_opening k (t.repeating.openings k) j (v.repeating.openings j) (sym is ∙ p)
    by (inr p) = absurd (no_session k (t.repeating.openings k) a.checked.header.session (sym is ∙ p))

is_told : (o : Option HeardMessage) (y : HeardMessage) → o ≡ Some y → is_some o ≡ true
is_told o y e = ap (λ x. is_some x) e

pub taken_replies_answer_own : AreHeadersLawful → AreCommandsLawful → TreeFacts → TakenRepliesAnswerOwn
taken_replies_answer_own heads law trees z es k place d y fitting alone all now at heard stage taken =
    let t = watched_to z es in
    let n = (t.repeating.world.wires k).client_end in
    let e : SignedEntry = record {
      to_server = false;
      secret = own_secret n;
      place = opening_of t.repeating k;
      message = d.frame;
    } in
    let takes : TakenDown z t k n d.frame e n.stage =
    subst (λ s. TakenDown z t k n d.frame e s) (sym stage) (is_told (line_response n d.frame) y taken, refl, refl) in
    let w = now e (TakesDown k place d at heard refl refl takes) in
    let a = signed_replies_answer z es w.0 e alone w.1 refl in
    let q = place_of z t (watched_to z a.before) k e a.k a.place refl a.answer in
    record {
      entry = e;
      text = refl;
      answered = a;
      here = q.0;
      opening = q.1;
      own = owned heads law trees z es a.before a.k a.place a.after e fitting alone all a.run a.answer;
    }
