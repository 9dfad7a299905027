-- A client's end that gives its dialog up does as one that is answered with a status which isn't due.
use Rattle.std.proofs.Common.{◌≡◌, ℕ, true, false, List, refl, sym, ap, ◌∙◌, subst, arith}
use Rattle.spec_exchange.specs.Status.{success, more_processing_required}
use Rattle.spec_exchange.specs.State.{Reply, Empty}
use Rattle.spec_exchange.specs.Operations.{Refusal, HadStatus}
use Rattle.spec_exchange.specs.Client.{Stage, Apart, SaidNegotiate, SaidFirst, SaidSecond, AskedTree}
use Rattle.spec_exchange.specs.Dialogs.{Refuses, dialog_step}
use Rattle.spec_exchange.specs.ClientStep.{IsRefused}
use Rattle.spec_exchange.specs.Network.{World, Take, happens, later, dialog_ended, dialog_took}
use Rattle.law_sessions.proofs.sessions.Dialog.{Tells}
use Rattle.law_hostile.proofs.loosely.Staying.{Held}
use Rattle.law_hostile.proofs.loosely.Following.{Follows, later_follows}
use Rattle.law_hostile.proofs.loosely.Taking.{follows_then}
use Rattle.law_hostile.proofs.loosely.Dialoguing.{refused_follows}
use Rattle.law_hostile.proofs.loosely.Accepting.{told_at, told_past, told_past_follows, told_dialog_is, held_dialog}

abbrev pub declined : Reply
declined = record { status = 1; session_id = 0; tree_id = 0; body = Empty }

tells_declined : (w : World) (k : ℕ) → Tells w k declined
tells_declined w k =
    record {
      first = λ at due. absurd (let e : 1 ≡ more_processing_required = due in omega (arith, e));
      second = λ at due. absurd (let e : 1 ≡ success = due in omega (arith, e));
      tree = λ at due. absurd (let e : 1 ≡ success = due in omega (arith, e));
    }

step_declined : (t : Stage) → dialog_step t 1 ≡ Refuses 1
step_declined Apart = refl
step_declined (SaidNegotiate b) = refl
step_declined (SaidFirst b) = refl
step_declined (SaidSecond b) = refl
step_declined AskedTree = refl

pub held_declines : (share : List ℕ) (v : World) (a : ℕ → ℕ) (k place : ℕ) → (v.conns k).client_open ≡ true → v.client.ready k ≡ false
    → Held share v a → Held share (happens (told_at v k declined place) (Take k)) a
held_declines share v a k place on apart i = held_dialog share v a k declined place on apart (tells_declined v k) i

-- whatever its reason
pub declines_is : (w v : World) (k place : ℕ) (why : Refusal) → (v.conns k).client_open ≡ true → Follows w v
    → Follows (later (dialog_ended w k (IsRefused k why)) 1) (happens (told_at v k declined place) (Take k))
declines_is w v k place why on f =
    let b = told_past v k declined place in
    let is : happens (told_at v k declined place) (Take k) ≡ later (dialog_took b k declined (Refuses 1)) 1 =
    told_dialog_is v k declined place on ∙ ap (λ d. later (dialog_took b k declined d) 1) (step_declined (v.client.stage k)) in
    subst (λ x. Follows (later (dialog_ended w k (IsRefused k why)) 1) x) (sym is)
    (later_follows (dialog_ended w k (IsRefused k why)) (dialog_took b k declined (Refuses 1)) 1
    (refused_follows w b k why (HadStatus 1) (follows_then w v b f (told_past_follows v k declined place))))
