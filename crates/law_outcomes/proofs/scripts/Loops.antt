-- What each event that closes nothing carries on, each of the program's loops that has no cut and no drop carries on too.
use Rattle.std.proofs.Common.{◌≡◌, ℕ, ◌+◌, ◌==◌, Bool, true, not, ◌&&◌, length, refl, Option, Some, None, zero, suc}
use Rattle.spec_exchange.specs.Operations.{Refusal}
use Rattle.spec_exchange.specs.Schedules.{Course, went, went_push, push_lowest, serve_all, take_all, served_all, taken_all}
use Rattle.spec_exchange.specs.Schedules.{has_more, drain, is_linking, linking, link, finished_after, finished_by}
use Rattle.spec_exchange.specs.Schedules.{last_refusal, linked, least, is_apart, each}
use Rattle.spec_exchange.specs.Network.{Event, Open, Serve, Take, Finish, may_serve, may_take_reply}
use Rattle.law_answers.proofs.completeness.Equations.{by_test, serve_on, serve_off, take_on, take_off, drain_on, drain_off}
use Rattle.law_answers.proofs.completeness.Equations.{linking_on, linking_off, finished_on, finished_off, linked_on, linked_off}
use Rattle.law_outcomes.specs.scripts.Scripts.{is_quiet, is_finish}

-- neither a cut, drop, restart or crash, nor a Finish
abbrev pub is_plain : Event → Bool
is_plain e = is_quiet e && not (is_finish e)

pub record CarriedOn (P : Course → Type 0) : Type 0 where
  pub event : (c : Course) (e : Event) → is_plain e ≡ true → P c → P (went c e)
  -- a Finish behind a refused dialog
  pub finish : (c : Course) (refusal : Refusal) → last_refusal c.world.client.refusals ≡ Some refusal → P c
      → P (went c (Finish refusal))

serves : (P : Course → Type 0) → CarriedOn P → (n : ℕ) (c : Course) (k : ℕ) → P c → P (serve_all n c k)
unfolding serve_all
serves P on zero c k h = h
serves P on (suc n) c k h =
    let again = serves P on n (went c (Serve k)) k (on.event c (Serve k) refl h) in
    by_test P (may_serve c.world k) (serve_all (suc n) c k) (serve_all n (went c (Serve k)) k) c (serve_on n c k)
    (serve_off n c k) (λ _. again) (λ _. h)

takes : (P : Course → Type 0) → CarriedOn P → (n : ℕ) (c : Course) (k : ℕ) → P c → P (take_all n c k)
unfolding take_all
takes P on zero c k h = h
takes P on (suc n) c k h =
    let again = takes P on n (went c (Take k)) k (on.event c (Take k) refl h) in
    by_test P (may_take_reply c.world k) (take_all (suc n) c k) (take_all n (went c (Take k)) k) c (take_on n c k)
    (take_off n c k) (λ _. again) (λ _. h)

passes : (P : Course → Type 0) → CarriedOn P → (c : Course) (k : ℕ) → P c → P (taken_all (served_all c k) k)
unfolding taken_all served_all
passes P on c k h = let d = served_all c k in takes P on (length (d.world.conns k).down) d k
    (serves P on (length (c.world.conns k).up) c k h)

pub drains : (P : Course → Type 0) → CarriedOn P → (n : ℕ) (c : Course) (k : ℕ) → P c → P (drain n c k)
unfolding drain
drains P on zero c k h = h
drains P on (suc n) c k h =
    let d = taken_all (served_all c k) k in let p = passes P on c k h in let again = drains P on n d k p in
    by_test P (has_more d.world k) (drain (suc n) c k) (drain n d k) d (drain_on n c k) (drain_off n c k) (λ _. again) (λ _. p)

links_on : (P : Course → Type 0) → CarriedOn P → (n : ℕ) (c : Course) (k : ℕ) → P c → P (linking n c k)
unfolding linking
links_on P on zero c k h = h
links_on P on (suc n) c k h =
    let u = went c (Serve k) in let v = went u (Take k) in
    let again = links_on P on n v k (on.event u (Take k) refl (on.event c (Serve k) refl h)) in
    by_test P (is_linking c.world k) (linking (suc n) c k) (linking n v k) c (linking_on n c k) (linking_off n c k) (λ _. again) (λ _. h)

pub links : (P : Course → Type 0) → CarriedOn P → (c : Course) (k : ℕ) → P c → P (link c k)
unfolding link
links P on c k h = links_on P on 8 (went c (Open k)) k (on.event c (Open k) refl h)

finishes_by : (P : Course → Type 0) → CarriedOn P → (o : Option Refusal) (c : Course)
    → last_refusal c.world.client.refusals ≡ o → P c → P (finished_by o c)
unfolding finished_by
finishes_by P on None c is h = h
finishes_by P on (Some refusal) c is h = on.finish c refusal is h

pub finishes : (P : Course → Type 0) → CarriedOn P → (n : Bool) (c d : Course) → P d → P (finished_after n c d)
finishes P on n c d h =
    by_test P (n && not (length c.world.client.refusals == length d.world.client.refusals)) (finished_after n c d)
    (finished_by (last_refusal d.world.client.refusals) d) d (finished_on n c d) (finished_off n c d)
    (λ _. finishes_by P on (last_refusal d.world.client.refusals) d refl h) (λ _. h)

pub begins : (P : Course → Type 0) → CarriedOn P → (n : ℕ) (c : Course) → P c → P (linked n c)
begins P on n c h =
    let k = least (is_apart c.world) 0 n in
    by_test P (c.world.client.channels == 0) (linked n c) (finished_after true c (link c k)) c (linked_on n c) (linked_off n c)
    (λ _. finishes P on true c (link c k) (links P on c k h)) (λ _. h)

pub pushes : (P : Course → Type 0) → CarriedOn P → (c : Course) (k : ℕ) → P c → P (went_push c k)
unfolding went_push
pushes P on c k h = on.event c (push_lowest c.world k) refl h

-- each of the channels in turn
pub each_on : (P : Course → Type 0) (act : Course → ℕ → Course) → ((c : Course) (k : ℕ) → P c → P (act c k))
    → (k n : ℕ) (c : Course) → P c → P (each act k n c)
unfolding each
each_on P act s k zero c h = h
each_on P act s k (suc n) c h = each_on P act s (k + 1) n (act c k) (s c k h)
