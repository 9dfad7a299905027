-- What the program's loops leave: no operation more, none open again, and no fewer sessions.
use Rattle.std.proofs.Common.{◌≡◌, ℕ, ◌+◌, ◌≤◌, ◌==◌, Bool, true, false, not, ◌&&◌, ◌||◌, length, refl, arith, ◌∙◌}
use Rattle.std.proofs.Common.{Option, Some, None, zero, suc}
use Rattle.spec_exchange.specs.Table.{is_filled}
use Rattle.spec_exchange.specs.Operations.{Refusal, is_unsettled}
use Rattle.spec_exchange.specs.ClientStep.{some_unsettled}
use Rattle.spec_exchange.specs.Schedules.{Course, went, went_if, went_push, push_lowest, serve_all, take_all}
use Rattle.spec_exchange.specs.Schedules.{served_all, taken_all, has_more, drain, is_linking, linking, link}
use Rattle.spec_exchange.specs.Schedules.{finished_after, finished_by, last_refusal, linked, ready_round, pushed_round}
use Rattle.spec_exchange.specs.Schedules.{rounds, each, tidy, drop_orphan, is_orphan, least, is_apart}
use Rattle.spec_exchange.specs.Network.{World, Event, Open, Serve, Take, Cut, Drop, Finish, may_serve, may_take_reply}
use Rattle.law_answers.proofs.completeness.Equations.{by_test, serve_on, serve_off, take_on, take_off, drain_on, drain_off}
use Rattle.law_answers.proofs.completeness.Equations.{linking_on, linking_off, went_on, went_off, finished_on, finished_off}
use Rattle.law_answers.proofs.completeness.Equations.{linked_on, linked_off, ready_on, ready_off, pushed_on, pushed_off}
use Rattle.law_answers.proofs.completeness.Equations.{rounds_on, rounds_off}
use Rattle.law_answers.proofs.completeness.Facts.{Always, is_submit}

pub record Later (K : World → Type 0) (c d : Course) : Type 0 where
  pub known : K d.world
  pub taken : d.world.client.taken ≡ c.world.client.taken
  pub stays : (g : ℕ) → is_unsettled (c.world.client.outcome g) ≡ false → is_unsettled (d.world.client.outcome g) ≡ false
  pub number : c.world.client.session_number ≤ d.world.client.session_number

pub now : (K : World → Type 0) (c : Course) → K c.world → Later K c c
now K c h = record { known = h; taken = refl; stays = λ g s. s; number = omega arith }

pub joined_on : (K : World → Type 0) (c d e : Course) → Later K c d → Later K d e → Later K c e
joined_on K c d e a b = record {
  known = b.known;
  taken = b.taken ∙ a.taken;
  stays = λ g s. b.stays g (a.stays g s);
  number = omega (arith, a.number, b.number);
}

pub one : (K : World → Type 0) → Always K → (c : Course) (e : Event) → is_submit e ≡ false → K c.world → Later K c (went c e)
unfolding went
one K A c e n h = record {
  known = A.step c.world e h;
  taken = A.taken c.world e n;
  stays = λ g s. A.stays c.world e g h s;
  number = A.number c.world e;
}

pub if_one : (K : World → Type 0) → Always K → (b : Bool) (c : Course) (e : Event) → is_submit e ≡ false → K c.world
    → Later K c (went_if b c e)
if_one K A b c e n h = by_test (λ d. Later K c d) b (went_if b c e) (went c e) c (went_on b c e) (went_off b c e)
    (λ _. one K A c e n h) (λ _. now K c h)

serves_later : (K : World → Type 0) → Always K → (n : ℕ) (c : Course) (k : ℕ) → K c.world → Later K c (serve_all n c k)
unfolding serve_all
serves_later K A zero c k h = now K c h
serves_later K A (suc n) c k h =
    let v = went c (Serve k) in let l = one K A c (Serve k) refl h in let again = serves_later K A n v k l.known in
    by_test (λ d. Later K c d) (may_serve c.world k) (serve_all (suc n) c k) (serve_all n v k) c (serve_on n c k)
    (serve_off n c k) (λ _. joined_on K c v (serve_all n v k) l again) (λ _. now K c h)

takes_later : (K : World → Type 0) → Always K → (n : ℕ) (c : Course) (k : ℕ) → K c.world → Later K c (take_all n c k)
unfolding take_all
takes_later K A zero c k h = now K c h
takes_later K A (suc n) c k h =
    let v = went c (Take k) in let l = one K A c (Take k) refl h in let again = takes_later K A n v k l.known in
    by_test (λ d. Later K c d) (may_take_reply c.world k) (take_all (suc n) c k) (take_all n v k) c (take_on n c k)
    (take_off n c k) (λ _. joined_on K c v (take_all n v k) l again) (λ _. now K c h)

pass_later : (K : World → Type 0) → Always K → (c : Course) (k : ℕ) → K c.world → Later K c (taken_all (served_all c k) k)
unfolding taken_all served_all
pass_later K A c k h =
    let d = served_all c k in let l = serves_later K A (length (c.world.conns k).up) c k h in
    joined_on K c d (taken_all d k) l (takes_later K A (length (d.world.conns k).down) d k l.known)

pub drain_later : (K : World → Type 0) → Always K → (n : ℕ) (c : Course) (k : ℕ) → K c.world → Later K c (drain n c k)
unfolding drain
drain_later K A zero c k h = now K c h
drain_later K A (suc n) c k h =
    let d = taken_all (served_all c k) k in let l = pass_later K A c k h in let again = drain_later K A n d k l.known in
    by_test (λ e. Later K c e) (has_more d.world k) (drain (suc n) c k) (drain n d k) d (drain_on n c k)
    (drain_off n c k) (λ _. joined_on K c d (drain n d k) l again) (λ _. l)

linking_later : (K : World → Type 0) → Always K → (n : ℕ) (c : Course) (k : ℕ) → K c.world → Later K c (linking n c k)
unfolding linking
linking_later K A zero c k h = now K c h
linking_later K A (suc n) c k h =
    let u = went c (Serve k) in let v = went u (Take k) in let a = one K A c (Serve k) refl h in
    let l = joined_on K c u v a (one K A u (Take k) refl a.known) in let again = linking_later K A n v k l.known in
    by_test (λ d. Later K c d) (is_linking c.world k) (linking (suc n) c k) (linking n v k) c (linking_on n c k)
    (linking_off n c k) (λ _. joined_on K c v (linking n v k) l again) (λ _. now K c h)

pub link_later : (K : World → Type 0) → Always K → (c : Course) (k : ℕ) → K c.world → Later K c (link c k)
unfolding link
link_later K A c k h = let v = went c (Open k) in let l = one K A c (Open k) refl h in joined_on K c v (link c k) l
    (linking_later K A 8 v k l.known)

finish_later : (K : World → Type 0) → Always K → (o : Option Refusal) (c : Course) → K c.world → Later K c (finished_by o c)
unfolding finished_by
finish_later K A None c h = now K c h
finish_later K A (Some refusal) c h = one K A c (Finish refusal) refl h

pub finished_later : (K : World → Type 0) → Always K → (n : Bool) (c d : Course) → K d.world → Later K d (finished_after n c d)
finished_later K A n c d h =
    by_test (λ e. Later K d e) (n && not (length c.world.client.refusals == length d.world.client.refusals))
    (finished_after n c d) (finished_by (last_refusal d.world.client.refusals) d) d
    (finished_on n c d) (finished_off n c d) (λ _. finish_later K A (last_refusal d.world.client.refusals) d h) (λ _. now K d h)

pub drop_later : (K : World → Type 0) → Always K → (c : Course) (k : ℕ) → K c.world → Later K c (drop_orphan c k)
unfolding drop_orphan
drop_later K A c k h = if_one K A (is_orphan c.world k) c (Drop k) refl h

pub tidy_later : (K : World → Type 0) → Always K → (c : Course) (k : ℕ) → K c.world → Later K c (tidy c k)
unfolding tidy
tidy_later K A c k h =
    let b = (c.world.conns k).client_open && not (c.world.conns k).server_open in let d = went_if b c (Cut k) in
    let l = if_one K A b c (Cut k) refl h in joined_on K c d (tidy c k) l (drop_later K A d k l.known)

pub each_later : (K : World → Type 0) → (act : Course → ℕ → Course)
    → ((c : Course) (k : ℕ) → K c.world → Later K c (act c k)) → (k n : ℕ) (c : Course) → K c.world
    → Later K c (each act k n c)
unfolding each
each_later K act s k zero c h = now K c h
each_later K act s k (suc n) c h = let l = s c k h in joined_on K c (act c k) (each act k (suc n) c) l
    (each_later K act s (k + 1) n (act c k) l.known)

pub linked_later : (K : World → Type 0) → Always K → (n : ℕ) (c : Course) → K c.world → Later K c (linked n c)
linked_later K A n c h =
    let d = link c (least (is_apart c.world) 0 n) in let l = link_later K A c (least (is_apart c.world) 0 n) h in
    by_test (λ e. Later K c e) (c.world.client.channels == 0) (linked n c) (finished_after true c d) c (linked_on n c)
    (linked_off n c) (λ _. joined_on K c d (finished_after true c d) l (finished_later K A true c d l.known))
    (λ _. now K c h)

pub push_later : (K : World → Type 0) → Always K → (c : Course) (k : ℕ) → K c.world → Later K c (went_push c k)
unfolding went_push
push_later K A c k h = one K A c (push_lowest c.world k) refl h

pub pushed_later : (K : World → Type 0) → Always K → (c : Course) (k : ℕ) → K c.world → Later K c (pushed_round c k)
pushed_later K A c k h =
    let d = went_push c k in let l = push_later K A c k h in
    by_test (λ e. Later K c e) (is_filled (d.world.conns k).up || is_filled (d.world.conns k).down) (pushed_round c k)
    (drain 64 d k) (went d (Cut k)) (pushed_on c k) (pushed_off c k)
    (λ _. joined_on K c d (drain 64 d k) l (drain_later K A 64 d k l.known))
    (λ _. joined_on K c d (went d (Cut k)) l (one K A d (Cut k) refl l.known))

pub ready_later : (K : World → Type 0) → Always K → (n : ℕ) (c : Course) → K c.world → Later K c (ready_round n c)
ready_later K A n c h =
    let k = least c.world.client.ready 0 n in
    by_test (λ e. Later K c e) (c.world.client.channels == 0) (ready_round n c) c (pushed_round c k) (ready_on n c)
    (ready_off n c) (λ _. now K c h) (λ _. pushed_later K A c k h)

abbrev pub one_round : ℕ → Course → Course
one_round n c = each tidy 0 n (ready_round n (linked n c))

pub round_later : (K : World → Type 0) → Always K → (n : ℕ) (c : Course) → K c.world → Later K c (one_round n c)
round_later K A n c h =
    let d = linked n c in let e = ready_round n d in let a = linked_later K A n c h in let b = ready_later K A n d
    a.known in let l = joined_on K c d e a b in
    joined_on K c e (one_round n c) l (each_later K tidy (tidy_later K A) 0 n e l.known)

pub rounds_later : (K : World → Type 0) → Always K → (n fuel : ℕ) (c : Course) → K c.world → Later K c (rounds n fuel c)
unfolding rounds
rounds_later K A n zero c h = now K c h
rounds_later K A n (suc fuel) c h =
    let d = one_round n c in let l = round_later K A n c h in let again = rounds_later K A n fuel d l.known in
    by_test (λ e. Later K c e) (some_unsettled c.world.client c.world.client.taken) (rounds n (suc fuel) c)
    (rounds n fuel d) c (rounds_on n fuel c) (rounds_off n fuel c) (λ _. joined_on K c d (rounds n fuel d) l again)
    (λ _. now K c h)
