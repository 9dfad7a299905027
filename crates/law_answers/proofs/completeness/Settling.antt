-- A schedule's settling, its three parts, settles every operation, or the client has no number for a session.
use Rattle.std.proofs.lemmas.Bool.Decides.{nat_tests}
use Rattle.std.proofs.Common.{◌≡◌, ℕ, ◌+◌, ◌*◌, ◌≤◌, nat_lt, Bool, true, false, if◌then◌else◌, refl, arith, ◌∙◌, zero, suc}
use Rattle.spec_exchange.specs.Operations.{is_unsettled}
use Rattle.spec_exchange.specs.Schedules.{Course, Settles, go, settle_below, rounds, each, drop_orphan, drain_and_cut}
use Rattle.spec_exchange.specs.Network.{World}
use Rattle.law_answers.proofs.completeness.Facts.{Always, AllPresent, count_on}
use Rattle.law_answers.proofs.completeness.Later.{Later, now, joined_on, rounds_later}
use Rattle.law_answers.proofs.completeness.Clean.{Clean, clean_else, at_or_else, Steps, EachOf, each_of, first_part}
use Rattle.law_answers.proofs.completeness.Tidy.{all_dropped, high_end}
use Rattle.law_answers.proofs.completeness.Rounds.{Done, Far, left, rounds_end}

most : (f : ℕ → Bool) (n : ℕ) → count_on f n ≤ n
unfolding count_on
most f zero = omega arith
most f (suc n) = let i = most f n in sum (f n) (count_on f n) i
  where
    sum : (b : Bool) (m : ℕ) → m ≤ n → (if b then 1 else 0) + m ≤ suc n
    sum true m l = omega (arith, l)
    sum false m l = omega (arith, l)

pub first_steps : (K : World → Type 0) → Always K → (c : Course) → Steps (Later K c) (λ q e. Clean e.world.conns q) drain_and_cut
first_steps K A c =
    record {
      keeps = λ d k l. joined_on K c d (drain_and_cut d k) l (first_part K A d k l.known).later;
      makes = λ d k l. (first_part K A d k l.known).clean;
      stays = λ d k q l i.
          let f = first_part K A d k l.known in
          at_or_else (λ x. Clean d.world.conns x → Clean (drain_and_cut d k).world.conns x) k q (λ _. f.clean)
          (λ n. clean_else d.world.conns (drain_and_cut d k).world.conns k q f.elsewhere n) i;
    }

pub all_clean : (K : World → Type 0) → Always K → (c d : Course) → EachOf (Later K c) (λ q e. Clean e.world.conns q) c d 0
    256 → (q : ℕ) → Clean d.world.conns q
all_clean K A c d e q =
    let F = A.facts d.world e.keeps.known in
    elim (nat_lt q 256) as (λ b. nat_lt q 256 ≡ b → Clean d.world.conns q) [
      | true ↦ λ l. e.makes q (omega arith) (grind (arith, nat_tests))
      | false ↦ λ l o. absurd (both (d.world.conns q).client_open o (high_end q (d.world.conns q).client_open (F.client_low q) l))
    ] refl
  where
    both : (b : Bool) → b ≡ true → b ≡ false → ⊥
    both b e f = absurd (cc)

-- the rounds that are there are more than twice the operations and one
pub settles : (K : World → Type 0) → Always K → AllPresent K → (c : Course) → K c.world → Done (go 256 c Settles).world
unfolding go settle_below
settles K A R c h =
    let first = each_of (Later K c) (λ q e. Clean e.world.conns q) drain_and_cut (first_steps K A c) 0 256 c (now K c h) in
    let d = each drain_and_cut 0 256 c in let t = all_dropped K A d first.keeps.known (all_clean K A c d first) in
    let e = each drop_orphan 0 256 d in
    let m = most (λ i. is_unsettled (e.world.client.outcome (i + 1))) e.world.client.taken in
    rounds_end K A R (8 * (c.world.client.taken + 256 + 1)) e false t.later.known t.rested Far
    (enough (left e.world.client e.world.client.taken) e.world.client.taken c.world.client.taken m
    (t.later.taken ∙ first.keeps.taken))
  where
    enough : (l n m : ℕ) → l ≤ n → n ≡ m → 2 * l + 1 ≤ 8 * (m + 256 + 1)
    enough l n m a b = omega (arith, a, b)

pub settle_later : (K : World → Type 0) → Always K → (c : Course) (fuel : ℕ) → K c.world → Later K c (settle_below 256 fuel c)
unfolding settle_below
settle_later K A c fuel h =
    let first = each_of (Later K c) (λ q e. Clean e.world.conns q) drain_and_cut (first_steps K A c) 0 256 c (now K c h) in
    let d = each drain_and_cut 0 256 c in let t = all_dropped K A d first.keeps.known (all_clean K A c d first) in
    let e = each drop_orphan 0 256 d in
    joined_on K c d (rounds 256 fuel e) first.keeps (joined_on K d e (rounds 256 fuel e) t.later
    (rounds_later K A 256 fuel e t.later.known))
