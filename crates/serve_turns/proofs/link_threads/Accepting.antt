-- How many links a net has accepted, as long as its count doesn't come to its end, and which one is the next.
use Rattle.std.proofs.Common.{◌≡◌, ℕ, ◌+◌, ◌-◌, ◌^◌, ◌<◌, ◌≤◌, List}
use Rattle.std.proofs.Common.{[], ◌∷◌, ◌++◌, length, min, arith, ◌∙◌, ap, refl, subst}
use Rattle.std.proofs.Common.{Some, slice_get, append_assoc, length-append}
use Rattle.std.proofs.Math.Nat.{min-eq_left}
use Rattle.serve_turns.specs.declared.link_threads.links.Halt.TheVariants.{Count, NetFault, Ended, Memory}
use Rattle.serve_turns.specs.link_serving.Passage.{IsLinkAt}
use Rattle.serve_turns.specs.link_threads.Accepted.{AreAccepted}

pub none_accepted : (old : ℕ) → old + 0 < 2 ^ 64 → old ≡ old + 0
none_accepted old few = omega arith

raised : (old place : ℕ) → old + (place + 1) < 2 ^ 64 → min (old + place + 1) (2 ^ 64 - 1) ≡ old + (place + 1)
raised old place few =
    let least : old + place + 1 ≤ 2 ^ 64 - 1 = omega (arith, few) in
    let sum : old + place + 1 ≡ old + (place + 1) = omega arith in min-eq_left least ∙ sum

-- one more is accepted
pub more_accepted : (old now new place : ℕ) → (old + place < 2 ^ 64 → now ≡ old + place) → new ≡ min (now + 1) (2 ^ 64 - 1)
    → old + (place + 1) < 2 ^ 64 → new ≡ old + (place + 1)
more_accepted old now new place so_far one_more few =
    let still : old + place < 2 ^ 64 = omega (arith, few) in
    one_more ∙ ap (λ n. min (n + 1) (2 ^ 64 - 1)) (so_far still) ∙ raised old place few

-- ---- what the peers of the links send

pub none_sent : (n : ℕ) → n ≡ n + 0
none_sent n = omega arith

pub longer : (old new : List (List ℕ)) (one : List ℕ) (others place : ℕ) → new ≡ old ++ one ∷ [] → length old ≡ others + place
    → length new ≡ others + (place + 1)
longer old new one others place is size =
    let more : length new ≡ length old + 1 = ap (λ (l : List (List ℕ)). length l) is ∙ length-append old (one ∷ []) in
    omega (arith, more, size)

-- further ones behind the next one
pub sent_on : (old new more sent : List (List ℕ)) (one : List ℕ) → new ≡ old ++ one ∷ [] → sent ≡ new ++ more → sent ≡ old ++ one ∷ more
sent_on old new more sent one next is =
    is ∙ ap (λ (l : List (List ℕ)). l ++ more) next ∙ append_assoc old (one ∷ []) more

behind_all : (old more : List (List ℕ)) (one : List ℕ) → slice_get (old ++ one ∷ more) (length old) ≡ Some one
behind_all [] more one = refl
behind_all (x ∷ xs) more one = behind_all xs more one

-- the next link is that at its place
pub accepted_next : {K : Type 0} (told : Type 0) (number : K → ℕ) (left : K → List ℕ) (before others place now : ℕ)
    (old more sent : List (List ℕ)) (link : K) → (before + place < 2 ^ 64 → now ≡ before + place) → number link ≡ min (now + 1) (2 ^ 64 - 1)
    → (told → length old ≡ others + place) → (told → sent ≡ old ++ left link ∷ more)
    → IsLinkAt told number left before others sent place link
accepted_next told number left before others place now old more sent link so_far is size on = record {
  numbered = more_accepted before now (number link) place so_far is;
  sends = λ t. subst (λ (n : ℕ). slice_get sent n ≡ Some (left link)) (size t)
      (ap (λ (l : List (List ℕ)). slice_get l (length old)) (on t) ∙ behind_all old more (left link));
}

-- ---- why no further one is accepted

module _ (most place links now links' : ℕ) (within : place ≤ most) (so_far : links + place < 2 ^ 64 → now ≡ links + place) where
  stays : (n m : ℕ) → n + (m + 0) < 2 ^ 64 → n + m < 2 ^ 64
  stays n m few = omega (arith, few)

  sum : (n m : ℕ) → n + m ≡ n + (m + 0)
  sum n m = omega arith

  pub all_accepted : links' ≡ now → most ≤ place → AreAccepted most place Count links links'
  all_accepted same past = record {
    within = within;
    all = λ is. omega (arith, within, past);
    counted = λ few. same ∙ (so_far (stays links place few) ∙ sum links place);
  }

  -- the net failed
  pub none_further : links' ≡ now → AreAccepted most place NetFault links links'
  none_further same = record {
    within = within;
    all = λ is. absurd (let q : NetFault ≡ Count = is in cc);
    counted = λ few. same ∙ (so_far (stays links place few) ∙ sum links place);
  }

  module _ (more : links' ≡ min (now + 1) (2 ^ 64 - 1)) where
    -- the last one was let go
    pub halted_behind : AreAccepted most place Ended links links'
    halted_behind = record {
      within = within;
      all = λ is. absurd (let q : Ended ≡ Count = is in cc);
      counted = more_accepted links now links' place so_far more;
    }

    pub no_room_behind : AreAccepted most place Memory links links'
    no_room_behind = record {
      within = within;
      all = λ is. absurd (let q : Memory ≡ Count = is in cc);
      counted = more_accepted links now links' place so_far more;
    }
