-- What passed over one link, and how it stood before and behind.
use Rattle.std.specs.Prelude.{◌≡◌, ℕ, ◌+◌, ◌^◌, ◌<◌, Bool, false, List, ◌++◌, length, Some, slice_get}
use Rattle.base_outside.specs.network.Link.{IsLinkUnused}
use Rattle.serve_turns.specs.declared.shared_book.view.View.{View}

-- what it gave and what it took, how often it had failed before and behind, and whether it gave the end
pub record Passage : Type 0 where
  pub came : List ℕ
  pub wrote : List ℕ
  pub faults : ℕ
  pub faults' : ℕ
  pub ended : Bool

-- the link gave these bytes, which were the next that it had to give, and took those, where it tells them
module _ {K : Type 0} (told : Type 0) (given left written : K → List ℕ) where
  pub record Passed (old new : K) (came wrote : List ℕ) : Type 0 where
    pub given_is : told → given new ≡ given old ++ came
    pub left_is : told → left old ≡ came ++ left new
    pub written_is : told → written new ≡ written old ++ wrote

-- Of the links that a net accepted behind so many others: the one at this place, counted from 0. Its number goes on from theirs. Where
-- links tell their bytes, it has yet to give all that its peer sends, which stands at its place of what the net's peers send, behind those
-- of others.
pub record IsLinkAt {K : Type 0} (told : Type 0) (number : K → ℕ) (left : K → List ℕ) (before others : ℕ) (sent : List (List ℕ))
    (place : ℕ)
    (link : K) : Type 0 where
  pub numbered : before + (place + 1) < 2 ^ 64 → number link ≡ before + (place + 1)
  pub sends : told → slice_get sent (others + place) ≡ Some (left link)

module _ {K : Type 0} (told : Type 0) (given left written : K → List ℕ) (faults : K → ℕ) (ended : K → Bool) where
  -- this passed over a link between two of its states
  pub record Passes (old new : K) (p : Passage) : Type 0 where
    pub bytes : Passed told given left written old new p.came p.wrote
    pub before : p.faults ≡ faults old
    pub behind : p.faults' ≡ faults new
    pub closed : p.ended ≡ ended new

  -- a link as a net accepts it: it didn't fail, and gave and took nothing
  pub record IsNewLink (link : K) : Type 0 where
    pub calm : faults link ≡ 0
    pub going : ended link ≡ false
    pub unused : IsLinkUnused told (given link) (written link)

  -- this is all that passed over the link of this number, counted from 1, of those that a net accepted behind so many others
  pub record IsOfLink (number : K → ℕ) (before others : ℕ) (sent : List (List ℕ)) (n : ℕ) (p : Passage) : Type 0 where
    pub place : ℕ
    pub is_place : n ≡ place + 1
    pub link : K
    pub link' : K
    pub is_new : IsNewLink link
    pub accepted : IsLinkAt told number left before others sent place link
    pub passes : Passes link link' p

  -- the same of those that a net accepted between two of its states, of which it is told how many links it had accepted, and what their
  -- peers send
  abbrev pub IsOfNet : {N : Type 0} → (K → ℕ) → (N → ℕ) → (N → List (List ℕ)) → (net net' : N) → ℕ → Passage → Type 0
  IsOfNet number links sent net net' = IsOfLink number (links net) (length (sent net)) (sent net')

  -- a link was served between two of its states
  pub record ServesOn {B E R X : Type 0} (serves : ℕ → Passage → View B E R → X → View B E R → Type 0) (number : ℕ) (from : View B E R)
      (link : K) (end : X) (to : View B E R) (link' : K) : Type 0 where
    pub passage : Passage
    pub passes : Passes link link' passage
    pub served : serves number passage from end to

-- the link of a number was served, over which something passed of which this holds
pub record ServesOver {B E R X : Type 0} (over : ℕ → Passage → Type 0) (serves : ℕ → Passage → View B E R → X → View B E R → Type 0)
    (number : ℕ) (from : View B E R) (end : X) (to : View B E R) : Type 0 where
  pub passage : Passage
  pub passed : over number passage
  pub served : serves number passage from end to
