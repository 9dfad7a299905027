-- What is known of links that were served, each by a seat of its own.
use Rattle.std.specs.Prelude.{◌≡◌, ℕ, ◌+◌, ◌<◌, Bool, List, [], ◌∷◌, ◌++◌, ◌⊎◌, ⊤, Option, None, Some, get_or, length}
use Rattle.serve_turns.specs.link_serving.Passage.{IsLinkAt, IsOfLink, Passage, ServesOver}
use Rattle.serve_turns.specs.declared.shared_book.view.Entry.{Entry}
use Rattle.serve_turns.specs.declared.shared_book.view.View.{View}
use Rattle.serve_turns.specs.shared_book.Numbers.{IsOneOf, numbers_of}

-- ---- links that are being served, each by its place among those that were accepted, the number of its seat, and as it was accepted

abbrev pub Link : Type 0 → Type 0
Link K = ℕ × ℕ × K

abbrev pub IsAmong : {K : Type 0} → Link K → List (Link K) → Type 0
IsAmong x [] = ⊥
IsAmong x (y ∷ ys) = (x ≡ y) ⊎ IsAmong x ys

-- one of them has ended, and the others are served on
pub record Leaves {K : Type 0} (link : Link K) (running rest : List (Link K)) : Type 0 where
  pub was : IsAmong link running
  pub goes : (x : Link K) → IsAmong x running → (x ≡ link) ⊎ IsAmong x rest
  pub stays : (x : Link K) → IsAmong x rest → IsAmong x running
  pub one_less : length running ≡ length rest + 1

-- ---- links that were served

module _ {B E R : Type 0} where
  -- a seat that is to serve a link: it has no entries, no seat was joined to it, and none was made from it
  abbrev pub IsNewSeat : Option B → View B E R → Type 0
  IsNewSeat opening v = (v.opening ≡ opening) × (v.own ≡ []) × (v.ended ≡ []) × (v.made ≡ [])

-- one of these links, each with its place and its end, is that at this place, and ended so
abbrev pub IsEndOf : {X : Type 0} → ℕ → X → List (ℕ × X) → Type 0
IsEndOf place end [] = ⊥
IsEndOf place end (l ∷ ls) = ((l.0 ≡ place) × (l.1 ≡ end)) ⊎ IsEndOf place end ls

module _ {B E R X : Type 0} (serves : ℕ → View B E R → X → View B E R → Type 0) where
  -- The link of this number was served and ended so, by a seat of a book with this opening, which had no entries before and has this number
  -- and these entries now. Its history is one of those kept.
  pub record WasServed (opening : Option B) (kept : List (List (Entry E R))) (number : ℕ) (end : X) (seat : ℕ × List (ℕ × Entry E R))
      : Type 0 where
    pub from : View B E R
    pub to : View B E R
    pub by : serves number from end to
    pub none_before : from.own ≡ []
    pub opens : (from.opening ≡ opening) × (to.opening ≡ opening)
    pub is_number : (from.number ≡ seat.0) × (to.number ≡ seat.0)
    pub own_are : to.own ≡ seat.1
    pub before : List (List (Entry E R))
    pub after : List (List (Entry E R))
    pub stands : kept ≡ before ++ to.history ∷ after

  module _ (seat_at : ℕ → ℕ) (opening : Option B) (kept : List (List (Entry E R))) where
    -- the link at this place was served by the seat that is named for it; links are counted from 1
    abbrev pub ServedAt : ℕ → X → ℕ × List (ℕ × Entry E R) → Type 0
    ServedAt place end seat = (seat.0 ≡ seat_at place) × WasServed opening kept (place + 1) end seat

    -- Each seat that has ended served a link, at a place below a count: of each seat in order, the place and the end of its link.
    abbrev pub EachServed : ℕ → List (ℕ × X) → List (ℕ × List (ℕ × Entry E R)) → Type 0
    EachServed count [] [] = Unit {0}
    EachServed count (l ∷ ls) (x ∷ xs) = (l.0 < count) × ServedAt l.0 l.1 x × EachServed count ls xs
    EachServed count [] (x ∷ xs) = ⊥
    EachServed count (l ∷ ls) [] = ⊥

  -- Of the first so many links, in the order in which they were accepted: these are being served, each the link at its place, and of some
  -- it is told how they ended. Each was or is served by a seat of its own. The seat of the first number, which has no entries of its own,
  -- took in each seat that has ended, whose link ended as is told, if it is; each that was made has ended, or serves a link. There are as
  -- many of both as links.
  pub record AreServed {K : Type 0} (is_at : ℕ → K → Type 0) (running : List (Link K)) (count : ℕ) (ends : List (Option X)) (v : View B E R)
      : Type 0 where
    pub seat_at : ℕ → ℕ
    pub is_first : v.number ≡ 0
    pub none_own : v.own ≡ []
    pub served_now : (x : Link K) → IsAmong x running → (x.0 < count) × (x.1 ≡ seat_at x.0) × is_at x.0 x.2
    pub links : List (ℕ × X)
    pub each : EachServed seat_at v.opening v.kept count links v.ended
    pub told : (at : ℕ) (end : X) → get_or ends at None ≡ Some end → IsEndOf at end links
    pub back : (n : ℕ) → IsOneOf n v.made
        → IsOneOf n (numbers_of v) ⊎ ((place : ℕ) × (link : K) × IsAmong (place, n, link) running)
    pub as_many : length running + length links ≡ count

  -- the same where none is being served any more
  abbrev pub AreAllServed : ℕ → List (Option X) → View B E R → Type 0
  AreAllServed count ends v = AreServed (λ (place link : ℕ). ⊤) [] count ends v

-- the links that a net accepts behind so many others, each served by what passes over it
module _ {K B E R X : Type 0} (told : Type 0) (given left written : K → List ℕ) (faults : K → ℕ) (ended : K → Bool) (number : K → ℕ)
    (serves : ℕ → Passage → View B E R → X → View B E R → Type 0) where
  abbrev pub LinksServed : (before others : ℕ) → List (List ℕ) → List (Link K) → ℕ → List (Option X) → View B E R → Type 0
  LinksServed before others sent running count ends v =
      AreServed (ServesOver (IsOfLink told given left written faults ended number before others sent) serves)
      (IsLinkAt told number left before others sent) running count ends v

  -- the same whatever the net accepts
  pub record AnyLinksServed (running : List (Link K)) (count : ℕ) (ends : List (Option X)) (v : View B E R) : Type 0 where
    pub any : (before others : ℕ) (sent : List (List ℕ)) → LinksServed before others sent running count ends v
