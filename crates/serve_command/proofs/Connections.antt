-- The connections of a server, by the seats that have ended.
use Rattle.std.proofs.Common.{◌≡◌, inl, inr, ℕ, zero, suc, ◌+◌, ◌%◌, ◌^◌, ◌==◌, ◌≤◌, ◌<◌, true, false, List, [], ◌∷◌, ◌++◌}
use Rattle.std.proofs.Common.{length, slice_get, Option, Some, None, refl, sym, ap, subst, ◌∙◌, arith}
use Rattle.std.proofs.Math.Nat.{mod-eq_of_lt}
use Rattle.spec_world.specs.Settings.{ServerSettings}
use Rattle.serve_turns.specs.connection_turns.Serving.{WasServedBy}
use Rattle.serve_turns.specs.declared.event_book.turn.Answer.{Answer}
use Rattle.serve_turns.specs.declared.event_book.turn.Turn.{Turn}
use Rattle.serve_turns.specs.declared.link_serving.ended.Ended.{Ended}
use Rattle.serve_turns.specs.declared.shared_book.view.Entry.{Entry}
use Rattle.serve_turns.specs.event_book.History.{AllMeet, Course, Placed}
use Rattle.serve_turns.specs.link_serving.Passage.{Passage, ServesOver}
use Rattle.serve_turns.specs.link_serving.Serving as serving
use Rattle.serve_turns.specs.link_serving.Serving.{EachServed, IsEndOf}
use Rattle.serve_turns.specs.shared_book.Histories.{HaveAll, entries_of, entry_if}
use Rattle.serve_turns.specs.shared_book.Numbers as numbers
use Rattle.serve_turns.specs.shared_book.Numbers.{IsOneOf, numbers_in}
use Rattle.serve_command.specs.Guid.{server_guid}
use Rattle.serve_command.specs.Serving.{serves_link}
use Rattle.serve_command.specs.Whole.{AllPassed, AllServed, AreApart, AreNumbered, AreOfFirst, EndedConnection, HasEndedSo}
use Rattle.serve_command.specs.Whole.{HasSeat, WasServed}

none_there : {X : Type 0} (i : ℕ) (x : X) → slice_get [] i ≡ Some x → ⊥
none_there zero x here = absurd (let q : None ≡ Some x = here in cc)
none_there (suc i) x here = absurd (let q : None ≡ Some x = here in cc)

module _ {B : Type 0} (z : ServerSettings) (guid : z.guid ≡ server_guid) (h : Course) (log : List (Entry Turn Answer))
    (meets : (seat : ℕ) → AllMeet z h (entries_of seat 0 log)) (seat_at : ℕ → ℕ) (opening : Option B)
    (kept : List (List (Entry Turn Answer))) (count : ℕ) (over : ℕ → Passage → Type 0) where
  abbrev pub Seat : Type 0
  Seat = ℕ × List Placed

  abbrev pub Each : List (ℕ × Ended) → List Seat → Type 0
  Each links seats = EachServed (ServesOver over serves_link) seat_at opening kept count links seats

  -- ---- one connection

  pub record Made (place : ℕ) (end : Ended) (seat : ℕ) : Type 0 where
    pub connection : EndedConnection
    pub accept_is : connection.accept ≡ place + 1
    pub seat_is : connection.seat ≡ seat
    pub end_is : connection.end ≡ end
    pub served : WasServed z h log connection
    pub passed : over connection.accept connection.passage

  abbrev pub made : (place : ℕ) (end : Ended) (x : Seat) → serving.WasServed (ServesOver over serves_link) opening kept (place + 1) end x
      → x.1 ≡ entries_of x.0 0 log → Made place end x.0
  made place end x was own =
      let s = was.by in
      let p = s.passage in
      let turns : was.to.own ≡ s.served.turns = s.served.own ∙ ap (λ (o : List Placed). o ++ s.served.turns) was.none_before in
      let is : s.served.turns ≡ entries_of x.0 0 log = sym turns ∙ (was.own_are ∙ own) in
      let by = s.served.by z h guid (subst (λ (xs : List Placed). AllMeet z h xs) (sym is) (meets x.0)) in
      record {
        connection = record {
          accept = place + 1;
          seat = x.0;
          passage = p;
          end = end;
          seals = by.0;
        };
        accept_is = refl;
        seat_is = refl;
        end_is = refl;
        served = subst (λ (xs : List Placed). WasServedBy z h ((place + 1) % 2 ^ 32) xs p.came p.wrote p.faults p.faults' p.ended end by.0)
            is by.1;
        passed = s.passed;
      }

  -- ---- all of them, in the order in which they were joined

  abbrev pub connections : (links : List (ℕ × Ended)) (seats : List Seat) → Each links seats → HaveAll log seats → List EndedConnection
  connections [] [] each have = []
  connections [] (x ∷ xs) each have = []
  connections (l ∷ ls) [] each have = []
  connections (l ∷ ls) (x ∷ xs) each have = (made l.0 l.1 x each.1.1 have.0).connection ∷ connections ls xs each.2 have.1

  -- there are as many as links
  pub as_many : (links : List (ℕ × Ended)) (seats : List Seat) (each : Each links seats) (have : HaveAll log seats)
      → length (connections links seats each have) ≡ length links
  as_many [] [] each have = refl
  as_many [] (x ∷ xs) each have = absurd each
  as_many (l ∷ ls) [] each have = absurd each
  as_many (l ∷ ls) (x ∷ xs) each have = ap (λ (n : ℕ). suc n) (as_many ls xs each.2 have.1)

  -- what is known of each
  record Facts (c : EndedConnection) (seats : List ℕ) : Type 0 where
    served : WasServed z h log c
    passed : over c.accept c.passage
    place : ℕ
    accept_is : c.accept ≡ place + 1
    few : place < count
    seat_is : c.seat ≡ seat_at place
    among : IsOneOf c.seat seats

  facts : (links : List (ℕ × Ended)) (seats : List Seat) (each : Each links seats) (have : HaveAll log seats) (i : ℕ) (c : EndedConnection)
      → slice_get (connections links seats each have) i ≡ Some c → Facts c (numbers_in seats)
  facts [] [] each have i c here = absurd (none_there i c here)
  facts [] (x ∷ xs) each have i c here = absurd each
  facts (l ∷ ls) [] each have i c here = absurd each
  facts (l ∷ ls) (x ∷ xs) each have zero c here =
      let m = made l.0 l.1 x each.1.1 have.0 in
      let same : m.connection ≡ c = (let q : Some m.connection ≡ Some c = here in cc) in
      subst (λ (v : EndedConnection). Facts v (numbers_in (x ∷ xs))) same
      (record {
        served = m.served;
        passed = m.passed;
        place = l.0;
        accept_is = m.accept_is;
        few = each.0;
        seat_is = m.seat_is ∙ each.1.0;
        among = inl m.seat_is;
      })
  facts (l ∷ ls) (x ∷ xs) each have (suc i) c here =
      let f = facts ls xs each.2 have.1 i c here in
      record {
        served = f.served;
        passed = f.passed;
        place = f.place;
        accept_is = f.accept_is;
        few = f.few;
        seat_is = f.seat_is;
        among = inr f.among;
      }

  not_first : (links : List (ℕ × Ended)) (seats : List Seat) (each : Each links seats) (have : HaveAll log seats) (n j : ℕ)
      (c : EndedConnection) → (IsOneOf n (numbers_in seats) → ⊥) → slice_get (connections links seats each have) j ≡ Some c → c.seat ≡ n → ⊥
  not_first links seats each have n j c fresh here is =
      fresh (subst (λ (m : ℕ). IsOneOf m (numbers_in seats)) is (facts links seats each have j c here).among)

  apart_seats : (links : List (ℕ × Ended)) (seats : List Seat) (each : Each links seats) (have : HaveAll log seats)
      → numbers.AreApart (numbers_in seats) → (i j : ℕ) (x y : EndedConnection) → slice_get (connections links seats each have) i ≡ Some x
      → slice_get (connections links seats each have) j ≡ Some y → x.seat ≡ y.seat → i ≡ j
  apart_seats [] [] each have apart i j x y here there same = absurd (none_there i x here)
  apart_seats [] (s ∷ ss) each have apart i j x y here there same = absurd each
  apart_seats (l ∷ ls) [] each have apart i j x y here there same = absurd each
  apart_seats (l ∷ ls) (s ∷ ss) each have apart zero zero x y here there same = refl
  apart_seats (l ∷ ls) (s ∷ ss) each have apart zero (suc j) x y here there same =
      let m = made l.0 l.1 s each.1.1 have.0 in
      let q : Some m.connection ≡ Some x = here in
      let is : m.connection ≡ x = cc in
      let first : y.seat ≡ s.0 = sym same ∙ (sym (ap (λ (v : EndedConnection). v.seat) is) ∙ m.seat_is) in
      absurd (not_first ls ss each.2 have.1 s.0 j y apart.0 there first)
  apart_seats (l ∷ ls) (s ∷ ss) each have apart (suc i) zero x y here there same =
      let m = made l.0 l.1 s each.1.1 have.0 in
      let q : Some m.connection ≡ Some y = there in
      let is : m.connection ≡ y = cc in
      let first : x.seat ≡ s.0 = same ∙ (sym (ap (λ (v : EndedConnection). v.seat) is) ∙ m.seat_is) in
      absurd (not_first ls ss each.2 have.1 s.0 i x apart.0 here first)
  apart_seats (l ∷ ls) (s ∷ ss) each have apart (suc i) (suc j) x y here there same =
      ap (λ (n : ℕ). suc n) (apart_seats ls ss each.2 have.1 apart.1 i j x y here there same)

  -- ---- what the clause says of them

  module _ (links : List (ℕ × Ended)) (seats : List Seat) (each : Each links seats) (have : HaveAll log seats)
      (apart : numbers.AreApart (numbers_in seats)) where
    abbrev pub all : List EndedConnection
    all = connections links seats each have

    pub all_served : AllServed z h log all
    all_served = λ i x here. (facts links seats each have i x here).served

    pub all_passed : AllPassed over all
    all_passed = λ i x here. (facts links seats each have i x here).passed

    one_more : (n m : ℕ) → n + 1 ≡ m + 1 → n ≡ m
    one_more n m e = omega (arith, e)

    pub all_apart : AreApart all
    all_apart = λ i j x y here there. (
      λ same. (let f = facts links seats each have i x here in
          let g = facts links seats each have j y there in
          let places : f.place ≡ g.place = one_more f.place g.place (sym f.accept_is ∙ (same ∙ g.accept_is)) in
          apart_seats links seats each have apart i j x y here there (f.seat_is ∙ (ap seat_at places ∙ sym g.seat_is))),
      λ same. apart_seats links seats each have apart i j x y here there same,
    )

    pub all_of_first : AreOfFirst count all
    all_of_first = λ i x here. (let f = facts links seats each have i x here in
        let is = f.accept_is in
        let few = f.few in
        (omega (arith, is), omega (arith, is, few)))

    small : (n : ℕ) → n ≤ count → count < 2 ^ 32 → n < 2 ^ 32
    small n le few = omega (arith, le, few)

    pub all_numbered : count < 2 ^ 32 → AreNumbered all
    all_numbered few = λ i j x y here there same.
        (let low = small x.accept (all_of_first i x here).1 few in
        let high = small y.accept (all_of_first j y there).1 few in
        (all_apart i j x y here there).0 (sym (mod-eq_of_lt low) ∙ (same ∙ mod-eq_of_lt high)))

  pub has_seat : (links : List (ℕ × Ended)) (seats : List Seat) (each : Each links seats) (have : HaveAll log seats) (n : ℕ)
      → IsOneOf n (numbers_in seats) → HasSeat (connections links seats each have) n
  has_seat [] [] each have n among = absurd among
  has_seat [] (x ∷ xs) each have n among = absurd each
  has_seat (l ∷ ls) [] each have n among = absurd each
  has_seat (l ∷ ls) (x ∷ xs) each have n (inl is) =
      let m = made l.0 l.1 x each.1.1 have.0 in
      record { place = 0; connection = m.connection; here = refl; seat_is = m.seat_is ∙ sym is }
  has_seat (l ∷ ls) (x ∷ xs) each have n (inr among) =
      let r = has_seat ls xs each.2 have.1 n among in
      record { place = suc r.place; connection = r.connection; here = r.here; seat_is = r.seat_is }

  pub has_ended : (links : List (ℕ × Ended)) (seats : List Seat) (each : Each links seats) (have : HaveAll log seats) (place : ℕ)
      (end : Ended) → IsEndOf place end links → HasEndedSo (connections links seats each have) (place + 1) end
  has_ended [] [] each have place end among = absurd among
  has_ended [] (x ∷ xs) each have place end among = absurd each
  has_ended (l ∷ ls) [] each have place end among = absurd each
  has_ended (l ∷ ls) (x ∷ xs) each have place end (inl is) =
      let m = made l.0 l.1 x each.1.1 have.0 in
      record {
        place = 0;
        connection = m.connection;
        here = refl;
        accept_is = m.accept_is ∙ ap (λ (n : ℕ). n + 1) is.0;
        end_is = m.end_is ∙ is.1;
      }
  has_ended (l ∷ ls) (x ∷ xs) each have place end (inr among) =
      let r = has_ended ls xs each.2 have.1 place end among in
      record { place = suc r.place; connection = r.connection; here = r.here; accept_is = r.accept_is; end_is = r.end_is }

-- ---- all that the clause says of the connections, by the seats that have ended

pub record Connected (z : ServerSettings) (h : Course) (log : List (Entry Turn Answer)) (count : ℕ) (links : List (ℕ × Ended))
    (seats : List (ℕ × List Placed)) (over : ℕ → Passage → Type 0) : Type 0 where
  pub all : List EndedConnection
  pub each : AllServed z h log all
  pub passed : AllPassed over all
  pub as_many : length all ≡ length links
  pub apart : AreApart all
  pub of_first : AreOfFirst count all
  pub numbered : count < 2 ^ 32 → AreNumbered all
  pub seated : (n : ℕ) → IsOneOf n (numbers_in seats) → HasSeat all n
  pub told : (place : ℕ) (end : Ended) → IsEndOf place end links → HasEndedSo all (place + 1) end

pub connected : {B : Type 0} (z : ServerSettings) (guid : z.guid ≡ server_guid) (h : Course) (log : List (Entry Turn Answer))
    (meets : (seat : ℕ) → AllMeet z h (entries_of seat 0 log)) (seat_at : ℕ → ℕ) (opening : Option B)
    (kept : List (List (Entry Turn Answer))) (count : ℕ) (links : List (ℕ × Ended)) (seats : List (ℕ × List Placed))
    (over : ℕ → Passage → Type 0) → EachServed (ServesOver over serves_link) seat_at opening kept count links seats → HaveAll log seats
    → numbers.AreApart (numbers_in seats)
    → Connected z h log count links seats over
connected z guid h log meets seat_at opening kept count links seats over each have apart = record {
  all = connections z guid h log meets seat_at opening kept count over links seats each have;
  each = all_served z guid h log meets seat_at opening kept count over links seats each have apart;
  passed = all_passed z guid h log meets seat_at opening kept count over links seats each have apart;
  as_many = as_many z guid h log meets seat_at opening kept count over links seats each have;
  apart = all_apart z guid h log meets seat_at opening kept count over links seats each have apart;
  of_first = all_of_first z guid h log meets seat_at opening kept count over links seats each have apart;
  numbered = all_numbered z guid h log meets seat_at opening kept count over links seats each have apart;
  seated = has_seat z guid h log meets seat_at opening kept count over links seats each have;
  told = has_ended z guid h log meets seat_at opening kept count over links seats each have;
}

-- ---- a number without entries has none in the history

pub no_entry : (n place : ℕ) (es : List (Entry Turn Answer)) (i : ℕ) (e : Entry Turn Answer) → slice_get es i ≡ Some e → e.seat ≡ n
    → entries_of n place es ≡ [] → ⊥
no_entry n place [] i e here is none = none_there i e here
no_entry n place (x ∷ es) zero e here is none =
    let q : Some x ≡ Some e = here in
    let same : x ≡ e = cc in
    let mine : x.seat ≡ n = ap (λ (v : Entry Turn Answer). v.seat) same ∙ is in
    elim (x.seat == n) as (λ b. x.seat == n ≡ b → entry_if b place x ++ entries_of n (place + 1) es ≡ [] → ⊥) [
      | true ↦ λ t e. absurd (cc)
      | false ↦ λ t e. absurd (grind (arith, mine, t))
    ] refl none
no_entry n place (x ∷ es) (suc i) e here is none =
    elim (x.seat == n) as (λ b. entry_if b place x ++ entries_of n (place + 1) es ≡ [] → ⊥) [
      | true ↦ λ e. absurd (cc)
      | false ↦ λ rest. no_entry n (place + 1) es i e here is rest
    ] none
