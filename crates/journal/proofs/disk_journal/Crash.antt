-- What a crash leaves in each step of an entry that is put behind a closed gate, and of a gate that opens.
use Rattle.std.proofs.Common.{◌≡◌, inl, inr, ℕ, ◌+◌, ◌<◌, List, [], ◌∷◌, ◌++◌, length, get_or, take, drop, sym, ◌∙◌, ap}
use Rattle.std.proofs.Common.{subst, arith, append_assoc, length-append, take-append-drop}
use Rattle.std.proofs.Common.{◌-◌, replicate}
use Rattle.std.proofs.lemmas.List.{take_at, drop_at, drop-drop, drop_more, take-append-le, take-take, length-take-le}
use Rattle.std.proofs.lemmas.Bool.{cases_eq, cases_lt}
use Rattle.base_outside.specs.streams.Disk.{WritesAt, Torn, Follows, Only, Elapses}
use Rattle.spec_wire.specs.journal.Moments.{LeavesOnly}
use Rattle.journal.specs.disk_journal.Entry.{ClosedAt, StaysClosed, IsClosedOrOpened}
use Rattle.journal.proofs.disk_journal.Moments.{started, goes_on}

module _ (front rest : List ℕ) (gate shut : ℕ) (bytes : List ℕ) (ends : ClosedAt gate front shut rest bytes) where
  whole_front : length (front ++ shut ∷ []) ≡ gate + 1
  whole_front = omega (arith, length-append front (shut ∷ []), ends.place)

  length-bytes : length bytes ≡ gate + 1 + length rest
  length-bytes = omega (arith, ap length ends.file, length-append front (shut ∷ rest), ends.place)

  in_two : bytes ≡ (front ++ shut ∷ []) ++ rest
  in_two = ends.file ∙ sym (append_assoc front (shut ∷ []) rest)

  front_is : take (gate + 1) bytes ≡ front ++ shut ∷ []
  front_is = ap (λ (l : List ℕ). take (gate + 1) l) in_two ∙ take_at (front ++ shut ∷ []) rest (gate + 1) whole_front

  rest_is : drop (gate + 1) bytes ≡ rest
  rest_is = ap (λ (l : List ℕ). drop (gate + 1) l) in_two ∙ drop_at (front ++ shut ∷ []) rest (gate + 1) whole_front

  before_gate : take gate bytes ≡ front
  before_gate = ap (λ (l : List ℕ). take gate l) ends.file ∙ take_at front (shut ∷ rest) gate ends.place

  -- the closed gate stands in each outcome of a write behind it
  pub torn_stays : (at n : ℕ) (c : List ℕ) → gate < at → Torn at n bytes c → c ≡ front ++ shut ∷ drop (gate + 1) c
  torn_stays at n c later torn =
      let kept : take (gate + 1) c ≡ front ++ shut ∷ [] = torn.before (gate + 1) (omega (arith, later)) (omega (arith, length-bytes)) ∙ front_is in
      sym (take-append-drop (gate + 1) c) ∙ ap (λ (l : List ℕ). l ++ drop (gate + 1) c) kept
      ∙ append_assoc front (shut ∷ []) (drop (gate + 1) c)

  pub torn_behind : (at n : ℕ) (c : List ℕ) → gate < at → Torn at n bytes c → StaysClosed front c
  torn_behind at n c later torn = record {
    gate = shut;
    rest = drop (gate + 1) c;
    file = torn_stays at n c later torn;
    closed = ends.closed;
  }

  -- and in what such a write leaves
  kept_front : (at : ℕ) (piece c : List ℕ) → gate < at → WritesAt bytes at piece c → take (gate + 1) c ≡ front ++ shut ∷ []
  kept_front at piece c later writes = elim (cases_lt (length bytes) at) [
    | inl gap ↦ elim (cases_eq (length piece) 0) [
      | inl nothing ↦ ap (λ (l : List ℕ). take (gate + 1) l) (writes.nothing nothing) ∙ front_is
      | inr some ↦ ap (λ (l : List ℕ). take (gate + 1) l) (writes.behind gap (omega (arith, some)))
          ∙ ap (λ (l : List ℕ). take (gate + 1) l) (append_assoc bytes (replicate (at - length bytes) 0) piece)
          ∙ take-append-le (gate + 1) bytes (replicate (at - length bytes) 0 ++ piece) (omega (arith, length-bytes)) ∙ front_is
    ]
    | inr within ↦ ap (λ (l : List ℕ). take (gate + 1) l) (writes.within within)
        ∙ ap (λ (l : List ℕ). take (gate + 1) l) (append_assoc (take at bytes) piece (drop (at + length piece) bytes))
        ∙ take-append-le (gate + 1) (take at bytes) (piece ++ drop (at + length piece) bytes)
        (omega (arith, length-take-le at bytes within, later))
        ∙ take-take (gate + 1) at bytes (omega (arith, later)) ∙ front_is
  ]

  pub still_closed : (at : ℕ) (piece c : List ℕ) → gate < at → WritesAt bytes at piece c → c ≡ front ++ shut ∷ drop (gate + 1) c
  still_closed at piece c later writes =
      sym (take-append-drop (gate + 1) c) ∙ ap (λ (l : List ℕ). l ++ drop (gate + 1) c) (kept_front at piece c later writes)
      ∙ append_assoc front (shut ∷ []) (drop (gate + 1) c)

  written_behind : (behind c : List ℕ) → WritesAt bytes (gate + 1) behind c → c ≡ front ++ shut ∷ (behind ++ drop (length behind) rest)
  written_behind behind c writes =
      let n = length behind in
      let left : List ℕ = drop n rest in
      let behind_all : drop (gate + 1 + n) bytes ≡ left = sym (drop-drop n (gate + 1) bytes) ∙ ap (λ (l : List ℕ). drop n l) rest_is in
      writes.within (omega (arith, length-bytes))
      ∙ (λ i. front_is i ++ behind ++ behind_all i)
      ∙ append_assoc (front ++ shut ∷ []) behind left ∙ append_assoc front (shut ∷ []) (behind ++ left)

module _ (front behind left : List ℕ) (gate shut : ℕ) (bytes : List ℕ) (ends : ClosedAt gate front shut (behind ++ left) bytes) where
  long : length bytes ≡ gate + 1 + length (behind ++ left)
  long = length-bytes front (behind ++ left) gate shut bytes ends

  -- the entry stands whole in each outcome of the write of its gate
  torn_gate : (c : List ℕ) → Torn gate 1 bytes c → IsClosedOrOpened front behind c
  torn_gate c torn =
      let now = get_or c gate 0 in
      let kept : take gate c ≡ front = torn.before gate (omega arith) (omega (arith, long))
      ∙ before_gate front (behind ++ left) gate shut bytes ends in
      let back : drop gate c ≡ now ∷ (behind ++ left) = drop_more c gate 0 (omega (arith, torn.no_shorter, long))
      ∙ ap (λ (l : List ℕ). now ∷ l) (torn.after ∙ rest_is front (behind ++ left) gate shut bytes ends) in
      let whole : c ≡ front ++ now ∷ (behind ++ left) =
      sym (take-append-drop gate c) ∙ ap (λ (l : List ℕ). l ++ drop gate c) kept ∙ ap (λ (l : List ℕ). front ++ l) back in
      elim (cases_eq now 1) [
        | inl is_open ↦ inr (left, whole ∙ ap (λ (g : ℕ). front ++ g ∷ (behind ++ left)) is_open)
        | inr is_shut ↦ inl (record { gate = now; rest = behind ++ left; file = whole; closed = is_shut })
      ]

  written_gate : (c : List ℕ) → WritesAt bytes gate (1 ∷ []) c → c ≡ front ++ 1 ∷ (behind ++ left)
  written_gate c writes =
      writes.within (omega (arith, long))
      ∙ ap (λ (l : List ℕ). l ++ (1 ∷ []) ++ drop (gate + 1) bytes) (before_gate front (behind ++ left) gate shut bytes ends)
      ∙ ap (λ (l : List ℕ). front ++ (1 ∷ []) ++ l) (rest_is front (behind ++ left) gate shut bytes ends)
      ∙ append_assoc front (1 ∷ []) (behind ++ left)

module _ {D : Type 0} (seen : D → List ℕ) (may_leave : D → List ℕ → Type 0) (moment : D → ℕ) (left_since : D → ℕ
    → List ℕ → Type 0) (only_now : (d : D) (c : List ℕ) → left_since d (moment d) c → may_leave d c) where
  abbrev Goes : D → D → Type 0
  Goes d e = Elapses (moment d) (moment e) (left_since d) (left_since e) (may_leave e)

  -- A write behind a closed gate, and a sync.
  module _ (front rest : List ℕ) (gate shut : ℕ) (d0 : D) (ends : ClosedAt gate front shut rest (seen d0))
      (only : Only (seen d0) (may_leave d0)) where
    abbrev Stays : D → Type 0
    Stays d = LeavesOnly moment left_since d0 d (StaysClosed front)

    begun : Stays d0
    begun = started moment left_since d0 (StaysClosed front) (λ c left. record {
      gate = shut;
      rest = rest;
      file = only c (only_now d0 c left) ∙ ends.file;
      closed = ends.closed;
    })

    module _ (at n : ℕ) (later : gate < at) (d1 : D) (crash1 : Follows (Torn at n) (may_leave d0) (may_leave d1)) (time1 : Goes d0 d1) where
      behind_closed : (c : List ℕ) → may_leave d1 c → StaysClosed front c
      behind_closed c now =
          let from = crash1 c now in
          torn_behind front rest gate shut (seen d0) ends at n c later (subst (λ d. Torn at n d c) (only from.0 from.1) from.2)

      pub wrote : Stays d1
      wrote = goes_on moment left_since d0 d0 d1 (StaysClosed front) (may_leave d1) begun time1 behind_closed

      pub kept : (d2 : D) → ((c : List ℕ) → may_leave d2 c → may_leave d1 c) → Goes d1 d2 → Stays d2
      kept d2 crash2 time2 = goes_on moment left_since d0 d1 d2 (StaysClosed front) (may_leave d2) wrote time2
          (λ c now. behind_closed c (crash2 c now))

    pub staged : (behind : List ℕ) (d1 d2 : D) → WritesAt (seen d0) (gate + 1) behind (seen d1) → Only (seen d1) (may_leave d2)
        → seen d2 ≡ seen d1
        → (seen d2 ≡ front ++ shut ∷ (behind ++ drop (length behind) rest)) × Only (seen d2) (may_leave d2)
    staged behind d1 d2 writes durable seen2 = (
      seen2 ∙ written_behind front rest gate shut (seen d0) ends behind (seen d1) writes,
      subst (λ f. Only f (may_leave d2)) (sym seen2) durable,
    )

  -- A write of the gate, and a sync.
  module _ (front behind left : List ℕ) (gate shut : ℕ) (d0 : D) (ends : ClosedAt gate front shut (behind ++ left) (seen d0))
      (only : Only (seen d0) (may_leave d0)) where
    abbrev Either : D → Type 0
    Either d = LeavesOnly moment left_since d0 d (IsClosedOrOpened front behind)

    closed_yet : Either d0
    closed_yet = started moment left_since d0 (IsClosedOrOpened front behind) (λ c since. inl (record {
      gate = shut;
      rest = behind ++ left;
      file = only c (only_now d0 c since) ∙ ends.file;
      closed = ends.closed;
    }))

    module _ (d1 : D) (crash1 : Follows (Torn gate 1) (may_leave d0) (may_leave d1)) (time1 : Goes d0 d1) where
      gate_either : (c : List ℕ) → may_leave d1 c → IsClosedOrOpened front behind c
      gate_either c now =
          let from = crash1 c now in
          torn_gate front behind left gate shut (seen d0) ends c (subst (λ d. Torn gate 1 d c) (only from.0 from.1) from.2)

      pub gated : Either d1
      gated = goes_on moment left_since d0 d0 d1 (IsClosedOrOpened front behind) (may_leave d1) closed_yet time1 gate_either

      pub ended : (d2 : D) → ((c : List ℕ) → may_leave d2 c → may_leave d1 c) → Goes d1 d2 → Either d2
      ended d2 crash2 time2 = goes_on moment left_since d0 d1 d2 (IsClosedOrOpened front behind) (may_leave d2) gated time2
          (λ c now. gate_either c (crash2 c now))

    pub opened : (d1 d2 : D) → WritesAt (seen d0) gate (1 ∷ []) (seen d1) → Only (seen d1) (may_leave d2) → seen d2 ≡ seen d1
        → (seen d2 ≡ front ++ 1 ∷ (behind ++ left)) × Only (seen d2) (may_leave d2)
    opened d1 d2 writes durable seen2 = (
      seen2 ∙ written_gate front behind left gate shut (seen d0) ends (seen d1) writes,
      subst (λ f. Only f (may_leave d2)) (sym seen2) durable,
    )
