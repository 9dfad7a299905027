-- What a crash leaves while the gate of an entry that waits is opened and the next entry is put behind it.
use Rattle.std.proofs.Common.{◌≡◌, inl, inr, ℕ, ◌+◌, List, [], ◌∷◌, ◌++◌, length, get_or, take, drop, sym, ◌∙◌, ap}
use Rattle.std.proofs.Common.{subst, arith, append_assoc, length-append, take-append-drop}
use Rattle.std.proofs.lemmas.List.{take_at, drop_at, drop_more, drop-drop}
use Rattle.std.proofs.lemmas.Bool.{cases_eq}
use Rattle.base_outside.specs.streams.Disk.{WritesAt, Torn, Follows, Only, Elapses}
use Rattle.spec_wire.specs.journal.Grammar.{IsClosed}
use Rattle.spec_wire.specs.journal.Moments.{LeavesOnly}
use Rattle.journal.specs.disk_journal.Entry.{WaitsAt, IsClosedBeforeOrBehind}
use Rattle.journal.proofs.disk_journal.Moments.{started, goes_on}

-- whichever the first gate is, a closed one stands behind the entry
one_of : (front entry rest c : List ℕ) (now last : ℕ) → IsClosed last → c ≡ front ++ now ∷ (entry ++ last ∷ rest)
    → IsClosedBeforeOrBehind front entry c
one_of front entry rest c now last closed is =
    elim (cases_eq now 1) [
      | inl is_open ↦ inr (record {
        gate = last;
        rest = rest;
        file = is ∙ ap (λ (g : ℕ). front ++ g ∷ (entry ++ last ∷ rest)) is_open ∙ sym (append_assoc front (1 ∷ entry) (last ∷ rest));
        closed = closed;
      })
      | inr is_shut ↦ inl (record { gate = now; rest = entry ++ last ∷ rest; file = is; closed = is_shut })
    ]

module _ (front entry rest : List ℕ) (gate next shut last : ℕ) (bytes : List ℕ)
    (waits : WaitsAt gate next front entry shut last rest bytes) where
  abbrev tail : List ℕ
  tail = entry ++ last ∷ rest

  -- all up to the last gate, with this byte in the place of the first one
  abbrev upto : ℕ → List ℕ
  upto now = front ++ now ∷ (entry ++ last ∷ [])

  length-upto : (now : ℕ) → length (upto now) ≡ next + 1
  length-upto now = omega (arith, length-append front (now ∷ (entry ++ last ∷ [])), length-append entry (last ∷ []), waits.place, waits.end)

  in_two : (now : ℕ) → front ++ now ∷ tail ≡ upto now ++ rest
  in_two now = ap (λ (l : List ℕ). front ++ now ∷ l) (sym (append_assoc entry (last ∷ []) rest))
      ∙ sym (append_assoc front (now ∷ (entry ++ last ∷ [])) rest)

  length-whole : (now : ℕ) → length (front ++ now ∷ tail) ≡ next + 1 + length rest
  length-whole now = ap length (in_two now) ∙ length-append (upto now) rest ∙ ap (λ (n : ℕ). n + length rest) (length-upto now)

  length-bytes : length bytes ≡ next + 1 + length rest
  length-bytes = ap length waits.file ∙ length-whole shut

  front_same : take gate bytes ≡ front
  front_same = ap (λ (l : List ℕ). take gate l) waits.file ∙ take_at front (shut ∷ tail) gate waits.place

  back_same : drop (gate + 1) bytes ≡ tail
  back_same = ap (λ (l : List ℕ). drop (gate + 1) l) (waits.file ∙ sym (append_assoc front (shut ∷ []) tail))
      ∙ drop_at (front ++ shut ∷ []) tail (gate + 1) (omega (arith, length-append front (shut ∷ []), waits.place))

  -- all but the gate stands in each outcome of the first write
  torn_gate : (c : List ℕ) → Torn gate 1 bytes c → c ≡ front ++ get_or c gate 0 ∷ tail
  torn_gate c torn =
      let now = get_or c gate 0 in
      let e = waits.end in
      let kept : take gate c ≡ front = torn.before gate (omega arith) (omega (arith, length-bytes, e)) ∙ front_same in
      let back : drop gate c ≡ now ∷ tail = drop_more c gate 0 (omega (arith, torn.no_shorter, length-bytes, e))
      ∙ ap (λ (l : List ℕ). now ∷ l) (torn.after ∙ back_same) in
      sym (take-append-drop gate c) ∙ ap (λ (l : List ℕ). l ++ drop gate c) kept ∙ ap (λ (l : List ℕ). front ++ l) back

  -- and all of that up to the last gate in each outcome of the second
  torn_behind : (n now : ℕ) (d c : List ℕ) → d ≡ front ++ now ∷ tail → Torn (next + 1) n d c
      → c ≡ front ++ now ∷ (entry ++ last ∷ drop (next + 1) c)
  torn_behind n now d c is torn =
      let long : length d ≡ next + 1 + length rest = ap length is ∙ length-whole now in
      let kept : take (next + 1) c ≡ upto now = torn.before (next + 1) (omega arith) (omega (arith, long))
      ∙ ap (λ (l : List ℕ). take (next + 1) l) (is ∙ in_two now) ∙ take_at (upto now) rest (next + 1) (length-upto now) in
      sym (take-append-drop (next + 1) c) ∙ ap (λ (l : List ℕ). l ++ drop (next + 1) c) kept
      ∙ append_assoc front (now ∷ (entry ++ last ∷ [])) (drop (next + 1) c)
      ∙ ap (λ (l : List ℕ). front ++ now ∷ l) (append_assoc entry (last ∷ []) (drop (next + 1) c))

  written_gate : (c : List ℕ) → WritesAt bytes gate (1 ∷ []) c → c ≡ front ++ 1 ∷ tail
  written_gate c writes =
      let e = waits.end in
      writes.within (omega (arith, length-bytes, e))
      ∙ ap (λ (l : List ℕ). l ++ (1 ∷ []) ++ drop (gate + 1) bytes) front_same
      ∙ ap (λ (l : List ℕ). front ++ (1 ∷ []) ++ l) back_same
      ∙ append_assoc front (1 ∷ []) tail

  written_behind : (behind d c : List ℕ) → d ≡ front ++ 1 ∷ tail → WritesAt d (next + 1) behind c
      → c ≡ (front ++ 1 ∷ entry) ++ last ∷ (behind ++ drop (length behind) rest)
  written_behind behind d c is writes =
      let n = length behind in
      let left : List ℕ = drop n rest in
      let whole : d ≡ upto 1 ++ rest = is ∙ in_two 1 in
      let long : length d ≡ next + 1 + length rest = ap length is ∙ length-whole 1 in
      let kept : take (next + 1) d ≡ upto 1 =
      ap (λ (l : List ℕ). take (next + 1) l) whole ∙ take_at (upto 1) rest (next + 1) (length-upto 1) in
      let behind_all : drop (next + 1 + n) d ≡ left = sym (drop-drop n (next + 1) d)
      ∙ ap (λ (l : List ℕ). drop n (drop (next + 1) l)) whole
      ∙ ap (λ (l : List ℕ). drop n l) (drop_at (upto 1) rest (next + 1) (length-upto 1)) in
      writes.within (omega (arith, long))
      ∙ (λ i. kept i ++ behind ++ behind_all i)
      ∙ ap (λ (l : List ℕ). l ++ behind ++ left) (sym (append_assoc front (1 ∷ entry) (last ∷ [])))
      ∙ append_assoc ((front ++ 1 ∷ entry) ++ last ∷ []) behind left
      ∙ append_assoc (front ++ 1 ∷ entry) (last ∷ []) (behind ++ left)

module _ {D : Type 0} (seen : D → List ℕ) (may_leave : D → List ℕ → Type 0) (moment : D → ℕ) (left_since : D → ℕ
    → List ℕ → Type 0) (only_now : (d : D) (c : List ℕ) → left_since d (moment d) c → may_leave d c)
    (front entry rest behind : List ℕ) (gate next shut last : ℕ) (d0 : D)
    (waits : WaitsAt gate next front entry shut last rest (seen d0)) (only : Only (seen d0) (may_leave d0)) where
  abbrev Goes : D → D → Type 0
  Goes d e = Elapses (moment d) (moment e) (left_since d) (left_since e) (may_leave e)

  abbrev Stays : D → Type 0
  Stays d = LeavesOnly moment left_since d0 d (IsClosedBeforeOrBehind front entry)

  begun : Stays d0
  begun = started moment left_since d0 (IsClosedBeforeOrBehind front entry) (λ c left.
      one_of front entry rest c shut last waits.behind (only c (only_now d0 c left) ∙ waits.file))

  module _ (d1 : D) (crash1 : Follows (Torn gate 1) (may_leave d0) (may_leave d1)) (time1 : Goes d0 d1) where
    first_left : (c : List ℕ) → may_leave d1 c → c ≡ front ++ get_or c gate 0 ∷ (entry ++ last ∷ rest)
    first_left c now =
        let from = crash1 c now in
        torn_gate front entry rest gate next shut last (seen d0) waits c (subst (λ d. Torn gate 1 d c) (only from.0 from.1) from.2)

    pub opened_first : Stays d1
    opened_first = goes_on moment left_since d0 d0 d1 (IsClosedBeforeOrBehind front entry) (may_leave d1) begun time1
        (λ c now. one_of front entry rest c (get_or c gate 0) last waits.behind (first_left c now))

    module _ (d2 : D) (crash2 : Follows (Torn (next + 1) (length behind)) (may_leave d1) (may_leave d2)) (time2 : Goes d1 d2) where
      second_left : (c : List ℕ) → may_leave d2 c → IsClosedBeforeOrBehind front entry c
      second_left c now =
          let from = crash2 c now in
          one_of front entry (drop (next + 1) c) c (get_or from.0 gate 0) last waits.behind
          (torn_behind front entry rest gate next shut last (seen d0) waits (length behind) (get_or from.0 gate 0) from.0 c
          (first_left from.0 from.1) from.2)

      pub put_behind : Stays d2
      put_behind = goes_on moment left_since d0 d1 d2 (IsClosedBeforeOrBehind front entry) (may_leave d2) opened_first time2 second_left

      module _ (d3 : D) (crash3 : (c : List ℕ) → may_leave d3 c → may_leave d2 c) (time3 : Goes d2 d3) where
        pub synced : Stays d3
        synced = goes_on moment left_since d0 d2 d3 (IsClosedBeforeOrBehind front entry) (may_leave d3) put_behind time3
            (λ c now. second_left c (crash3 c now))

  pub next_done : (d1 d2 d3 : D) → WritesAt (seen d0) gate (1 ∷ []) (seen d1) → WritesAt (seen d1) (next + 1) behind (seen d2)
      → Only (seen d2) (may_leave d3) → seen d3 ≡ seen d2
      → (seen d3 ≡ (front ++ 1 ∷ entry) ++ last ∷ (behind ++ drop (length behind) rest)) × Only (seen d3) (may_leave d3)
  next_done d1 d2 d3 first second durable seen3 = (
    seen3 ∙ written_behind front entry rest gate next shut last (seen d0) waits behind (seen d1) (seen d2)
        (written_gate front entry rest gate next shut last (seen d0) waits (seen d1) first) second,
    subst (λ f. Only f (may_leave d3)) (sym seen3) durable,
  )
