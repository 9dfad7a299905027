-- What a write leaves in a list of bytes.
use Rattle.std.proofs.Common.{◌≡◌, inl, inr, ℕ, ◌+◌, ◌-◌, ◌<◌, ◌≤◌, List, [], ◌++◌, length, take, drop, replicate, refl}
use Rattle.std.proofs.Common.{sym, ap, ◌∙◌, arith, append_assoc, length-append}
use Rattle.std.proofs.lemmas.List.{take_all, drop_all, take_at, take-append-le, append-nil, length-take, length-drop}
use Rattle.std.proofs.lemmas.List.{length-replicate, replicate-append-replicate}
use Rattle.std.proofs.lemmas.Bool.{cases_lt}
use Rattle.base_outside.specs.streams.Disk.{WritesAt, Torn, CutShort}

-- zero bytes at the end of a list
pub filled : (old : List ℕ) (len count : ℕ) → len ≡ length old → take (len + count) old ++ replicate (len + count - len)
    0 ≡ old ++ replicate count 0
filled old len count e =
    let n : len + count - len ≡ count = omega arith in
    rw (n, take_all (len + count) old (omega arith)) refl

pub ruleset zeros = (arith, filled)

-- a write or a cut of which nothing is done
pub untorn : (at n : ℕ) (bytes : List ℕ) → Torn at n bytes bytes
untorn at n bytes = record { before = λ k near short. refl; after = refl; no_shorter = omega arith }

pub uncut : (n : ℕ) (bytes : List ℕ) → CutShort n bytes bytes
uncut n bytes = record { no_shorter = inr refl; front = take_all (length bytes) bytes (omega arith) }

module _ (old from : List ℕ) (at end more : ℕ) (some : 0 < length from) (ends : end ≡ at + length from)
    (adds : more ≡ end - length old) where
  abbrev grown : List ℕ
  grown = old ++ replicate more 0

  long : length grown ≡ length old + more
  long = omega (arith, length-append old (replicate more 0), length-replicate {A = ℕ} more 0)

  within : at ≤ length old → take at grown ++ (from ++ drop (at + length from) grown) ≡ take at old ++ from ++ drop (at + length from) old
  within inside = elim (cases_lt end (length old)) [
    | inl before ↦
        let none : more ≡ 0 = omega arith in
        let same : grown ≡ old = ap (λ (k : ℕ). old ++ replicate k 0) none ∙ append-nil old in
        ap (λ (l : List ℕ). take at l ++ (from ++ drop (at + length from) l)) same
        ∙ sym (append_assoc (take at old) from (drop (at + length from) old))
    | inr past ↦
        let front : take at grown ≡ take at old = take-append-le at old (replicate more 0) inside in
        let no_rest : drop (at + length from) grown ≡ [] = drop_all (at + length from) grown (omega (arith, long)) in
        let none_before : drop (at + length from) old ≡ [] = drop_all (at + length from) old (omega arith) in
        rw (front, no_rest, none_before) (sym (append_assoc (take at old) from []))
  ]

  behind : length old < at → take at grown ++ (from ++ drop (at + length from) grown) ≡ old ++ replicate (at - length old) 0 ++ from
  behind past =
      let gap = at - length old in
      let split : replicate more 0 ≡ replicate gap 0 ++ replicate (length from) 0 =
      ap (λ (k : ℕ). replicate k 0) (omega arith) ∙ sym (replicate-append-replicate gap (length from) 0) in
      let whole : grown ≡ (old ++ replicate gap 0) ++ replicate (length from) 0 =
      ap (λ (l : List ℕ). old ++ l) split ∙ sym (append_assoc old (replicate gap 0) (replicate (length from) 0)) in
      let front : take at grown ≡ old ++ replicate gap 0 =
      ap (λ (l : List ℕ). take at l) whole ∙ take_at (old ++ replicate gap 0) (replicate (length from) 0) at
      (omega (arith, length-append old (replicate gap 0), length-replicate {A = ℕ} gap 0)) in
      let no_rest : drop (at + length from) grown ≡ [] = drop_all (at + length from) grown (omega (arith, long)) in
      ap (λ (l : List ℕ). l ++ (from ++ drop (at + length from) grown)) front
      ∙ ap (λ (l : List ℕ). old ++ replicate gap 0 ++ (from ++ l)) no_rest
      ∙ ap (λ (l : List ℕ). old ++ replicate gap 0 ++ l) (append-nil from)

  over_long : length (take at grown ++ (from ++ drop (at + length from) grown)) ≡ length grown
  over_long = omega (
    arith,
    long,
    length-append (take at grown) (from ++ drop (at + length from) grown),
    length-append from (drop (at + length from) grown),
    length-take at grown,
    length-drop (at + length from) grown,
  )

pub put_done : (old from mid over : List ℕ) (at end more len : ℕ) → 0 < length from → end ≡ at + length from → more
    ≡ end - length old → mid ≡ old ++ replicate more 0 → over ≡ take at mid ++ (from ++ drop (at + length from) mid)
    → len ≡ length mid
    → WritesAt old at from (take len (over ++ drop (length over) mid))
put_done old from mid over at end more len some ends adds mid_is over_is len_is =
    let over_now : over ≡ take at (old ++ replicate more 0) ++ (from ++ drop (at + length from) (old ++ replicate more 0)) =
    over_is ∙ ap (λ (l : List ℕ). take at l ++ (from ++ drop (at + length from) l)) mid_is in
    let long_over : length over ≡ length mid = ap length over_now ∙ over_long old from at end more some ends adds
    ∙ sym (ap length mid_is) in
    let no_rest : drop (length over) mid ≡ [] = drop_all (length over) mid (omega arith) in
    let whole : take len (over ++ drop (length over) mid) ≡ over =
    ap (λ (l : List ℕ). take len (over ++ l)) no_rest ∙ ap (λ (l : List ℕ). take len l) (append-nil over)
    ∙ take_all len over (omega arith) in
    record {
      within = λ inside. whole ∙ over_now ∙ within old from at end more some ends adds inside;
      behind = λ past full. whole ∙ over_now ∙ behind old from at end more some ends adds past;
      nothing = λ none. absurd (omega arith);
    }
