-- What a crash leaves while a new journal is made.
use Rattle.std.proofs.Common.{◌≡◌, inl, ℕ, ◌+◌, ◌≤◌, List, [], ◌∷◌, ◌++◌, length, take, drop, replicate, refl, ◌∙◌, ap}
use Rattle.std.proofs.Common.{arith, length-append, length-drop}
use Rattle.std.proofs.lemmas.List.{drop_all, append-nil, take_at}
use Rattle.base_outside.specs.streams.Disk.{WritesAt, Torn, Follows}
use Rattle.spec_wire.specs.journal.Grammar.{magic}
use Rattle.spec_journal.specs.Forms.{StandsFor}
use Rattle.spec_wire.specs.journal.Moments.{LeavesOnly}
use Rattle.journal.specs.disk_journal.Entry.{IsEntryShort}
use Rattle.journal.proofs.disk_journal.Moments.{weakened}

-- a write that ends within nine bytes leaves a short disk short
torn_short : (at n : ℕ) (old c : List ℕ) → at + n ≤ 9 → IsEntryShort old → Torn at n old c → IsEntryShort c
torn_short at n old c fits short torn =
    let rest = ap length torn.after in omega (arith, length-drop (at + n) c, length-drop (at + n) old, rest)

pub short_write : (at n : ℕ) (before after : List ℕ → Type 0) → at + n ≤ 9 → ((c : List ℕ) → before c → IsEntryShort c)
    → Follows (Torn at n) before after → (c : List ℕ) → after c → IsEntryShort c
short_write at n before after fits short follows c now =
    let from = follows c now in torn_short at n from.0 c fits (short from.0 from.1) from.2

module _ {D : Type 0} (moment : D → ℕ) (left_since : D → ℕ → List ℕ → Type 0) where
  pub no_bodies : (old new : D) → LeavesOnly moment left_since old new IsEntryShort → LeavesOnly moment left_since old
      new (λ c. StandsFor c [])
  no_bodies old new run = weakened moment left_since old new IsEntryShort (λ c. StandsFor c []) (λ c short. inl (short, refl)) run

-- the zeros, and the closed gate behind them
pub blank_done : (old one two : List ℕ) → length old ≤ 9 → WritesAt old 0 (replicate 8 0) one → WritesAt one 8 (0 ∷ [])
    two → two ≡ replicate 8 0 ++ 0 ∷ []
blank_done old one two short first second =
    let zeros : List ℕ = replicate 8 0 in
    let one_is : one ≡ zeros ++ drop 8 old = first.within (omega arith) in
    let rest_short : length (drop 8 old) ≤ 1 = omega (arith, length-drop 8 old) in
    let long : length one ≡ 8 + length (drop 8 old) = ap length one_is ∙ length-append zeros (drop 8 old) in
    second.within (omega arith)
    ∙ ap (λ (l : List ℕ). take 8 l ++ (0 ∷ []) ++ drop 9 one) one_is
    ∙ ap (λ (l : List ℕ). l ++ (0 ∷ []) ++ drop 9 one) (take_at zeros (drop 8 old) 8 refl)
    ∙ ap (λ (l : List ℕ). zeros ++ (0 ∷ []) ++ l) (drop_all 9 one (omega arith))
    ∙ append-nil (zeros ++ 0 ∷ [])

-- the magic over the zeros
pub mark_done : (old new : List ℕ) → old ≡ replicate 8 0 ++ 0 ∷ [] → WritesAt old 0 magic new → new ≡ magic ++ 0 ∷ []
mark_done old new is writes =
    writes.within (omega arith) ∙ ap (λ (l : List ℕ). take 0 l ++ magic ++ drop 8 l) is
