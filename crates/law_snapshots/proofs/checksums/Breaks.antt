-- Behind a gate whose body has another byte than the one that was written stands no entry.
use Rattle.std.proofs.Common.{◌≡◌, ◌≢◌, inr, ℕ, ◌^◌, ◌<◌, List, ◌∷◌, ◌++◌, length, take, drop}
use Rattle.std.proofs.Common.{refl, sym, ◌∙◌, ap}
use Rattle.std.proofs.lemmas.List.{take_at, drop_at, drop-drop}
use Rattle.spec_wire.specs.messages.Places.{le, number_of}
use Rattle.spec_wire.proofs.messages.Numbers.{number_of-le, length-le}
use Rattle.spec_wire.specs.journal.Grammar.{AllFit, entry}
use Rattle.spec_journal.specs.Castagnoli.{AreBytes, crc32c}
use Rattle.spec_journal.specs.Forms.{NoEntryAt, form_front}
use Rattle.spec_journal.specs.declared.form.Form.TheVariants.{Summed}
use Rattle.law_snapshots.proofs.checksums.Changes.{bytes_both, changed_entry, le_bytes, same_length, small}

-- an entry's length, a checksum, a body and what follows
abbrev told : ℕ → List ℕ → List ℕ → List ℕ → List ℕ
told n sum body more = le 4 n ++ (sum ++ (body ++ more))

record Reads (n : ℕ) (sum body more : List ℕ) : Type 0 where
  sum_is : take 4 (drop 4 (told n sum body more)) ≡ sum
  body_is : take (number_of (take 4 (told n sum body more))) (drop 8 (told n sum body more)) ≡ body

reads : (n : ℕ) (sum body more : List ℕ) → length sum ≡ 4 → n < 2 ^ 32 → length body ≡ n → Reads n sum body more
reads n sum body more four fits long =
    let front : take 4 (told n sum body more) ≡ le 4 n = take_at (le 4 n) (sum ++ (body ++ more)) 4 (length-le 4 n) in
    let back : drop 4 (told n sum body more) ≡ sum ++ (body ++ more) = drop_at (le 4 n) (sum ++ (body ++ more)) 4 (length-le 4 n) in
    let is : number_of (take 4 (told n sum body more)) ≡ n = ap number_of front ∙ number_of-le 4 n fits in
    let behind : drop 8 (told n sum body more) ≡ body ++ more =
    sym (drop-drop 4 4 (told n sum body more)) ∙ ap (λ (l : List ℕ). drop 4 l) back ∙ drop_at sum (body ++ more) 4 four in
    record {
      sum_is = ap (λ (l : List ℕ). take 4 l) back ∙ take_at sum (body ++ more) 4 four;
      body_is = (λ k. take (is k) (behind k)) ∙ take_at body more n long;
    }

entry_bytes_are : (x : List ℕ) → AreBytes x → AreBytes (entry x)
entry_bytes_are x h = bytes_both (le 4 (length x)) x (le_bytes 4 (length x)) h

changed_sum : (p q : List ℕ) (b c : ℕ) → AreBytes p → AreBytes q → b < 256 → c < 256 → b ≢ c
    → le 4 (crc32c (entry (p ++ b ∷ q))) ≢ le 4 (crc32c (entry (p ++ c ∷ q)))
changed_sum p q b c f g l m n = λ e.
    let first : crc32c (entry (p ++ b ∷ q)) < 2 ^ 32 =
    small (entry (p ++ b ∷ q)) (entry_bytes_are (p ++ b ∷ q) (bytes_both p (b ∷ q) f (l, g))) in
    let second : crc32c (entry (p ++ c ∷ q)) < 2 ^ 32 =
    small (entry (p ++ c ∷ q)) (entry_bytes_are (p ++ c ∷ q) (bytes_both p (c ∷ q) f (m, g))) in
    changed_entry p q b c f g l m n (sym (number_of-le 4 (crc32c (entry (p ++ b ∷ q))) first) ∙ ap number_of e
    ∙ number_of-le 4 (crc32c (entry (p ++ c ∷ q))) second)

pub told_at : (before : List (List ℕ)) (p q more : List ℕ) (b c : ℕ) → AllFit before → length (p ++ b ∷ q) < 2 ^ 32 → AreBytes p
    → AreBytes q
    → b < 256 → c < 256 → b ≢ c
    → NoEntryAt (form_front Summed before ++ 1 ∷ (le 4 (length (p ++ b ∷ q)) ++ (le 4 (crc32c (entry (p ++ b ∷ q))) ++ ((p ++ c ∷ q) ++ more))))
    (length (form_front Summed before))
told_at before p q more b c fit fits f g l m n =
    let size : length (p ++ c ∷ q) ≡ length (p ++ b ∷ q) = sym (same_length p q b c) in
    let sum : List ℕ = le 4 (crc32c (entry (p ++ b ∷ q))) in
    let r = reads (length (p ++ b ∷ q)) sum (p ++ c ∷ q) more (length-le 4 (crc32c (entry (p ++ b ∷ q)))) fits size in
    record {
      form = Summed;
      bodies = before;
      rest = told (length (p ++ b ∷ q)) sum (p ++ c ∷ q) more;
      spelled = refl;
      place = refl;
      broken = inr (λ e. changed_sum p q b c f g l m n (sym r.sum_is ∙ e ∙ ap (λ (x : List ℕ). le 4 (crc32c (entry x))) r.body_is));
      fit = fit;
    }
