-- What calls of a link and of a stream tell.
use Rattle.std.proofs.Common.{◌≡◌, ℕ, ◌+◌, ◌-◌, ◌<◌, ◌≤◌, Bool, true, false, List, [], ◌++◌, Ok, Err, inl, inr, length, take, drop}
use Rattle.std.proofs.Common.{refl, sym, ap, ◌∙◌, arith, subst, append_assoc}
use Rattle.std.specs.Prelude.{◌==◌, ◌&&◌, ◌||◌, not, Result, None, Some, OnErr}
use Rattle.std.proofs.lemmas.Grind.{common_steps}
use Rattle.std.proofs.lemmas.List.{append-nil, take_all, take_rest, take-append-drop}
use Rattle.std.proofs.Math.Seq.{take-add}
use Rattle.conn_core.specs.Shown.{IsFrontEnd}
use Rattle.conn_core.specs.declared.end.ConnEnd.{ConnEnd}
use Rattle.conn_core.specs.declared.end.ConnEnd.TheVariants.{LinkFault, Memory}
use Rattle.serve_turns.specs.connection_turns.Passing.{Feeds, HasWritten, NextFrame, PutFails}
use Rattle.serve_turns.specs.link_serving.Passage.{Passed}
use Rattle.wire_bytes.specs.frames.Next.{FrameNextAnswers}
use Rattle.base_outside.specs.streams.Faults.{Rose}
use Rattle.base_outside.specs.network.Link.{LinkGives, is_link_end}
use Rattle.spec_wire.specs.declared.messages.refusal.FrameError.{FrameError}
use Rattle.spec_wire.specs.declared.messages.refusal.FrameError.TheVariants as frames

-- a stream that breaks, or memory that ran out
pub refused : (old new : List ℕ) (refusal : FrameError) (why : ConnEnd) → FrameNextAnswers old new (Err refusal) → IsFrontEnd refusal why
    → NextFrame old new (Err why)
refused old new frames.Memory why h is = (h, inr is)
refused old new (frames.BadLead lead) why h is = (h.1, inl (is, (frames.BadLead lead, h.0)))
refused old new (frames.TooLong size) why h is = (h.1, inl (is, (frames.TooLong size, h.0)))

-- what holds whatever the error is
pub on_err : {A E : Type 0} (P : Type 0) (r : Result A E) → P → OnErr r P
on_err P (Ok x) p = tt
on_err P (Err e) p = p

-- a read of nothing into a buffer that has room is the end
is_last : (ended : Bool) (n : ℕ) → 0 < n → (ended || ((0 == 0) && not (n == 0))) ≡ true
is_last true n some = refl
is_last false n some = let test : (n == 0) ≡ false = grind (arith, common_steps) in rw test refl

at_end : (ended ended' : Bool) (buffer : List ℕ) (count : ℕ) → count ≡ 0 → 0 < length buffer
    → ended' ≡ (ended || is_link_end count buffer) → ended' ≡ true
at_end ended ended' buffer count is some e =
    e ∙ ap (λ (x : ℕ). ended || is_link_end x buffer) is ∙ is_last ended (length buffer) some

take_on : (at count : ℕ) (text : List ℕ) → take at text ++ take count (take (length text - at) (drop at text)) ≡ take (at + count) text
take_on at count text = rw (take_rest text at) (sym (take-add at count text))

module _ {K : Type 0} (told : Type 0) (given left written : K → List ℕ) where
  -- the link gave bytes and took none
  pub gave : (l n : K) (bytes : List ℕ) → (told → given n ≡ given l ++ bytes) → (told → left l ≡ bytes ++ left n)
      → (told → written n ≡ written l) → Passed told given left written l n bytes []
  gave l n bytes h r k = record { given_is = h; left_is = r; written_is = λ t. k t ∙ sym (append-nil (written l)) }

  -- it gave none in a read
  pub gave_none : (l n : K) → (told → (left n ≡ left l) × (given n ≡ given l)) → (told → written n ≡ written l)
      → Passed told given left written l n [] []
  gave_none l n h k = gave l n [] (λ t. (h t).1 ∙ sym (append-nil (given l))) (λ t. sym (h t).0) k

  -- it took more of a text
  pub more_written : (l m n : K) (text : List ℕ) (at count : ℕ) → HasWritten told given left written l m (take at text)
      → (told → written n ≡ written m ++ take count (take (length text - at) (drop at text)))
      → (told → (left n ≡ left m) × (given n ≡ given m)) → HasWritten told given left written l n (take (at + count) text)
  more_written l m n text at count h w k =
      let piece : List ℕ = take count (take (length text - at) (drop at text)) in
      record {
        given_is = λ t. (k t).1 ∙ h.given_is t;
        left_is = λ t. h.left_is t ∙ sym (k t).0;
        written_is = λ t. w t ∙ ap (λ (z : List ℕ). z ++ piece) (h.written_is t) ∙ append_assoc (written l) (take at text) piece
            ∙ ap (λ (z : List ℕ). written l ++ z) (take_on at count text);
      }

  -- it took the whole
  pub all_written : (l n : K) (text : List ℕ) (at : ℕ) → length text ≤ at → HasWritten told given left written l n (take at text)
      → HasWritten told given left written l n text
  all_written l n text at past h = subst (λ (z : List ℕ). HasWritten told given left written l n z) (take_all at text past) h

  -- it took a front, and then failed
  pub front_written : (l m n : K) (text : List ℕ) (at : ℕ) → HasWritten told given left written l m (take at text)
      → (told → written n ≡ written m) → (told → (left n ≡ left m) × (given n ≡ given m))
      → (wrote : List ℕ) × (lost : List ℕ) × (wrote ++ lost ≡ text) × HasWritten told given left written l n wrote
  front_written l m n text at h w k = (
    take at text,
    drop at text,
    take-append-drop at text,
    record {
      given_is = λ t. (k t).1 ∙ h.given_is t;
      left_is = λ t. h.left_is t ∙ sym (k t).0;
      written_is = λ t. w t ∙ h.written_is t;
    },
  )

  -- what it took behind a call that neither gave nor took a byte
  pub written_behind : (l m n : K) (wrote : List ℕ) → (told → (left m ≡ left l) × (given m ≡ given l)) → (told → written m ≡ written l)
      → HasWritten told given left written m n wrote → HasWritten told given left written l n wrote
  written_behind l m n wrote g w h =
      record {
        given_is = λ t. h.given_is t ∙ ap (λ (z : List ℕ). z ++ []) (g t).1;
        left_is = λ t. sym (g t).0 ∙ h.left_is t;
        written_is = λ t. h.written_is t ∙ ap (λ (z : List ℕ). z ++ wrote) (w t);
      }

  pub front_behind : (l m n : K) (text : List ℕ) → (told → (left m ≡ left l) × (given m ≡ given l)) → (told → written m ≡ written l)
      → ((wrote : List ℕ) × (lost : List ℕ) × (wrote ++ lost ≡ text) × HasWritten told given left written m n wrote)
      → (wrote : List ℕ) × (lost : List ℕ) × (wrote ++ lost ≡ text) × HasWritten told given left written l n wrote
  front_behind l m n text g w (wrote, lost, joined, passed) = (wrote, lost, joined, written_behind l m n wrote g w passed)

module _ {K : Type 0} (told : Type 0) (given left written : K → List ℕ) (faults : K → ℕ) where
  -- an answer of which a front was written
  pub put_fails : (l n : K) (answer : List ℕ) (count : ℕ) → count ≡ faults n → Rose (faults l) (faults n)
      → ((wrote : List ℕ) × (lost : List ℕ) × (wrote ++ lost ≡ answer) × HasWritten told given left written l n wrote)
      → PutFails told given left written faults l answer n (LinkFault count)
  put_fails l n answer count counts rose (wrote, lost, joined, passed) =
      record {
        wrote = wrote;
        lost = lost;
        answer_is = sym joined;
        passed = passed;
        is = ap LinkFault counts;
        rose = rose;
      }

module _ {K : Type 0} (told : Type 0) (given left written : K → List ℕ) (faults : K → ℕ) (ended : K → Bool) where
  -- a read gave nothing
  pub feeds_end : (l n : K) (s buffer : List ℕ) (count : ℕ) → count ≡ 0 → 0 < length buffer
      → (told → given n ≡ given l ++ take count buffer) → (told → LinkGives (left l) count buffer (left n)) → (told → written n ≡ written l)
      → faults n ≡ faults l → ended n ≡ (ended l || is_link_end count buffer)
      → Feeds told given left written faults ended l s n s (Err None)
  feeds_end l n s buffer count is some h r k calm e =
      let none : told → given n ≡ given l ++ [] = λ t. h t ∙ ap (λ (x : ℕ). given l ++ take x buffer) is in
      let same : told → left l ≡ left n = λ t. (r t).next ∙ ap (λ (x : ℕ). take x buffer ++ left n) is in
      (gave told given left written l n [] none same k, calm, at_end (ended l) (ended n) buffer count is some e, refl)

  -- what a read gave found no memory
  pub feeds_lack : (l n : K) (s s' buffer : List ℕ) (count : ℕ) → (told → given n ≡ given l ++ take count buffer)
      → (told → LinkGives (left l) count buffer (left n)) → (told → written n ≡ written l) → faults n ≡ faults l → s' ≡ s
      → Feeds told given left written faults ended l s n s' (Err (Some Memory))
  feeds_lack l n s s' buffer count h r k calm same =
      (take count buffer, gave told given left written l n (take count buffer) h (λ t. (r t).next) k, same, inr (refl, calm))

  -- a read failed
  pub feeds_fail : (l n : K) (s : List ℕ) (count : ℕ) → (told → (left n ≡ left l) × (given n ≡ given l)) → (told → written n ≡ written l)
      → count ≡ faults n → Rose (faults l) (faults n) → Feeds told given left written faults ended l s n s (Err (Some (LinkFault count)))
  feeds_fail l n s count h k counts rose = ([], gave_none told given left written l n h k, refl, inl (ap LinkFault counts, rose, refl))

  -- what a read gave stands behind the stream
  pub feeds_more : (l n : K) (s s' buffer : List ℕ) (count : ℕ) (x : Unit) → (told → given n ≡ given l ++ take count buffer)
      → (told → LinkGives (left l) count buffer (left n)) → (told → written n ≡ written l) → faults n ≡ faults l
      → s' ≡ s ++ take count buffer → Feeds told given left written faults ended l s n s' (Ok x)
  feeds_more l n s s' buffer count x h r k calm more =
      (take count buffer, gave told given left written l n (take count buffer) h (λ t. (r t).next) k, calm, more)
