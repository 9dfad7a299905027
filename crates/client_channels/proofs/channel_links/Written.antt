-- What a link took of a text.
use Rattle.std.proofs.Common.{◌≡◌, ℕ, ◌+◌, ◌-◌, ◌≤◌, List, [], ◌++◌, Ok, Err, length, take, drop}
use Rattle.std.proofs.Common.{sym, ap, ◌∙◌, subst, append_assoc}
use Rattle.std.specs.Prelude.{Result, OnErr}
use Rattle.std.proofs.lemmas.List.{take_all, take_rest, take-append-drop}
use Rattle.std.proofs.Math.Seq.{take-add}
use Rattle.base_outside.specs.streams.Faults.{Rose}
use Rattle.serve_turns.specs.link_serving.Passage.{Passed}
use Rattle.spec_wire.specs.messages.Frames.{frame_spelling}
use Rattle.client_channels.specs.channel_links.Going.{IsLost}

-- what holds whatever the error is
pub on_err : {A E : Type 0} (P : Type 0) (r : Result A E) → P → OnErr r P
on_err P (Ok x) p = tt
on_err P (Err e) p = p

take_on : (at count : ℕ) (text : List ℕ) → take at text ++ take count (take (length text - at) (drop at text)) ≡ take (at + count) text
take_on at count text = rw (take_rest text at) (sym (take-add at count text))

module _ {K : Type 0} (told : Type 0) (given left written : K → List ℕ) where
  -- it took more of a text
  pub more_written : (l m n : K) (text : List ℕ) (at count : ℕ) → Passed told given left written l m [] (take at text)
      → (told → written n ≡ written m ++ take count (take (length text - at) (drop at text)))
      → (told → (left n ≡ left m) × (given n ≡ given m))
      → Passed told given left written l n [] (take (at + count) text)
  more_written l m n text at count h w k =
      let piece : List ℕ = take count (take (length text - at) (drop at text)) in
      record {
        given_is = λ t. (k t).1 ∙ h.given_is t;
        left_is = λ t. h.left_is t ∙ sym (k t).0;
        written_is = λ t. w t ∙ ap (λ (z : List ℕ). z ++ piece) (h.written_is t) ∙ append_assoc (written l) (take at text) piece
            ∙ ap (λ (z : List ℕ). written l ++ z) (take_on at count text);
      }

  -- it took the whole
  pub all_written : (l n : K) (text : List ℕ) (at : ℕ) → length text ≤ at → Passed told given left written l n [] (take at text)
      → Passed told given left written l n [] text
  all_written l n text at past h = subst (λ (z : List ℕ). Passed told given left written l n [] z) (take_all at text past) h

  -- it took a front, and then failed
  pub front_written : (l m n : K) (text : List ℕ) (at : ℕ) → Passed told given left written l m [] (take at text)
      → (told → written n ≡ written m) → (told → (left n ≡ left m) × (given n ≡ given m))
      → (wrote : List ℕ) × (lost : List ℕ) × (wrote ++ lost ≡ text) × Passed told given left written l n [] wrote
  front_written l m n text at h w k = (
    take at text,
    drop at text,
    take-append-drop at text,
    record { given_is = λ t. (k t).1 ∙ h.given_is t; left_is = λ t. h.left_is t ∙ sym (k t).0; written_is = λ t. w t ∙ h.written_is t },
  )

module _ {K : Type 0} (told : Type 0) (given left written : K → List ℕ) (faults : K → ℕ) where
  -- the frame of a message of which a front was written
  pub lost_part : (l n : K) (text message : List ℕ) → text ≡ frame_spelling message
      → ((wrote : List ℕ) × (lost : List ℕ) × (wrote ++ lost ≡ text) × Passed told given left written l n [] wrote)
      → Rose (faults l) (faults n) → IsLost told given left written faults l n message
  lost_part l n text message is (wrote, lost, joined, passed) rose =
      record { wrote = wrote; lost = lost; part = joined ∙ is; passed = passed; rose = rose }
