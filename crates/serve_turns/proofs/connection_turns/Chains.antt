-- Frames of a connection that were answered, one behind the other.
use Rattle.std.proofs.Common.{Bool, ◌≡◌, ℕ, List, [], ◌∷◌, ◌++◌, refl, sym, ap, ◌∙◌, subst, append_assoc}
use Rattle.std.proofs.lemmas.List.{append-nil}
use Rattle.spec_wire.specs.messages.Frames.{Frames}
use Rattle.law_wire.proofs.messages.Streams.{whole_stays}
use Rattle.spec_world.specs.Answering.{Seal}
use Rattle.spec_world.specs.Ends.{ServerEnd}
use Rattle.spec_world.specs.Settings.{ServerSettings}
use Rattle.serve_turns.specs.connection_turns.Frames.{Answers, AnswersAll, AreAtOnce, AreOfSuch}
use Rattle.serve_turns.specs.event_book.History.{AllMeet, Course, Placed}

pub meet_front : (z : ServerSettings) (h : Course) (xs ys : List Placed) → AllMeet z h (xs ++ ys) → AllMeet z h xs
meet_front z h [] ys m = tt
meet_front z h (x ∷ xs) ys m = (m.0, meet_front z h xs ys m.1)

pub meet_back : (z : ServerSettings) (h : Course) (xs ys : List Placed) → AllMeet z h (xs ++ ys) → AllMeet z h ys
meet_back z h [] ys m = m
meet_back z h (x ∷ xs) ys m = meet_back z h xs ys m.1

pub once_both : (now : ℕ) (fresh : List ℕ) (xs ys : List Placed) → AreAtOnce now fresh xs → AreAtOnce now fresh ys
    → AreAtOnce now fresh (xs ++ ys)
once_both now fresh [] ys a b = b
once_both now fresh (x ∷ xs) ys a b = (a.0, a.1, once_both now fresh xs ys a.2 b)

pub such_both : (setup : Bool) (xs ys : List Placed) → AreOfSuch setup xs → AreOfSuch setup ys → AreOfSuch setup (xs ++ ys)
such_both setup [] ys a b = b
such_both setup (x ∷ xs) ys a b = (a.0, such_both setup xs ys a.1 b)

joined : {A : Type 0} (a b c d : List A) → a ≡ b ++ c → a ++ d ≡ b ++ (c ++ d)
joined a b c d e = ap (λ l. l ++ d) e ∙ append_assoc b c d

module _ (z : ServerSettings) (h : Course) (k : ℕ) where
  pub answers_none : (f : ServerEnd) (before : ℕ) → AnswersAll z h k f before [] [] [] f before []
  unfolding AnswersAll
  answers_none f before = (refl, refl, refl, refl, refl)

  pub answers_one : (f g : ServerEnd) (before after : ℕ) (m : List ℕ) (xs : List Placed) (x : List ℕ) (made : List Seal)
      → Answers z h k f before m xs x g after made → AnswersAll z h k f before (m ∷ []) xs x g after made
  unfolding AnswersAll
  answers_one f g before after m xs x made one =
      (xs, [], x, [], g, after, made, [], one, (refl, refl, refl, refl, refl), sym (append-nil xs), sym (append-nil x), sym (append-nil made))

  pub answers_on : (f g e : ServerEnd) (before between after : ℕ) (ms ns : List (List ℕ)) (xs ys : List Placed) (x y : List ℕ)
      (made more : List Seal) → AnswersAll z h k f before ms xs x g between made → AnswersAll z h k g between ns ys y e after more
      → AnswersAll z h k f before (ms ++ ns) (xs ++ ys) (x ++ y) e after (made ++ more)
  unfolding AnswersAll
  answers_on f g e before between after [] ns xs ys x y made more (turns, bytes, end, setups, seals) b =
      subst (λ (l : List Placed). AnswersAll z h k f before ns (l ++ ys) (x ++ y) e after (made ++ more)) (sym turns)
      (subst (λ (l : List ℕ). AnswersAll z h k f before ns ys (l ++ y) e after (made ++ more)) (sym bytes)
      (subst (λ (l : List Seal). AnswersAll z h k f before ns ys y e after (l ++ more)) (sym seals)
      (subst (λ (n : ℕ). AnswersAll z h k f n ns ys y e after more) setups
      (subst (λ (u : ServerEnd). AnswersAll z h k u between ns ys y e after more) end b))))
  answers_on f g e before between after (m ∷ ms) ns xs ys x y made more
      (own, later, said, rest, u, setups, one_made, rest_made, one, tail, turns, bytes, seals) b = (
        own,
        later ++ ys,
        said,
        rest ++ y,
        u,
        setups,
        one_made,
        rest_made ++ more,
        one,
        answers_on u g e setups between after ms ns later ys rest y rest_made more tail b,
        joined xs own later ys turns,
        joined x said rest y bytes,
        joined made one_made rest_made more seals,
      )

-- more bytes behind a stream leave its frames
frames_more : (s more : List ℕ) (ms : List (List ℕ)) (r : List ℕ) → Frames s ms r → Frames (s ++ more) ms (r ++ more)
frames_more s more [] r h = ap (λ (l : List ℕ). l ++ more) h
frames_more s more (m ∷ ms) r (later, is, rest) = (later ++ more, whole_stays s m later more is, frames_more later more ms r rest)

frames_join : (s : List ℕ) (ms ns : List (List ℕ)) (r q : List ℕ) → Frames s ms r → Frames r ns q → Frames s (ms ++ ns) q
frames_join s [] ns r q h k = subst (λ (l : List ℕ). Frames l ns q) (sym h) k
frames_join s (m ∷ ms) ns r q (later, is, rest) k = (later, is, frames_join later ms ns r q rest k)

pub frames_on : (s a b : List ℕ) (ms ns : List (List ℕ)) (r q : List ℕ) → Frames (s ++ a) ms r → Frames (r ++ b) ns q
    → Frames (s ++ (a ++ b)) (ms ++ ns) q
frames_on s a b ms ns r q h k =
    subst (λ (l : List ℕ). Frames l (ms ++ ns) q) (append_assoc s a b)
    (frames_join ((s ++ a) ++ b) ms ns (r ++ b) q (frames_more (s ++ a) b ms r h) k)
