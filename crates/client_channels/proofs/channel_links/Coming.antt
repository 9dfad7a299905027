-- What comes on a link, call by call.
use Rattle.std.proofs.Common.{◌≡◌, ℕ, ◌<◌, ◌^◌, ◌||◌, Bool, List, [], ◌++◌, inl, inr, length, take}
use Rattle.std.proofs.Common.{refl, sym, ap, ◌∙◌, subst, append_assoc}
use Rattle.std.proofs.lemmas.List.{append-nil}
use Rattle.base_outside.specs.network.Link.{LinkGives, is_link_end}
use Rattle.base_outside.specs.streams.Faults.{Rose}
use Rattle.spec_wire.specs.messages.Frames.{Breaks, Whole, front}
use Rattle.spec_wire.specs.declared.messages.refusal.FrameError.{FrameError}
use Rattle.spec_wire.specs.declared.messages.refusal.FrameError.TheVariants as errors
use Rattle.std.specs.Prelude.{Option, Some, None, Err, Ok}
use Rattle.wire_bytes.specs.declared.frames.deframer.Frame.{Frame as Spelled}
use Rattle.wire_bytes.specs.frames.Next.{FrameNextAnswers}
use Rattle.client_channels.specs.channel_links.Coming.{Comes, ComesOrFeeds, Feeds, Gave, IsRefused, IsShort, NextIs}
use Rattle.client_channels.specs.declared.channel_links.taking.Came.{Came}
use Rattle.client_channels.specs.declared.channel_links.taking.Came.TheVariants.{Frame, Lack, Over}
use Rattle.client_channels.proofs.channel_links.Passing.{at_end, gave, gave_none, passed_none, passed_on}

pub next_whole : (old new message : List ℕ) (came : Came) → front old ≡ Whole message new → IsShort message came → NextIs old new came
next_whole old new message (Frame m) h is =
    (subst (λ (x : List ℕ). front old ≡ Whole x new) (sym is.0) h, subst (λ (x : List ℕ). length x < 2 ^ 60) (sym is.0) is.1)
next_whole old new message Over h is = absurd is
next_whole old new message Lack h is = tt

pub next_frame : (old new : List ℕ) (found : Option Spelled) (frame : Spelled) (came : Came) → found ≡ Some frame
    → FrameNextAnswers old new (Ok found) → IsShort frame.bytes came → NextIs old new came
next_frame old new found frame came is h short =
    next_whole old new frame.bytes came (subst (λ (x : Option Spelled). FrameNextAnswers old new (Ok x)) is h) short

pub next_refused : (old new : List ℕ) (refusal : FrameError) (came : Came) → FrameNextAnswers old new (Err refusal) → IsRefused refusal came
    → NextIs old new came
next_refused old new errors.Memory came h is = subst (λ (x : Came). NextIs old new x) (sym is) tt
next_refused old new (errors.BadLead lead) came h is =
    subst (λ (x : Came). NextIs old new x) (sym is) (h.1, (errors.BadLead lead, h.0))
next_refused old new (errors.TooLong n) came h is =
    subst (λ (x : Came). NextIs old new x) (sym is) (h.1, (errors.TooLong n, h.0))

module _ {K : Type 0} (told : Type 0) (given left written : K → List ℕ) (faults : K → ℕ) (ended : K → Bool) where
  joined : (l m n : K) (a b : List ℕ) → Gave told given left written faults ended l m a → Gave told given left written faults ended m n b
      → Gave told given left written faults ended l n (a ++ b)
  joined l m n a b h k = record { passed = passed_on told given left written l m n a b [] [] h.passed k.passed; calm = k.calm ∙ h.calm }

  abbrev Fed : K → List ℕ → K → List ℕ → Type 0
  Fed l s n s' = (came : List ℕ) × Gave told given left written faults ended l n came × (s' ≡ s ++ came)

  pub fed_none : (l : K) (s : List ℕ) → Fed l s l s
  fed_none l s = ([], record { passed = passed_none told given left written l; calm = refl }, sym (append-nil s))

  -- a read gave nothing
  pub feeds_end : (l n : K) (s buffer : List ℕ) (count : ℕ) → count ≡ 0 → 0 < length buffer
      → (told → LinkGives (left l) count buffer (left n)) → (told → given n ≡ given l ++ take count buffer) → (told → written n ≡ written l)
      → ended n ≡ (ended l || is_link_end count buffer) → Feeds told given left written faults ended l s n s (Some Over)
  feeds_end l n s buffer count is some q h k e =
      let none : told → given n ≡ given l ++ [] = λ t. h t ∙ ap (λ (x : ℕ). given l ++ take x buffer) is in
      let same : told → left l ≡ left n = λ t. (q t).next ∙ ap (λ (x : ℕ). take x buffer ++ left n) is in (
        record {
          passed = gave told given left written l n [] none same k;
          cause = inl
              (at_end (ended l) (ended n) buffer count is some e);
        },
        refl,
      )

  -- a read failed
  pub feeds_fail : (l n : K) (s : List ℕ) → (told → (left n ≡ left l) × (given n ≡ given l)) → (told → written n ≡ written l)
      → Rose (faults l) (faults n) → Feeds told given left written faults ended l s n s (Some Over)
  feeds_fail l n s h k rose = (record { passed = gave_none told given left written l n h k; cause = inr rose }, refl)

  -- what a read gave found no memory
  pub feeds_lack : (l n : K) (s s' bytes : List ℕ) → (told → given n ≡ given l ++ bytes) → (told → left l ≡ bytes ++ left n)
      → (told → written n ≡ written l) → Feeds told given left written faults ended l s n s' (Some Lack)
  feeds_lack l n s s' bytes h q k = (bytes, gave told given left written l n bytes h q k)

  -- what a read gave stands behind the stream
  pub feeds_more : (l n : K) (s s' bytes : List ℕ) → (told → given n ≡ given l ++ bytes) → (told → left l ≡ bytes ++ left n)
      → (told → written n ≡ written l) → faults n ≡ faults l → s' ≡ s ++ bytes → Feeds told given left written faults ended l s n s' None
  feeds_more l n s s' bytes h q k calm more =
      (bytes, record { passed = gave told given left written l n bytes h q k; calm = calm }, more)

  -- more behind it
  pub fed_on : (l m n : K) (s r q : List ℕ) → Fed l s m r → Fed m r n q → Fed l s n q
  fed_on l m n s r q (a, h, e) (b, k, f) =
      (a ++ b, joined l m n a b h k, f ∙ ap (λ (z : List ℕ). z ++ b) e ∙ append_assoc s a b)

  -- what stands at the front of the stream then
  pub comes_next : (l n : K) (s r q : List ℕ) (came : Came) → Fed l s n r → NextIs r q came
      → Comes told given left written faults ended l s n q came
  comes_next l n s r q (Frame m) (a, h, e) is = record {
    came = a;
    gave = h;
    frame = subst (λ (x : List ℕ). front x ≡ Whole m q) e is.0;
    short = is.1;
  }
  comes_next l n s r q Over (a, h, e) (same, broken) = record {
    came = a;
    mid = n;
    gave = h;
    stream_is = same ∙ e;
    cause = inr (refl, (broken.0, subst (λ (x : List ℕ). front x ≡ Breaks broken.0) (sym same) broken.1));
  }
  comes_next l n s r q Lack (a, h, e) is = (a, h.passed)

  -- or the link gives no more
  pub comes_fed : (l m n : K) (s r q : List ℕ) (came : Came) → Fed l s m r → Feeds told given left written faults ended m r n q (Some came)
      → Comes told given left written faults ended l s n q came
  comes_fed l m n s r q (Frame x) fed h = absurd h
  comes_fed l m n s r q Over (a, g, e) (none, same) =
      record { came = a; mid = m; gave = g; stream_is = same ∙ e; cause = inl none }
  comes_fed l m n s r q Lack (a, g, e) (b, k) = (a ++ b, passed_on told given left written l m n a b [] [] g.passed k)

  fed_same : (l : K) (s r : List ℕ) → r ≡ s → Fed l s l r
  fed_same l s r same = subst (λ (x : List ℕ). Fed l s l x) (sym same) (fed_none l s)

  -- nothing stood at the front of the stream
  pub comes_by_feed : (l n : K) (s r q : List ℕ) (came : Option Came) → r ≡ s → Feeds told given left written faults ended l r n q came
      → ComesOrFeeds told given left written faults ended l s n q came
  comes_by_feed l n s r q None same (b, k, f) = (b, k, f ∙ ap (λ (z : List ℕ). z ++ b) same)
  comes_by_feed l n s r q (Some came) same h = comes_fed l l n s r q came (fed_same l s r same) h

  -- more came before
  pub comes_later : (l m n : K) (s r q : List ℕ) (came : Came) → Fed l s m r → Comes told given left written faults ended m r n q came
      → Comes told given left written faults ended l s n q came
  comes_later l m n s r q (Frame x) (a, g, e) h = record {
    came = a ++ h.came;
    gave = joined l m n a h.came g h.gave;
    frame = subst (λ (z : List ℕ). front z ≡ Whole x q) (ap (λ (z : List ℕ). z ++ h.came) e ∙ append_assoc s a h.came) h.frame;
    short = h.short;
  }
  comes_later l m n s r q Over (a, g, e) h = record {
    came = a ++ h.came;
    mid = h.mid;
    gave = joined l m h.mid a h.came g h.gave;
    stream_is = h.stream_is ∙ ap (λ (z : List ℕ). z ++ h.came) e ∙ append_assoc s a h.came;
    cause = h.cause;
  }
  comes_later l m n s r q Lack (a, g, e) (b, k) = (a ++ b, passed_on told given left written l m n a b [] [] g.passed k)
