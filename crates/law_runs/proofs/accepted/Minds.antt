-- What waits of a final response was made as it would be accepted, and so was what was accepted.
use Rattle.std.proofs.Common.{◌≡◌, ℕ, zero, suc, ◌==◌, Bool, true, List, [], ◌∷◌, ◌++◌, refl, sym, ◌∙◌, Some, None, slice_get}
use Rattle.spec_exchange.specs.Table.{put}
use Rattle.spec_exchange.specs.Status.{success}
use Rattle.spec_exchange.specs.State.{Message}
use Rattle.spec_exchange.specs.Client.{Stage, SaidSecond}
use Rattle.spec_exchange.specs.ClientStep.{Act, Nothing, Sends, Asks, CloseChannel, CloseChannels, AllSettled}
use Rattle.spec_exchange.specs.Network.{Token}
use Rattle.spec_world.specs.Messages.{HeardMessage}
use Rattle.spec_world.specs.Ends.{ClientEnd}
use Rattle.spec_world.specs.Answering.{Ending}
use Rattle.spec_world.specs.Sending.{line_frame, spent, sealed_on}
use Rattle.spec_world.specs.Dialog.{response_in, ended_on}
use Rattle.spec_world.specs.World.{World, Wires, with_client_end, queued, line_sent, client_end_off, all_off, one_off, closed_wires, off_by}
use Rattle.law_nonces.proofs.negotiation.Tables.{All, by_key}

-- ---- lists of endings

abbrev pub IsIn : List Ending → Ending → Type 0
IsIn made a = (j : ℕ) × (slice_get made j ≡ Some a)

none_there : {X : Type 0} (j : ℕ) (a : Ending) → slice_get [] j ≡ Some a → X
none_there zero a e = absurd (let h : None ≡ Some a = e in cc)
none_there (suc j) a e = absurd (let h : None ≡ Some a = e in cc)

still_there : (xs ys : List Ending) (j : ℕ) (a : Ending) → slice_get xs j ≡ Some a → slice_get (xs ++ ys) j ≡ Some a
still_there [] ys j a e = none_there j a e
still_there (x ∷ xs) ys zero a e = e
still_there (x ∷ xs) ys (suc j) a e = still_there xs ys j a e

pub in_more : (xs ys : List Ending) (a : Ending) → IsIn xs a → IsIn (xs ++ ys) a
in_more xs ys a h = (h.0, still_there xs ys h.0 a h.1)

pub in_last : (xs : List Ending) (a : Ending) → IsIn (xs ++ a ∷ []) a
in_last [] a = (0, refl)
in_last (x ∷ xs) a = let h = in_last xs a in (suc h.0, h.1)

-- ---- one connection

abbrev pub Made : List Ending → ClientEnd → List (List ℕ) → Type 0
Made made n down =
    (bound : Bool) (a : List ℕ) (y : HeardMessage) → n.stage ≡ SaidSecond bound → down ≡ a ∷ [] → response_in (Some a) ≡ Some y →
    (y.header.status == success) ≡ true → IsIn made (ended_on n y bound)

pub none_waits : (made : List Ending) (n : ClientEnd) (down : List (List ℕ)) → down ≡ [] → Made made n down
none_waits made n down e bound a y s d r ok = absurd (let h : [] ≡ a ∷ [] = sym e ∙ d in cc)

pub not_second : (made : List Ending) (n : ClientEnd) (down : List (List ℕ)) (stage : Stage) → n.stage ≡ stage
    → ((bound : Bool) → stage ≡ SaidSecond bound → ⊥) → Made made n down
not_second made n down stage e off bound a y s d r ok = absurd (off bound (sym e ∙ s))

pub made_more : (made more : List Ending) (n : ClientEnd) (down : List (List ℕ)) → Made made n down → Made (made ++ more) n down
made_more made more n down h bound a y s d r ok = in_more made more (ended_on n y bound) (h bound a y s d r ok)

-- ---- the whole world

pub record Minds (made accepted : List Ending) (wires : ℕ → Wires) : Type 0 where
  pub waits : (j : ℕ) → Made made (wires j).client_end (wires j).down
  pub taken : All (IsIn made) accepted

abbrev pub MindsOf : World → Type 0
MindsOf w = Minds w.made w.accepted w.wires

pub one : (made accepted : List Ending) (wires : ℕ → Wires) (k : ℕ) (u : Wires) → Made made u.client_end u.down → Minds made accepted wires
    → Minds made accepted (put wires k u)
one made accepted wires k u m h =
    record { waits = by_key (λ j (v : Wires). Made made v.client_end v.down) wires k u m (λ j off. h.waits j); taken = h.taken }

-- ---- ends that close, and what goes up

pub one_closed : (x : World) (k : ℕ) → MindsOf x → MindsOf (one_off x k)
one_closed x k h =
    one x.made x.accepted x.wires k (client_end_off (x.wires k)) (none_waits x.made (x.wires k).client_end [] refl) h

pub all_closed : (x : World) → MindsOf x → MindsOf (all_off x)
all_closed x h = record { waits = λ j. none_waits x.made (x.wires j).client_end [] refl; taken = h.taken }

pub closed : (x : World) (k : ℕ) (a : Act) → MindsOf x → MindsOf (closed_wires x k a)
closed x k CloseChannels h = all_closed x h
closed x k CloseChannel h = one_closed x k h
closed x k Nothing h = h
closed x k (Sends g) h = h
closed x k (Asks g) h = h
closed x k AllSettled h = h

pub off_closed : (x : World) (k : ℕ) (a : Act) → MindsOf x → MindsOf (off_by x k a)
off_closed x k CloseChannels h = all_closed x h
off_closed x k CloseChannel h = one_closed x k h
off_closed x k Nothing h = one_closed x k h
off_closed x k (Sends g) h = one_closed x k h
off_closed x k (Asks g) h = one_closed x k h
off_closed x k AllSettled h = one_closed x k h

pub line : (x : World) (k : ℕ) (token : Token) (m : Message) (n : ℕ) → MindsOf x → MindsOf (line_sent x k token m n)
line x k token m n h =
    one x.made x.accepted x.wires k
    (queued (x.wires k) (sealed_on (spent (x.wires k).client_end n token)) (line_frame (x.wires k).client_end m n)) (h.waits k) h

pub moved : (x : World) (k : ℕ) (n : ClientEnd) → Made x.made n (x.wires k).down → MindsOf x → MindsOf (with_client_end x k n)
moved x k n m h = one x.made x.accepted x.wires k (record (x.wires k) { client_end = n }) m h
