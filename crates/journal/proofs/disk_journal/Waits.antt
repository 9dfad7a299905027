-- A body that waits behind its closed gate.
use Rattle.std.proofs.Common.{◌≡◌, ◌⊎◌, inl, inr, ℕ, ◌+◌, ◌^◌, ◌<◌, List, [], ◌∷◌, ◌++◌, length, refl, sym, ◌∙◌, ap, subst, arith}
use Rattle.std.proofs.Common.{append_assoc, length-append}
use Rattle.std.proofs.lemmas.List.{append-nil}
use Rattle.spec_wire.specs.journal.Grammar.{AllFit, IsClosed}
use Rattle.spec_journal.specs.declared.form.Form.{Form}
use Rattle.spec_journal.specs.Forms.{form_entry, form_front, StandsFor}
use Rattle.journal.specs.disk_journal.Entry.{ClosedAt, StaysClosed, WaitsAt, IsClosedOrOpened, IsClosedBeforeOrBehind, IsClosedOrNextOpened}
use Rattle.journal.specs.disk_journal.Journal.{BeforeOrAfter, JournalState, JournalWaits}
use Rattle.journal.proofs.disk_journal.Grown.{all_fit_push, either, front-push, length-entry, length-front-push, pushed, stands, zero_shut}

-- an open gate and its entry belong to what stands before the next one
pub front-one : (form : Form) (bodies : List (List ℕ)) (body : List ℕ) → form_front form bodies ++ 1 ∷ form_entry form body
    ≡ form_front form (bodies ++ body ∷ [])
front-one form bodies body =
    ap (λ (l : List ℕ). form_front form bodies ++ 1 ∷ l) (sym (append-nil (form_entry form body)))
    ∙ front-push form bodies body [] ∙ append-nil (form_front form (bodies ++ body ∷ []))

-- the gate of the body that waits stays closed, or it is open and the one behind it is closed
pub one_waits : (form : Form) (bodies : List (List ℕ)) (body bytes : List ℕ) → AllFit bodies → length body < 2 ^ 32
    → IsClosedBeforeOrBehind (form_front form bodies) (form_entry form body) bytes → BeforeOrAfter bodies body bytes
one_waits form bodies body bytes fit small (inl stays) = inl (inr (stands form bodies bytes fit stays))
one_waits form bodies body bytes fit small (inr stays) =
    inr (inr (stands form (bodies ++ body ∷ []) bytes (all_fit_push bodies body fit small)
    (subst (λ (l : List ℕ). StaysClosed l bytes) (front-one form bodies body) stays)))

-- what stands for these bodies while the gate behind them stays closed
pub none_more : (form : Form) (bodies : List (List ℕ)) (bytes : List ℕ) → AllFit bodies → StaysClosed (form_front form bodies) bytes
    → StandsFor bytes bodies
none_more form bodies bytes fit stays = inr (stands form bodies bytes fit stays)

module _ {D : Type 0} (seen : D → List ℕ) (may_leave : D → List ℕ → Type 0) where
  -- the entry that waits, its gate and the one at its end
  pub waits_at : (journal : JournalState D) (bodies : List (List ℕ)) (body : List ℕ) (gate : ℕ)
      → (w : JournalWaits seen may_leave journal bodies body) → journal.end ≡ gate + 1
      → WaitsAt (length (form_front journal.form bodies)) gate (form_front journal.form bodies) (form_entry journal.form body) w.gate w.last
      w.rest (seen journal.disk)
  waits_at journal bodies body gate w end = record {
    file = w.file;
    place = refl;
    end = omega (arith, end, w.end, length-front-push journal.form bodies body, length-entry journal.form body);
    closed = w.closed;
    behind = w.behind;
  }

  -- the same as a closed gate with an entry, a closed gate and any bytes behind it
  pub closed_first : (journal : JournalState D) (bodies : List (List ℕ)) (body : List ℕ) (w : JournalWaits seen may_leave journal bodies body)
      → ClosedAt (length (form_front journal.form bodies)) (form_front journal.form bodies) w.gate
      ((form_entry journal.form body ++ w.last ∷ []) ++ w.rest) (seen journal.disk)
  closed_first journal bodies body w = record {
    file = w.file ∙ ap (λ (l : List ℕ). form_front journal.form bodies ++ w.gate ∷ l)
        (sym (append_assoc (form_entry journal.form body) (w.last ∷ []) w.rest));
    place = refl;
    closed = w.closed;
  }

-- behind a closed gate, an entry with a closed gate at its end
pub put_first : (front entry behind left : List ℕ) (gate : ℕ) → behind ≡ entry ++ 0 ∷ []
    → front ++ gate ∷ (behind ++ left) ≡ front ++ gate ∷ (entry ++ 0 ∷ left)
put_first front entry behind left gate is =
    ap (λ (l : List ℕ). front ++ gate ∷ (l ++ left)) is ∙ ap (λ (l : List ℕ). front ++ gate ∷ l) (append_assoc entry (0 ∷ []) left)

-- and the same behind an entry whose gate is open now
pub put_next : (form : Form) (bodies : List (List ℕ)) (waiting entry behind left : List ℕ) (last : ℕ) → behind ≡ entry ++ 0 ∷ []
    → (form_front form bodies ++ 1 ∷ form_entry form waiting) ++ last ∷ (behind ++ left)
    ≡ form_front form (bodies ++ waiting ∷ []) ++ last ∷ (entry ++ 0 ∷ left)
put_next form bodies waiting entry behind left last is =
    ap (λ (l : List ℕ). l ++ last ∷ (behind ++ left)) (front-one form bodies waiting)
    ∙ put_first (form_front form (bodies ++ waiting ∷ [])) entry behind left last is

-- the same with the gate of the next body opened in turn
pub one_more : (form : Form) (bodies : List (List ℕ)) (waiting body bytes : List ℕ) → AllFit bodies → length waiting < 2 ^ 32
    → length body < 2 ^ 32 → IsClosedOrNextOpened (form_front form bodies) (form_entry form waiting) (form_entry form body ++ 0 ∷ []) bytes
    → StandsFor bytes bodies ⊎ BeforeOrAfter (bodies ++ waiting ∷ []) body bytes
one_more form bodies waiting body bytes fit small next (inl stays) = inl (none_more form bodies bytes fit stays)
one_more form bodies waiting body bytes fit small next (inr whole) =
    inr (either form (bodies ++ waiting ∷ []) body bytes 0 zero_shut (all_fit_push bodies waiting fit small) next
    (subst (λ (l : List ℕ). IsClosedOrOpened l (form_entry form body ++ 0 ∷ []) bytes) (front-one form bodies waiting) whole))

pub put_more : (form : Form) (bodies : List (List ℕ)) (waiting body behind left : List ℕ) → behind ≡ form_entry form body ++ 0 ∷ []
    → (form_front form bodies ++ 1 ∷ form_entry form waiting) ++ 1 ∷ (behind ++ left)
    ≡ form_front form ((bodies ++ waiting ∷ []) ++ body ∷ []) ++ 0 ∷ left
put_more form bodies waiting body behind left is =
    ap (λ (l : List ℕ). l ++ 1 ∷ (behind ++ left)) (front-one form bodies waiting)
    ∙ ap (λ (l : List ℕ). form_front form (bodies ++ waiting ∷ []) ++ 1 ∷ (l ++ left)) is
    ∙ pushed form (bodies ++ waiting ∷ []) body left 0

-- behind the first gate, which is open now, the second one is closed
pub opened_first : (before gate : ℕ) (front entry rest : List ℕ) (shut last : ℕ) (old new : List ℕ)
    → WaitsAt before gate front entry shut last rest old → new ≡ front ++ 1 ∷ ((entry ++ last ∷ []) ++ rest)
    → ClosedAt gate (front ++ 1 ∷ entry) last rest new
opened_first before gate front entry rest shut last old new w is = record {
  file = is ∙ ap (λ (l : List ℕ). front ++ 1 ∷ l) (append_assoc entry (last ∷ []) rest) ∙ sym (append_assoc front (1 ∷ entry) (last ∷ rest));
  place = omega (arith, length-append front (1 ∷ entry), w.place, w.end);
  closed = w.behind;
}

pub shut_first : (before gate : ℕ) (front entry rest : List ℕ) (shut last : ℕ) (bytes : List ℕ)
    → WaitsAt before gate front entry shut last rest bytes → ClosedAt before front shut ((entry ++ last ∷ []) ++ rest) bytes
shut_first before gate front entry rest shut last bytes w = record {
  file = w.file ∙ ap (λ (l : List ℕ). front ++ shut ∷ l) (sym (append_assoc entry (last ∷ []) rest));
  place = w.place;
  closed = w.closed;
}

-- a gate that is open behind which a closed one stands
pub opens_to_next : (front entry behind : List ℕ) (last : ℕ) → IsClosed last → (bytes : List ℕ)
    → IsClosedOrOpened front (entry ++ last ∷ []) bytes → IsClosedOrNextOpened front entry behind bytes
opens_to_next front entry behind last closed bytes (inl stays) = inl stays
opens_to_next front entry behind last closed bytes (inr whole) =
    inr (inl (record {
      gate = last;
      rest = whole.0;
      file = whole.1 ∙ ap (λ (l : List ℕ). front ++ 1 ∷ l) (append_assoc entry (last ∷ []) whole.0)
          ∙ sym (append_assoc front (1 ∷ entry) (last ∷ whole.0));
      closed = closed;
    }))

module _ {D : Type 0} (seen : D → List ℕ) (may_leave : D → List ℕ → Type 0) where
  -- a closed gate at the end of the entry that waits, with all before it as a front
  pub closed_last : (journal : JournalState D) (bodies : List (List ℕ)) (body : List ℕ) (gate : ℕ)
      → (w : JournalWaits seen may_leave journal bodies body) → journal.end ≡ gate + 1
      → ClosedAt gate (form_front journal.form bodies ++ w.gate ∷ form_entry journal.form body) w.last w.rest (seen journal.disk)
  closed_last journal bodies body gate w end = record {
    file = w.file ∙ sym (append_assoc (form_front journal.form bodies) (w.gate ∷ form_entry journal.form body) (w.last ∷ w.rest));
    place = omega (
      arith,
      length-append (form_front journal.form bodies) (w.gate ∷ form_entry journal.form body),
      end,
      w.end,
      length-front-push journal.form bodies body,
      length-entry journal.form body,
    );
    closed = w.behind;
  }

-- and while that stays closed the first gate does
pub waits_still : (form : Form) (bodies : List (List ℕ)) (body bytes : List ℕ) (gate : ℕ) → AllFit bodies → IsClosed gate
    → StaysClosed (form_front form bodies ++ gate ∷ form_entry form body) bytes → StandsFor bytes bodies
waits_still form bodies body bytes gate fit closed stays = none_more form bodies bytes fit (record {
  gate = gate;
  rest = form_entry form body ++ stays.gate ∷ stays.rest;
  file = stays.file ∙ append_assoc (form_front form bodies) (gate ∷ form_entry form body) (stays.gate ∷ stays.rest);
  closed = closed;
})
