-- The operation that is picked goes out.
use Rattle.std.proofs.Common.{◌≡◌, ℕ, zero, suc, ◌+◌, ◌&&◌, nat_le, Bool, true, false, if◌then◌else◌, List, [], ◌∷◌, ◌++◌}
use Rattle.std.proofs.Common.{append_assoc, Option, Some, None, ◌⊎◌, inl, inr, refl, sym, ap, subst, ◌∙◌, arith}
use Rattle.spec_exchange.specs.Client.{Client, create_for, goes_itself, has_its_slot, is_free, may_push, needs_slot}
use Rattle.spec_exchange.specs.Client.{settle_no_slot, settle_no_slots}
use Rattle.spec_exchange.specs.ClientStep.{Act, AllSettled, Asks, CloseChannels, Nothing, Pick, Pushes, Sends, act}
use Rattle.spec_exchange.specs.ClientStep.{op_act, some_unsettled}
use Rattle.spec_exchange.specs.Schedules.{Choice, choose, cost, least_free}

-- ---- tests alone

and_left : (a b : Bool) → (a && b) ≡ true → a ≡ true
and_left a b h = grind arith

and_right : (a b : Bool) → (a && b) ≡ true → b ≡ true
and_right a b h = grind arith

not_both : (a b : Bool) → (a && b) ≡ false → (a ≡ false) ⊎ (b ≡ false)
not_both true b h = inr h
not_both false b h = inl refl

-- it acts on this operation
abbrev GoesOut : Act → ℕ → Type 0
GoesOut a g = (a ≡ Sends g) ⊎ (a ≡ Asks g)

abbrev by_tests : Bool → Bool → Bool → ℕ → Act
by_tests may itself slot g = if may then (if itself then (if slot then Sends g else Nothing) else Asks g) else Nothing

asked_for : (may itself slot : Bool) (g : ℕ) → may ≡ true → itself ≡ false → GoesOut (by_tests may itself slot g) g
asked_for may itself slot g m i =
    inr (ap (λ (b : Bool). by_tests b itself slot g) m ∙ ap (λ (b : Bool). by_tests true b slot g) i)

sent_with : (may itself slot : Bool) (g : ℕ) → may ≡ true → slot ≡ true → GoesOut (by_tests may itself slot g) g
sent_with may true slot g m s =
    inl (ap (λ (b : Bool). by_tests b true slot g) m ∙ ap (λ (b : Bool). by_tests true true b g) s)
sent_with may false slot g m s = asked_for may false slot g m refl

-- ---- its slot

none_some : {X : Type 0} (x : X) → None ≡ Some x → ⊥
none_some x e = absurd cc

abbrev or_zero : Option ℕ → ℕ
or_zero None = 0
or_zero (Some x) = x

least_turn : (c : Client) (create i n j : ℕ) (b : Bool) → is_free c create i ≡ b
    → (least_free c create (i + 1) n ≡ Some j → is_free c create j ≡ true)
    → (elim b as (λ x. Option ℕ) [ true ↦ Some i | false ↦ least_free c create (i + 1) n ]) ≡ Some j → is_free c create j ≡ true
least_turn c create i n j true is later e = subst (λ (x : ℕ). is_free c create x ≡ true) (ap or_zero e) is
least_turn c create i n j false is later e = later e

least_is_free : (c : Client) (create i n j : ℕ) → least_free c create i n ≡ Some j → is_free c create j ≡ true
unfolding least_free
least_is_free c create i zero j e = absurd (none_some j e)
least_is_free c create i (suc n) j e =
    least_turn c create i n j (is_free c create i) refl (λ f. least_is_free c create (i + 1) n j f) e

needs_none : (need free : Bool) → need ≡ false → (if need then free else true) ≡ true
needs_none need free e = ap (λ (b : Bool). if b then free else true) e

has_one : (need free : Bool) → free ≡ true → (if need then free else true) ≡ true
has_one true free e = e
has_one false free e = refl

-- ---- the choice, from any client on

-- what is settled before it is more of those without a slot, behind which its pick goes out
abbrev Picks : Client → ℕ → List ℕ → Choice → Type 0
Picks c k slotless x =
    (p : Pick) → x.pick ≡ Some p
    → (more : List ℕ) × (x.slotless ≡ slotless ++ more) × GoesOut (op_act (settle_no_slots c k more) k p.op p.slot) p.op
    × (c.ready k ≡ true)

end_here : (slotless : List ℕ) → slotless ≡ slotless ++ []
end_here [] = refl
end_here (g ∷ gs) = ap (λ (l : List ℕ). g ∷ l) (end_here gs)

abbrev pick_of : Option Pick → Pick → Pick
pick_of None other = other
pick_of (Some p) other = p

-- this one with this slot
picks_it : (c : Client) (k g i : ℕ) (slotless : List ℕ) → c.ready k ≡ true → GoesOut (op_act c k g i) g
    → Picks c k slotless (record { slotless = slotless; pick = Some (record { op = g; slot = i }) })
unfolding settle_no_slots
picks_it c k g i slotless ready goes p e = (
  [],
  end_here slotless,
  subst (λ (q : Pick). GoesOut (op_act c k q.op q.slot) q.op) (ap (λ (o : Option Pick). pick_of o p) e) goes,
  ready,
)

picks_none : (c : Client) (k : ℕ) (slotless : List ℕ) → Picks c k slotless (record { slotless = slotless; pick = None })
picks_none c k slotless p e = absurd (none_some p e)

-- behind one that found no slot
picks_behind : (c : Client) (k g : ℕ) (slotless : List ℕ) (x : Choice) → c.ready k ≡ true
    → Picks (settle_no_slot c k g) k (slotless ++ g ∷ []) x → Picks c k slotless x
unfolding settle_no_slots
picks_behind c k g slotless x ready h p e =
    let w = h p e in (g ∷ w.0, w.1 ∙ append_assoc slotless (g ∷ []) w.0, w.2, ready)

slot_turn : (c : Client) (k credits : ℕ) (slotless : List ℕ) (g n : ℕ) → may_push c k g ≡ true
    → ((d : Client) (s : List ℕ) → Picks d k s (choose d k credits s (g + 1) n)) → (o : Option ℕ)
    → least_free c (create_for c g) 1 64 ≡ o
    → Picks c k slotless (elim o as (λ x. Choice) [
      | Some i ↦ record { slotless = slotless; pick = Some (record { op = g; slot = i }) }
      | None ↦ choose (settle_no_slot c k g) k credits (slotless ++ g ∷ []) (g + 1) n
    ])
slot_turn c k credits slotless g n may later (Some i) found =
    picks_it c k g i slotless (and_left (c.ready k) _ may)
    (sent_with (may_push c k g) (goes_itself c g) (has_its_slot c g i) g may
    (has_one (needs_slot c g) (is_free c (create_for c g) i) (least_is_free c (create_for c g) 1 64 i found)))
slot_turn c k credits slotless g n may later None found =
    picks_behind c k g slotless (choose (settle_no_slot c k g) k credits (slotless ++ g ∷ []) (g + 1) n)
    (and_left (c.ready k) _ may) (later (settle_no_slot c k g) (slotless ++ g ∷ []))

pick_turn : (c : Client) (k credits : ℕ) (slotless : List ℕ) (g n : ℕ) → may_push c k g ≡ true
    → ((d : Client) (s : List ℕ) → Picks d k s (choose d k credits s (g + 1) n)) → (b : Bool)
    → (goes_itself c g && needs_slot c g) ≡ b
    → Picks c k slotless (elim b as (λ x. Choice) [
      | false ↦ record { slotless = slotless; pick = Some (record { op = g; slot = 0 }) }
      | true ↦
          elim (least_free c (create_for c g) 1 64) as (λ x. Choice) [
            | Some i ↦ record { slotless = slotless; pick = Some (record { op = g; slot = i }) }
            | None ↦ choose (settle_no_slot c k g) k credits (slotless ++ g ∷ []) (g + 1) n
          ]
    ])
pick_turn c k credits slotless g n may later true test =
    slot_turn c k credits slotless g n may later (least_free c (create_for c g) 1 64) refl
pick_turn c k credits slotless g n may later false test =
    picks_it c k g 0 slotless (and_left (c.ready k) _ may) (goes (not_both (goes_itself c g) (needs_slot c g) test))
  where
    goes : (goes_itself c g ≡ false) ⊎ (needs_slot c g ≡ false) → GoesOut (op_act c k g 0) g
    goes (inl other) = asked_for (may_push c k g) (goes_itself c g) (has_its_slot c g 0) g may other
    goes (inr slots) =
        sent_with (may_push c k g) (goes_itself c g) (has_its_slot c g 0) g may
        (needs_none (needs_slot c g) (is_free c (create_for c g) 0) slots)

turn : (c : Client) (k credits : ℕ) (slotless : List ℕ) (g n : ℕ)
    → ((d : Client) (s : List ℕ) → Picks d k s (choose d k credits s (g + 1) n)) → (b : Bool)
    → (may_push c k g && nat_le (cost c g) credits) ≡ b
    → Picks c k slotless (elim b as (λ x. Choice) [
      | false ↦ choose c k credits slotless (g + 1) n
      | true ↦
          elim (goes_itself c g && needs_slot c g) as (λ x. Choice) [
            | false ↦ record { slotless = slotless; pick = Some (record { op = g; slot = 0 }) }
            | true ↦
                elim (least_free c (create_for c g) 1 64) as (λ x. Choice) [
                  | Some i ↦ record { slotless = slotless; pick = Some (record { op = g; slot = i }) }
                  | None ↦ choose (settle_no_slot c k g) k credits (slotless ++ g ∷ []) (g + 1) n
                ]
          ]
    ])
turn c k credits slotless g n later false test = later c slotless
turn c k credits slotless g n later true test =
    pick_turn c k credits slotless g n (and_left (may_push c k g) (nat_le (cost c g) credits) test) later
    (goes_itself c g && needs_slot c g) refl

picks : (c : Client) (k credits : ℕ) (slotless : List ℕ) (g n : ℕ) → Picks c k slotless (choose c k credits slotless g n)
unfolding choose
picks c k credits slotless g zero = picks_none c k slotless
picks c k credits slotless g (suc n) =
    turn c k credits slotless g n (λ d s. picks d k credits s (g + 1) n) (may_push c k g && nat_le (cost c g) credits) refl

-- ---- the push

in_session : (ready some : Bool) (x : Act) (g : ℕ) → ready ≡ true → GoesOut x g
    → GoesOut (if ready then x else if some then CloseChannels else AllSettled) g
in_session true some x g e h = h
in_session false some x g e h = absurd cc

pub pick_goes_out : (c : Client) (k credits from count : ℕ) (p : Pick) → (choose c k credits [] from count).pick ≡ Some p
    → (act c (Pushes k (choose c k credits [] from count).slotless (Some p)) ≡ Sends p.op)
    ⊎ (act c (Pushes k (choose c k credits [] from count).slotless (Some p)) ≡ Asks p.op)
pick_goes_out c k credits from count p e =
    let w = picks c k credits [] from count p e in
    let goes = subst (λ (gs : List ℕ). GoesOut (op_act (settle_no_slots c k gs) k p.op p.slot) p.op) (sym w.1) w.2 in
    in_session (c.ready k) (some_unsettled c c.taken)
    (op_act (settle_no_slots c k (choose c k credits [] from count).slotless) k p.op p.slot) p.op w.3 goes
