-- The session ends: what hung on a plain open is given up.
use Rattle.std.proofs.Common.{◌≡◌, ℕ, ◌<◌, ◌≤◌, true, false, arith, ◌⊎◌, inl, inr, sym, ◌∙◌, ap, refl}
use Rattle.law_client.specs.table.Columns.{Ops, Standing, IsClientFirst, ClientAllSettled}
use Rattle.law_client.specs.table.Kept.{Ordered, TableStands}
use Rattle.law_client.proofs.table.Moves.{moved, true_or_false, stays, clash, whole_first}

-- why one settles: it went out, or its create did, or its create is settled
abbrev pub IsLost : Ops → Standing → ℕ → Type 0
IsLost o s g = (s.sent g ≡ true) ⊎ ((o.create g ≡ false) × ((s.unsettled (o.of g) ≡ false) ⊎ (s.sent (o.of g) ≡ true)))

pub record Ends (o : Ops) (s t : Standing) : Type 0 where
  pub fewer : (g : ℕ) → t.unsettled g ≡ true → s.unsettled g ≡ true
  pub lost : (g : ℕ) → t.unsettled g ≡ false → s.unsettled g ≡ true → (o.persist (o.of g) ≡ false) × IsLost o s g
  pub loses : (g : ℕ) → o.persist (o.of g) ≡ false → IsLost o s g → t.unsettled g ≡ false
  pub ok : (g : ℕ) → t.ok g ≡ s.ok g
  pub sent : (g : ℕ) → t.sent g ≡ s.sent g
  pub out : (g : ℕ) → t.out g ≡ true → ⊥
  -- an open is gone that was, or a plain one
  pub gone : (g : ℕ) → o.create g ≡ true → t.gone g ≡ true → t.unsettled g ≡ false
      × ((s.gone g ≡ true) ⊎ ((s.unsettled g ≡ true) ⊎ (o.persist g ≡ false)))

of_of : (o : Ops) (g : ℕ) → Ordered o → 0 < g → g ≤ o.taken → o.create g ≡ false → o.of (o.of g) ≡ o.of g
of_of o g i above within other = i.itself (o.of g) (i.owned g above within other).2

-- where one of an open is lost, or its create, they all are
whole_lost : (o : Ops) (s t : Standing) (x : ℕ) → Ends o s t → o.persist x ≡ false → (s.unsettled x ≡ false)
    ⊎ (s.sent x ≡ true) → ClientAllSettled o t x
whole_lost o s t x f plain why g above within other same =
    f.loses g (ap (λ n. o.persist n) same ∙ plain)
    (inr (
      other,
      elim why as (λ _. (s.unsettled (o.of g) ≡ false) ⊎ (s.sent (o.of g) ≡ true))
          [ inl e ↦ inl (ap (λ n. s.unsettled n) same ∙ e) | inr e ↦ inr (ap (λ n. s.sent n) same ∙ e) ],
    ))

lost_first : (o : Ops) (s t : Standing) → Ordered o → TableStands o s → Ends o s t → (g : ℕ) → 0 < g → g ≤ o.taken
    → t.unsettled g ≡ false → s.unsettled g ≡ true → IsClientFirst o t g
lost_first o s t i k f g above within h before =
    let l = f.lost g h before in
    elim (true_or_false (o.create g)) [
      | inl c ↦ λ n a b same holds. (
          elim (true_or_false (o.create n)) [
            | inl e ↦ absurd (clash (o.holds n g) holds (i.passes n g e))
            | inr e ↦ absurd (let w = i.owned n a (omega arith) e in let own = i.itself g c in let q : o.of n ≡ g = same
                ∙ own in omega arith)
          ]
          )
      | inr c ↦ whole_first o t g i within
          (whole_lost o s t (o.of g) f l.0 (elim l.1 as (λ _. (s.unsettled (o.of g) ≡ false) ⊎ (s.sent (o.of g) ≡ true))
          [ inl e ↦ inl (k.ok_settled (o.of g) (k.sent_open g e c)) | inr e ↦ e.1 ]))
    ]

lost_open : (o : Ops) (s t : Standing) → Ordered o → TableStands o s → Ends o s t → (g : ℕ) → 0 < g → g ≤ o.taken
    → o.create g ≡ false → t.unsettled g ≡ true → t.unsettled (o.of g) ≡ false → s.unsettled (o.of g) ≡ true
    → t.ok (o.of g) ≡ true
lost_open o s t i k f g above within other h settled before =
    let l = f.lost (o.of g) settled before in
    let own = of_of o g i above within other in
    let c = (i.owned g above within other).2 in
    elim l.1 [
      | inl e ↦ absurd (clash (t.unsettled g) h (whole_lost o s t (o.of g) f (ap (λ n. o.persist n) (sym own) ∙ l.0)
          (inr e) g above within other refl))
      | inr e ↦ absurd (clash (o.create (o.of g)) c e.0)
    ]

lost_gone : (o : Ops) (s t : Standing) → Ordered o → TableStands o s → Ends o s t → (g : ℕ) → 0 < g → g ≤ o.taken
    → o.create g ≡ false → t.gone (o.of g) ≡ true → t.unsettled g ≡ false
lost_gone o s t i k f g above within other gone =
    let own = of_of o g i above within other in
    let c = (i.owned g above within other).2 in
    let q = f.gone (o.of g) c gone in
    elim (true_or_false (s.unsettled (o.of g))) [
      | inl u ↦ (
          let l = f.lost (o.of g) q.0 u in
          elim l.1 [
            | inl e ↦ whole_lost o s t (o.of g) f (ap (λ n. o.persist n) (sym own) ∙ l.0) (inr e) g above within other refl
            | inr e ↦ absurd (clash (o.create (o.of g)) c e.0)
          ]
          )
      | inr u ↦ (
          elim q.1 [
            | inl e ↦ stays (s.unsettled g) (t.unsettled g) (f.fewer g) (k.gone_settled g above within other e)
            | inr (inl e) ↦ absurd (clash (s.unsettled (o.of g)) e u)
            | inr (inr e) ↦ whole_lost o s t (o.of g) f e (inl u) g above within other refl
          ]
          )
    ]

pub ended_stands : (o : Ops) (s t : Standing) → Ordered o → TableStands o s → ((g : ℕ) → t.ok g ≡ true → t.unsettled g
    ≡ false) → Ends o s t → TableStands o t
ended_stands o s t i k okay f =
    moved o s t k (record {
      fewer = f.fewer;
      ok_stays = λ g h. f.ok g ∙ h;
      ok_settled = okay;
      opens = lost_open o s t i k f;
      sends = λ g h. inl (sym (f.sent g) ∙ h);
      puts_out = λ g h. absurd (f.out g h);
      out_unsettled = λ g h. absurd (f.out g h);
      out_live = λ g h. absurd (f.out g h);
      settles = lost_first o s t i k f;
      gone = lost_gone o s t i k f;
    })
