-- Events that settle nothing, or one that may go out.
use Rattle.std.proofs.Common.{◌≡◌, ℕ, ◌<◌, ◌≤◌, true, false, arith, ◌⊎◌, inl, inr, sym, ◌∙◌, ap, subst}
use Rattle.law_client.specs.table.Columns.{Ops, Standing, IsClientFirst}
use Rattle.law_client.specs.table.Kept.{Ordered, TableStands}
use Rattle.law_client.proofs.table.Moves.{Goes, moved, stays, clash, first_stays}

-- what is outstanding, what was sent, and which opens are gone change
pub record Sends (o : Ops) (s t : Standing) : Type 0 where
  pub unsettled : (x : ℕ) → t.unsettled x ≡ s.unsettled x
  pub ok : (x : ℕ) → t.ok x ≡ s.ok x
  pub sent : (x : ℕ) → t.sent x ≡ true → (s.sent x ≡ true) ⊎ Goes o s x
  pub out : (x : ℕ) → t.out x ≡ true → (s.out x ≡ true) ⊎ (Goes o s x × s.unsettled x ≡ true)
  pub live : (x : ℕ) → t.out x ≡ true → t.live ≡ true
  pub gone : (x : ℕ) → t.gone x ≡ true → s.gone x ≡ true

pub sent_stands : (o : Ops) (s t : Standing) → Ordered o → TableStands o s → Sends o s t → TableStands o t
sent_stands o s t i k f =
    moved o s t k (record {
      fewer = λ x h. sym (f.unsettled x) ∙ h;
      ok_stays = λ x h. f.ok x ∙ h;
      ok_settled = λ x h. f.unsettled x ∙ k.ok_settled x (sym (f.ok x) ∙ h);
      opens = λ x a b c h settled before. absurd (clash (s.unsettled (o.of x)) before (sym (f.unsettled (o.of x)) ∙ settled));
      sends = f.sent;
      puts_out = λ x h. elim (f.out x h) as (λ _. (s.out x ≡ true) ⊎ Goes o s x) [ inl e ↦ inl e | inr e ↦ inr e.0 ];
      out_unsettled = λ x h. f.unsettled x
          ∙ (elim (f.out x h) as (λ _. s.unsettled x ≡ true) [ inl e ↦ k.out_unsettled x e | inr e ↦ e.1 ]);
      out_live = f.live;
      settles = λ x a b h before. absurd (clash (s.unsettled x) before (sym (f.unsettled x) ∙ h));
      gone = λ x a b c h. f.unsettled x ∙ k.gone_settled x a b c (f.gone (o.of x) h);
    })

-- one settles that may go out, and isn't outstanding; it is no create, and no open goes
pub record Drops (o : Ops) (s t : Standing) (g : ℕ) : Type 0 where
  pub there : t.unsettled g ≡ false
  pub other : o.create g ≡ false
  pub not_out : s.out g ≡ false
  pub unsettled : (x : ℕ) → (x ≡ g → ⊥) → t.unsettled x ≡ s.unsettled x
  pub ok : (x : ℕ) → (x ≡ g → ⊥) → t.ok x ≡ s.ok x
  pub not_ok : t.ok g ≡ true → ⊥
  pub was : s.unsettled g ≡ true
  pub sent : (x : ℕ) → t.sent x ≡ s.sent x
  pub out : (x : ℕ) → t.out x ≡ s.out x
  pub live : t.live ≡ s.live
  pub gone : (x : ℕ) → (x ≡ g → ⊥) → t.gone x ≡ true → s.gone x ≡ true

same_or_other : (x y : ℕ) → (x ≡ y) ⊎ (x ≡ y → ⊥)
same_or_other x y = grind arith

module _ {o : Ops} {s t : Standing} {g : ℕ} where
  not_create : Ordered o → Drops o s t g → (x : ℕ) → 0 < x → x ≤ o.taken → o.create x ≡ false → o.of x ≡ g → ⊥
  not_create i f x a b c e = clash (o.create g) (ap (λ n. o.create n) (sym e) ∙ (i.owned x a b c).2) f.other

  fewer : TableStands o s → Drops o s t g → (x : ℕ) → t.unsettled x ≡ true → s.unsettled x ≡ true
  fewer k f x h = elim (same_or_other x g) as (λ _. s.unsettled x ≡ true) [
    | inl e ↦ absurd (clash (t.unsettled g) (ap (λ n. t.unsettled n) (sym e) ∙ h) f.there)
    | inr e ↦
        sym (f.unsettled x e) ∙ h
  ]

  out_apart : Drops o s t g → (x : ℕ) → t.out x ≡ true → x ≡ g → ⊥
  out_apart f x h e = clash (s.out g) (ap (λ n. s.out n) (sym e) ∙ sym (f.out x) ∙ h) f.not_out

  ok_stays : TableStands o s → Drops o s t g → (x : ℕ) → s.ok x ≡ true → t.ok x ≡ true
  ok_stays k f x h = elim (same_or_other x g) as (λ _. t.ok x ≡ true) [
    | inl e ↦ absurd (clash (s.unsettled g) f.was (k.ok_settled g (ap (λ n. s.ok n) (sym e) ∙ h)))
    | inr e ↦ f.ok x e
        ∙ h
  ]

  settles : Drops o s t g → TableStands o s → IsClientFirst o s g → (x : ℕ) → 0 < x → x ≤ o.taken → t.unsettled x ≡ false
      → s.unsettled x ≡ true → IsClientFirst o t x
  settles f k first x a b h before =
      elim (same_or_other x g) [
        | inl e ↦ first_stays o s t x (fewer k f) (subst (λ n. IsClientFirst o s n) (sym e) first)
        | inr e ↦ absurd (clash (s.unsettled x) before (sym (f.unsettled x e) ∙ h))
      ]

  pub dropped_stands : Ordered o → TableStands o s → IsClientFirst o s g → Drops o s t g → TableStands o t
  dropped_stands i k first f =
      moved o s t k (record {
        fewer = fewer k f;
        ok_stays = ok_stays k f;
        ok_settled = λ x h. (let e : x ≡ g → ⊥ = (λ q. f.not_ok (ap (λ n. t.ok n) (sym q) ∙ h)) in f.unsettled x e
            ∙ k.ok_settled x (sym (f.ok x e) ∙ h));
        opens = λ x a b c h settled before. (
            let e = not_create i f x a b c in
            absurd (clash (s.unsettled (o.of x)) before (sym (f.unsettled (o.of x) e) ∙ settled))
            );
        sends = λ x h. inl (sym (f.sent x) ∙ h);
        puts_out = λ x h. inl (sym (f.out x) ∙ h);
        out_unsettled = λ x h. f.unsettled x (out_apart f x h) ∙ k.out_unsettled x (sym (f.out x) ∙ h);
        out_live = λ x h. f.live ∙ k.out_live x (sym (f.out x) ∙ h);
        settles = settles f k first;
        gone = λ x a b c h. stays (s.unsettled x) (t.unsettled x) (fewer k f x)
            (k.gone_settled x a b c (f.gone (o.of x) (not_create i f x a b c) h));
      })
