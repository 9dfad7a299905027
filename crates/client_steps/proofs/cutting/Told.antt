-- What the session tells of a cut.
use Rattle.std.proofs.Common.{◌≡◌, ℕ, Bool, true, false, if◌then◌else◌, refl, ap, ◌∙◌}
use Rattle.spec_exchange.specs.Client.{Client, cut_channel, end_session, ends_at_cut}
use Rattle.spec_exchange.specs.ClientStep.{cut_after}
use Rattle.client_rows.specs.declared.session_state.session.Cut.{Cut}
use Rattle.client_rows.specs.declared.session_state.session.Cut.TheVariants as cuts
use Rattle.client_rows.specs.session_state.Shown.{cut_told}

abbrev told : Bool → Bool → Cut
told r e = if r then (if e then cuts.Ends else cuts.Lost) else cuts.Nothing

nothing_by : (r e : Bool) → cuts.Nothing ≡ told r e → r ≡ false
nothing_by true true q = absurd (cc)
nothing_by true false q = absurd (cc)
nothing_by false e q = refl

lost_by : (r e : Bool) → cuts.Lost ≡ told r e → (r ≡ true) × (e ≡ false)
lost_by true true q = absurd (cc)
lost_by true false q = (refl, refl)
lost_by false e q = absurd (cc)

ends_by : (r e : Bool) → cuts.Ends ≡ told r e → (r ≡ true) × (e ≡ true)
ends_by true true q = (refl, refl)
ends_by true false q = absurd (cc)
ends_by false e q = absurd (cc)

module _ (c : Client) (k : ℕ) where
  pub nothing_after : cuts.Nothing ≡ cut_told c k → cut_after c k ≡ c
  nothing_after q =
      ap (λ b. if b then (if ends_at_cut c then end_session c else cut_channel c k) else c) (nothing_by (c.ready k) (ends_at_cut c) q)

  pub lost_after : cuts.Lost ≡ cut_told c k → cut_after c k ≡ cut_channel c k
  lost_after q =
      let w = lost_by (c.ready k) (ends_at_cut c) q in
      ap (λ b. if b then (if ends_at_cut c then end_session c else cut_channel c k) else c) w.0
      ∙ ap (λ b. if b then end_session c else cut_channel c k) w.1

  pub ends_after : cuts.Ends ≡ cut_told c k → cut_after c k ≡ end_session c
  ends_after q =
      let w = ends_by (c.ready k) (ends_at_cut c) q in
      ap (λ b. if b then (if ends_at_cut c then end_session c else cut_channel c k) else c) w.0
      ∙ ap (λ b. if b then end_session c else cut_channel c k) w.1
