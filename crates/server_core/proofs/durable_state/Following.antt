-- Records that are followed one after the other.
use Rattle.std.proofs.Common.{◌≡◌, ℕ, zero, suc, ◌+◌, ◌<◌, ◌≤◌, true, List, [], ◌∷◌, length, drop, get_or}
use Rattle.std.proofs.Common.{refl, sym, ap, subst, ◌∙◌}
use Rattle.std.proofs.Common.{arith}
use Rattle.std.proofs.lemmas.List.{drop_more}
use Rattle.spec_exchange.specs.State as model
use Rattle.spec_exchange.specs.State.{Server}
use Rattle.spec_exchange.specs.Fold.{fold_from, with_record}
use Rattle.journal_bytes.specs.record_bytes.Meaning.{record_of, records_of}
use Rattle.journal_bytes.specs.declared.record_bytes.value.Record.{Record}
use Rattle.law_server.specs.tables.Fits.{Fits, is_sound, all_sound}
use Rattle.law_server.proofs.tables.Logic.{front_of, back_of}
use Rattle.law_server.proofs.tables.Folded.{recorded_keeps}
use Rattle.server_core.specs.durable_state.Durable.{DurableShown}
use Rattle.server_core.specs.declared.durable_state.durable.Durable.{Durable}

-- a state from which the records that are left lead where all of them do
abbrev pub Follows : Durable → Server → List Record → List Record → Type 0
Follows d s all left = (u : Server) × Fits u × DurableShown d u × (fold_from s (records_of all) ≡ fold_from u (records_of left))
    × (all_sound (records_of left) ≡ true)

fold_next : (u : Server) (r : model.Record) (rs : List model.Record) → fold_from u (r ∷ rs) ≡ fold_from (with_record u r) rs
unfolding fold_from
fold_next u r rs = refl

fold_end : (u : Server) → fold_from u [] ≡ u
unfolding fold_from
fold_end u = refl

sound_first : (r : model.Record) (rs : List model.Record) → all_sound (r ∷ rs) ≡ true → is_sound r ≡ true
unfolding all_sound
sound_first r rs h = front_of (is_sound r) (all_sound rs) h

sound_rest : (r : model.Record) (rs : List model.Record) → all_sound (r ∷ rs) ≡ true → all_sound rs ≡ true
unfolding all_sound
sound_rest r rs h = back_of (is_sound r) (all_sound rs) h

pub followed : (e : Durable) (s u : Server) (all : List Record) (i : ℕ) (r : Record) → i < length all → Fits u
    → fold_from s (records_of all) ≡ fold_from u (records_of (drop i all)) → all_sound (records_of (drop i all)) ≡ true
    → r ≡ get_or all i r → DurableShown e (with_record u (record_of r)) → Follows e s all (drop (i + 1) all)
followed e s u all i r less fits is sound item h =
    let one = record_of (get_or all i r) in
    let rest = records_of (drop (i + 1) all) in
    let cut = ap (λ (xs : List Record). records_of xs) (drop_more all i r less) in
    let whole = subst (λ (xs : List model.Record). all_sound xs ≡ true) cut sound in (
      with_record u one,
      recorded_keeps u one (sound_first one rest whole) fits,
      subst (λ (x : Record). DurableShown e (with_record u (record_of x))) item h,
      is ∙ (ap (λ (xs : List model.Record). fold_from u xs) cut ∙ fold_next u one rest),
      sound_rest one rest whole,
    )

drop_none : (all : List Record) (i : ℕ) → length all ≤ i → drop i all ≡ []
drop_none [] zero h = refl
drop_none [] (suc i) h = refl
drop_none (r ∷ all) zero h = absurd (omega (arith, h))
drop_none (r ∷ all) (suc i) h = drop_none all i (omega (arith, h))

pub followed_all : (d : Durable) (s u : Server) (all : List Record) (i : ℕ) → length all ≤ i
    → fold_from s (records_of all) ≡ fold_from u (records_of (drop i all)) → DurableShown d u
    → DurableShown d (fold_from s (records_of all))
followed_all d s u all i past is h =
    subst (λ (w : Server). DurableShown d w)
    (sym (is ∙ (ap (λ (xs : List Record). fold_from u (records_of xs)) (drop_none all i past) ∙ fold_end u))) h
