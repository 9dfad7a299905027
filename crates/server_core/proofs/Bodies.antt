-- One more body of records behind others.
use Rattle.std.proofs.Common.{◌≡◌, ℕ, true, List, [], ◌∷◌, ◌++◌, refl, sym, ap, subst, ◌∙◌, append_assoc}
use Rattle.std.proofs.lemmas.List.{append-nil}
use Rattle.spec_exchange.specs.State as model
use Rattle.spec_exchange.specs.State.{Server}
use Rattle.spec_exchange.specs.Fold.{fold_from, with_record}
use Rattle.journal_bytes.specs.record_bytes.Grammar.{SpellsRecords}
use Rattle.journal_bytes.specs.record_bytes.Meaning.{records_of}
use Rattle.journal_bytes.specs.declared.record_bytes.value.Record.{Record}
use Rattle.law_server.specs.tables.Fits.{is_sound, all_sound}
use Rattle.law_server.proofs.tables.Logic.{front_of, back_of, both}
use Rattle.server_core.specs.Reading.{SpellFrom}

-- ---- folds and sound records of two lists

pub fold_both : (s : Server) (xs ys : List model.Record) → fold_from s (xs ++ ys) ≡ fold_from (fold_from s xs) ys
unfolding fold_from
fold_both s [] ys = refl
fold_both s (x ∷ xs) ys = fold_both (with_record s x) xs ys

pub sound_front : (xs ys : List model.Record) → all_sound (xs ++ ys) ≡ true → all_sound xs ≡ true
unfolding all_sound
sound_front [] ys h = refl
sound_front (x ∷ xs) ys h = both (is_sound x) (all_sound xs) (front_of (is_sound x) (all_sound (xs ++ ys)) h)
    (sound_front xs ys (back_of (is_sound x) (all_sound (xs ++ ys)) h))

pub sound_back : (xs ys : List model.Record) → all_sound (xs ++ ys) ≡ true → all_sound ys ≡ true
unfolding all_sound
sound_back [] ys h = h
sound_back (x ∷ xs) ys h = sound_back xs ys (back_of (is_sound x) (all_sound (xs ++ ys)) h)

-- ---- one more body is spelled

pub spell_more : (s : Server) (bodies : List (List ℕ)) (rs : List model.Record) (body : List ℕ) (more : List Record)
    → SpellFrom s bodies rs → SpellsRecords (fold_from s rs).version body more
    → SpellFrom s (bodies ++ body ∷ []) (rs ++ records_of more)
unfolding fold_from
spell_more s [] [] body more e h = (more, [], h, sym (append-nil (records_of more)), refl)
spell_more s [] (r ∷ rs) body more e h = absurd (cc)
spell_more s (b ∷ bodies) rs body more e h =
    let front = e.0 in
    let rest = e.1 in
    let is : rs ≡ records_of front ++ rest = e.3 in
    let u = fold_from s (records_of front) in
    let v = subst (λ (w : Server). SpellsRecords w.version body more) (ap (λ (xs : List model.Record). fold_from s xs) is
    ∙ fold_both s (records_of front) rest) h in (
      front,
      rest ++ records_of more,
      e.2,
      ap (λ (xs : List model.Record). xs ++ records_of more) is ∙ append_assoc (records_of front) rest (records_of more),
      spell_more u bodies rest body more e.4 v,
    )
