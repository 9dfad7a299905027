-- A body of records.
use Rattle.std.proofs.Common.{◌≡◌, ℕ, Bool, true, false, List, [], ◌∷◌, sym, ◌∙◌}
use Rattle.std.proofs.lemmas.List.Elements.{All-nil, All-same}
use Rattle.journal_bytes.specs.record_bytes.Grammar.{WrittenRecordFits, WrittenRecordsFit, AreInRange, records_spelling}
use Rattle.journal_bytes.specs.declared.record_bytes.value.Record.{Record}
use Rattle.journal_bytes.proofs.record_bytes.Allowed.{all_writable}
use Rattle.journal_bytes.specs.record_bodies.Body.{IsBody}

pub body_is : (rs : List Record) (b : List ℕ) → WrittenRecordsFit rs → AreInRange rs → b ≡ records_spelling rs → IsBody b rs
body_is [] b fit typed is = is
body_is (r ∷ rs) b fit typed is = (all_writable (r ∷ rs) fit typed, is)

-- no records are never refused
pub none_refused : (fit : Bool) (rs : List Record) → (WrittenRecordsFit rs → fit ≡ true) → fit ≡ false → rs ≡ [] → ⊥
none_refused fit rs fits refused e =
    let none : WrittenRecordsFit rs = All-same WrittenRecordFits rs [] e (All-nil WrittenRecordFits) in
    let k : true ≡ false = sym (fits none) ∙ refused in cc
