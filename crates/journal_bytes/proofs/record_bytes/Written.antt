-- A record written behind others.
use Rattle.std.proofs.Common.{◌≡◌, ℕ, ◌+◌, ◌<◌, List, [], ◌∷◌, ◌++◌, length, get_or, take, sym, ap, ◌∙◌}
use Rattle.std.proofs.lemmas.Grind.{flat_map-append}
use Rattle.std.proofs.lemmas.List.{take_more, append-nil}
use Rattle.spec_wire.specs.messages.Table.{with_fields}
use Rattle.law_wire.proofs.messages.Rows.{with_fields-append}
use Rattle.journal_bytes.specs.record_bytes.Grammar.{record_table, record_spelling, records_spelling}
use Rattle.journal_bytes.specs.declared.record_bytes.value.Record.{Record}

pub put_behind : (out new : List ℕ) (rs : List Record) (i : ℕ) (r : Record) → i < length rs → r ≡ get_or rs i r
    → out ≡ records_spelling (take i rs) → new ≡ with_fields out (record_table 2 r) → new ≡ records_spelling (take (i + 1) rs)
put_behind out new rs i r lt is so_far put =
    let more : records_spelling (take (i + 1) rs) ≡ records_spelling (take i rs) ++ (record_spelling r ++ []) =
    ap records_spelling (take_more rs i r lt ∙ ap (λ (x : Record). take i rs ++ x ∷ []) (sym is))
    ∙ flat_map-append record_spelling (take i rs) (r ∷ []) in
    put ∙ with_fields-append out (record_table 2 r) ∙ ap (λ (o : List ℕ). o ++ record_spelling r) so_far
    ∙ ap (λ (b : List ℕ). records_spelling (take i rs) ++ b) (sym (append-nil (record_spelling r))) ∙ sym more
