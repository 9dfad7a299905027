-- A table is put part by part.
use Rattle.std.proofs.Common.{◌≡◌, ℕ, ◌+◌, ◌<◌, ◌≤◌, List, [], ◌∷◌, ◌++◌, length, get_or, take, refl, sym, ap, ◌∙◌}
use Rattle.std.proofs.lemmas.Grind.{flat_map-append}
use Rattle.std.proofs.lemmas.List.{take_more, take_all, append-nil}
use Rattle.spec_wire.specs.messages.Table.{Field, Num, Raw, Any, with_fields}
use Rattle.journal_bytes.specs.record_bytes.Putting.{fields_of, table_of}
use Rattle.journal_bytes.specs.declared.record_bytes.putting.Put.{Put}

-- fields behind fields
pub with_fields-join : (fs gs : List Field) (out : List ℕ) → with_fields out (fs ++ gs) ≡ with_fields (with_fields out fs) gs
with_fields-join [] gs out = refl
with_fields-join (Num w n ∷ fs) gs out = with_fields-join fs gs _
with_fields-join (Raw w b ∷ fs) gs out = with_fields-join fs gs _
with_fields-join (Any w ∷ fs) gs out = with_fields-join fs gs _

-- one part more
pub put_more : (out here new : List ℕ) (puts : List Put) (i : ℕ) (d : Put) → i < length puts
    → here ≡ with_fields out (table_of (take i puts)) → new ≡ with_fields here (fields_of (get_or puts i d))
    → new ≡ with_fields out (table_of (take (i + 1) puts))
put_more out here new puts i d lt so_far put =
    let more : table_of (take (i + 1) puts) ≡ table_of (take i puts) ++ (fields_of (get_or puts i d) ++ []) =
    ap table_of (take_more puts i d lt) ∙ flat_map-append fields_of (take i puts) (get_or puts i d ∷ []) in
    put ∙ ap (λ (o : List ℕ). with_fields o (fields_of (get_or puts i d))) so_far
    ∙ sym (with_fields-join (table_of (take i puts)) (fields_of (get_or puts i d)) out)
    ∙ ap (λ (fs : List Field). with_fields out fs)
    (ap (λ (fs : List Field). table_of (take i puts) ++ fs) (sym (append-nil (fields_of (get_or puts i d)))) ∙ sym more)

-- all parts
pub put_all : (out new : List ℕ) (puts : List Put) (i : ℕ) → length puts ≤ i → new ≡ with_fields out (table_of (take i puts))
    → new ≡ with_fields out (table_of puts)
put_all out new puts i end so_far = so_far ∙ ap (λ (ps : List Put). with_fields out (table_of ps)) (take_all i puts end)
