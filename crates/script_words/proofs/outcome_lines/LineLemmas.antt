-- The lines of operations, one after the other, and the text of a run from its parts.
use Rattle.std.proofs.Common.{◌≡◌, ℕ, ◌+◌, ◌≤◌, List, [], ◌∷◌, ◌++◌, length, drop, map, sym, ap, subst, ◌∙◌}
use Rattle.std.proofs.Common.{append_assoc, append-nil}
use Rattle.std.proofs.lemmas.List.{drop_all}
use Rattle.std.proofs.lemmas.List.Folds.{flat_map-map}
use Rattle.std.specs.List.{flat_map}
use Rattle.client_values.specs.declared.outcomes.outcome.Outcome.{Outcome as Settled}
use Rattle.client_values.specs.declared.outcomes.outcome.RefusedDialog.{RefusedDialog}
use Rattle.client_values.specs.outcomes.Meaning.{dialog_of, outcome_of}
use Rattle.store_files.specs.declared.file_tree.files.StoredFile.{StoredFile}
use Rattle.script_words.specs.declared.outcome_lines.orders.CreateOrder.{CreateOrder}
use Rattle.script_words.specs.outcome_lines.Text.{dialog_line, outcome_line, settled_lines, order_line, file_line, run_text}

-- one line more
pub one_more : (front new : List ℕ) (place : ℕ) (settled : List Settled) (one : Settled) (all : List ℕ)
    → drop place settled ≡ one ∷ drop (place + 1) settled
    → new ≡ front ++ outcome_line (place + 1) (outcome_of one)
    → front ++ settled_lines (place + 1) (map outcome_of (drop place settled)) ≡ all
    → new ++ settled_lines (place + 1 + 1) (map outcome_of (drop (place + 1) settled)) ≡ all
unfolding settled_lines
one_more front new place settled one all next added so_far =
    rw added
    (append_assoc front (outcome_line (place + 1) (outcome_of one))
    (settled_lines (place + 1 + 1) (map outcome_of (drop (place + 1) settled)))
    ∙ subst (λ (os : List Settled). front ++ settled_lines (place + 1) (map outcome_of os) ≡ all) next so_far)

pub no_more : (front : List ℕ) (place : ℕ) (settled : List Settled) (all : List ℕ)
    → length settled ≤ place
    → front ++ settled_lines (place + 1) (map outcome_of (drop place settled)) ≡ all
    → front ≡ all
unfolding settled_lines
no_more front place settled all past so_far =
    sym (append-nil front)
    ∙ subst (λ (os : List Settled). front ++ settled_lines (place + 1) (map outcome_of os) ≡ all) (drop_all place settled past) so_far

-- the lines of dialogs as the model has them
model_dialogs : (ds : List RefusedDialog) → flat_map (λ d. dialog_line (dialog_of d)) ds ≡ flat_map dialog_line (map dialog_of ds)
model_dialogs ds = sym (flat_map-map dialog_line dialog_of ds)

-- four parts, one after the other
four_parts : (dialogs outcomes orders files : List ℕ)
    → dialogs ++ outcomes ++ orders ++ files ≡ dialogs ++ (outcomes ++ (orders ++ files))
four_parts dialogs outcomes orders files =
    append_assoc (dialogs ++ outcomes) orders files ∙ append_assoc dialogs outcomes (orders ++ files)

pub all_told : (ds : List RefusedDialog) (settled : List Settled) (orders : List CreateOrder) (files : List StoredFile)
    (none first second third last : List ℕ)
    → none ≡ []
    → first ≡ none ++ flat_map (λ d. dialog_line (dialog_of d)) ds
    → second ≡ first ++ settled_lines 1 (map outcome_of settled)
    → third ≡ second ++ flat_map order_line orders
    → last ≡ third ++ flat_map file_line files
    → last ≡ run_text (map dialog_of ds) (map outcome_of settled) orders files
all_told ds settled orders files none first second third last empty dialogs outcomes ordered held =
    let told = settled_lines 1 (map outcome_of settled) in
    let behind = flat_map order_line orders in
    let bytes = flat_map file_line files in
    let begun : first ≡ flat_map dialog_line (map dialog_of ds) =
    dialogs ∙ ap (λ (f : List ℕ). f ++ flat_map (λ d. dialog_line (dialog_of d)) ds) empty ∙ model_dialogs ds in
    held
    ∙ ap (λ (f : List ℕ). f ++ bytes) (ordered
    ∙ ap (λ (f : List ℕ). f ++ behind) (outcomes ∙ ap (λ (f : List ℕ). f ++ told) begun))
    ∙ four_parts (flat_map dialog_line (map dialog_of ds)) told behind bytes
