-- What was read, from how a text was taken; and the operations of lines.
use Rattle.std.proofs.Common.{◌≡◌, ℕ, List, [], ◌∷◌, ◌++◌, Option, Result, Ok, Err, refl, sym, ap, ◌∙◌}
use Rattle.std.proofs.Common.{inl, inr, append-nil, append_assoc, drop, length, arith}
use Rattle.base_outside.specs.streams.Faults.{Rose}
use Rattle.base_outside.specs.whole_texts.Outside.{HasOutsideFailed, HasRead}
use Rattle.base_outside.specs.declared.whole_texts.read_error.ReadError.{ReadError}
use Rattle.base_outside.specs.declared.whole_texts.read_error.ReadError.TheVariants as whys
use Rattle.client_values.specs.declared.operations.values.OpKind.{OpKind}
use Rattle.script_words.specs.outcome_lines.Text.{refusal_line}
use Rattle.script_words.specs.declared.text_lines.line.Line.{Line}
use Rattle.script_words.specs.declared.text_lines.line.Script.{Script}
use Rattle.run_command.specs.Asking.{Asks, ScriptTakes, WritesText, kinds_said, operations_said}
use Rattle.run_command.specs.declared.ending.Ending.{Ending}
use Rattle.run_command.specs.declared.ending.Ending.TheVariants as endings

pub memory_kept : (old new : ℕ) (e : ReadError) → e ≡ whys.Memory → HasOutsideFailed old new e → new ≡ old
memory_kept old new whys.Memory same h = h
memory_kept old new whys.Failed same h = absurd (cc)

pub failed_rose : (old new : ℕ) (e : ReadError) → e ≡ whys.Failed → HasOutsideFailed old new e → Rose old new
failed_rose old new whys.Memory same h = absurd (cc)
failed_rose old new whys.Failed same h = h

-- a source's failure isn't how a text is taken
not_taken : (written written' : Option (List ℕ)) (sink sink' : ℕ) (line : List ℕ)
    → WritesText written written' sink sink' line endings.Script endings.SourceFailed → ⊥
not_taken written written' sink sink' line (inl h) = absurd (let e = h.0 in cc)
not_taken written written' sink sink' line (inr h) = absurd (let e = h.0 in cc)

pub asks_by : (left left' : Option (List ℕ)) (source source' : ℕ) (written written' : Option (List ℕ)) (sink sink' : ℕ) (text : List ℕ)
    (r : Result Script Ending) → HasRead left left' text → source' ≡ source → ScriptTakes written written' sink sink' text r
    → Asks left left' source source' written written' sink sink' r
asks_by left left' source source' written written' sink sink' text (Ok asked) read calm h = (calm, h.1, (text, read, h.0))
asks_by left left' source source' written written' sink sink' text (Err endings.Done) read calm h = (calm, (text, read, h))
asks_by left left' source source' written written' sink sink' text (Err endings.Script) read calm h = (calm, (text, read, h))
asks_by left left' source source' written written' sink sink' text (Err endings.SourceFailed) read calm h =
    absurd (not_taken written written' sink sink' (refusal_line h.0) h.2)
asks_by left left' source source' written written' sink sink' text (Err endings.SinkFailed) read calm h = (calm, (text, read, h))
asks_by left left' source source' written written' sink sink' text (Err endings.Memory) read calm h = (calm, h)
asks_by left left' source source' written written' sink sink' text (Err endings.Unknown) read calm h = (calm, (text, read, h))

-- ---- operations

-- one line more, in front of those that are left
pub one_line : (all said more : List OpKind) (lines rest : List Line) (l : Line) → lines ≡ l ∷ rest
    → said ++ operations_said lines ≡ all → more ≡ said ++ kinds_said l.statement → more ++ operations_said rest ≡ all
unfolding operations_said
one_line all said more lines rest l parts so_far is =
    ap (λ (v : List OpKind). v ++ operations_said rest) is
    ∙ (append_assoc said (kinds_said l.statement) (operations_said rest)
    ∙ (ap (λ (v : List Line). said ++ operations_said v) (sym parts) ∙ so_far))

pub last_line : (all said : List OpKind) (lines : List Line) → lines ≡ [] → said ++ operations_said lines ≡ all → said ≡ all
unfolding operations_said
last_line all said lines none so_far =
    sym (append-nil said) ∙ (ap (λ (v : List Line). said ++ operations_said v) (sym none) ∙ so_far)

pub none_left : (xs ys : List Line) → xs ≡ ys → ys ≡ drop 1 xs → xs ≡ []
none_left [] ys same rest = refl
none_left (x ∷ xs) ys same rest =
    let e : length (x ∷ xs) ≡ length xs = ap (λ (l : List Line). length l) (same ∙ rest) in
    absurd (let h = e in omega (arith, h))
