-- A script that is made, piece by piece.
use Rattle.std.proofs.Common.{◌≡◌, ℕ, zero, List, [], ◌∷◌, ◌++◌, length, take, drop, refl, sym, ap, subst, ◌∙◌}
use Rattle.std.proofs.Common.{append_assoc, append-nil, take-append-drop, Option, Result, Ok, Err}
use Rattle.std.proofs.KnownBytes.{Appends-kept, Appends-nil, Appends-trans}
use Rattle.std.specs.Io.KnownBytes.{Appends, Keeps}
use Rattle.std.specs.Prelude.{codes, OnErr}
use Rattle.drill_command.specs.Writing.{Flushes, Fronts}
use Rattle.law_scripts.specs.generated.ReadsBack.{script_text}
use Rattle.base_outside.specs.whole_texts.Outside.{AppendsFront}
use Rattle.script_words.specs.generator.Lines.{line_text}
use Rattle.script_words.specs.declared.generator.lines.MadeLine.{MadeLine}

pub flushed : (written written' : Option (List ℕ)) (old new bytes : List ℕ) → bytes ≡ old → new ≡ [] → Appends written written' bytes
    → Flushes written written' old new
flushed written written' old new bytes same none wrote = record {
  front = bytes;
  wrote = wrote;
  parts = ap (λ (l : List ℕ). bytes ++ l) none ∙ (append-nil bytes ∙ same);
}

pub unflushed : (written : Option (List ℕ)) (text : List ℕ) → Flushes written written text text
unflushed written text = record { front = []; wrote = Appends-nil written; parts = refl }

-- what was written, what is gathered and what is left make the whole
pub record Written (written now : Option (List ℕ)) (gathered : List ℕ) (left : List MadeLine) (all : List ℕ) : Type 0 where
  pub front : List ℕ
  pub wrote : Appends written now front
  pub whole : front ++ (gathered ++ script_text left) ≡ all

pub first_line : (l : MadeLine) (more : List MadeLine) → script_text (l ∷ more) ≡ line_text l ++ codes "\n" ++ script_text more
first_line l more = refl

regrouped : (front out new gathered line rest all : List ℕ) → out ++ new ≡ gathered ++ line → front ++ (gathered ++ (line ++ rest)) ≡ all
    → (front ++ out) ++ (new ++ rest) ≡ all
regrouped front out new gathered line rest all parts whole =
    append_assoc front out (new ++ rest)
    ∙ (ap (λ (l : List ℕ). front ++ l) (sym (append_assoc out new rest))
    ∙ (ap (λ (l : List ℕ). front ++ (l ++ rest)) parts ∙ (ap (λ (l : List ℕ). front ++ l) (append_assoc gathered line rest) ∙ whole)))

pub begun : (written : Option (List ℕ)) (gathered : List ℕ) (left : List MadeLine) → gathered ≡ []
    → Written written written gathered left (script_text left)
begun written gathered left none = record {
  front = [];
  wrote = Appends-nil written;
  whole = ap (λ (l : List ℕ). l ++ script_text left) none;
}

pub one_more : (written mid now : Option (List ℕ)) (gathered pushed new : List ℕ) (left more : List MadeLine) (l : MadeLine) (all : List ℕ)
    → left ≡ l ∷ more → pushed ≡ gathered ++ (line_text l ++ codes "\n") → Flushes mid now pushed new
    → Written written mid gathered left all
    → Written written now new more all
one_more written mid now gathered pushed new left more l all split grown f h = record {
  front = h.front ++ f.front;
  wrote = Appends-trans written mid now h.front f.front h.wrote f.wrote;
  whole = regrouped h.front f.front new gathered (line_text l ++ codes "\n") (script_text more) all (f.parts ∙ grown)
      (subst (λ (ls : List MadeLine). h.front ++ (gathered ++ script_text ls) ≡ all) split h.whole);
}

pub last_piece : (written mid now : Option (List ℕ)) (gathered : List ℕ) (left : List MadeLine) (all : List ℕ) → left ≡ []
    → Appends mid now gathered → Written written mid gathered left all → Appends written now all
last_piece written mid now gathered left all none wrote h =
    subst (λ (l : List ℕ). Appends written now l)
    (ap (λ (l : List ℕ). h.front ++ l) (sym (append-nil gathered))
    ∙ subst (λ (ls : List MadeLine). h.front ++ (gathered ++ script_text ls) ≡ all) none h.whole)
    (Appends-trans written mid now h.front gathered h.wrote wrote)

pub last_of : (written mid now : Option (List ℕ)) (gathered bytes : List ℕ) (left : List MadeLine) (all : List ℕ) → bytes ≡ gathered
    → left ≡ [] → Appends mid now bytes → Written written mid gathered left all → Appends written now all
last_of written mid now gathered bytes left all same none wrote h =
    last_piece written mid now gathered left all none (subst (λ (l : List ℕ). Appends mid now l) same wrote) h

-- ---- a front of it

pub on_err : {A E : Type 0} (P : Type 0) (r : Result A E) → P → OnErr r P
on_err P (Ok x) p = tt
on_err P (Err e) p = p

-- where a piece fails, a front of the piece
pub cut_flush : (written written' : Option (List ℕ)) (bytes text : List ℕ) → bytes ≡ text → AppendsFront written written' bytes
    → Fronts written written' text
cut_flush written written' bytes text same front = record {
  front = take front.0 bytes;
  rest = drop front.0 bytes;
  wrote = front.1;
  parts = take-append-drop front.0 bytes ∙ same;
}

-- where a line can't be gathered, what was written before
pub stood : (written now : Option (List ℕ)) (gathered : List ℕ) (left : List MadeLine) (all : List ℕ)
    → Written written now gathered left all
    → Fronts written now all
stood written now gathered left all h = record {
  front = h.front;
  rest = gathered ++ script_text left;
  wrote = h.wrote;
  parts = h.whole;
}

-- where a piece fails, what was written before and a front of the piece
pub cut_piece : (written mid now : Option (List ℕ)) (gathered pushed : List ℕ) (left more : List MadeLine) (l : MadeLine) (all : List ℕ)
    → left ≡ l ∷ more → pushed ≡ gathered ++ (line_text l ++ codes "\n") → Fronts mid now pushed → Written written mid gathered left all
    → Fronts written now all
cut_piece written mid now gathered pushed left more l all split grown f h = record {
  front = h.front ++ f.front;
  rest = f.rest ++ script_text more;
  wrote = Appends-trans written mid now h.front f.front h.wrote f.wrote;
  parts = regrouped h.front f.front f.rest gathered (line_text l ++ codes "\n") (script_text more) all (f.parts ∙ grown)
      (subst (λ (ls : List MadeLine). h.front ++ (gathered ++ script_text ls) ≡ all) split h.whole);
}

pub cut_last : (written mid now : Option (List ℕ)) (gathered bytes : List ℕ) (left : List MadeLine) (all : List ℕ) → bytes ≡ gathered
    → left ≡ [] → AppendsFront mid now bytes → Written written mid gathered left all → Fronts written now all
cut_last written mid now gathered bytes left all same none front h = record {
  front = h.front ++ take front.0 bytes;
  rest = drop front.0 bytes;
  wrote = Appends-trans written mid now h.front (take front.0 bytes) h.wrote front.1;
  parts = append_assoc h.front (take front.0 bytes) (drop front.0 bytes)
      ∙ (ap (λ (l : List ℕ). h.front ++ l) (take-append-drop front.0 bytes ∙ same)
      ∙ (ap (λ (l : List ℕ). h.front ++ l) (sym (append-nil gathered))
      ∙ subst (λ (ls : List MadeLine). h.front ++ (gathered ++ script_text ls) ≡ all) none h.whole));
}

first_part : (front rest : List ℕ) → take (length front) (front ++ rest) ≡ front
first_part [] rest = refl
first_part (x ∷ xs) rest = ap (λ (l : List ℕ). x ∷ l) (first_part xs rest)

pub front_of : (written written' : Option (List ℕ)) (ls all : List MadeLine) → ls ≡ all → Fronts written written' (script_text ls)
    → AppendsFront written written' (script_text all)
front_of written written' ls all same f = (
  length f.front,
  subst (λ (l : List ℕ). Appends written written' l)
      (sym (ap (λ (l : List ℕ). take (length f.front) l)
      (sym (f.parts ∙ ap (λ (m : List MadeLine). script_text m) same)) ∙ first_part f.front f.rest)) f.wrote,
)

-- nothing, and all of it
pub no_front : (written : Option (List ℕ)) (text : List ℕ) → AppendsFront written written text
no_front written text = (zero, Appends-nil written)

all_taken : (text : List ℕ) → take (length text) text ≡ text
all_taken [] = refl
all_taken (x ∷ xs) = ap (λ (l : List ℕ). x ∷ l) (all_taken xs)

pub whole_front : (written between written' : Option (List ℕ)) (text : List ℕ) → Appends written between text → Keeps between written'
    → AppendsFront written written' text
whole_front written between written' text wrote kept = (
  length text,
  subst (λ (l : List ℕ). Appends written written' l) (sym (all_taken text)) (Appends-kept written between written' text wrote kept),
)
